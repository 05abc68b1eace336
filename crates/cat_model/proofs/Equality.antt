-- What `==` of channels and of queries says: that both are the same.
use Rattle.std.proofs.Common.{◌≡◌, Bool, true, false, Option, Some, None, refl, ap}
use Rattle.std.specs.Bool.{Decides}
use Rattle.std.specs.Option.{option_eq}
use Rattle.std.proofs.lemmas.Bool.{and_parts, and_from, false≢true}
use Rattle.std.proofs.lemmas.Bool.Decides.{Decides-eqb}
use Rattle.cat_model.proofs.SameLemmas.{decides_by, text_decides, texts_decides}
use mathlib.Core.Bool.{beq}
use Rattle.cat_model.specs.declared.row.Status.{Status}
use Rattle.cat_model.specs.declared.row.Status.TheVariants.{Passing, Warning, Critical}
use Rattle.cat_model.specs.contracts.row.StatusPartialEq.TheImpl as status
use Rattle.cat_model.specs.declared.query.Chan.{Chan}
use Rattle.cat_model.specs.declared.query.Chan.TheVariants as c
use Rattle.cat_model.specs.declared.query.Query.{Query}
use Rattle.cat_model.specs.declared.query.Query.TheVariants as q
use Rattle.cat_model.specs.contracts.query.ChanPartialEq.TheImpl as chan
use Rattle.cat_model.specs.contracts.query.QueryPartialEq.TheImpl as query

flag_decides : (a b : Bool) → Decides (beq a b) (a ≡ b)
flag_decides = decides_by beq sound own
  where
    sound : (a b : Bool) → beq a b ≡ true → a ≡ b
    sound true true h = refl
    sound false false h = refl
    sound true false h = absurd (false≢true h)
    sound false true h = absurd (false≢true h)

    own : (a : Bool) → beq a a ≡ true
    own true = refl
    own false = refl

status_decides : (a b : Status) → Decides ((status.ghosts).eq a b) (a ≡ b)
status_decides = decides_by (status.ghosts).eq sound own
  where
    sound : (a b : Status) → (status.ghosts).eq a b ≡ true → a ≡ b
    sound Passing Passing h = refl
    sound Warning Warning h = refl
    sound Critical Critical h = refl
    sound x y h = absurd (false≢true h)

    own : (a : Status) → (status.ghosts).eq a a ≡ true
    own Passing = refl
    own Warning = refl
    own Critical = refl

state_decides : (a b : Option Status) → Decides (option_eq (status.ghosts).eq a b) (a ≡ b)
state_decides = decides_by (option_eq (status.ghosts).eq) sound own
  where
    sound : (a b : Option Status) → option_eq (status.ghosts).eq a b ≡ true → a ≡ b
    sound None None h = refl
    sound None (Some y) h = absurd (false≢true h)
    sound (Some x) None h = absurd (false≢true h)
    sound (Some x) (Some y) h = ap Some ((status_decides x y).0 h)

    own : (a : Option Status) → option_eq (status.ghosts).eq a a ≡ true
    own None = refl
    own (Some x) = (status_decides x x).1 refl

chan_sound : (a b : Chan) → (chan.ghosts).eq a b ≡ true → a ≡ b
chan_sound c.Nodes c.Nodes h = refl
chan_sound c.Services c.Services h = refl
chan_sound c.Checks c.Checks h = refl
chan_sound c.Sessions c.Sessions h = refl
chan_sound c.Queries c.Queries h = refl
chan_sound (c.Service x) (c.Service y) h = ap (λ z. c.Service z) ((text_decides x y).0 h)
chan_sound c.Vanished c.Vanished h = refl
chan_sound (c.Node x) (c.Node y) h = ap (λ z. c.Node z) ((text_decides x y).0 h)
chan_sound (c.NodeChecks x) (c.NodeChecks y) h = ap (λ z. c.NodeChecks z) ((text_decides x y).0 h)
chan_sound c.NodeGone c.NodeGone h = refl
chan_sound (c.Key x) (c.Key y) h = ap (λ z. c.Key z) ((text_decides x y).0 h)
chan_sound (c.Prefix x) (c.Prefix y) h = ap (λ z. c.Prefix z) ((text_decides x y).0 h)
chan_sound c.Reaped c.Reaped h = refl
chan_sound x y h = absurd (false≢true h)

chan_own : (a : Chan) → (chan.ghosts).eq a a ≡ true
chan_own c.Nodes = refl
chan_own c.Services = refl
chan_own c.Checks = refl
chan_own c.Sessions = refl
chan_own c.Queries = refl
chan_own (c.Service x) = ((text_decides x x).1 refl)
chan_own c.Vanished = refl
chan_own (c.Node x) = ((text_decides x x).1 refl)
chan_own (c.NodeChecks x) = ((text_decides x x).1 refl)
chan_own c.NodeGone = refl
chan_own (c.Key x) = ((text_decides x x).1 refl)
chan_own (c.Prefix x) = ((text_decides x x).1 refl)
chan_own c.Reaped = refl

pub chan_decides : (a b : Chan) → Decides ((chan.ghosts).eq a b) (a ≡ b)
chan_decides = decides_by (chan.ghosts).eq chan_sound chan_own

query_sound : (a b : Query) → (query.ghosts).eq a b ≡ true → a ≡ b
query_sound q.Nodes q.Nodes h = refl
query_sound q.Services q.Services h = refl
query_sound (q.Service x0 x1) (q.Service y0 y1) h = let p = and_parts _ _ h in λ i. q.Service ((text_decides x0 y0).0 p.0 i) ((texts_decides x1 y1).0 p.1 i)
query_sound (q.NodeServices x) (q.NodeServices y) h = ap (λ z. q.NodeServices z) ((text_decides x y).0 h)
query_sound (q.HealthService x0 x1 x2) (q.HealthService y0 y1 y2) h = let p = and_parts _ _ h in let o = and_parts _ _ p.1 in λ i. q.HealthService ((text_decides x0 y0).0 p.0 i) ((texts_decides x1 y1).0 o.0 i) ((flag_decides x2 y2).0 o.1 i)
query_sound (q.HealthChecks x) (q.HealthChecks y) h = ap (λ z. q.HealthChecks z) ((text_decides x y).0 h)
query_sound (q.HealthNode x) (q.HealthNode y) h = ap (λ z. q.HealthNode z) ((text_decides x y).0 h)
query_sound (q.HealthState x) (q.HealthState y) h = ap (λ z. q.HealthState z) ((state_decides x y).0 h)
query_sound (q.Key x) (q.Key y) h = ap (λ z. q.Key z) ((text_decides x y).0 h)
query_sound (q.Prefix x) (q.Prefix y) h = ap (λ z. q.Prefix z) ((text_decides x y).0 h)
query_sound (q.Keys x0 x1) (q.Keys y0 y1) h = let p = and_parts _ _ h in λ i. q.Keys ((text_decides x0 y0).0 p.0 i) ((text_decides x1 y1).0 p.1 i)
query_sound (q.SessionInfo x) (q.SessionInfo y) h = ap (λ z. q.SessionInfo z) ((Decides-eqb x y).0 h)
query_sound (q.SessionsOf x) (q.SessionsOf y) h = ap (λ z. q.SessionsOf z) ((text_decides x y).0 h)
query_sound q.Sessions q.Sessions h = refl
query_sound (q.QueryInfo x) (q.QueryInfo y) h = ap (λ z. q.QueryInfo z) ((Decides-eqb x y).0 h)
query_sound q.Queries q.Queries h = refl
query_sound x y h = absurd (false≢true h)

query_own : (a : Query) → (query.ghosts).eq a a ≡ true
query_own q.Nodes = refl
query_own q.Services = refl
query_own (q.Service x0 x1) = (and_from _ _ ((text_decides x0 x0).1 refl) ((texts_decides x1 x1).1 refl))
query_own (q.NodeServices x) = ((text_decides x x).1 refl)
query_own (q.HealthService x0 x1 x2) = (and_from _ _ ((text_decides x0 x0).1 refl) (and_from _ _ ((texts_decides x1 x1).1 refl) ((flag_decides x2 x2).1 refl)))
query_own (q.HealthChecks x) = ((text_decides x x).1 refl)
query_own (q.HealthNode x) = ((text_decides x x).1 refl)
query_own (q.HealthState x) = ((state_decides x x).1 refl)
query_own (q.Key x) = ((text_decides x x).1 refl)
query_own (q.Prefix x) = ((text_decides x x).1 refl)
query_own (q.Keys x0 x1) = (and_from _ _ ((text_decides x0 x0).1 refl) ((text_decides x1 x1).1 refl))
query_own (q.SessionInfo x) = ((Decides-eqb x x).1 refl)
query_own (q.SessionsOf x) = ((text_decides x x).1 refl)
query_own q.Sessions = refl
query_own (q.QueryInfo x) = ((Decides-eqb x x).1 refl)
query_own q.Queries = refl

pub query_decides : (a b : Query) → Decides ((query.ghosts).eq a b) (a ≡ b)
query_decides = decides_by (query.ghosts).eq query_sound query_own

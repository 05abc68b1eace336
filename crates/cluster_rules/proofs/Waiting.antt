-- Where nothing is due at a server, each request held there waits for what it must.
use Rattle.std.proofs.Common.{◌≡◌, ℕ, ◌<◌, ◌≤◌, Bool, true, false, cond, not, List, [], ◌∷◌, length, refl, ◌∙◌, ap, subst, arith, Option, Some, None}
use Rattle.std.specs.Prelude.{◌==◌, nat_lt, nat_le, ◌&&◌, ◌||◌}
use Rattle.std.specs.List.{AllByRecursion as Each}
use Rattle.std.proofs.lemmas.Bool.Decides.{nat_tests}
use Rattle.cat_model.specs.declared.request.Mode.{Mode}
use Rattle.cat_model.specs.declared.request.Request.TheVariants.{Read, Execute, Write, Renew, Agent}
use Rattle.cat_model.specs.declared.request.Asked.{Asked}
use Rattle.cat_model.specs.declared.request.Asked.TheVariants.{Good, Bad}
use Rattle.cat_model.specs.Indexes.{index_of}
use Rattle.cat_model.specs.Log.{commands_of}
use Rattle.raft_model.specs.Rules.{is_confirmed}
use Rattle.raft_model.proofs.Tests.{lt_tells_not}
use Rattle.cluster_rules.specs.Lasting.{IsRead, IsLook}
use Rattle.cluster_rules.specs.Cluster.{Stand, AtPlace, InRound, ForIndex, Ended, Pending, Cluster, node_of, server_of, applied_of, clock_of}
use Rattle.cluster_rules.specs.Due.{Work, first_work, waiting, asks_read, early_stand, is_ended, early_work, late_stand, late_work, next_work, due}
use Rattle.cluster_rules.specs.Sound.{StandIsSound, PendingIsSound, Sound}
use Rattle.cluster_rules.specs.Legal.{StillWaits}
use Rattle.cluster_rules.proofs.Steps.{or_left, or_right}
use Rattle.cluster_rules.proofs.Tools.{le_tells_not, neither}

some_none : (w : Work) → Some w ≡ None → ⊥
some_none w p = cc p

-- a test whose work is not due
no_test : (b : Bool) (w : Work) (y : Option Work) → cond b (Some w) y ≡ None → (b ≡ false) × (y ≡ None)
no_test true w y e = absurd (some_none w e)
no_test false w y e = (refl, e)

held_here : (a b : ℕ) → a ≡ b → (a == b) ≡ true
held_here a b e = grind (arith, nat_tests)

on_true : (b : Bool) (x y : Option Work) → b ≡ true → cond b x y ≡ None → x ≡ None
on_true true x y e p = p
on_true false x y e p = absurd (cc e)

on_false : (b : Bool) (x y : Option Work) → b ≡ false → cond b x y ≡ None → y ≡ None
on_false false x y e p = p
on_false true x y e p = absurd (cc e)

first_none : (f : Pending → Option Work) (hs : List Pending) → first_work f hs ≡ None → Each (λ h. f h ≡ None) hs
first_none f [] e = tt
first_none f (h ∷ hs) e = (or_left (f h) (first_work f hs) e, first_none f hs (or_right (f h) (first_work f hs) e))

-- a read that is not answered
read_waits : (c : Cluster) (i : ℕ) (h : Pending) (deadline : ℕ) (looked : Bool) (asked : Asked) (P : Mode → Type 0) → IsLook asked P → asks_read h (waiting i c.held) (clock_of c.world i) (applied_of c i) deadline looked asked ≡ None →
    IsRead asked (λ query mode least. (index_of query (commands_of (applied_of c i)) ≤ least) × (clock_of c.world i < deadline))
read_waits c i h deadline looked (Good (Read query mode least wait raw)) P x e =
    let t = no_test (nat_lt least (index_of query (commands_of (applied_of c i))) || nat_le deadline (clock_of c.world i)) _ _ e in
    let n = neither (nat_lt least (index_of query (commands_of (applied_of c i)))) (nat_le deadline (clock_of c.world i)) t.0 in
    (lt_tells_not least (index_of query (commands_of (applied_of c i))) n.0, le_tells_not deadline (clock_of c.world i) n.1)
read_waits c i h deadline looked (Good (Write command)) P x e = x
read_waits c i h deadline looked (Good (Execute name limit mode)) P x e = absurd (some_none _ e)
read_waits c i h deadline looked (Good (Renew id)) P x e = x
read_waits c i h deadline looked (Good (Agent op)) P x e = x
read_waits c i h deadline looked (Bad why) P x e = x

module _ (c : Cluster) (i : ℕ) (up : (node_of c.world i).halted ≡ false) where
  by : (h : Pending) (st : Stand) → StandIsSound (server_of c.servers h.server).applied c.past c.starts h.server h.question st → early_stand c i h st ≡ None → late_stand c i h st ≡ None → StillWaits c i h st
  by h (AtPlace index term) x e l = le_tells_not index (length (applied_of c i)) (no_test (nat_le index (length (applied_of c i))) _ _ e).0
  by h (InRound round deadline) x e l = (
    lt_tells_not round.term (node_of c.world i).term (no_test (nat_lt round.term (node_of c.world i).term) _ _ e).0,
    subst (λ b. (not b && (is_confirmed (node_of c.world i) round && nat_le round.commit (length (applied_of c i)))) ≡ false) up
        (no_test (not (node_of c.world i).halted && (is_confirmed (node_of c.world i) round && nat_le round.commit (length (applied_of c i)))) _ _ l).0,
  )
  by h (ForIndex deadline looked) x e l = read_waits c i h deadline looked h.question.asked _ x.0 e
  by h (Ended event) x e l = some_none _ e

  waits_on : (h : Pending) → h.server ≡ i → PendingIsSound c.servers c.past c.starts h → early_work c i h ≡ None → late_work c i h ≡ None → StillWaits c i h h.stand
  waits_on h at x e l =
      let here = held_here h.server i at in
      by h h.stand x.stand
      (on_false ((node_of c.world i).halted && not (is_ended h.stand)) _ _ (ap (λ b. b && not (is_ended h.stand)) up) (on_true (h.server == i) _ None here e))
      (on_true (h.server == i) _ None here l)

pub all_wait : (c : Cluster) → Sound c → (i : ℕ) → due i c ≡ None → (node_of c.world i).halted ≡ false → Each (λ (h : Pending). h.server ≡ i → StillWaits c i h h.stand) c.held
all_wait c s i e up = go c.held (first_none (early_work c i) c.held (or_left (first_work (early_work c i) c.held) _ e)) (first_none (late_work c i) c.held (or_right (next_work c i) _ (or_right (first_work (early_work c i) c.held) _ e))) s.parts.held
  where
    go : (hs : List Pending) → Each (λ h. early_work c i h ≡ None) hs → Each (λ h. late_work c i h ≡ None) hs → Each (PendingIsSound c.servers c.past c.starts) hs → Each (λ (h : Pending). h.server ≡ i → StillWaits c i h h.stand) hs
    go [] a b x = tt
    go (h ∷ hs) a b x = (λ at. waits_on c i up h at x.0 a.0 b.0, go hs a.1 b.1 x.1)

-- a halted server holds none
pub none_at_halted : (c : Cluster) (i : ℕ) → due i c ≡ None → (node_of c.world i).halted ≡ true → Each (λ (h : Pending). h.server ≡ i → ⊥) c.held
none_at_halted c i e down = go c.held (first_none (early_work c i) c.held (or_left (first_work (early_work c i) c.held) _ e))
  where
    ended : (h : Pending) (st : Stand) → is_ended st ≡ true → early_stand c i h st ≡ None → ⊥
    ended h (Ended event) t p = some_none _ p
    ended h (AtPlace index term) t p = cc t
    ended h (InRound round deadline) t p = cc t
    ended h (ForIndex deadline looked) t p = cc t

    one : (h : Pending) → (b : Bool) → is_ended h.stand ≡ b → h.server ≡ i → early_work c i h ≡ None → ⊥
    one h true t at p =
        ended h h.stand t (on_false ((node_of c.world i).halted && not (is_ended h.stand)) _ _ (ap (λ b. (node_of c.world i).halted && not b) t ∙ ap (λ b. b && false) down) (on_true (h.server == i) _ None (held_here h.server i at) p))
    one h false t at p =
        some_none _ (on_true ((node_of c.world i).halted && not (is_ended h.stand)) _ _ (ap (λ b. (node_of c.world i).halted && not b) t ∙ ap (λ b. b && true) down) (on_true (h.server == i) _ None (held_here h.server i at) p))

    go : (hs : List Pending) → Each (λ h. early_work c i h ≡ None) hs → Each (λ (h : Pending). h.server ≡ i → ⊥) hs
    go [] a = tt
    go (h ∷ hs) a = (λ at. one h (is_ended h.stand) refl at a.0, go hs a.1)

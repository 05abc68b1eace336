-- The first messages of three servers, whose stores are sure and not armed: at a timeout server 1 asks both others for their
-- votes, and server 2, once it is asked, gives its vote.
use Rattle.std.proofs.Common.{◌≡◌, ◌≢◌, ℕ, zero, suc, ◌+◌, ◌<◌, inl, inr, true, cond, List, [], ◌∷◌, length, get_or, set, Some, None, refl, sym, ◌∙◌, ap, subst, arith}
use Rattle.std.specs.Prelude.{◌==◌}
use Rattle.cat_model.specs.declared.kept.Kept.{Kept}
use Rattle.cat_model.specs.declared.request.Event.TheVariants as event
use Rattle.raft_model.specs.declared.message.Message.TheVariants.{AskVote, Vote}
use Rattle.raft_model.specs.declared.message.Sent.{Sent}
use Rattle.raft_model.specs.Node.{Node, Store, begun}
use Rattle.raft_model.specs.Rules.{Input, Timeout, Receive, done, does, timed_out, candidate, received, of_own_term, asked}
use Rattle.raft_model.specs.Step.{Outcome, Works, VoteFails, LogFails, Forgets, NodeStep, Reads, Starts}
use Rattle.raft_model.specs.World.{World, Bag, Acts as NodeActs, AreEmpty, Begins, IsServer, StartAll, numbered, posted_all, nothing_kept}
use Rattle.raft_model.proofs.Tests.{at_bool, eq_tells}
use Rattle.cluster_rules.specs.Cluster.{Cluster}
use Rattle.cluster_rules.specs.Reached.{AreSure, AreUnarmed}
use Rattle.cluster_rules.specs.Step.{ClusterStep, input_of, received as received_by}
use Rattle.cluster_rules.proofs.Tools.{length_set_server, set_other}
use Rattle.catalog_top.proofs.OnTheWay.{IsIn, IsOnWay, step_gives}

-- How a server of three starts.
abbrev pub first_of : ℕ → Store → Node
first_of id store = begun id 3 store nothing_kept

pub record IsFirst (id : ℕ) (n : Node) : Type 0 where
  pub free : n.store.armed ≡ 0
  pub sure : n.store.sure ≡ true
  pub is : n ≡ first_of id n.store

reads_nothing : (store : Store) (kept : Kept) → Reads store kept → store.contents ≡ Some nothing_kept → kept ≡ nothing_kept
reads_nothing store kept (inl e) f = absurd (cc (e, f))
reads_nothing store kept (inr e) f = cc (e, f)

starts_first : (id : ℕ) (store : Store) (n : Node) → Starts id 3 store n → store.armed ≡ 0 → store.sure ≡ true → store.contents ≡ Some nothing_kept → IsFirst id n
starts_first id store n (kept, c, told, is) free sure empty =
    let nothing = reads_nothing store kept told empty in
    record {
      free = let k = c.armed in omega arith;
      sure = c.sure ∙ sure;
      is = is ∙ ap (begun id 3 n.store) nothing;
    }

no_later_id : (id : ℕ) → id ≡ 0 + id
no_later_id id = omega arith

later_id : (id k : ℕ) → k + suc id ≡ suc k + id
later_id id k = omega arith

node_first : (id k : ℕ) (stores : List Store) (nodes : List Node) (old : Node) → StartAll 3 id stores nodes → AreUnarmed stores → AreSure stores → AreEmpty stores → k < length nodes → get_or nodes k old ≡ old → IsFirst (k + id) old
node_first id k [] [] old all free sure empty l e = absurd (omega arith)
node_first id k [] (n ∷ ns) old all free sure empty l e = absurd all
node_first id k (s ∷ ss) [] old all free sure empty l e = absurd all
node_first id zero (s ∷ ss) (n ∷ ns) old all free sure empty l e = subst (λ z. IsFirst z old) (no_later_id id) (subst (IsFirst id) e (starts_first id s n all.0 free.0 sure.0 empty.0))
node_first id (suc k) (s ∷ ss) (n ∷ ns) old all free sure empty l e =
    subst (λ z. IsFirst z old) (later_id id k) (node_first (suc id) k ss ns old all.1 free.1 sure.1 empty.1 (omega arith) e)

-- Its first step, where it stores no entry: no call of its store fails, and it sends what it has to.
unfoldable Sends : ℕ → Input → List Sent → Type 0
Sends id input sent = (store : Store) → ((done (first_of id store) input).sent ≡ sent) × ((done (first_of id store) input).node.log ≡ [])

first_sends : (id : ℕ) (input : Input) (all : List Sent) → Sends id input all → (o : Outcome) (store : Store) (new : Node) (sent : List Sent) → NodeStep o (first_of id store) input new sent → store.armed ≡ 0 → store.sure ≡ true → sent ≡ all
unfolding Sends
first_sends id input all sends Works store new sent (between, v, g, e, s) free sure = s ∙ (sends store).0
first_sends id input all sends VoteFails store new sent (v, f, e, s) free sure = absurd (let k = (f.asked sure).0 in omega arith)
first_sends id input all sends LogFails store new sent (between, v, g, f, e, s) free sure = absurd (g (sends store).1)
first_sends id input all sends Forgets store new sent (v, c, g, e, s) free sure = absurd (g (sends store).1)

abbrev pub IsFirstAt : ℕ → World → Type 0
IsFirstAt i w = (old : Node) → IsServer w i old → IsFirst i old

acts_post : (i : ℕ) (input : Input) (all : List Sent) → Sends i input all → (w w' : World) → NodeActs w i input w' → IsFirstAt i w → w'.bag ≡ posted_all i all w.bag
acts_post i input all sends w w' a first =
    let old = first a.old a.server in
    let sent = first_sends i input all sends a.outcome a.old.store a.new a.sent (subst (λ (n : Node). NodeStep a.outcome n input a.new a.sent) old.is a.step) old.free old.sure in
    ap (λ (z : World). z.bag) a.becomes ∙ ap (λ s. posted_all i s w.bag) sent

-- The requests for votes.
abbrev asks : List Sent
asks = record { to = 2; message = AskVote 1 0 0 } ∷ record { to = 3; message = AskVote 1 0 0 } ∷ []

asks_both : Sends 1 Timeout asks
unfolding Sends done does timed_out candidate
asks_both store = (refl, refl)

abbrev asked_bag : Bag
asked_bag = posted_all 1 asks (record { packets = []; last = 0 })

timeout_is : (w : World) (i : ℕ) (input : Input) → input_of w i (event.Timeout 1) ≡ Some input → (i ≡ 1) × (input ≡ Timeout)
timeout_is w i input e =
    at_bool (λ b. (1 == i) ≡ b → cond b (Some Timeout) None ≡ Some input → (i ≡ 1) × (input ≡ Timeout)) (1 == i)
    (λ _ t f. (sym (eq_tells 1 i t), cc f)) (λ _ _ f. absurd (cc f)) refl e

pub differ : (j k : ℕ) → k < j → j ≢ k
differ j k l e = omega arith

-- server 2 is as it was
other_server : (w w' : World) (input : Input) → NodeActs w 1 input w' → (old : Node) → IsServer w' 2 old → IsServer w 2 old
other_server w w' input a old at =
    let nodes : w'.nodes ≡ set w.nodes 0 a.new = ap (λ (z : World). z.nodes) a.becomes in
    let long = length_set_server w.nodes 1 a.new in
    let before = subst (λ (ns : List Node). (1 < length ns) × (get_or ns 1 old ≡ old)) nodes at in
    (let k = before.0 in omega (arith, long), sym (set_other w.nodes 0 1 a.new old (differ 1 0 (omega arith))) ∙ before.1)

-- Both others are asked, and server 2 has done nothing yet.
abbrev pub HasAsked : World → Type 0
HasAsked w = (w.bag ≡ asked_bag) × IsFirstAt 2 w

pub both_asked : (stores : List Store) (c c' : Cluster) → Begins stores c.world → length stores ≡ 3 → AreUnarmed stores → AreSure stores → AreEmpty stores → ClusterStep c (event.Timeout 1) c' true → HasAsked c'.world
both_asked stores c c' b three free sure empty s =
    let x = step_gives c c' (event.Timeout 1) true s refl refl in
    let t = timeout_is c.world x.server x.input x.is in
    let a : NodeActs c.world 1 Timeout c'.world = subst (λ (z : Input). NodeActs c.world 1 z c'.world) t.1 (subst (λ i. NodeActs c.world i x.input c'.world) t.0 x.acts) in
    let nodes = subst (λ n. StartAll n 1 stores c.world.nodes) three b.nodes in (
      acts_post 1 Timeout asks asks_both c.world c'.world a (λ old at. node_first 1 0 stores c.world.nodes old nodes free sure empty at.0 at.1) ∙ ap (posted_all 1 asks) b.bag,
      λ old at. let here = other_server c.world c'.world Timeout a old at in node_first 1 1 stores c.world.nodes old nodes free sure empty here.0 here.1,
    )

pub first_on_way : (w : World) → HasAsked w → IsOnWay 1 w
first_on_way w x = subst (IsIn 1) (sym x.0) refl

-- The vote of server 2.
abbrev gives_vote : List Sent
gives_vote = record { to = 1; message = Vote 1 true } ∷ []

votes : Sends 2 (Receive 1 (AskVote 1 0 0)) gives_vote
unfolding Sends done does received of_own_term asked
votes store = (refl, refl)

delivery_is : (w : World) (i : ℕ) (input : Input) → w.bag ≡ asked_bag → input_of w i (event.Deliver 1) ≡ Some input → (i ≡ 2) × (input ≡ Receive 1 (AskVote 1 0 0))
delivery_is w i input bag e =
    at_bool (λ b. (2 == i) ≡ b → cond b (Some (Receive 1 (AskVote 1 0 0))) None ≡ Some input → (i ≡ 2) × (input ≡ Receive 1 (AskVote 1 0 0))) (2 == i)
    (λ _ t f. (sym (eq_tells 2 i t), cc f)) (λ _ _ f. absurd (cc f)) refl
    (subst (λ (b : Bag). received_by i (numbered 1 b.packets) ≡ Some input) bag e)

-- all three messages are on their way
abbrev pub AllOnWay : World → Type 0
AllOnWay w = IsOnWay 1 w × IsOnWay 2 w × IsOnWay 3 w

pub vote_given : (c c' : Cluster) → HasAsked c.world → ClusterStep c (event.Deliver 1) c' true → AllOnWay c'.world
vote_given c c' (bag, first) s =
    let x = step_gives c c' (event.Deliver 1) true s refl refl in
    let t = delivery_is c.world x.server x.input bag x.is in
    let a : NodeActs c.world 2 (Receive 1 (AskVote 1 0 0)) c'.world = subst (λ (z : Input). NodeActs c.world 2 z c'.world) t.1 (subst (λ i. NodeActs c.world i x.input c'.world) t.0 x.acts) in
    let now : c'.world.bag ≡ posted_all 2 gives_vote asked_bag = acts_post 2 (Receive 1 (AskVote 1 0 0)) gives_vote votes c.world c'.world a first ∙ ap (posted_all 2 gives_vote) bag in
    (subst (IsIn 1) (sym now) refl, subst (IsIn 2) (sym now) refl, subst (IsIn 3) (sym now) refl)

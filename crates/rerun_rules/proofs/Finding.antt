-- Requests find the leader, once the asked server knows it.
use Rattle.std.proofs.Common.{◌≡◌, ◌≢◌, ℕ, ◌<◌, ◌≤◌, ◌⊎◌, inl, inr, Bool, true, false, cond, length, Option, Some, None, refl, sym, ◌∙◌, ap, subst, arith}
use Rattle.std.specs.Prelude.{not, ◌&&◌, ◌||◌, ◌==◌}
use Rattle.cat_model.specs.declared.reply.Refusal.TheVariants as refusal
use Rattle.cat_model.specs.Role.{leads as is_leading}
use Rattle.raft_model.specs.Node.{Node}
use Rattle.raft_model.specs.World.{World}
use Rattle.raft_model.proofs.Tests.{at_bool, eq_tells}
use Rattle.cluster_rules.specs.Cluster.{Cluster, node_of, runs_leading}
use Rattle.cluster_rules.specs.Reached.{AreSure}
use Rattle.cluster_rules.specs.Requests.{Answers, Goes, to_leader, way_of}
use Rattle.cluster_rules.proofs.Boundary.{leading_tells}
use Rattle.cluster_rules.proofs.Tools.{eq_tells_not, is_place, there_or_none}
use Rattle.run_rules.specs.Serving.{Serves, Size}
use Rattle.rerun_rules.specs.Leading.{Election, FindsLeader, LaterElection, IsForemost, WasAt}
use Rattle.rerun_rules.proofs.Ahead.{HoldsFirst, IsAhead, StaysAhead}
use Rattle.rerun_rules.proofs.Beginning.{ahead_foremost, runs_on, start_ahead}
use Rattle.rerun_rules.proofs.Elected.{is_later, later_elected, later_held}
use Rattle.rerun_rules.proofs.Serving.{run_since, was_ahead}

-- the way from a running server that is asked
pub way_if : (w : World) (a : ℕ) (stale : Bool) → (node_of w a).halted ≡ false → way_of w a stale ≡ cond (stale || runs_leading w a) (Goes a) (to_leader w a (node_of w a).leader)
way_if w a stale up = ap (λ b. cond b (Answers (refusal.Halted a)) (cond (stale || runs_leading w a) (Goes a) (to_leader w a (node_of w a).leader))) up

to_first : (w : World) (a : ℕ) (o : Option ℕ) → o ≡ Some 1 → runs_leading w 1 ≡ true → to_leader w a o ≡ Goes 1
to_first w a None e l = cc e
to_first w a (Some i) e l = let first : i ≡ 1 = cc e in
    ap (λ z. cond (runs_leading w z) (Goes z) (Answers (refusal.NoLeader (node_of w a).term (node_of w a).role (Some (record { server = z; term = (node_of w z).term; role = (node_of w z).role }))))) first
    ∙ ap (λ b. cond b (Goes 1) (Answers (refusal.NoLeader (node_of w a).term (node_of w a).role (Some (record { server = 1; term = (node_of w 1).term; role = (node_of w 1).role }))))) l

-- server 1 itself
at_first : (w : World) → IsAhead w → runs_leading w 1 ≡ true → FindsLeader w 1
at_first w a l = (way_if w 1 false up ∙ ap (λ b. cond b (Goes 1) (to_leader w 1 (node_of w 1).leader)) l, way_if w 1 true up)
  where
    up : (node_of w 1).halted ≡ false
    up = (leading_tells w 1 l).0

-- another one, which holds it for leader
at_other : (w : World) (i : ℕ) → IsAhead w → runs_leading w 1 ≡ true → 0 < i → i ≤ length w.nodes → i ≢ 1 → (node_of w i).leader ≡ Some 1 → FindsLeader w i
at_other w i a l p q d e =
    (way_if w i false up ∙ ap (λ b. cond b (Goes i) (to_leader w i (node_of w i).leader)) not_leading ∙ to_first w i (node_of w i).leader e l, way_if w i true up)
  where
    up : (node_of w i).halted ≡ false
    up = (a.well i p q).runs

    never : (b : Bool) → (b && false) ≡ false
    never true = refl
    never false = refl

    not_leading : runs_leading w i ≡ false
    not_leading = ap (λ r. not (node_of w i).halted && is_leading r) (a.follow i p q d).0 ∙ never (not (node_of w i).halted)

held_first : (first n : Node) → HoldsFirst first n → n.leader ≢ None → n.leader ≡ Some 1
held_first first n (inl e) some = absurd (some e)
held_first first n (inr x) some = x.0

pub finds_leader : (size : Size) (c earlier : Cluster) (s : Serves size c) → AreSure size.stores → IsForemost size.stores → WasAt earlier s.reached → runs_leading earlier.world 1 ≡ true →
    (i : ℕ) → (i ≡ 1) ⊎ ((node_of earlier.world i).leader ≢ None) → FindsLeader c.world i
finds_leader size c earlier s sure foremost was lead i asked =
    at_bool (λ b. (i == 1) ≡ b → FindsLeader c.world i) (i == 1)
    (λ _ e. subst (FindsLeader c.world) (sym (eq_tells i 1 e)) (at_first c.world x.ahead leads))
    (λ _ e. other (eq_tells_not i 1 e)) refl
  where
    begun : IsAhead s.start.world
    begun = start_ahead size.stores s.start s.begins sure foremost

    before : IsAhead earlier.world
    before = was_ahead s.start s.whole s.moves c s.reached s.serving begun earlier was

    x : StaysAhead earlier.world c.world
    x = run_since s.start s.whole s.moves c s.reached s.serving begun earlier was

    leads : runs_leading c.world 1 ≡ true
    leads = runs_on c.world x.ahead (x.on (leading_tells earlier.world 1 lead).1).0

    knows : i ≢ 1 → (node_of earlier.world i).leader ≢ None
    knows d = elim asked [ inl e ↦ absurd (d e) | inr k ↦ k ]

    other : i ≢ 1 → FindsLeader c.world i
    other d = elim (there_or_none earlier.world i) [
      | inl n ↦ absurd (knows d (ap (λ (z : Node). z.leader) n))
      | inr at ↦ let p = is_place earlier.world i (node_of earlier.world i) at in
          at_other c.world i x.ahead leads p.0 (let k = x.count in let q = p.1 in omega arith) d
          (x.holds i p.0 p.1 d (held_first (node_of earlier.world 1) (node_of earlier.world i) (before.led i p.0 p.1 d) (knows d)))
    ]

-- After an election each server finds server 1.
pub finds_again : (e : LaterElection) (c : Cluster) (s : Serves e.size c) → WasAt e.cluster s.reached → (i : ℕ) → 0 < i → i ≤ length e.cluster.world.nodes → FindsLeader c.world i
finds_again e c s was i p l = finds_leader e.size c e.cluster s e.sure (ahead_foremost e.size.stores e.first e.ahead) was (later_elected e) i
    (at_bool (λ b. (i == 1) ≡ b → (i ≡ 1) ⊎ ((node_of e.cluster.world i).leader ≢ None)) (i == 1) (λ _ q. inl (eq_tells i 1 q))
    (λ _ q. inr (λ n. let k = later_held e i (let d = eq_tells_not i 1 q in omega arith) l in cc (k, n))) refl)

pub finds_elected : (e : Election) (c : Cluster) (s : Serves e.size c) → WasAt e.cluster s.reached → (i : ℕ) → 0 < i → i ≤ length e.cluster.world.nodes → FindsLeader c.world i
finds_elected e c s was i p l = finds_again (is_later e) c s was i p l

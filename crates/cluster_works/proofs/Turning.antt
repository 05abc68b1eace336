-- A turn does what is due first, and leaves less to do.
use Rattle.std.proofs.Common.{◌≡◌, ℕ, ◌<◌, ◌≤◌, true, length, List, [], ◌∷◌, ◌++◌, None, sym, ap, ◌∙◌, subst, arith}
use Rattle.raft_model.specs.World.{World}
use Rattle.cluster_rules.specs.Cluster.{Cluster, Pending, Server, node_of}
use Rattle.cluster_rules.specs.Agents.{Agent}
use Rattle.cluster_rules.specs.Due.{Applies, Closes, Holds, IsDue, Replies, Work, did, due, early, early_work, first_work, late, late_work, next_one, next_work}
use Rattle.cluster_rules.proofs.Cases.{no_work}
use Rattle.cluster_rules.proofs.Steps.{or_left, or_right}
use Rattle.cluster_works.proofs.Numbered.{each_at}
use Rattle.cluster_works.proofs.Slept.{none_first}
use Rattle.std.specs.List.{AllByRecursion as Each}
use Rattle.cluster_rules.specs.Left.{left}
use Rattle.cluster_rules.specs.Reached.{IsServerNumber}
use Rattle.cluster_rules.specs.Sound.{Ascends}
use Rattle.cluster_rules.proofs.Measure.{did_less}
use Rattle.cluster_replicas.specs.Servers.{Servers}
use Rattle.cluster_requests.specs.Requests.{Requests, cluster_of as whole_of}
use Rattle.cluster_works.specs.declared.work.Work as own
use Rattle.cluster_works.specs.Standing as standing
use Rattle.cluster_order.specs.Turns.{Turned}
use Rattle.cluster_works.specs.Working.{DidWork, whole}
use Rattle.cluster_works.specs.Watching.{Watching}

module _ (wt : Watching) where
  -- the cluster of these parts, whose agents are left out
  abbrev cluster_of : World → List Server → Requests → Cluster
  cluster_of w servers r = whole_of w servers [] r

  abbrev Stands : World → List Server → Requests → Type 0
  Stands w servers r = standing.Stands wt w servers r

  pub less_left : (w : World) (servers : List Server) (r : Requests) (c new : Cluster) (i : ℕ) → Stands w servers r → (node_of w i).commit ≤ length (node_of w i).log → cluster_of w servers r ≡ c → IsServerNumber c i → Turned i true c new → left i new < left i c
  less_left w servers r c new i stands within view number done =
      let ascends = subst (λ (d : Cluster). Ascends d.held) view stands.ascends in
      let kept = subst (λ (d : Cluster). (node_of d.world i).commit ≤ length (node_of d.world i).log) view within in
      subst (λ (d : Cluster). left i d < left i c) (sym done.2) (did_less c ascends i number.0 number.1 kept done.0 done.1)

  -- what is due is something
  pub due_some : (c : Cluster) (i : ℕ) (w : Work) → IsDue i c w → due i c ≡ None → ⊥
  due_some c i w (early before after h there e) d =
      let each : Each (λ (g : Pending). early_work c i g ≡ None) (before ++ h ∷ after) = subst (Each (λ (g : Pending). early_work c i g ≡ None)) there (none_first (early_work c i) c.held (or_left (first_work (early_work c i) c.held) _ d)) in
      no_work w (sym (each_at (λ (g : Pending). early_work c i g ≡ None) before after h each) ∙ e)
  due_some c i w (next_one none e) d = no_work w (sym (or_left (next_work c i) _ (or_right (first_work (early_work c i) c.held) _ d)) ∙ e)
  due_some c i w (late none next before after h there e) d =
      let each : Each (λ (g : Pending). late_work c i g ≡ None) (before ++ h ∷ after) = subst (Each (λ (g : Pending). late_work c i g ≡ None)) there (none_first (late_work c i) c.held (or_right (next_work c i) _ (or_right (first_work (early_work c i) c.held) _ d))) in
      no_work w (sym (each_at (λ (g : Pending). late_work c i g ≡ None) before after h each) ∙ e)

-- Nothing that is due is an agent's: the same is due, and does the same, beside any agents.
module _ (gs : List Agent) where
  abbrev beside : Servers → Requests → Cluster
  beside s r = whole_of s.world s.servers gs r

  due_beside : (s : Servers) (r : Requests) (i : ℕ) (w : Work) → IsDue i (whole s r) w → IsDue i (beside s r) w
  due_beside s r i w (early before after h there e) = early before after h there e
  due_beside s r i w (next_one none e) = next_one none e
  due_beside s r i w (late none next before after h there e) = late none next before after h there e

  did_beside : (s s' : Servers) (r r' : Requests) (i : ℕ) (w : Work) → whole s' r' ≡ did i w (whole s r) → beside s' r' ≡ did i w (beside s r)
  unfolding did
  did_beside s s' r r' i (Replies q kind) e = ap (λ (d : Cluster). record d { agents = gs }) e
  did_beside s s' r r' i (Holds h) e = ap (λ (d : Cluster). record d { agents = gs }) e
  did_beside s s' r r' i (Closes number event) e = ap (λ (d : Cluster). record d { agents = gs }) e
  did_beside s s' r r' i Applies e = ap (λ (d : Cluster). record d { agents = gs }) e

  pub turned_beside : (s s' : Servers) (r r' : Requests) (i : ℕ) → Turned i true (whole s r) (whole s' r') → Turned i true (beside s r) (beside s' r')
  turned_beside s s' r r' i d = (d.0, due_beside s r i d.0 d.1, did_beside s s' r r' i d.0 d.2)

-- what was found was done
pub did_turned : (i : ℕ) (work : own.Work) (c new : Cluster) → DidWork i work c new → Turned i true c new
did_turned i work c new (w, d, e, f) = (w, d, e)

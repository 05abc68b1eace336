-- A server's clock goes on.
use Rattle.std.proofs.Common.{◌≡◌, ℕ, Bool, true, false, not, List, [], ◌∷◌, length, drop, refl, sym, ◌∙◌, ap, subst}
use Rattle.std.specs.Prelude.{◌&&◌}
use Rattle.raft_model.specs.Log.{Log}
use Rattle.raft_model.specs.World as world
use Rattle.raft_model.specs.World.{World, WorldStep}
use Rattle.cluster_rules.specs.Cluster.{Cluster, Server, node_of}
use Rattle.cluster_rules.specs.Requests.{entries_past, halts_past, moved}
use Rattle.cluster_order.specs.Turns.{Ticks}
use Rattle.cluster_requests.specs.Requests.{Requests, cluster_of as whole_of}
use Rattle.cluster_works.specs.Standing as standing
use Rattle.cluster_works.proofs.Marking.{world_stands}
use Rattle.cluster_rules.specs.Agents.{Agent}
use Rattle.cluster_works.specs.Watching.{Watching}

module _ (gs : List Agent) (wt : Watching) where
  -- the cluster of these parts, with these agents
  abbrev cluster_of : World → List Server → Requests → Cluster
  cluster_of w servers r = whole_of w servers gs r

  abbrev Stands : World → List Server → Requests → Type 0
  Stands w servers r = standing.Stands wt w servers r

  drop_all : (log : Log) → drop (length log) log ≡ []
  drop_all [] = refl
  drop_all (e ∷ log) = drop_all log

  not_both : (b : Bool) → (not b && b) ≡ false
  not_both true = refl
  not_both false = refl

  -- A clock that goes on is no matter of marks.
  on_clocks : (i : ℕ) (w : World) (clocks : List ℕ) (servers : List Server) (r : Requests) → cluster_of (record w { clocks = clocks }) servers r ≡ moved i (record w { clocks = clocks }) (cluster_of w servers r)
  on_clocks i w clocks servers r =
      let c : Cluster = cluster_of (record w { clocks = clocks }) servers r in
      let halted = (node_of w i).halted in
      sym (ap (λ (l : Log). record c { past = entries_past l (halts_past i (not halted && halted) c.past) }) (drop_all w.agreed) ∙ ap (λ b. record c { past = halts_past i b c.past }) (not_both halted))

  pub tick_goes_on : (i ms : ℕ) (w w' : World) (servers servers' : List Server) (r : Requests) (c : Cluster) → Stands w servers r → cluster_of w servers r ≡ c → servers' ≡ servers → WorldStep w (world.Ticks i ms) w'
      → Stands w' servers' r × Ticks i ms c (cluster_of w' servers' r)
  tick_goes_on i ms w w' servers servers' r c s view same step =
      let e = step.2 in
      let stands = world_stands gs wt w w' servers r s (ap (λ (v : World). length v.nodes) e) (ap (λ (v : World). v.greatest) e) in
      let moves : cluster_of w' servers r ≡ moved i w' (cluster_of w servers r) = subst (λ (v : World). cluster_of v servers r ≡ moved i v (cluster_of w servers r)) (sym e) (on_clocks i w _ servers r) in (
        subst (λ (l : List Server). Stands w' l r) (sym same) stands,
        (w', subst (λ (d : Cluster). WorldStep d.world (world.Ticks i ms) w') view step, ap (λ (l : List Server). cluster_of w' l r) same ∙ moves ∙ ap (moved i w') view),
      )

  -- a message that is lost
  pub lose_stands : (k : ℕ) (w w' : World) (servers servers' : List Server) (r : Requests) → Stands w servers r → servers' ≡ servers → WorldStep w (world.Drops k) w' → Stands w' servers' r
  lose_stands k w w' servers servers' r s same step =
      subst (λ (l : List Server). Stands w' l r) (sym same) (world_stands gs wt w w' servers r s (ap (λ (v : World). length v.nodes) step.2) (ap (λ (v : World). v.greatest) step.2))

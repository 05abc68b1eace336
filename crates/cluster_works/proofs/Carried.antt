-- What is held stays so where more is asked, and where its server has applied the same. And no step changes how many
-- servers there are.
use Rattle.std.proofs.Common.{◌≡◌, ℕ, ◌≤◌, List, length, refl, sym, ap, ◌∙◌, subst, arith}
use Rattle.std.specs.List.{AllByRecursion as Each}
use Rattle.cluster_rules.specs.Offices.{Office}
use Rattle.raft_model.specs.Log.{Log}
use Rattle.raft_model.specs.Node.{set_server}
use Rattle.raft_model.specs.Rules.{Input}
use Rattle.raft_model.specs.World.{World, Acts as NodeActs, WorldStep}
use Rattle.raft_model.specs.World as world
use Rattle.cluster_rules.specs.Cluster.{Pending, Server, no_server, server_of}
use Rattle.cluster_rules.proofs.Tools.{at_item, each_map, length_set_server}
use Rattle.cluster_works.specs.Watching.{Watching}
use Rattle.cluster_works.specs.Standing.{IsAwaited, IsHeld, IsWatched}

-- as many servers
abbrev pub AsMany : World → World → Type 0
AsMany w w' = length w'.nodes ≡ length w.nodes

pub acts_many : (w : World) (i : ℕ) (input : Input) (w' : World) → NodeActs w i input w' → AsMany w w'
acts_many w i input w' a = ap (λ (v : World). length v.nodes) a.becomes ∙ length_set_server w.nodes i a.new

pub arming_many : (w : World) (i nth : ℕ) (w' : World) → WorldStep w (world.Arms i nth) w' → AsMany w w'
arming_many w i nth w' step = ap (λ (v : World). length v.nodes) step.2 ∙ length_set_server w.nodes i _

pub restarting_many : (w : World) (i : ℕ) (w' : World) → WorldStep w (world.Restarts i) w' → AsMany w w'
restarting_many w i w' step = ap (λ (v : World). length v.nodes) step.4 ∙ length_set_server w.nodes i step.1

-- more were asked
pub all_more : (wt : Watching) (servers : List Server) (n m : ℕ) (held : List Pending) → n ≤ m → Each (IsHeld wt servers n) held → Each (IsHeld wt servers m) held
all_more wt servers n m held l all = each_map (IsHeld wt servers n) (IsHeld wt servers m)
    (λ h x. record { numbered = let k = x.numbered in omega arith; taken = x.taken; awaited = x.awaited; watched = x.watched }) held all

-- its server has applied the same
pub held_same : (wt : Watching) (servers servers' : List Server) (n : ℕ) (h : Pending) → (server_of servers' h.server).applied ≡ (server_of servers h.server).applied → IsHeld wt servers n h → IsHeld wt servers' n h
held_same wt servers servers' n h e x = record {
  numbered = x.numbered;
  taken = x.taken;
  awaited = subst (λ (l : Log). IsAwaited (length l) h.stand) (sym e) x.awaited;
  watched = subst (λ (l : Log). IsWatched wt l h) (sym e) x.watched;
}

-- of a server that has another time in office
same_applied : (servers : List Server) (i : ℕ) (o : Office) (j : ℕ) → (server_of (set_server servers i (record (server_of servers i) { office = o })) j).applied ≡ (server_of servers j).applied
same_applied servers i o j =
    at_item (λ (x : Server). x.applied ≡ (server_of servers j).applied) no_server servers i (record (server_of servers i) { office = o }) j
    (λ e. ap (λ k. (server_of servers k).applied) (sym e)) refl

pub all_officed : (wt : Watching) (servers : List Server) (i : ℕ) (o : Office) (n : ℕ) (held : List Pending) → Each (IsHeld wt servers n) held → Each (IsHeld wt (set_server servers i (record (server_of servers i) { office = o })) n) held
all_officed wt servers i o n held all =
    let others = set_server servers i (record (server_of servers i) { office = o }) in
    each_map (IsHeld wt servers n) (IsHeld wt others n) (λ h x. held_same wt servers others n h (same_applied servers i o h.server) x) held all

-- What holds of a cluster that serves, where its stores were empty or such as an earlier run left.
use Rattle.std.proofs.Common.{Bool, List, sym, ap, subst}
use Rattle.raft_model.specs.Node.{Store}
use Rattle.raft_model.specs.World.{World, AreEmpty, Begins, IsReached, IsOfFirstRun, Reaches, here}
use Rattle.raft_model.proofs.Theorems.{well_formed, first_run}
use Rattle.cluster_rules.specs.Cluster.{Cluster}
use Rattle.cluster_rules.specs.Reached.{IsBegun, MayBegin, Move, Reached, at_start, by_event, by_taking, by_handing, by_settling, by_advancing}
use Rattle.cluster_rules.proofs.Reached.{start_sound}
use Rattle.cluster_rules.proofs.Starting.{kept_start}
use Rattle.run_rules.proofs.Fresh.{reads_fresh}
use Rattle.run_rules.proofs.Waiting.{run_waits}
use Rattle.run_rules.proofs.Indexes.{opened_tells}
use Rattle.run_rules.proofs.Onward.{step_on}
use Rattle.run_rules.specs.Serving.{Size, Serves}
use Rattle.run_rules.specs.Holding.{Holds}
use Rattle.run_rules.proofs.Serving.{is_sound}

-- the world goes on from that of the start
pub record GoesFrom (start c : Cluster) : Type 0 where
  pub on : (v : World) → Reaches c.world v → Reaches start.world v
  pub reached : IsReached c.world

pub run_goes : (start : Cluster) (whole : Bool) (moves : List Move) (c : Cluster) → Reached start whole moves c → IsReached start.world → GoesFrom start c
run_goes start whole moves c at_start w = record { on = λ v z. z; reached = w }
run_goes start whole moves c (by_event {whole = w₀} {moves = ms} {c = c₀} made all r fits step) w =
    let before = run_goes start w₀ ms c₀ r w in
    let x = step_on c₀ c made all step before.reached in
    record { on = λ v z. before.on v (x.later.goes.on v z); reached = x.reached before.reached }
run_goes start whole moves c (by_taking {whole = w₀} {moves = ms} {c = c₀} number out before after r is there) w = let g = run_goes start w₀ ms c₀ r w in record { on = g.on; reached = g.reached }
run_goes start whole moves c (by_handing {whole = w₀} {moves = ms} {c = c₀} out before after r is there) w = let g = run_goes start w₀ ms c₀ r w in record { on = g.on; reached = g.reached }
run_goes start whole moves c (by_settling {whole = w₀} {moves = ms} {c = c₀} pairs all r ends) w = let g = run_goes start w₀ ms c₀ r w in record { on = g.on; reached = g.reached }
run_goes start whole moves c (by_advancing {whole = w₀} {moves = ms} {c = c₀} ms' made r ends) w = let g = run_goes start w₀ ms c₀ r w in record { on = g.on; reached = g.reached }

of_first_run : (stores : List Store) (start c : Cluster) → AreEmpty stores → IsBegun stores start → GoesFrom start c → IsOfFirstRun c.world
of_first_run stores start c none s g = record {
  stores = stores;
  start = start.world;
  are_empty = none;
  begins = subst (λ (z : World). Begins stores z) (sym (ap (λ (z : Cluster). z.world) s.is)) s.begins;
  reaches = g.on c.world here;
}

pub holds : (size : Size) (c : Cluster) → Serves size c → MayBegin size.stores → Holds size.stores c
holds size c s kept =
    let sound = is_sound size c s kept in
    let first = start_sound s.start (kept_start size.stores s.start s.begins kept) in
    let formed = well_formed c.world sound.parts.world in
    record {
      sound = sound;
      fronts = λ server. (sound.parts.servers.each server).front;
      formed = formed;
      once = λ none. first_run c.world (of_first_run size.stores s.start c none s.begins (run_goes s.start s.whole s.moves c s.reached first.parts.world));
      indexes = opened_tells c.world.agreed formed.opens;
      reads_fresh = reads_fresh c sound;
      reads_wait = λ start moves begins reached. run_waits start begins moves c reached;
    }

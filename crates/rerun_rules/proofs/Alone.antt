-- There are such runs: a single server with an empty store stands for election.
use Rattle.std.proofs.Common.{◌≡◌, inr, Bool, true, [], ◌∷◌, List, length, refl, sym, subst, arith}
use Rattle.cat_model.specs.declared.request.Event.TheVariants as event
use Rattle.raft_model.specs.Node.{Store}
use Rattle.raft_model.specs.Runs.{empty_store, fresh}
use Rattle.raft_model.specs.World.{nothing_kept}
use Rattle.cluster_rules.specs.Cluster.{Cluster, started}
use Rattle.cluster_rules.specs.Reached.{IsBegun, Makes, Move, Reached, at_start, by_advancing, by_event, by_handing, by_settling, by_taking}
use Rattle.cluster_rules.specs.Runs.{drawn, sure_a}
use Rattle.cluster_rules.specs.Step.{ClusterStep}
use Rattle.cluster_rules.proofs.ConsistentRead.{consistent_run}
use Rattle.cluster_rules.proofs.Tools.{both}
use Rattle.rerun_rules.specs.Leading.{Election, LaterElection}
use Rattle.rerun_rules.proofs.Ahead.{IsAhead}
use Rattle.rerun_rules.proofs.Beginning.{empty_ahead, empty_foremost, start_ahead}
use Rattle.rerun_rules.proofs.Elected.{event_alone, is_later, nothing_done}
use Rattle.rerun_rules.proofs.Taking.{step_takes}

one_store : List Store
one_store = empty_store ∷ []

one_begins : IsBegun one_store (started (fresh 1) 1)
unfolding fresh one_store
one_begins = record {
  world = fresh 1;
  agents = 1;
  some = (omega arith, omega arith);
  few = omega arith;
  unarmed = (refl, tt);
  begins = record {
    nodes = ((nothing_kept, record { unarmed = λ q. absurd (omega arith); armed = refl; faults = omega arith; contents = refl; sure = refl }, inr refl, refl), tt);
    clocks = refl;
    contacts = refl;
    bag = refl;
    greatest = refl;
    agreed = refl;
  };
  is = refl;
}

one_ahead : IsAhead (started (fresh 1) 1).world
unfolding one_store
one_ahead = start_ahead one_store (started (fresh 1) 1) one_begins (refl, tt) (empty_foremost one_store (refl, tt))

-- what a run is whose only move is the timeout
record Stood (c : Cluster) : Type 0 where
  pub reached : Reached (started (fresh 1) 1) true (Makes (event.Timeout 1) ∷ []) c

bag_of : (whole : Bool) (moves : List Move) (c : Cluster) → Reached (started (fresh 1) 1) whole moves c → whole ≡ true → moves ≡ Makes (event.Timeout 1) ∷ [] → c.world.bag.packets ≡ []
unfolding one_store
bag_of whole moves c at_start t e = cc e
bag_of whole moves c (by_event {whole = w} {moves = ms} {c = c₀} made all r fits step) t e =
    let made_is : made ≡ event.Timeout 1 = cc e in
    let none : ms ≡ [] = cc e in
    let same = nothing_done (started (fresh 1) 1) w ms c₀ r none in
    event_alone one_store (started (fresh 1) 1) c₀.world c.world one_begins nothing_kept (empty_ahead one_store (refl, tt)) (omega arith) refl same (subst IsAhead (sym same) one_ahead)
    (step_takes c₀ c (event.Timeout 1) all tt (both w all t).1 (subst (λ m. ClusterStep c₀ m c all) made_is step))
bag_of whole moves c (by_taking number out before after r is there) t e = cc e
bag_of whole moves c (by_handing {whole = w} {moves = ms} {c = c₀} out before after r is there) t e = bag_of w ms c₀ r t e
bag_of whole moves c (by_settling pairs all r ends) t e = cc e
bag_of whole moves c (by_advancing ms made r ends) t e = cc e

-- A run of the single server that was computed begins with it.
before_it : (whole : Bool) (moves : List Move) (c : Cluster) → Reached (started (fresh 1) 1) whole moves c → whole ≡ true → moves ≡ Makes (event.Ask 1 sure_a drawn) ∷ Makes (event.Timeout 1) ∷ [] → (c₀ : Cluster) × Stood c₀
before_it whole moves c at_start t e = absurd (cc e)
before_it whole moves c (by_event {whole = w} {moves = ms} {c = c₀} made all r fits step) t e =
    let rest : ms ≡ Makes (event.Timeout 1) ∷ [] = cc e in
    (c₀, record { reached = subst (λ x. Reached (started (fresh 1) 1) x (Makes (event.Timeout 1) ∷ []) c₀) (both w all t).0 (subst (λ z. Reached (started (fresh 1) 1) w z c₀) rest r) })
before_it whole moves c (by_taking number out before after r is there) t e = absurd (cc e)
before_it whole moves c (by_handing {whole = w} {moves = ms} {c = c₀} out before after r is there) t e = before_it w ms c₀ r t e
before_it whole moves c (by_settling pairs all r ends) t e = absurd (cc e)
before_it whole moves c (by_advancing ms made r ends) t e = absurd (cc e)

of_stood : (c : Cluster) → Stood c → Election
unfolding one_store
of_stood c x = record {
  size = record { stores = one_store; agents = length c.agents };
  cluster = c;
  serves = record { start = started (fresh 1) 1; whole = true; moves = Makes (event.Timeout 1) ∷ []; begins = one_begins; reached = x.reached; serving = ((refl, refl), tt); count = refl };
  are_empty = (refl, tt);
  sure = (refl, tt);
  whole = refl;
  delivered = refl;
  settled = bag_of true (Makes (event.Timeout 1) ∷ []) c x.reached refl refl;
}

pub there_is_one : Election
there_is_one = let x = before_it true (Makes (event.Ask 1 sure_a drawn) ∷ Makes (event.Timeout 1) ∷ []) consistent_run.cluster consistent_run.reached refl refl in of_stood x.0 x.1

pub there_is_a_later_one : LaterElection
there_is_a_later_one = is_later there_is_one

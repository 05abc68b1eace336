-- A cluster that has just begun.
use Rattle.std.proofs.Common.{◌≡◌, inl, inr, ℕ, zero, suc, ◌<◌, get_or, length, replicate, List, [], ◌∷◌, refl, sym, ap, ◌∙◌, subst, arith}
use Rattle.outside.specs.declared.faults.KeepFail.TheVariants.{Memory}
use Rattle.raft_model.specs.Node.{Store}
use Rattle.raft_model.specs.World.{World, Begins}
use Rattle.raft_world.specs.Starting.{AreGivenBack}
use Rattle.cluster_rules.specs.Cluster.{Server, no_server}
use Rattle.cluster_requests.specs.Requests as own
use Rattle.cluster_replicas.proofs.Beginning.{as_many_start}
use Rattle.read_watch.specs.Watch.{no_sleeper}
use Rattle.cluster_works.specs.Watching.{Watching, nothing_watched}
use Rattle.cluster_works.specs.Standing.{Stands}

replicated : {A : Type 0} (count : ℕ) (x : A) → length (replicate count x) ≡ count
replicated zero x = refl
replicated (suc count) x = ap suc (replicated count x)

pub begun_stands : (watch : Watching) (stores : List Store) (count : ℕ) (w : World) (servers : List Server) → Begins stores w → 0 < count → length stores ≡ count → servers ≡ replicate count no_server → watch ≡ nothing_watched count → Stands watch w servers own.empty
begun_stands watch stores count w servers begins some size idle is =
    record {
      some = omega (arith, some, ap length idle, replicated count no_server);
      count = ap length idle ∙ replicated count no_server ∙ sym size ∙ sym (as_many_start (length stores) 1 stores w.nodes begins.nodes);
      watching = (ap (λ (x : Watching). length x.watch.servers) is ∙ replicated count no_sleeper ∙ sym (ap length idle ∙ replicated count no_server), omega (arith, ap (λ (x : Watching). x.seen) is));
      proposed = omega (arith, begins.greatest);
      ascends = tt;
      held = tt;
    }

-- where memory is short before any store is read, each is as it was
pub none_read : (stores : List Store) → 0 < length stores → AreGivenBack Memory stores stores
none_read [] some = absurd (omega (arith, some))
none_read (s ∷ stores) some = inl (refl, refl)

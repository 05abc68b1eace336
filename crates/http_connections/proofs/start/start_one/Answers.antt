use Rattle.std.proofs.Common.{◌+◌, ◌∙◌, List, arith, sym, subst}
use Rattle.serve_outside.specs.Tasks.{note_of}
use Rattle.cluster_rules.specs.Sound.{IsAmong}
use Rattle.serve_outside.specs.Links.{LinkState}
use Rattle.http_connections.specs.Runs.{TurnedAway}
use Rattle.http_connections.proofs.Runs.{launched_all, turned_none}
use Rattle.http_connections.proofs.start.start_one.Goals as goal

pub returns-in-Ok-job_of-clause-told : goal.returns-in-Ok-job_of-clause-told
returns-in-Ok-job_of-clause-told g c = λ seen a. c.launch.ensures.told seen (subst (IsAmong seen) (sym c.job_of.ensures.told) a)

pub returns-in_default-clause-turned : goal.returns-in_default-clause-turned
returns-in_default-clause-turned g c =
    let old = g.L.Listener.closed c.args.listener.now in let faults = g.Sp.Spawner.faults c.args.spawner.now in
    subst (λ (l : List LinkState). TurnedAway old l faults (faults + 0) 0) (sym c.accept.ensures.closed) (turned_none old faults (faults + 0) (omega arith))

pub launch-requires-clause-few : goal.launch-requires-clause-few
launch-requires-clause-few g c κs within = let s = c.in-Ok-job_of.ensures.shares in let few = c.requires.few in omega (arith, s, few)

pub returns-in-Ok-job_of-clause-unasked : goal.returns-in-Ok-job_of-clause-unasked
returns-in-Ok-job_of-clause-unasked g c = c.launch.ensures.unasked ∙ c.job_of.ensures.same

pub returns-in-Ok-job_of-clause-shares : goal.returns-in-Ok-job_of-clause-shares
returns-in-Ok-job_of-clause-shares g c =
    launched_all (λ t. (note_of t).0.value) (λ j. j.pass.shares) c.in-Ok-job_of.job c.launch.result c.launch.new.pass.shares c.job_of.new.pass.shares c.args.pass.now.shares c.launch.ensures.shares c.launch.ensures.job c.in-Ok-job_of.ensures.shares

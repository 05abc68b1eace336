use Rattle.std.proofs.Common.{refl, subst}
use Rattle.std.specs.Prelude.{ℕ, ◌≢◌, List}
use Rattle.cat_model.specs.declared.query.Chan.{Chan}
use Rattle.cluster_works.specs.Watching.{Sleeps, Watching}
use Rattle.cluster_works.proofs.Awake.{others_stay_by}
use Rattle.cluster_works.proofs.watch.Watching.sleep.Goals as goal

pub returns-clause-kept : goal.returns-clause-kept
returns-clause-kept c = others_stay_by c.args.self.now (record { watch = c.self.inside.watch; seen = c.self.inside.seen }) (record { watch = c.sleep.new.self; seen = c.self.inside.seen }) c.args.number c.self.view_is refl c.sleep.ensures.kept

pub returns-clause-slept : goal.returns-clause-slept
returns-clause-slept c =
    subst (λ (w : Watching). (i other : ℕ) (on : List Chan) (until : ℕ) → other ≢ c.args.number → Sleeps i other on until w → Sleeps i other on until (record { watch = c.sleep.new.self; seen = c.self.inside.seen })) c.self.view_is c.sleep.ensures.sleepers

use Rattle.std.proofs.Common.{◌∙◌, ap, cond}
use Rattle.std.specs.Ordering.{nat_cmp}
use Rattle.std.specs.Map.{lookup}
use Rattle.std.specs.BTreeMap.{is_at, insert_entry}
use Rattle.read_watch.proofs.Leavers.{hung, rested}
use Rattle.read_watch.proofs.sleepers.SleepingReads.rest.Goals as goal

pub returns-clause-sleeps : goal.returns-clause-sleeps
returns-clause-sleeps c = λ h. record {
  hangs = hung c.enter.result c.args.number c.args.chans.now c.self.inside.registry c.enter.new.registry c.enter.ensures.hangs h;
  until = c.enter.ensures.until h;
}

pub returns-clause-others : goal.returns-clause-others
returns-clause-others c = rested c.enter.result c.args.number c.args.chans.now c.args.self.now c.forget.new.self c.self.inside.registry c.enter.new.registry c.self.inside.timers c.enter.new.timers c.forget.ensures.others c.self.view_is c.enter.ensures.hangs c.enter.ensures.others

pub returns-clause-gone : goal.returns-clause-gone
returns-clause-gone c = λ h.
    ap (lookup (is_at (nat_cmp c.args.number))) (c.enter.ensures.hangs ∙ ap (λ t. cond t (insert_entry nat_cmp c.self.inside.registry c.args.number c.args.chans.now) c.self.inside.registry) h)
    ∙ ap (λ s. lookup (is_at (nat_cmp c.args.number)) s.asleep) c.self.view_is ∙ c.forget.ensures.gone

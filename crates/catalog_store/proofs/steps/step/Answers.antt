use Rattle.std.proofs.Common.{refl}
use Rattle.catalog_store.specs.States.{now_of}
use Rattle.catalog_store.proofs.Quiet.{spares_all, still_tables}
use Rattle.catalog_store.proofs.steps.step.Goals as goal

pub returns-in_ok-answer-in_default : goal.returns-in_ok-answer-in_default
returns-in_ok-answer-in_default c = record {
  step = still_tables c.args.position c.args.command.now (now_of c.args.tables.now) (now_of c.apply_other.new.tables) c.in_ok-answer-in_default.answer c.in_ok-answer-in_default.chans c.in_ok-answer-in_default.ensures.acts
      (spares_all c.args.command.now c.apply_other.ensures.kind)
      (record { chans = c.in_ok-answer-in_default.chans; freed = c.new-freed.result }) refl c.new-freed.ensures;
  before = c.apply_other.ensures.before;
}

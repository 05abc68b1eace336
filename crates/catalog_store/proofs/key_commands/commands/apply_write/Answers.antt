use Rattle.std.proofs.Common.{sym, ◌∙◌}
use Rattle.cat_model.specs.declared.command.Command.TheVariants.{KvSet, KvCas, KvUnlock}
use Rattle.catalog_store.proofs.Commands.{told}
use Rattle.catalog_store.proofs.key_commands.commands.apply_write.Goals as goal

pub returns-in-KvSet-clause-step : goal.returns-in-KvSet-clause-step
returns-in-KvSet-clause-step c =
    told c.args.session_known c.args.version c.writing-w.result.version c.args.position c.writing-w.result.position c.args.command.now (KvSet c.writing-w.result.key.now c.writing-w.result.flags c.writing-w.result.value.now) c.args.table.now c.write.new.table c.write.result c.writing-w.ensures.at.0 c.writing-w.ensures.at.1
    ((λ j. KvSet (c.writing-w.ensures.row.0 j) (c.writing-w.ensures.row.1 j) (c.writing-w.ensures.row.2 j)) ∙ sym c.in-KvSet.is)
    c.write.ensures.step

pub returns-in-KvCas-clause-step : goal.returns-in-KvCas-clause-step
returns-in-KvCas-clause-step c =
    told c.args.session_known c.args.version c.writing-w-in-KvCas.result.version c.args.position c.writing-w-in-KvCas.result.position c.args.command.now (KvCas c.writing-w-in-KvCas.result.key.now c.writing-w-in-KvCas.result.flags c.writing-w-in-KvCas.result.value.now c.in-KvCas.index) c.args.table.now c.check_and_set.new.table c.check_and_set.result c.writing-w-in-KvCas.ensures.at.0 c.writing-w-in-KvCas.ensures.at.1
    ((λ j. KvCas (c.writing-w-in-KvCas.ensures.row.0 j) (c.writing-w-in-KvCas.ensures.row.1 j) (c.writing-w-in-KvCas.ensures.row.2 j) c.in-KvCas.index) ∙ sym c.in-KvCas.is)
    c.check_and_set.ensures.step

pub returns-in-KvUnlock-clause-step : goal.returns-in-KvUnlock-clause-step
returns-in-KvUnlock-clause-step c =
    told c.args.session_known c.args.version c.writing-w-in-KvUnlock.result.version c.args.position c.writing-w-in-KvUnlock.result.position c.args.command.now (KvUnlock c.writing-w-in-KvUnlock.result.key.now c.writing-w-in-KvUnlock.result.flags c.writing-w-in-KvUnlock.result.value.now c.in-KvUnlock.session) c.args.table.now c.release.new.table c.release.result c.writing-w-in-KvUnlock.ensures.at.0 c.writing-w-in-KvUnlock.ensures.at.1
    ((λ j. KvUnlock (c.writing-w-in-KvUnlock.ensures.row.0 j) (c.writing-w-in-KvUnlock.ensures.row.1 j) (c.writing-w-in-KvUnlock.ensures.row.2 j) c.in-KvUnlock.session) ∙ sym c.in-KvUnlock.is)
    c.release.ensures.step

use Rattle.std.proofs.Common.{subst, refl, sym}
use Rattle.std.proofs.lemmas.List.{take_all}
use Rattle.std.proofs.lemmas.List.Elements.{All-more, All-same}
use Rattle.store_records.specs.Records.{IsEntry}
use Rattle.file_keeper.proofs.file_keeper.all_are_entries.Goals as goal

pub loop-entry-preserved : goal.loop-entry-preserved
loop-entry-preserved c =
    All-more IsEntry c.args.entries.now c.loop-entry.entry-index c.entry-item.result c.loop-entry-test.true c.loop-entry.invariant
    (subst IsEntry c.entry-item.is (c.is_entry.ensures.0 c.if-not-is_entry.false))

pub returns : goal.returns
returns c =
    (λ _. All-same IsEntry _ _ (sym (take_all c.loop-entry.entry-index c.args.entries.now c.loop-entry-test.false)) c.loop-entry.invariant, λ _. refl)

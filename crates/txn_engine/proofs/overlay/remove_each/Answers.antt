use Rattle.std.proofs.Common.{◌∙◌, sym, ap, subst}
use Rattle.cat_model.specs.Keys.{text_cmp}
use Rattle.cat_model.specs.Tables.{put}
use Rattle.txn_engine.specs.declared.change.Change.{Change}
use Rattle.txn_engine.specs.Changes.{change_key, WrittenAt}
use Rattle.txn_engine.specs.Outcomes.{each_removed}
use Rattle.txn_engine.proofs.overlay.remove_each.Goals as goal

pub loop-row-preserved : goal.loop-row-preserved
loop-row-preserved c = record {
  ok =
      ap (each_removed c.next.new.self) (c.in_ok-put_change.ensures.ok ∙ ap (λ (x : Change). put text_cmp change_key x c.loop-row.changes.now) c.in_ok-removal.ensures)
      ∙ ap (λ l. each_removed l c.loop-row.changes.now) (sym c.in-Some.ensures.steps) ∙ c.loop-row.invariant.ok;
  written = λ i all. c.put_change.ensures.written i (subst (WrittenAt i) (sym c.in_ok-removal.ensures) tt) (c.loop-row.invariant.written i all);
}

pub returns-in_err-put_change-clause-written : goal.returns-in_err-put_change-clause-written
returns-in_err-put_change-clause-written c i all = c.put_change.ensures.written i (subst (WrittenAt i) (sym c.in_ok-removal.ensures) tt) (c.loop-row.invariant.written i all)

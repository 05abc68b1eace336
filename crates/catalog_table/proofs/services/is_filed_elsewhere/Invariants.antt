use Rattle.std.proofs.Common.{◌≡◌, []}
use Rattle.std.specs.List.{list_any}
use Rattle.cat_model.specs.Keys.{pair_cmp, text_cmp}
use Rattle.row_table.proofs.FiledUnder.{is_mine, onward}
use Rattle.row_table.proofs.Spans.{leading}
use Rattle.catalog_table.proofs.Labels.{is_off}
use Rattle.catalog_table.proofs.services.is_filed_elsewhere.Given as goal

abbrev pub invariant-loop-entry : goal.invariant-loop-entry
invariant-loop-entry l =
    list_any (λ h. is_off l.node h.1) (leading (is_mine text_cmp l.name) l.entry-iterator)
    ≡ list_any (λ h. is_off l.node h.1) (leading (is_mine text_cmp l.name) (onward text_cmp pair_cmp l.name ([], []) l.names.now))

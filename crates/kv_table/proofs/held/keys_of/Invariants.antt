use Rattle.std.proofs.Common.{◌≡◌, ◌++◌, [], map}
use Rattle.std.specs.Ordering.{nat_cmp}
use Rattle.cat_model.specs.Keys.{text_cmp}
use Rattle.row_table.proofs.Spans.{leading}
use Rattle.row_table.proofs.FiledUnder.{is_mine, onward}
use Rattle.kv_table.proofs.held.keys_of.Given as goal

abbrev pub invariant-loop-row : goal.invariant-loop-row
invariant-loop-row l = l.found.items ++ map (λ h. h.1) (leading (is_mine nat_cmp l.session) l.row-iterator) ≡ map (λ h. h.1) (leading (is_mine nat_cmp l.session) (onward nat_cmp text_cmp l.session [] l.held.now))

use Rattle.std.proofs.Common.{◌≡◌, ◌++◌, map}
use Rattle.std.specs.Ordering.{nat_cmp}
use Rattle.row_table.proofs.Spans.{leading}
use Rattle.row_table.proofs.FiledUnder.{is_mine, onward}
use Rattle.query_table.proofs.bound.ids_of.Given as goal

abbrev pub invariant-loop-row : goal.invariant-loop-row
invariant-loop-row l = l.found.items ++ map (λ h. h.1) (leading (is_mine nat_cmp l.session) l.row-iterator) ≡ map (λ h. h.1) (leading (is_mine nat_cmp l.session) (onward nat_cmp nat_cmp l.session 0 l.bound.now))

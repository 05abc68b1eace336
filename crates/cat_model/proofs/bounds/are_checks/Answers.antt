use Rattle.std.proofs.Common.{arith, sym}
use Rattle.std.proofs.lemmas.List.Elements.{All-same}
use Rattle.cat_model.specs.Bounds.{IsCheck}
use Rattle.cat_model.proofs.bounds.are_checks.Goals as goal

pub returns-then-len-le1048576 : goal.returns-then-len-le1048576
returns-then-len-le1048576 c = (
  λ yes. record { each = All-same IsCheck _ _ (sym c.as_slice.ensures) (c.all_are_checks.ensures.0 yes); to = omega arith },
  λ bounded. c.all_are_checks.ensures.1 (All-same IsCheck _ _ c.as_slice.ensures bounded.each),
)

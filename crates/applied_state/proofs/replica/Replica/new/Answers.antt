use Rattle.std.proofs.Common.{Option, subst, sym, arith}
use Rattle.std.proofs.lemmas.Grind.{common_steps}
use Rattle.cat_model.specs.Machine.{catalog_at}
use Rattle.session_ttl.specs.Timed.{AreTimed, Timers}
use Rattle.applied_state.proofs.Delaying.{delays_begin}
use Rattle.applied_state.proofs.replica.Replica.new.Goals as goal

pub invariant_of-result : goal.invariant_of-result
invariant_of-result c = (
  grind (arith, common_steps),
  grind (arith, common_steps),
  grind (arith, common_steps),
  grind (arith, common_steps),
  delays_begin c.in_ok-new-2.field-0 c.in_ok-new-2.ensures c.in_ok-new.field-0 c.in_ok-new.ensures c.new-2.result.items c.new-2.ensures.items,
  subst (λ (t : Option Timers). AreTimed t c.new-2.result.items c.new-3.result (catalog_at c.in_ok-new.field-0).sessions) (sym c.new-4.ensures) tt,
)

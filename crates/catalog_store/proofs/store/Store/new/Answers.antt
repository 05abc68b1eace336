use Rattle.std.proofs.Common.{sym, subst}
use Rattle.catalog_store.specs.Standing.{Holds}
use Rattle.catalog_store.proofs.Keeping.{first_holds}
use Rattle.catalog_store.proofs.store.Store.new.Goals as goal

pub invariant_of-result : goal.invariant_of-result
invariant_of-result c = subst (Holds c.in_ok-new.field-0) (sym c.new-2.ensures.items) (first_holds c.in_ok-new.field-0 c.in_ok-new.ensures.now c.in_ok-new.ensures.before)

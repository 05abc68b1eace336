use Rattle.std.proofs.Common.{List, subst, sym}
use Rattle.std.specs.Ordering.{nat_cmp}
use Rattle.cat_model.specs.Catalog.{session_key}
use Rattle.cat_model.specs.Tables.{Ascends}
use Rattle.cat_model.specs.declared.row.SessionRow.{SessionRow}
use Rattle.cat_model.proofs.Order.{key_order}
use Rattle.applied_state.proofs.replica.Replica.over.Goals as goal

pub over-requires-clause-order : goal.over-requires-clause-order
over-requires-clause-order c = subst (λ (l : List SessionRow). Ascends nat_cmp session_key l) (sym c.sessions.ensures.now) (key_order c.self.inside.store).sessions

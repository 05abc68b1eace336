use Rattle.std.proofs.Common.{sym, subst}
use Rattle.cat_model.specs.Tables.{Ascends}
use Rattle.cat_model.proofs.InOrder.{in_order_ascends}
use Rattle.node_rows.proofs.order.in_order.Goals as goal

pub place-requires : goal.place-requires
place-requires g c = subst (Ascends g.R.Row.cmp g.R.Row.key) (sym c.in_ok-found.ensures) (in_order_ascends g.R.Row.cmp g.R.Row.key g.met.R.Row.total g.met.R.Row.exact c.in-Some.more.now)

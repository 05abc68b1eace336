use Rattle.std.proofs.Common.{◌≡◌, ◌∙◌, ◌++◌, true, sym, ap, rules}
use Rattle.node_rows.proofs.Places.{is_ascending, in_order_already}
use Rattle.node_rows.proofs.order.ordered.Goals as goal

pub returns : goal.returns
returns g c =
    let rows = c.args.rows.now in
    let told : c.ascends.result ≡ true = search rules in
    c.in_ok-add_all.ensures ∙ ap (λ l. l ++ rows) c.new-found.ensures.items
    ∙ sym (in_order_already g.R.Row.cmp g.R.Row.key g.met.R.Row.total rows (is_ascending g.R.Row.cmp g.R.Row.key g.met.R.Row.total rows (sym c.ascends.ensures ∙ told)))

use Rattle.std.proofs.Common.{◌∙◌, sym, ap, subst}
use Rattle.cat_model.specs.Tables.{Ascends, put}
use Rattle.node_rows.proofs.Onto.{onto, onto_none, onto_last}
use Rattle.node_rows.proofs.order.placed.Goals as goal

pub loop-row-init : goal.loop-row-init
loop-row-init g c = (
  ap (onto (put g.R.Row.cmp g.R.Row.key) c.args.rows.now) c.new-found.ensures.items ∙ onto_none g.R.Row.cmp g.R.Row.key c.args.rows.now,
  subst (Ascends g.R.Row.cmp g.R.Row.key) (sym c.new-found.ensures.items) tt,
)

pub loop-row-preserved : goal.loop-row-preserved
loop-row-preserved g c =
    let found = c.loop-row.found.items in (
      ap (onto (put g.R.Row.cmp g.R.Row.key) c.in-Some.before.now) (c.in_ok-place.ensures.ok ∙ ap (λ r. put g.R.Row.cmp g.R.Row.key r found) c.in_ok-copy.ensures)
          ∙ onto_last (put g.R.Row.cmp g.R.Row.key) c.loop-row.left.now c.in-Some.before.now c.in-Some.row.now found _ c.in-Some.ensures.cases.0 c.loop-row.invariant.0,
      c.in_ok-place.ensures.order,
    )

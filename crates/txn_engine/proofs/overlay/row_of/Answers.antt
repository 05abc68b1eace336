use Rattle.std.proofs.Common.{◌∙◌, sym, ap, Some, None}
use Rattle.std.specs.Option.{option_copied}
use Rattle.txn_engine.specs.declared.change.Change.TheVariants.{Put, Removed}
use Rattle.txn_engine.proofs.Laid.{shown}
use Rattle.txn_engine.proofs.overlay.row_of.Goals as goal

pub returns-in-None : goal.returns-in-None
returns-in-None g c =
    c.row.ensures ∙ shown c.args.key.now c.args.changes.now.now (g.R.KvRows.rows c.args.rows.now) c.in_order.ensures None (sym c.get.ensures ∙ ap option_copied c.in-None.is)

pub returns-in-Some-Put : goal.returns-in-Some-Put
returns-in-Some-Put g c =
    shown c.args.key.now c.args.changes.now.now (g.R.KvRows.rows c.args.rows.now) c.in_order.ensures (Some (Put c.in-Some-Put.row)) (sym c.get.ensures ∙ ap option_copied c.in-Some-Put.is ∙ ap (λ x. Some x) c.in-Some-Put.field-0-is)

pub returns-in-Some-Removed : goal.returns-in-Some-Removed
returns-in-Some-Removed g c =
    shown c.args.key.now c.args.changes.now.now (g.R.KvRows.rows c.args.rows.now) c.in_order.ensures (Some (Removed c.in-Some-Removed.field-0-0)) (sym c.get.ensures ∙ ap option_copied c.in-Some-Removed.is ∙ ap (λ x. Some x) c.in-Some-Removed.field-0-is)

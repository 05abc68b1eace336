use Rattle.std.proofs.Common.{◌∙◌, sym, ap, Some}
use Rattle.std.specs.Option.{option_copied}
use Rattle.touch_positions.proofs.Own.{own_is, position_in}
use Rattle.touch_positions.proofs.names.own.Goals as goal

pub returns-in-Some : goal.returns-in-Some
returns-in-Some c = ap (λ e. Some e.1) c.entry.view_is ∙ sym (own_is c.args.name.now c.args.table.now.now ∙ ap position_in (sym c.get.ensures ∙ ap option_copied c.in-Some.is))

pub returns-in-None : goal.returns-in-None
returns-in-None c = sym (own_is c.args.name.now c.args.table.now.now ∙ ap position_in (sym c.get.ensures ∙ ap option_copied c.in-None.is))

use Rattle.std.proofs.Common.{◌∙◌, sym, ap, max}
use Rattle.std.specs.Option.{option_copied}
use Rattle.kv_table.proofs.TombLemmas.{found_or, last_found}
use Rattle.kv_table.proofs.tombs.last_at.Goals as goal

pub returns-in-Some : goal.returns-in-Some
returns-in-Some c =
    c.max.ensures ∙ ap (λ t. max t.1 c.args.floor) c.tomb.view_is
    ∙ sym (last_found c.args.key.now c.args.floor c.args.tombs.now.now c.in_order.ensures ∙ ap (λ o. found_or o c.args.floor) (sym c.get.ensures ∙ ap option_copied c.in-Some.is))

pub returns-in-None : goal.returns-in-None
returns-in-None c = sym (last_found c.args.key.now c.args.floor c.args.tombs.now.now c.in_order.ensures ∙ ap (λ o. found_or o c.args.floor) (sym c.get.ensures ∙ ap option_copied c.in-None.is))

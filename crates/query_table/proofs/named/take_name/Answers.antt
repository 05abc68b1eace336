use Rattle.std.proofs.Common.{◌∙◌, sym, ap, Some}
use Rattle.std.specs.Option.{option_copied}
use Rattle.std.specs.Ordering.{nat_cmp}
use Rattle.cat_model.specs.Keys.{text_cmp}
use Rattle.row_table.specs.Filing.{unfiled, place_of}
use Rattle.query_table.specs.Places.{name_of}
use Rattle.query_table.proofs.named.take_name.Goals as goal

pub returns-in-Some-clause-now : goal.returns-in-Some-clause-now
returns-in-Some-clause-now c =
    c.remove.ensures.rows ∙ ap (λ n. unfiled text_cmp nat_cmp (Some n) c.args.id c.args.names.now.now) c.as_str.ensures
    ∙ ap (λ o. unfiled text_cmp nat_cmp (place_of name_of o) c.args.id c.args.names.now.now) (ap option_copied (sym c.in-Some.is) ∙ c.get.ensures)

pub returns-in-None-clause-now : goal.returns-in-None-clause-now
returns-in-None-clause-now c = ap (λ o. unfiled text_cmp nat_cmp (place_of name_of o) c.args.id c.args.names.now.now) (ap option_copied (sym c.in-None.is) ∙ c.get.ensures)

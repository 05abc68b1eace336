use Rattle.std.proofs.Common.{◌∙◌, sym, ap}
use Rattle.std.specs.Option.{option_copied}
use Rattle.cat_model.specs.Keys.{text_cmp}
use Rattle.row_table.specs.Filing.{is_place, place_of}
use Rattle.row_table.proofs.Places.{text_place}
use Rattle.catalog_table.specs.Filings.{service_of}
use Rattle.catalog_table.proofs.served.keeps_service.Goals as goal

pub returns-in-Some : goal.returns-in-Some
returns-in-Some c =
    c.is_same.ensures ∙ text_place c.in-Some.old.now.service c.args.row.now.service
    ∙ ap (λ o. is_place text_cmp c.args.row.now.service (place_of service_of o)) (ap option_copied (sym c.in-Some.is) ∙ c.get.ensures)

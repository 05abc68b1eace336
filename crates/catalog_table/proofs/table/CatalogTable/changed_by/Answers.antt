use Rattle.std.proofs.Common.{◌∙◌, refl, ap, not}
use Rattle.cat_model.specs.Keys.{is_empty}
use Rattle.catalog_table.specs.Changes.{gone_of}
use Rattle.catalog_table.proofs.Telling.{told}
use Rattle.catalog_table.proofs.table.CatalogTable.changed_by.Goals as goal

pub returns : goal.returns
returns c = λ old touches known.
    told c.args.node.now old c.args.self.now.now c.args.touched _ touches refl
    (c.is_some_of-services.ensures ∙ ap (λ l. not (is_empty l)) c.as_slice.ensures)
    (c.is_some_of-checks.ensures ∙ ap (λ l. not (is_empty l)) c.as_slice-2.ensures)
    c.in_ok-names.ensures.among c.in_ok-names.ensures.once
    c.args.known known
    (c.in_ok-vanished.ensures ∙ ap (λ names. gone_of c.args.self.now.now names c.args.known) c.as_slice-3.ensures)

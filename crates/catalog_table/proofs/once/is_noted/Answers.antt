use Rattle.std.proofs.Common.{◌∙◌, ap, is_some}
use Rattle.cat_model.specs.Keys.{text_cmp}
use Rattle.cat_model.specs.Tables.{row_at}
use Rattle.catalog_table.specs.Names.{text_of}
use Rattle.catalog_table.proofs.Naming.{among_found, copied_there}
use Rattle.catalog_table.proofs.once.is_noted.Goals as goal

pub returns : goal.returns
returns c =
    let rows = c.args.found.now.now in
    c.is_some.ensures ∙ copied_there c.get.result ∙ ap is_some (c.get.ensures ∙ ap (λ t. row_at text_cmp text_of t rows) c.as_str.ensures) ∙ among_found rows c.args.text.now

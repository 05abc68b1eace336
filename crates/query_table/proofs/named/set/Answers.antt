use Rattle.std.proofs.Common.{◌∙◌, sym, ap, subst}
use Rattle.cat_model.specs.Keys.{text_cmp}
use Rattle.row_table.specs.Filing.{is_place}
use Rattle.query_table.specs.Places.{FilesNames}
use Rattle.query_table.proofs.Renaming.{either, kept}
use Rattle.query_table.proofs.named.set.Goals as goal

pub returns-then-is_same-clause-files : goal.returns-then-is_same-clause-files
returns-then-is_same-clause-files c =
    let rows = c.args.rows.now.now in let names = c.args.names.now.now in
    either c.replace.result _ _ _ c.replace.ensures.ok c.replace.ensures.err
    (λ made. kept rows c.replace.new.rows.now names c.args.row c.in_ok-old.old c.requires.files c.in_ok-old.ensures (ap (λ n. is_place text_cmp n c.in_ok-old.old) (sym c.as_str.ensures) ∙ sym c.is_same.ensures ∙ c.if-is_same.true) made)
    (λ stays. subst (λ l. FilesNames l names) (sym stays) c.requires.files)

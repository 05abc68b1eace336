use Rattle.std.proofs.Common.{◌≡◌, ◌∙◌, ap, Some}
use Rattle.std.specs.Ordering.{nat_cmp}
use Rattle.cat_model.specs.Keys.{text_cmp}
use Rattle.cat_model.proofs.Clones.{text_same}
use Rattle.row_table.specs.Filing.{filed, unfiled}
use Rattle.query_table.proofs.Renaming.{back, moved}
use Rattle.query_table.proofs.named.rename.Goals as goal

pub returns-in-Err-clause-files : goal.returns-in-Err-clause-files
returns-in-Err-clause-files c =
    let name = c.args.row.name in let id = c.args.row.id in let names = c.args.names.now.now in
    let new : c.in_ok-clone.field-0 ≡ name = text_same name c.in_ok-clone.field-0 c.in_ok-clone.ensures.cases in
    let filed_one : c.in_ok-clone-2.field-0 ≡ name = text_same name c.in_ok-clone-2.field-0 c.in_ok-clone-2.ensures.cases in
    back c.args.rows.now.now c.replace.new.rows.now names c.unfile.new.names.now id name c.args.old.now c.requires.files c.requires.old c.requires.new c.in-Err.ensures.err
    (c.unfile.ensures.now ∙ ap (λ n. unfiled text_cmp nat_cmp (Some n) id c.file.new.names.now) new
    ∙ ap (unfiled text_cmp nat_cmp (Some name) id) (c.in_ok-file.ensures.ok ∙ ap (λ n. filed text_cmp nat_cmp (Some n) id names) filed_one))

pub returns-clause-files : goal.returns-clause-files
returns-clause-files c =
    let name = c.args.row.name in let id = c.args.row.id in let names = c.args.names.now.now in
    let filed_one : c.in_ok-clone-2.field-0 ≡ name = text_same name c.in_ok-clone-2.field-0 c.in_ok-clone-2.ensures.cases in
    moved c.args.rows.now.now c.replace.new.rows.now names c.unfile-2.new.names.now c.args.row c.args.old.now c.requires.files c.requires.old c.requires.new c.in_default.ensures.ok
    (c.unfile-2.ensures.now ∙ ap (unfiled text_cmp nat_cmp c.args.old.now id) (c.in_ok-file.ensures.ok ∙ ap (λ n. filed text_cmp nat_cmp (Some n) id names) filed_one))

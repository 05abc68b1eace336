use Rattle.std.proofs.Common.{rules, ◌∙◌, ap, filter, Bool, List}
use Rattle.std.proofs.lemmas.Result.{IfOk-weaker}
use Rattle.cat_model.specs.Machine.{broken}
use Rattle.cat_model.specs.declared.row.SessionRow.{SessionRow}
use Rattle.session_table.specs.Nodes.{is_on_some}
use Rattle.catalog_table.specs.Rows.{catalog_of}
use Rattle.catalog_store.proofs.Unbroken.{picked}
use Rattle.catalog_store.proofs.sessions.broken_among.Goals as goal

pub returns : goal.returns
returns c =
    let sessions : List SessionRow = c.args.sessions.now.now in let lost = c.args.lost.now in let fails : SessionRow → Bool = broken (catalog_of c.args.catalog.now.now) in
    IfOk-weaker c.kept.result _ _
    (λ l h. h fails (λ x b of. search rules)
    ∙ ap (filter fails) (c.as_slice.ensures ∙ c.in_ok-some.ensures ∙ ap (λ n. filter (is_on_some n lost) sessions) c.as_str.ensures) ∙ picked fails c.args.node.now lost sessions c.requires)
    c.kept.ensures

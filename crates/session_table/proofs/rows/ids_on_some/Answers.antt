use Rattle.std.proofs.Common.{◌≡◌, ◌+◌, ◌++◌, ◌||◌, [], ◌∷◌, take, sym, ◌∙◌, ap, filter, map}
use Rattle.std.proofs.lemmas.List.{take_all, take_more}
use Rattle.std.proofs.lemmas.Result.{IfOk-weaker}
use Rattle.cat_model.specs.Catalog.{session_at, session_key}
use Rattle.row_table.specs.Tests.{passes}
use Rattle.session_table.specs.Nodes.{is_on, is_on_some}
use Rattle.session_table.specs.Places.{has_id}
use Rattle.session_table.proofs.Finding.{has_passing, ids_are, one_more_check}
use Rattle.session_table.proofs.rows.ids_on_some.Goals as goal

pub loop-check-preserved : goal.loop-check-preserved
loop-check-preserved c = λ k.
    let node = c.args.node.now in let checks = c.args.checks.now in let i = c.loop-check.check-index in let check = c.check-item.result in let rows = c.args.rows.now.now in
    let front : take (i + 1) checks ≡ take i checks ++ check ∷ [] = take_more checks i check c.loop-check-test.true ∙ ap (λ y. take i checks ++ y ∷ []) (sym c.check-item.is) in
    let more : has_id k c.as_slice.result.now ≡ passes (is_on node check) (session_at k rows) =
    ap (has_id k) (c.as_slice.ensures.value ∙ c.in_ok-more.ensures ∙ ap (λ t. map session_key (filter (is_on node t) rows)) c.as_str.ensures) ∙ has_passing (is_on node check) k rows c.in_order.ensures in
    c.in_ok-add_each.ensures k ∙ (λ j. more j || c.loop-check.invariant k j) ∙ one_more_check node check (take i checks) (session_at k rows) ∙ ap (λ l. passes (is_on_some node l) (session_at k rows)) (sym front)

pub returns : goal.returns
returns c =
    let node = c.args.node.now in let checks = c.args.checks.now in let rows = c.args.rows.now.now in
    IfOk-weaker c.listed.result _ _
    (λ v e. e ∙ ids_are (is_on_some node checks) rows c.loop-check.ids.now c.in_order.ensures c.in_order-2.ensures
    (λ k. c.loop-check.invariant k ∙ ap (λ l. passes (is_on_some node l) (session_at k rows)) (take_all c.loop-check.check-index checks c.loop-check-test.false)))
    c.listed.ensures

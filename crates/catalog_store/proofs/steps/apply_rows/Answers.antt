use Rattle.std.proofs.Common.{◌∙◌, ◌≡◌, ℕ, List, refl, sym, ap, subst, filter}
use Rattle.cat_model.specs.declared.row.SessionRow.{SessionRow}
use Rattle.cat_model.specs.Machine.{broken}
use Rattle.catalog_table.specs.Rows.{catalog_of}
use Rattle.session_table.specs.Nodes.{is_of_node}
use Rattle.catalog_store.specs.States.{State, now_of}
use Rattle.catalog_store.specs.Ending.{Ends}
use Rattle.catalog_store.proofs.Endings.{gone_order, rows_ended}
use Rattle.catalog_store.specs.Lost.{OthersWhole}
use Rattle.catalog_store.proofs.Unbroken.{others_whole}
use Rattle.catalog_store.proofs.steps.apply_rows.Goals as goal

pub broken_among-requires : goal.broken_among-requires
broken_among-requires c =
    let t = c.change_rows.new.tables in let old : State = now_of c.args.tables.now in let command = c.args.command.now in let node = c.args.node.now in
    subst (λ (l : List SessionRow). OthersWhole node c.as_slice.result.now t.catalog.now l) (ap (λ (s : State). s.sessions) (sym c.in_ok-answer.ensures.others))
    (subst (λ (l : List (List ℕ)). OthersWhole node l t.catalog.now old.sessions) (sym (c.as_slice.ensures ∙ c.in_ok-lost.ensures))
    (others_whole c.args.position command old t.catalog.now t.indexes.now c.in_ok-answer.answer c.in_ok-answer.chans node c.requires.kind c.in_order.ensures c.in_ok-answer.ensures.step c.requires.ready c.requires.node))

pub end-requires-clause-order : goal.end-requires-clause-order
end-requires-clause-order c =
    let t = c.change_rows.new.tables in
    let gone_is : c.as_slice-2.result.now ≡ filter (broken (catalog_of t.catalog.now)) (filter (is_of_node c.args.node.now) c.args.tables.now.sessions.now) = c.as_slice-2.ensures ∙ c.in_ok-gone.ensures ∙ ap (λ (s : State). filter (broken (catalog_of t.catalog.now)) (filter (is_of_node c.args.node.now) s.sessions)) c.in_ok-answer.ensures.others in
    gone_order c.args.position c.args.command.now c.requires.kind (now_of c.args.tables.now) c.requires.ready c.in_order.ensures t.catalog.now t.indexes.now c.in_ok-answer.answer c.in_ok-answer.chans c.in_ok-answer.ensures.step c.args.node.now c.requires.node c.as_slice-2.result.now gone_is

pub returns-clause-step : goal.returns-clause-step
returns-clause-step c =
    let t = c.change_rows.new.tables in
    let gone_is : c.as_slice-2.result.now ≡ filter (broken (catalog_of t.catalog.now)) (filter (is_of_node c.args.node.now) c.args.tables.now.sessions.now) = c.as_slice-2.ensures ∙ c.in_ok-gone.ensures ∙ ap (λ (s : State). filter (broken (catalog_of t.catalog.now)) (filter (is_of_node c.args.node.now) s.sessions)) c.in_ok-answer.ensures.others in
    rows_ended c.args.position c.args.command.now c.requires.kind (now_of c.args.tables.now) c.requires.ready c.in_order.ensures t.catalog.now t.indexes.now c.in_ok-answer.answer c.in_ok-answer.chans c.in_ok-answer.ensures.step c.args.node.now c.requires.node c.as_slice-2.result.now gone_is
    (now_of c.end.new.tables) c.in_ok-ended.ended (record { chans = c.in_ok-chans.chans; freed = c.in_ok-ended.ended.freed })
    (subst (λ (s : State). Ends c.args.position c.as_slice-2.result.now s (now_of c.end.new.tables) c.in_ok-ended.ended) c.in_ok-answer.ensures.others c.in_ok-ended.ensures.ends)
    c.in_ok-chans.ensures refl

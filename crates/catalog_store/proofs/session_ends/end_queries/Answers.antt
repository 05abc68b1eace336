use Rattle.std.proofs.Common.{◌∙◌, ◌≡◌, ◌+◌, ◌||◌, ◌++◌, [], ◌∷◌, List, take, sym, ap, refl}
use Rattle.std.specs.List.{list_any}
use Rattle.std.proofs.lemmas.List.{take_more, take_all}
use Rattle.cat_model.specs.Tables.{without}
use Rattle.cat_model.specs.declared.row.SessionRow.{SessionRow}
use Rattle.cat_model.specs.declared.row.QueryRow.{QueryRow}
use Rattle.query_table.specs.States.{is_bound_to}
use Rattle.catalog_store.specs.Ending.{is_orphan}
use Rattle.catalog_store.proofs.Loops.{orphans_first, orphans_more, orphans_told}
use Rattle.catalog_store.proofs.session_ends.end_queries.Goals as goal

pub loop-session-init : goal.loop-session-init
loop-session-init c = ((orphans_first c.args.queries.now.now).0, (orphans_first c.args.queries.now.now).1, refl)

pub loop-session-preserved : goal.loop-session-preserved
loop-session-preserved c =
    let xs : List SessionRow = take c.loop-session.session-index c.args.gone.now in
    let s : SessionRow = c.session-item.result in
    let rows : List QueryRow = c.args.queries.now.now in
    let front : take (c.loop-session.session-index + 1) c.args.gone.now ≡ xs ++ s ∷ [] = take_more c.args.gone.now c.loop-session.session-index s c.loop-session-test.true ∙ ap (λ (y : SessionRow). xs ++ y ∷ []) (sym c.session-item.is) in
    let there = c.in_ok-there.ensures.told ∙ ap (list_any (is_bound_to s.id)) c.loop-session.invariant.0 in (
      c.in_ok-there.ensures.rows ∙ ap (without (is_bound_to s.id)) c.loop-session.invariant.0 ∙ orphans_more xs s rows ∙ ap (λ l. without (is_orphan l) rows) (sym front),
      c.either-some.ensures ∙ (λ j. c.loop-session.invariant.1 j || there j) ∙ orphans_told xs s rows ∙ ap (λ l. list_any (is_orphan l) rows) (sym front),
      c.unbind.ensures.before ∙ c.loop-session.invariant.2,
    )

pub returns-clause-rows : goal.returns-clause-rows
returns-clause-rows c = c.loop-session.invariant.0 ∙ ap (λ l. without (is_orphan l) c.args.queries.now.now) (take_all c.loop-session.session-index c.args.gone.now c.loop-session-test.false)

pub returns-clause-told : goal.returns-clause-told
returns-clause-told c = c.loop-session.invariant.1 ∙ ap (λ l. list_any (is_orphan l) c.args.queries.now.now) (take_all c.loop-session.session-index c.args.gone.now c.loop-session-test.false)

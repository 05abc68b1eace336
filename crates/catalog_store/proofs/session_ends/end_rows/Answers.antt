use Rattle.std.proofs.Common.{◌∙◌, ◌≡◌, ◌+◌, ◌||◌, ◌++◌, [], ◌∷◌, List, take, sym, ap, refl, is_some}
use Rattle.std.specs.List.{list_any}
use Rattle.std.specs.Ordering.{is_eq, nat_cmp}
use Rattle.std.proofs.lemmas.List.{take_more, take_all}
use Rattle.cat_model.specs.Tables.{without}
use Rattle.cat_model.specs.Catalog.{session_at}
use Rattle.cat_model.specs.declared.row.SessionRow.{SessionRow}
use Rattle.catalog_store.specs.Ending.{is_gone}
use Rattle.catalog_store.proofs.Loops.{gone_first, end_more, end_told, found_any}
use Rattle.catalog_store.proofs.session_ends.end_rows.Goals as goal

pub loop-session-init : goal.loop-session-init
loop-session-init c = ((gone_first c.args.sessions.now.now).0, (gone_first c.args.sessions.now.now).1, refl)

pub loop-session-preserved : goal.loop-session-preserved
loop-session-preserved c =
    let xs : List SessionRow = take c.loop-session.session-index c.args.gone.now in
    let s : SessionRow = c.session-item.result in
    let rows : List SessionRow = c.args.sessions.now.now in
    let front : take (c.loop-session.session-index + 1) c.args.gone.now ≡ xs ++ s ∷ [] = take_more c.args.gone.now c.loop-session.session-index s c.loop-session-test.true ∙ ap (λ (y : SessionRow). xs ++ y ∷ []) (sym c.session-item.is) in
    let there = c.end-there.ensures.there ∙ ap (λ (l : List SessionRow). is_some (session_at s.id l)) c.loop-session.invariant.0 ∙ found_any (λ (r : SessionRow). is_eq (nat_cmp s.id r.id)) (without (is_gone xs) rows) in (
      c.end-there.ensures.rows ∙ ap (without (λ (r : SessionRow). is_eq (nat_cmp s.id r.id))) c.loop-session.invariant.0 ∙ end_more xs s rows ∙ ap (λ l. without (is_gone l) rows) (sym front),
      c.either-some.ensures ∙ (λ j. c.loop-session.invariant.1 j || there j) ∙ end_told xs s rows ∙ ap (λ l. list_any (is_gone l) rows) (sym front),
      c.end-there.ensures.before ∙ c.loop-session.invariant.2,
    )

pub returns-clause-rows : goal.returns-clause-rows
returns-clause-rows c = c.loop-session.invariant.0 ∙ ap (λ l. without (is_gone l) c.args.sessions.now.now) (take_all c.loop-session.session-index c.args.gone.now c.loop-session-test.false)

pub returns-clause-told : goal.returns-clause-told
returns-clause-told c = c.loop-session.invariant.1 ∙ ap (λ l. list_any (is_gone l) c.args.sessions.now.now) (take_all c.loop-session.session-index c.args.gone.now c.loop-session-test.false)

use Rattle.std.proofs.Common.{◌≡◌, ◌++◌, ◌∷◌, [], ℕ, List, None, take, map, filter, sym, ◌∙◌, ap, subst}
use Rattle.std.specs.Ordering.{nat_cmp}
use Rattle.std.proofs.lemmas.List.{take_more, take_all}
use Rattle.std.proofs.lemmas.Cmp.{nat_cmp_total}
use Rattle.cat_model.specs.Catalog.{kv_key, session_at, session_key}
use Rattle.cat_model.specs.declared.row.SessionRow.{SessionRow}
use Rattle.kv_table.specs.States.{is_held_by}
use Rattle.catalog_store.specs.Freeing.{Notes, NotesOf}
use Rattle.catalog_store.proofs.FreeingTables.{none_in_front}
use Rattle.catalog_store.proofs.FreeingNotes.{notes_of_none, notes_of_more}
use Rattle.catalog_store.proofs.key_commands.freed_keys.note_all.Goals as goal

pub loop-session-init : goal.loop-session-init
loop-session-init c = subst (NotesOf [] c.args.table.now.now.rows) (sym c.new-found.ensures.now) (notes_of_none c.args.table.now.now.rows)

pub loop-session-preserved : goal.loop-session-preserved
loop-session-preserved c =
    let done : List SessionRow = take c.loop-session.session-index c.args.gone.now in
    let s : SessionRow = c.session-item.result in
    let other : session_at s.id done ≡ None =
    ap (λ (x : SessionRow). session_at x.id done) c.session-item.is ∙ none_in_front nat_cmp session_key nat_cmp_total c.args.gone.now c.loop-session.session-index s c.loop-session-test.true c.requires in
    let notes : Notes s (map kv_key (filter (is_held_by s.id) c.args.table.now.now.rows)) c.loop-session.found.now c.note_each.new.found.now =
    subst (λ (l : List (List ℕ)). Notes s l c.loop-session.found.now c.note_each.new.found.now) (c.as_slice.ensures ∙ c.in_ok-keys.ensures.keys) c.in_ok-note_each.ensures in
    subst (λ (l : List SessionRow). NotesOf l c.args.table.now.now.rows c.note_each.new.found.now)
    (sym (take_more c.args.gone.now c.loop-session.session-index s c.loop-session-test.true ∙ ap (λ (y : SessionRow). done ++ y ∷ []) (sym c.session-item.is)))
    (notes_of_more done s other c.args.table.now.now.rows c.loop-session.found.now c.note_each.new.found.now c.in_order.ensures c.loop-session.invariant notes)

pub returns-clause-found : goal.returns-clause-found
returns-clause-found c = subst (λ (l : List SessionRow). NotesOf l c.args.table.now.now.rows c.loop-session.found.now) (take_all c.loop-session.session-index c.args.gone.now c.loop-session-test.false) c.loop-session.invariant

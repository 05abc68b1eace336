use Rattle.std.proofs.Common.{◌++◌, ◌∷◌, [], ℕ, List, take, sym, ◌∙◌, ap, subst}
use Rattle.std.proofs.lemmas.List.{take_more, take_all}
use Rattle.cat_model.specs.Keys.{text_cmp}
use Rattle.cat_model.specs.Tables.{put}
use Rattle.catalog_store.specs.Freeing.{Notes, holding_key}
use Rattle.catalog_store.proofs.FreeingNotes.{notes_none, notes_more}
use Rattle.catalog_store.proofs.key_commands.freed_keys.note_each.Goals as goal

pub loop-key-init : goal.loop-key-init
loop-key-init c = notes_none c.args.session.now c.args.found.now.now

pub loop-key-preserved : goal.loop-key-preserved
loop-key-preserved c =
    let done : List (List ℕ) = take c.loop-key.key-index c.args.keys.now in
    subst (λ (l : List (List ℕ)). Notes c.args.session.now l c.args.found.now.now c.note.new.found.now)
    (sym (take_more c.args.keys.now c.loop-key.key-index c.key-item.result c.loop-key-test.true ∙ ap (λ (y : List ℕ). done ++ y ∷ []) (sym c.key-item.is)))
    (notes_more c.args.session.now done c.key-item.result c.args.found.now.now c.loop-key.found.now c.note.new.found.now c.loop-key.invariant
    (c.in_ok-note.ensures ∙ ap (λ h. put text_cmp holding_key h c.loop-key.found.now) c.in_ok-holding_of.ensures))

pub returns : goal.returns
returns c = subst (λ (l : List (List ℕ)). Notes c.args.session.now l c.args.found.now.now c.loop-key.found.now) (take_all c.loop-key.key-index c.args.keys.now c.loop-key-test.false) c.loop-key.invariant

use Rattle.std.proofs.Common.{◌∙◌, ◌||◌, sym, ap, map}
use Rattle.cat_model.specs.Keys.{same_text}
use Rattle.catalog_table.specs.Names.{is_among, text_of}
use Rattle.catalog_table.proofs.Naming.{among_put, or_assoc}
use Rattle.catalog_table.proofs.once.note_each.Goals as goal

pub loop-text-preserved : goal.loop-text-preserved
loop-text-preserved c = λ name.
    let rest = c.next.new.self.rest.items in let before = c.loop-text.found.now in let text = c.in-Some.text in
    ap (λ l. is_among (map text_of l) name || is_among rest name) c.in_ok-note.ensures
    ∙ ap (λ b. b || is_among rest name) (among_put (record { text = text }) before name)
    ∙ or_assoc (is_among (map text_of before) name) (same_text name text) (is_among rest name)
    ∙ ap (λ l. is_among (map text_of before) name || is_among l name) (sym c.in-Some.ensures.steps.0)
    ∙ c.loop-text.invariant name

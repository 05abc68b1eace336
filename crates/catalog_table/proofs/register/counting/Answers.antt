use Rattle.std.proofs.Common.{◌∙◌, ◌++◌, [], ◌∷◌, sym, ap}
use Rattle.cat_model.specs.Keys.{text_cmp}
use Rattle.cat_model.specs.Tables.{put}
use Rattle.catalog_table.specs.Names.{text_of}
use Rattle.catalog_table.proofs.Counting.{counts, replaced}
use Rattle.catalog_table.proofs.register.counting.Goals as goal

pub loop-check-preserved-in_ok-push : goal.loop-check-preserved-in_ok-push
loop-check-preserved-in_ok-push c =
    let before = c.loop-check in
    counts c.args.checks.now before.left.now c.in-Some.before.now c.in-Some.check.now c.in-Some.ensures.cases.0 before.ids.now before.found.items before.invariant c.note.new.found.now c.push.new.self.items
    (sym c.is_noted.ensures ∙ c.if-not-is_noted.true) (c.in_ok-note.ensures ∙ ap (λ id. put text_cmp text_of (record { text = id }) before.ids.now) c.in_ok-id.ensures)
    (c.in_ok-push.ensures.items ∙ ap (λ x. before.found.items ++ x ∷ []) c.in_ok-copy_of.ensures)

pub loop-check-preserved : goal.loop-check-preserved
loop-check-preserved c =
    let before = c.loop-check in
    replaced c.args.checks.now before.left.now c.in-Some.before.now c.in-Some.check.now c.in-Some.ensures.cases.0 before.ids.now before.found.items before.invariant (sym c.is_noted.ensures ∙ c.if-not-is_noted.false)

use Rattle.std.proofs.Common.{◌∙◌, ◌||◌, sym, ap, subst, map}
use Rattle.std.specs.List.{IsDistinct}
use Rattle.std.proofs.lemmas.Result.{IfOk-weaker}
use Rattle.cat_model.specs.Keys.{same_text}
use Rattle.catalog_table.specs.Names.{is_among, text_of}
use Rattle.catalog_table.proofs.Naming.{distinct_rows}
use Rattle.catalog_table.proofs.once.each_once.Goals as goal

pub returns-clause-among : goal.returns-clause-among
returns-clause-among c =
    IfOk-weaker c.noted.result _ _
    (λ l e name. ap (λ m. is_among m name) e ∙ c.in_ok-note_each.ensures name ∙ ap (λ m. is_among (map text_of m) name || is_among c.into_vec.result.items name) c.new-found.ensures.now ∙ ap (λ m. is_among m name) c.into_vec.ensures)
    c.noted.ensures

pub returns-clause-once : goal.returns-clause-once
returns-clause-once c = IfOk-weaker c.noted.result _ _ (λ l e. subst (IsDistinct same_text) (sym e) (distinct_rows c.note_each.new.found.now c.in_order.ensures)) c.noted.ensures

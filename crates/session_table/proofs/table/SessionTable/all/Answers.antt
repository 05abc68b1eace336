use Rattle.std.proofs.Common.{rules, ◌≡◌, List, [], ◌∷◌, true, refl, ◌∙◌, ap, filter}
use Rattle.cat_model.specs.declared.row.SessionRow.{SessionRow}
use Rattle.session_table.proofs.table.SessionTable.all.Goals as goal

each_passes : (rows : List SessionRow) → filter (λ s. true) rows ≡ rows
each_passes [] = refl
each_passes (s ∷ rows) = ap (λ l. s ∷ l) (each_passes rows)

pub returns : goal.returns
returns c = c.from.ensures ∙ c.in_ok-rows.ensures.rows (λ s. true) (λ x b h. search rules) ∙ each_passes c.self.inside.rows.now ∙ ap (λ v. v.now) c.self.view_is

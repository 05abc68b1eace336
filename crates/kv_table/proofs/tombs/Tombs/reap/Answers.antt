use Rattle.std.proofs.Common.{rules, ◌≡◌, List, ℕ, [], ◌∷◌, true, refl, ◌∙◌}
use Rattle.cat_model.specs.Tables.{without}
use Rattle.kv_table.proofs.tombs.Tombs.reap.Goals as goal

all_gone : (tombs : List (List ℕ × ℕ)) → without (λ t. true) tombs ≡ []
all_gone [] = refl
all_gone (t ∷ tombs) = all_gone tombs

pub returns-clause-tombs : goal.returns-clause-tombs
returns-clause-tombs c = c.remove_where.ensures.rows (λ t. true) (λ x b h. search rules) ∙ all_gone c.self.inside.table.now

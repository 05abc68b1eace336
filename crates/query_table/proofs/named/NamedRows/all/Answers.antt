use Rattle.std.proofs.Common.{rules, true, ◌∙◌, sym, ap, subst}
use Rattle.std.specs.Ordering.{nat_cmp}
use Rattle.cat_model.specs.Catalog.{query_key}
use Rattle.cat_model.specs.Tables.{Ascends}
use Rattle.query_table.proofs.Finding.{each_passes}
use Rattle.query_table.proofs.named.NamedRows.all.Goals as goal

pub returns-clause-rows : goal.returns-clause-rows
returns-clause-rows c = c.from.ensures ∙ c.in_ok-rows.ensures.rows (λ s. true) (λ x b h. search rules) ∙ each_passes c.self.inside.rows.now ∙ ap (λ v. v.now) c.self.view_is

pub returns-clause-order : goal.returns-clause-order
returns-clause-order c = subst (Ascends nat_cmp query_key) (sym c.from.ensures) (c.in_ok-rows.ensures.order (λ s. true) (λ x b h. search rules))

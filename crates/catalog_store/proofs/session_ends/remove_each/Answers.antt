use Rattle.std.proofs.Common.{◌∙◌, ℕ, List, sym, ap, nat_eq}
use Rattle.std.specs.List.{list_any}
use Rattle.cat_model.specs.Tables.{without}
use Rattle.cat_model.specs.declared.row.QueryRow.{QueryRow}
use Rattle.catalog_store.proofs.Loops.{ids_none, ids_next, none_left}
use Rattle.catalog_store.proofs.session_ends.remove_each.Goals as goal

abbrev others : List ℕ → List QueryRow → List QueryRow
others ids rows = without (λ q. list_any (λ i. nat_eq q.id i) ids) rows

pub loop-id-preserved : goal.loop-id-preserved
loop-id-preserved c = (
  ap (others c.in-Some.rest.now) c.remove.ensures.rows ∙ ids_next c.in-Some.id.now c.in-Some.rest.now c.loop-id.queries.now
      ∙ ap (λ l. others l c.loop-id.queries.now) (sym c.in-Some.ensures.cases.0) ∙ c.loop-id.invariant.0,
  c.remove.ensures.before ∙ c.loop-id.invariant.1,
)

pub returns : goal.returns
returns c = record {
  rows = ids_none c.loop-id.queries.now ∙ ap (λ l. others l c.loop-id.queries.now) (sym (none_left c.loop-id.left.now c.in_default.ensures.cases)) ∙ c.loop-id.invariant.0;
  before = c.loop-id.invariant.1;
}

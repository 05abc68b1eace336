-- What queries of one node read: the rows of that node alone.
use Rattle.std.proofs.Common.{◌≡◌, ◌∙◌, ℕ, Bool, true, cond, List, [], Option, refl, sym, ap, filter, map}
use Rattle.std.proofs.lemmas.Cmp.{nat_list_cmp_total}
use Rattle.std.proofs.lemmas.Map.Lookups.{exact_bytes, exact_pairs}
use Rattle.cat_model.specs.Keys.{text_cmp, pair_cmp, same_text, is_empty}
use Rattle.cat_model.specs.Catalog.{Catalog, node_at, service_at, node_key, service_key}
use Rattle.cat_model.specs.Queries.{node_rows, checks_of, name_of, check_view, check_views, answer, answer_from, reads}
use Rattle.cat_model.specs.declared.row.NodeRow.{NodeRow}
use Rattle.cat_model.specs.declared.row.ServiceRow.{ServiceRow}
use Rattle.cat_model.specs.declared.row.CheckRow.{CheckRow}
use Rattle.cat_model.specs.declared.query.Answer.{Answer}
use Rattle.cat_model.specs.declared.query.Answer.TheVariants.{NodeView, Checks}
use Rattle.cat_model.specs.declared.query.Query.TheVariants as q
use Rattle.cat_model.proofs.Pairs.{pair_cmp_total}
use Rattle.cat_model.proofs.SameLemmas.{text_decides}
use Rattle.cat_model.proofs.TableLemmas.{row_at-filter}
use Rattle.catalog_query.proofs.Filtering.{filter_weaker, map_alike}

module _ (node : List ℕ) (k : Catalog) where
  abbrev on_node : ServiceRow → Bool
  on_node s = same_text s.node node

  abbrev checks_node : CheckRow → Bool
  checks_node c = same_text c.node node

  same_row : node_at node (node_rows node k).nodes ≡ node_at node k.nodes
  same_row = row_at-filter text_cmp node_key nat_list_cmp_total exact_bytes (λ n. same_text n node) node ((text_decides node node).1 refl) k.nodes

  pub node_view_is : NodeView (node_at node k.nodes) (filter on_node k.services) ≡ answer (q.NodeServices node) k
  unfolding answer_from reads
  node_view_is = λ i. NodeView (sym same_row i) (sym (filter_weaker on_node on_node (λ s e. e) k.services) i)

  same_service : (c : CheckRow) → checks_node c ≡ true → service_at (c.node, c.service) (filter on_node k.services) ≡ service_at (c.node, c.service) k.services
  same_service c e = row_at-filter pair_cmp service_key pair_cmp_total (exact_pairs text_cmp text_cmp exact_bytes exact_bytes) (λ p. same_text p.0 node) (c.node, c.service) e k.services

  same_view : (c : CheckRow) → checks_node c ≡ true → check_view k.services c ≡ check_view (filter on_node k.services) c
  same_view c e = ap (λ o. record { row = c; service_name = cond (is_empty c.service) [] (name_of o) }) (sym (same_service c e))

  pub node_checks_are : Checks (map (check_view k.services) (filter checks_node k.checks)) ≡ answer (q.HealthNode node) k
  unfolding answer_from reads
  node_checks_are =
      ap Checks (map_alike checks_node (check_view k.services) (check_view (filter on_node k.services)) same_view k.checks
      ∙ ap (map (check_view (filter on_node k.services))) (sym (filter_weaker checks_node checks_node (λ c e. e) k.checks)))

-- The rows of one node stand one after another, and a node has one row in the table of nodes.
use Rattle.std.proofs.Common.{◌≡◌, ℕ, Bool, true, false, ◌&&◌, cond, List, [], ◌∷◌, refl, sym, ◌∙◌, ap, subst, filter, Some}
use Rattle.std.specs.List.{AllByRecursion, cons_option}
use Rattle.std.specs.declared.cmp.Ordering.{Ordering}
use Rattle.std.specs.declared.cmp.Ordering.TheVariants.{Less, Equal, Greater}
use Rattle.std.specs.Ordering.{is_eq, is_ge, is_gt, ordering_then}
use Rattle.std.proofs.lemmas.Bool.{false≢true}
use Rattle.std.proofs.lemmas.Cmp.{tied_itself, nat_list_cmp_total}
use Rattle.std.proofs.lemmas.Map.Lookups.{CmpEqualImpliesEq, exact_bytes}
use Rattle.cat_model.specs.Keys.{text_cmp, pair_cmp, same_text}
use Rattle.cat_model.specs.Catalog.{node_at, node_key}
use Rattle.cat_model.specs.Tables.{row_at, Ascends}
use Rattle.cat_model.specs.declared.row.NodeRow.{NodeRow}
use Rattle.cat_model.proofs.SameLemmas.{text_decides}
use Rattle.row_table.proofs.Filed.{equal_is, then_equal}
use Rattle.row_table.proofs.FiledUnder.{same_test}
use Rattle.row_table.proofs.Places.{least_text, text_place, text_stand}
use Rattle.row_table.proofs.Spans.{leading, leading_is as span_is}
use Rattle.catalog_table.specs.Filings.{Pair}

-- no pair is below that of the empty texts
pub least_pair : (k : Pair) → is_ge (pair_cmp k ([], [])) ≡ true
least_pair ([], id) = least_text id
least_pair (x ∷ node, id) = refl

-- the pair is this node and this ID
pub pair_place : (node id : List ℕ) (k : Pair) → (same_text k.0 node && same_text k.1 id) ≡ is_eq (pair_cmp (node, id) k)
pair_place node id k = (λ i. text_place k.0 node i && text_place k.1 id i) ∙ sym (then_equal (text_cmp node k.0) (text_cmp id k.1))

module _ {R : Type 0} (key : R → Pair) (node : List ℕ) where
  abbrev pub on : R → Bool
  on r = same_text (key r).0 node

  -- the rows from the node's least key on
  abbrev pub onward : List R → List R
  onward rows = filter (λ r. is_ge (pair_cmp (key r) (node, []))) rows

  low : (k : Pair) → same_text k.0 node ≡ true → is_ge (pair_cmp k (node, [])) ≡ true
  low k h = ap (λ o. is_ge (ordering_then o (text_cmp k.1 []))) (ap (λ t. text_cmp t node) ((text_decides k.0 node).0 h) ∙ tied_itself nat_list_cmp_total node) ∙ least_text k.1

  between : (a b : Pair) → same_text b.0 node ≡ true → is_ge (pair_cmp a (node, [])) ≡ true → pair_cmp a b ≡ Less → same_text a.0 node ≡ true
  between a b h g l = go (text_cmp a.0 node) refl
    where
      go : (o : Ordering) → text_cmp a.0 node ≡ o → same_text a.0 node ≡ true
      go Less f = absurd (false≢true (sym (ap (λ o. is_ge (ordering_then o (text_cmp a.1 []))) f) ∙ g))
      go Equal f = (text_decides a.0 node).1 (exact_bytes a.0 node f)
      go Greater f = absurd (false≢true (sym (ap is_gt l) ∙ ap (λ o. is_gt (ordering_then o (text_cmp a.1 b.1))) (ap (text_cmp a.0) ((text_decides b.0 node).0 h) ∙ f)))

  pub range_is : (rows : List R) → Ascends pair_cmp key rows → leading on (onward rows) ≡ filter on rows
  range_is rows asc = span_is pair_cmp key (λ k. same_text k.0 node) (λ k. is_ge (pair_cmp k (node, []))) low between rows asc

  pub group_is : (rows : List R) → filter (λ r. is_eq (text_cmp (key r).0 node)) rows ≡ filter on rows
  group_is rows = same_test (λ r. is_eq (text_cmp (key r).0 node)) on rows (λ r. sym (text_stand (key r).0 node))

module _ {K R : Type 0} (cmp : K → K → Ordering) (key : R → K) (exact : CmpEqualImpliesEq cmp) (k : K) where
  none_above : (rows : List R) → AllByRecursion (λ s. cmp k (key s) ≡ Less) rows → filter (λ s. is_eq (cmp k (key s))) rows ≡ []
  none_above [] all = refl
  none_above (s ∷ rows) all = ap (λ o. cond (is_eq o) (s ∷ filter (λ q. is_eq (cmp k (key q))) rows) (filter (λ q. is_eq (cmp k (key q))) rows)) all.0 ∙ none_above rows all.1

  pub one_row : (rows : List R) → Ascends cmp key rows → filter (λ s. is_eq (cmp k (key s))) rows ≡ cons_option (row_at cmp key k rows) []
  one_row [] asc = refl
  one_row (r ∷ rows) asc = go (is_eq (cmp k (key r))) refl (one_row rows asc.1)
    where
      those : List R
      those = filter (λ s. is_eq (cmp k (key s))) rows

      go : (b : Bool) → is_eq (cmp k (key r)) ≡ b → those ≡ cons_option (row_at cmp key k rows) [] → cond b (r ∷ those) those ≡ cons_option (cond b (Some r) (row_at cmp key k rows)) []
      go true e rest = ap (λ l. r ∷ l) (none_above rows (subst (λ j. AllByRecursion (λ s. cmp j (key s) ≡ Less) rows) (sym (exact k (key r) (equal_is (cmp k (key r)) e))) asc.0))
      go false e rest = rest

pub one_node : (node : List ℕ) (rows : List NodeRow) → Ascends text_cmp node_key rows → cons_option (node_at node rows) [] ≡ filter (λ r. same_text r.node node) rows
one_node node rows asc = sym (one_row text_cmp node_key exact_bytes node rows asc) ∙ same_test (λ r. is_eq (text_cmp node r.node)) (λ r. same_text r.node node) rows (λ r. sym (text_place r.node node))

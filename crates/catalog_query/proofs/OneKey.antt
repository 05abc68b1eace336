-- The rows of one key, where the rows ascend.
use Rattle.std.proofs.Common.{◌≡◌, ◌∙◌, ◌||◌, ℕ, Bool, true, false, cond, List, [], ◌∷◌, Option, Some, None, refl, sym, ap, filter, is_some, nat_eq, Bor, option_copied}
use Rattle.std.specs.Prelude.{find}
use Rattle.std.specs.List.{AllByRecursion, list_any, cons_option}
use Rattle.std.specs.Bool.{Decides}
use Rattle.std.specs.Cmp.{IsTotalOrder}
use Rattle.std.specs.Ordering.{is_eq, nat_cmp}
use Rattle.std.specs.declared.cmp.Ordering.{Ordering}
use Rattle.std.specs.declared.cmp.Ordering.TheVariants.{Less, Equal}
use Rattle.std.proofs.lemmas.Bool.{false≢true, true≢false}
use Rattle.std.proofs.lemmas.Bool.Decides.{Decides-eqb}
use Rattle.std.proofs.lemmas.Cmp.{nat_list_cmp_total, nat_cmp_total, tied_itself}
use Rattle.std.proofs.lemmas.Map.Lookups.{CmpEqualImpliesEq, exact_bytes, exact_unsigned}
use Rattle.cat_model.specs.Keys.{text_cmp, same_text}
use Rattle.cat_model.specs.Tables.{row_at, Ascends}
use Rattle.cat_model.specs.Catalog.{kv_at, kv_key, node_at, node_key, session_at, session_key, query_at, query_key}
use Rattle.cat_model.specs.declared.row.KvRow.{KvRow}
use Rattle.cat_model.specs.declared.row.NodeRow.{NodeRow}
use Rattle.cat_model.specs.declared.row.SessionRow.{SessionRow}
use Rattle.cat_model.specs.declared.row.QueryRow.{QueryRow}
use Rattle.cat_model.proofs.SameLemmas.{text_decides}
use Rattle.cat_model.proofs.TableLemmas.{eq_is, All-weaker}

-- a look-up finds something just where some row passes
pub found_is : {R : Type 0} (p : R → Bool) (xs : List R) → is_some (find p xs) ≡ list_any p xs
found_is p [] = refl
found_is {R = R} p (x ∷ xs) = go (p x) (found_is p xs)
  where
    go : (b : Bool) → is_some (find p xs) ≡ list_any p xs → is_some (cond b (Some x) (find p xs)) ≡ (b || list_any p xs)
    go true ih = refl
    go false ih = ih

pub copied_there : {T : Type 0} (o : Option (Bor T)) → is_some o ≡ is_some (option_copied o)
copied_there None = refl
copied_there (Some r) = refl

any_alike : {R : Type 0} (p q : R → Bool) → ((x : R) → p x ≡ q x) → (xs : List R) → list_any p xs ≡ list_any q xs
any_alike p q alike [] = refl
any_alike p q alike (x ∷ xs) = λ i. alike x i || any_alike p q alike xs i

module _ {K R : Type 0} (cmp : K → K → Ordering) (key : R → K) (total : IsTotalOrder cmp) (exact : CmpEqualImpliesEq cmp) (same : K → K → Bool) (decides : (a b : K) → Decides (same a b) (a ≡ b)) where
  -- keys that tie are the same
  tied : (k other : K) → is_eq (cmp k other) ≡ same other k
  tied k other = go (same other k) refl (is_eq (cmp k other)) refl
    where
      go : (b : Bool) → same other k ≡ b → (e : Bool) → is_eq (cmp k other) ≡ e → is_eq (cmp k other) ≡ same other k
      go true is true eq = eq ∙ sym is
      go false is false eq = eq ∙ sym is
      go true is false eq = absurd (false≢true (sym eq ∙ ap (λ j. is_eq (cmp k j)) ((decides other k).0 is) ∙ ap is_eq (tied_itself total k)))
      go false is true eq = absurd (false≢true (sym is ∙ (decides other k).1 (sym (exact k other (eq_is cmp key total _ eq)))))

  none_above : (k : K) (rows : List R) → AllByRecursion (λ r. cmp k (key r) ≡ Less) rows → filter (λ r. same (key r) k) rows ≡ []
  none_above k [] all = refl
  none_above k (r ∷ rows) all = ap (λ b. cond b (r ∷ filter (λ s. same (key s) k) rows) (filter (λ s. same (key s) k) rows)) (sym (tied k (key r)) ∙ ap is_eq all.0) ∙ none_above k rows all.1

  pub only_at : (k : K) (rows : List R) → Ascends cmp key rows → filter (λ r. same (key r) k) rows ≡ cons_option (row_at cmp key k rows) []
  only_at k [] asc = refl
  only_at k (r ∷ rows) asc = go (same (key r) k) refl (only_at k rows asc.1) ∙ ap (λ b. cons_option (cond b (Some r) (row_at cmp key k rows)) []) (sym (tied k (key r)))
    where
      rest : List R
      rest = filter (λ s. same (key s) k) rows

      go : (b : Bool) → same (key r) k ≡ b → rest ≡ cons_option (row_at cmp key k rows) [] → cond b (r ∷ rest) rest ≡ cons_option (cond b (Some r) (row_at cmp key k rows)) []
      go true e ih =
          let is : key r ≡ k = (decides (key r) k).0 e in
          ap (λ l. r ∷ l) (none_above k rows (All-weaker (λ s. cmp (key r) (key s) ≡ Less) (λ s. cmp k (key s) ≡ Less) (λ s l. ap (λ j. cmp j (key s)) (sym is) ∙ l) rows asc.0))
      go false e ih = ih

  pub there_is : (k : K) (rows : List R) → is_some (row_at cmp key k rows) ≡ list_any (λ r. same (key r) k) rows
  there_is k rows = found_is (λ r. is_eq (cmp k (key r))) rows ∙ any_alike (λ r. is_eq (cmp k (key r))) (λ r. same (key r) k) (λ r. tied k (key r)) rows

pub only_row : (key : List ℕ) (rows : List KvRow) → Ascends text_cmp kv_key rows → filter (λ r. same_text r.key key) rows ≡ cons_option (kv_at key rows) []
only_row = only_at text_cmp kv_key nat_list_cmp_total exact_bytes same_text text_decides

pub only_session : (id : ℕ) (rows : List SessionRow) → Ascends nat_cmp session_key rows → filter (λ s. nat_eq s.id id) rows ≡ cons_option (session_at id rows) []
only_session = only_at nat_cmp session_key nat_cmp_total exact_unsigned nat_eq Decides-eqb

pub only_query : (id : ℕ) (rows : List QueryRow) → Ascends nat_cmp query_key rows → filter (λ r. nat_eq r.id id) rows ≡ cons_option (query_at id rows) []
only_query = only_at nat_cmp query_key nat_cmp_total exact_unsigned nat_eq Decides-eqb

pub node_there : (node : List ℕ) (rows : List NodeRow) → is_some (node_at node rows) ≡ list_any (λ r. same_text r.node node) rows
node_there = there_is text_cmp node_key nat_list_cmp_total exact_bytes same_text text_decides

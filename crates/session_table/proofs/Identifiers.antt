-- Identifiers in their order.
use Rattle.std.proofs.Common.{◌≡◌, ℕ, Bool, true, false, ◌||◌, cond, List, [], ◌∷◌, ◌++◌, refl, ◌∙◌, ap, Some, is_some}
use Rattle.std.specs.Ordering.{is_eq, nat_cmp}
use Rattle.std.proofs.lemmas.Cmp.{nat_cmp_total}
use Rattle.std.proofs.lemmas.Map.Lookups.{exact_unsigned}
use Rattle.cat_model.specs.Tables.{put, row_at}
use Rattle.cat_model.proofs.Lookups.{row_at-put}
use Rattle.session_table.specs.Places.{has_id}
use Rattle.session_table.proofs.Entries.{some_or}

pub id_added : (k id : ℕ) (ids : List ℕ) → has_id k (put nat_cmp (λ (j : ℕ). j) id ids) ≡ (is_eq (nat_cmp k id) || has_id k ids)
id_added k id ids = ap is_some (row_at-put nat_cmp (λ (j : ℕ). j) nat_cmp_total exact_unsigned k id ids) ∙ some_or (is_eq (nat_cmp k id)) id (row_at nat_cmp (λ (j : ℕ). j) k ids)

-- the last of some identifiers was added
pub id_more : (k id : ℕ) (ids : List ℕ) (b : Bool) → (is_eq (nat_cmp k id) || (has_id k ids || b)) ≡ (has_id k (ids ++ id ∷ []) || b)
id_more k id [] b = go (is_eq (nat_cmp k id))
  where
    go : (x : Bool) → (x || b) ≡ (is_some (cond x (Some id) (row_at nat_cmp (λ (j : ℕ). j) k [])) || b)
    go true = refl
    go false = refl
id_more k id (i ∷ ids) b = go (is_eq (nat_cmp k i)) (id_more k id ids b)
  where
    first : (x : Bool) → (x || true) ≡ true
    first true = refl
    first false = refl

    go : (x : Bool) → (is_eq (nat_cmp k id) || (has_id k ids || b)) ≡ (has_id k (ids ++ id ∷ []) || b)
        → (is_eq (nat_cmp k id) || (is_some (cond x (Some i) (row_at nat_cmp (λ (j : ℕ). j) k ids)) || b)) ≡ (is_some (cond x (Some i) (row_at nat_cmp (λ (j : ℕ). j) k (ids ++ id ∷ []))) || b)
    go true rest = first (is_eq (nat_cmp k id))
    go false rest = rest

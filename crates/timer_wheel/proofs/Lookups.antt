-- What is found at a key after an entry came or went, or after others went.
use Rattle.std.proofs.Common.{◌≡◌, ◌≢◌, ℕ, Bool, true, false, cond, List, [], ◌∷◌, refl, sym, ◌∙◌, ap, filter, Some, None}
use Rattle.std.specs.Ordering.{nat_cmp, is_eq, match_ordering}
use Rattle.std.specs.declared.cmp.Ordering.{Ordering}
use Rattle.std.specs.declared.cmp.Ordering.TheVariants.{Less, Equal, Greater}
use Rattle.std.specs.Map.{lookup, remove_entry}
use Rattle.std.specs.BTreeMap.{is_at, insert_entry}
use Rattle.std.proofs.lemmas.Bool.{true≢false}
use Rattle.timer_wheel.proofs.Keeps.{at_itself, key_same}

-- an entry's key is not another one
not_at : (q k b : ℕ) → q ≢ k → b ≡ k → is_at (nat_cmp q) b ≡ false
not_at q k b d e = go (is_at (nat_cmp q) b) refl
  where
    go : (t : Bool) → is_at (nat_cmp q) b ≡ t → t ≡ false
    go true h = absurd (d (sym (key_same q b h) ∙ e))
    go false h = refl

equal_is_at : (k b : ℕ) → nat_cmp k b ≡ Equal → b ≡ k
equal_is_at k b h = key_same k b (ap is_eq h)

module _ {X : Type 0} where
  pub found_without : (q k : ℕ) (es : List (ℕ × X)) → q ≢ k → lookup (is_at (nat_cmp q)) (remove_entry (is_at (nat_cmp k)) es) ≡ lookup (is_at (nat_cmp q)) es
  found_without q k [] d = refl
  found_without q k (e ∷ es) d = go (found_without q k es d) (is_at (nat_cmp k) e.0) refl
    where
      go : lookup (is_at (nat_cmp q)) (remove_entry (is_at (nat_cmp k)) es) ≡ lookup (is_at (nat_cmp q)) es → (b : Bool) → is_at (nat_cmp k) e.0 ≡ b
          → lookup (is_at (nat_cmp q)) (cond b es (e ∷ remove_entry (is_at (nat_cmp k)) es)) ≡ cond (is_at (nat_cmp q) e.0) (Some e.1) (lookup (is_at (nat_cmp q)) es)
      go more true h = ap (λ t. cond t (Some e.1) (lookup (is_at (nat_cmp q)) es)) (sym (not_at q k e.0 d (key_same k e.0 h)))
      go more false h = ap (λ o. cond (is_at (nat_cmp q) e.0) (Some e.1) o) more

  pub found_new : (k : ℕ) (v : X) (es : List (ℕ × X)) → lookup (is_at (nat_cmp k)) (insert_entry nat_cmp es k v) ≡ Some v
  found_new k v [] = ap (λ t. cond t (Some v) None) (at_itself k)
  found_new k v (e ∷ es) = go (found_new k v es) (nat_cmp k e.0) refl
    where
      go : lookup (is_at (nat_cmp k)) (insert_entry nat_cmp es k v) ≡ Some v → (o : Ordering) → nat_cmp k e.0 ≡ o
          → lookup (is_at (nat_cmp k)) (match_ordering o ((k, v) ∷ e ∷ es) ((e.0, v) ∷ es) (e ∷ insert_entry nat_cmp es k v)) ≡ Some v
      go more Less h = ap (λ t. cond t (Some v) (lookup (is_at (nat_cmp k)) (e ∷ es))) (at_itself k)
      go more Equal h = ap (λ t. cond t (Some v) (lookup (is_at (nat_cmp k)) es)) (ap is_eq h)
      go more Greater h = ap (λ t. cond t (Some e.1) (lookup (is_at (nat_cmp k)) (insert_entry nat_cmp es k v))) (ap is_eq h) ∙ more

  pub found_beside : (q k : ℕ) (v : X) (es : List (ℕ × X)) → q ≢ k → lookup (is_at (nat_cmp q)) (insert_entry nat_cmp es k v) ≡ lookup (is_at (nat_cmp q)) es
  found_beside q k v [] d = ap (λ t. cond t (Some v) None) (not_at q k k d refl)
  found_beside q k v (e ∷ es) d = go (found_beside q k v es d) (nat_cmp k e.0) refl
    where
      go : lookup (is_at (nat_cmp q)) (insert_entry nat_cmp es k v) ≡ lookup (is_at (nat_cmp q)) es → (o : Ordering) → nat_cmp k e.0 ≡ o
          → lookup (is_at (nat_cmp q)) (match_ordering o ((k, v) ∷ e ∷ es) ((e.0, v) ∷ es) (e ∷ insert_entry nat_cmp es k v)) ≡ cond (is_at (nat_cmp q) e.0) (Some e.1) (lookup (is_at (nat_cmp q)) es)
      go more Less h = ap (λ t. cond t (Some v) (lookup (is_at (nat_cmp q)) (e ∷ es))) (not_at q k k d refl)
      go more Equal h =
          let off : is_at (nat_cmp q) e.0 ≡ false = not_at q k e.0 d (equal_is_at k e.0 h) in
          ap (λ t. cond t (Some v) (lookup (is_at (nat_cmp q)) es)) off ∙ ap (λ t. cond t (Some e.1) (lookup (is_at (nat_cmp q)) es)) (sym off)
      go more Greater h = ap (λ o. cond (is_at (nat_cmp q) e.0) (Some e.1) o) more

  -- an entry whose value passes is found among those that pass
  pub found_passing : (t : ℕ → Bool) (p : X → Bool) (v : X) (es : List (ℕ × X)) → lookup t es ≡ Some v → p v ≡ true → lookup t (filter (λ e. p e.1) es) ≡ Some v
  found_passing t p v [] h g = cc
  found_passing t p v (e ∷ es) h g = go (found_passing t p v es) (t e.0) refl (p e.1) refl h
    where
      go : (lookup t es ≡ Some v → p v ≡ true → lookup t (filter (λ d. p d.1) es) ≡ Some v) → (b : Bool) → t e.0 ≡ b → (c : Bool) → p e.1 ≡ c → cond b (Some e.1) (lookup t es) ≡ Some v
          → lookup t (cond c (e ∷ filter (λ d. p d.1) es) (filter (λ d. p d.1) es)) ≡ Some v
      go more true a true c k = ap (λ z. cond z (Some e.1) (lookup t (filter (λ d. p d.1) es))) a ∙ k
      go more true a false c k = let i : e.1 ≡ v = cc in absurd (true≢false (sym g ∙ ap p (sym i) ∙ c))
      go more false a true c k = ap (λ z. cond z (Some e.1) (lookup t (filter (λ d. p d.1) es))) a ∙ more k g
      go more false a false c k = more k g

-- Among rows in byte order those under a prefix stand one after another, from the prefix on.
use Rattle.std.proofs.Common.{◌≡◌, ℕ, Bool, true, List, [], ◌∷◌, refl, sym, ◌∙◌, ap, filter}
use Rattle.std.specs.declared.cmp.Ordering.{Ordering}
use Rattle.std.specs.declared.cmp.Ordering.TheVariants.{Less, Equal, Greater}
use Rattle.std.specs.Ordering.{is_ge, is_gt, nat_cmp, ordering_then}
use Rattle.std.specs.Prelude.{nat_eq}
use Rattle.std.proofs.lemmas.Bool.{and_parts, and_from, false≢true}
use Rattle.std.proofs.lemmas.Bool.Decides.{Decides-eqb}
use Rattle.std.proofs.lemmas.Cmp.{tied_itself, nat_cmp_total}
use Rattle.std.proofs.lemmas.Map.Lookups.{exact_unsigned}
use Rattle.cat_model.specs.Keys.{text_cmp, has_prefix}
use Rattle.cat_model.specs.Tables.{Ascends}
use Rattle.row_table.proofs.Spans.{leading, leading_is as span_is}

-- a text that begins with the prefix is not below it
pub prefix_low : (p t : List ℕ) → has_prefix p t ≡ true → is_ge (text_cmp t p) ≡ true
prefix_low [] [] h = refl
prefix_low [] (y ∷ t) h = refl
prefix_low (x ∷ p) [] h = absurd (false≢true h)
prefix_low (x ∷ p) (y ∷ t) h =
    let parts = and_parts (nat_eq x y) (has_prefix p t) h in
    let same : x ≡ y = (Decides-eqb x y).0 parts.0 in
    ap (λ o. is_ge (ordering_then o (text_cmp t p))) (ap (nat_cmp y) same ∙ tied_itself nat_cmp_total y) ∙ prefix_low p t parts.1

-- what stands between the prefix and a text that begins with it begins with it too
pub prefix_between : (p r s : List ℕ) → has_prefix p s ≡ true → is_ge (text_cmp r p) ≡ true → text_cmp r s ≡ Less → has_prefix p r ≡ true
prefix_between [] r s h g l = refl
prefix_between (x ∷ p) r [] h g l = absurd (false≢true h)
prefix_between (x ∷ p) [] (y ∷ s) h g l = absurd (false≢true g)
prefix_between (x ∷ p) (z ∷ r) (y ∷ s) h g l = go (nat_cmp z x) refl (λ f k. prefix_between p r s (and_parts (nat_eq x y) (has_prefix p s) h).1 f k)
  where
    same : y ≡ x
    same = sym ((Decides-eqb x y).0 (and_parts (nat_eq x y) (has_prefix p s) h).0)

    go : (o : Ordering) → nat_cmp z x ≡ o → (is_ge (text_cmp r p) ≡ true → text_cmp r s ≡ Less → has_prefix p r ≡ true) → has_prefix (x ∷ p) (z ∷ r) ≡ true
    go Less e rest = absurd (false≢true (sym (ap (λ o. is_ge (ordering_then o (text_cmp r p))) e) ∙ g))
    go Greater e rest = absurd (false≢true (sym (ap is_gt l) ∙ ap (λ o. is_gt (ordering_then o (text_cmp r s))) (ap (nat_cmp z) same ∙ e)))
    go Equal e rest =
        and_from (nat_eq x z) (has_prefix p r) ((Decides-eqb x z).1 (sym (exact_unsigned z x e)))
        (rest (sym (ap (λ o. is_ge (ordering_then o (text_cmp r p))) e) ∙ g) (sym (ap (λ o. ordering_then o (text_cmp r s)) (ap (nat_cmp z) same ∙ e)) ∙ l))

module _ {R : Type 0} (key : R → List ℕ) (p : List ℕ) where
  abbrev pub under : R → Bool
  under r = has_prefix p (key r)

  -- the rows from the prefix on
  abbrev pub onward : List R → List R
  onward rows = filter (λ r. is_ge (text_cmp (key r) p)) rows

  pub leading_is : (rows : List R) → Ascends text_cmp key rows → leading under (onward rows) ≡ filter under rows
  leading_is rows asc = span_is text_cmp key (has_prefix p) (λ k. is_ge (text_cmp k p)) (prefix_low p) (prefix_between p) rows asc

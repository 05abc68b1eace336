-- Tests of texts and identifiers as places in a second index.
use Rattle.std.proofs.Common.{◌≡◌, ◌≢◌, ℕ, zero, suc, Bool, true, false, List, [], ◌∷◌, refl, sym, ◌∙◌, ap, Option, Some, None, arith}
use Rattle.std.specs.Prelude.{nat_eq}
use Rattle.std.specs.Ordering.{is_eq, is_ge, nat_cmp}
use Rattle.std.specs.declared.cmp.Ordering.TheVariants.{Greater}
use Rattle.std.specs.Cmp.{nat_cmp_is}
use Rattle.std.proofs.lemmas.Bool.Decides.{Decides-eqb}
use Rattle.std.proofs.lemmas.Cmp.{tied_itself, nat_cmp_total, nat_list_cmp_total}
use Rattle.std.proofs.lemmas.Map.Lookups.{exact_bytes, exact_unsigned}
use Rattle.cat_model.specs.Keys.{text_cmp, same_text, same_option}
use Rattle.cat_model.proofs.SameLemmas.{text_decides}
use Rattle.row_table.specs.Filing.{is_place}
use Rattle.row_table.proofs.Filed.{equal_is}

either_true : (a b : Bool) → (a ≡ true → b ≡ true) → (b ≡ true → a ≡ true) → a ≡ b
either_true true b f g = sym (f refl)
either_true false true f g = g refl
either_true false false f g = refl

-- texts are the same where they are equal in byte order
pub text_place : (a b : List ℕ) → same_text a b ≡ is_eq (text_cmp b a)
text_place a b =
    either_true (same_text a b) (is_eq (text_cmp b a)) (λ e. ap is_eq (ap (text_cmp b) ((text_decides a b).0 e) ∙ tied_itself nat_list_cmp_total b))
    (λ e. (text_decides a b).1 (sym (exact_bytes b a (equal_is (text_cmp b a) e))))

pub text_stand : (a b : List ℕ) → same_text a b ≡ is_eq (text_cmp a b)
text_stand a b =
    either_true (same_text a b) (is_eq (text_cmp a b)) (λ e. ap is_eq (ap (λ t. text_cmp t b) ((text_decides a b).0 e) ∙ tied_itself nat_list_cmp_total b)) (λ e. (text_decides a b).1 (exact_bytes a b (equal_is (text_cmp a b) e)))

pub number_place : (a b : ℕ) → nat_eq a b ≡ is_eq (nat_cmp b a)
number_place a b =
    either_true (nat_eq a b) (is_eq (nat_cmp b a)) (λ e. ap is_eq (ap (nat_cmp b) ((Decides-eqb a b).0 e) ∙ tied_itself nat_cmp_total b)) (λ e. (Decides-eqb a b).1 (sym (exact_unsigned b a (equal_is (nat_cmp b a) e))))

pub option_place : (o : Option ℕ) (id : ℕ) → same_option o (Some id) ≡ is_place nat_cmp id o
option_place None id = refl
option_place (Some a) id = number_place a id

-- numbers that differ
pub number_differs : (a b : ℕ) → a ≢ b → is_eq (nat_cmp b a) ≡ false
number_differs a b ne = go (is_eq (nat_cmp b a)) refl
  where
    go : (t : Bool) → is_eq (nat_cmp b a) ≡ t → is_eq (nat_cmp b a) ≡ false
    go true e = absurd (ne (sym (exact_unsigned b a (equal_is (nat_cmp b a) e))))
    go false e = e

-- no text is below the empty one, and no number below 0
pub least_text : (t : List ℕ) → is_ge (text_cmp t []) ≡ true
least_text [] = refl
least_text (y ∷ t) = refl

pub least_number : (n : ℕ) → is_ge (nat_cmp n 0) ≡ true
least_number zero = refl
least_number (suc n) = ap is_ge (sym (nat_cmp_is (suc n) 0 Greater (omega arith)))

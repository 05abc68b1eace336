-- Each field of a command is told by its bytes, which also tell where it ends.
use Rattle.std.proofs.Common.{◌≡◌, ℕ, zero, suc, ◌+◌, ◌/◌, ◌%◌, ◌^◌, ◌<◌, ◌≤◌, Bool, true, false, List, [], ◌∷◌, ◌++◌, length, refl, sym, ap, ◌∙◌, arith, append_assoc, Option, None, Some, get_or}
use Rattle.std.proofs.lemmas.Bool.{ltb-false, ltb-true, cases_lt}
use Rattle.std.proofs.lemmas.Nat.{from_be_bytes-to_be_bytes_8}
use Rattle.std.specs.Prelude.{IfSome}
use Rattle.std.proofs.Common.{inl, inr}
use Rattle.std.specs.List.{All, flat_map}
use Rattle.std.specs.Int.{to_be_bytes, from_be_bytes, w64}
use Rattle.std.proofs.lemmas.List.Elements.{All-head, All-tail}
use Rattle.cat_model.specs.declared.row.Status.{Status}
use Rattle.cat_model.specs.declared.row.Status.TheVariants.{Passing, Warning, Critical}
use Rattle.cat_model.specs.declared.row.Behavior.{Behavior}
use Rattle.cat_model.specs.declared.row.Behavior.TheVariants as behaviors
use Rattle.cat_model.specs.declared.command.Verb.{Verb}
use Rattle.cat_model.specs.declared.command.Verb.TheVariants as verbs
use Rattle.cat_model.specs.Spelling.{number_within, number_bytes, text_bytes, list_bytes, option_bytes, flag_bytes, id_bytes, status_bytes, behavior_bytes, verb_bytes}
use Rattle.cat_model.specs.Bounds.{IsId, IsListOf}
use Rattle.cat_model.proofs.Formats.{Field, fronts, field_from_back}

-- a first byte below 128 is the number, one from 128 on has the low seven bits
pub low_byte : (k n : ℕ) → n < 128 → number_within (suc k) n ≡ n ∷ []
unfolding number_within
low_byte k n h = grind (arith, ltb-false)

pub high_byte : (k n : ℕ) → 128 ≤ n → number_within (suc k) n ≡ (128 + n % 128) ∷ number_within k (n / 128)
unfolding number_within
high_byte k n h = grind (arith, ltb-true)

pub number_end : (n : ℕ) → number_within 0 n ≡ n ∷ []
unfolding number_within
number_end n = refl

-- the number and the rest, as the bytes say them
abbrev NumberSame : ℕ → ℕ → List ℕ → List ℕ → Type 0
NumberSame n m r s = (n ≡ m) × (r ≡ s)

both_low : (k n m : ℕ) (r s : List ℕ) → n < 128 → m < 128 → number_within (suc k) n ++ r ≡ number_within (suc k) m ++ s → NumberSame n m r s
both_low k n m r s h g e =
    let f : n ∷ r ≡ m ∷ s = sym (ap (λ l. l ++ r) (low_byte k n h)) ∙ e ∙ ap (λ l. l ++ s) (low_byte k m g) in
    (cc, cc)

low_and_high : (k n m : ℕ) (r s : List ℕ) → n < 128 → 128 ≤ m → number_within (suc k) n ++ r ≡ number_within (suc k) m ++ s → ⊥
low_and_high k n m r s h g e =
    let f : n ∷ r ≡ (128 + m % 128) ∷ (number_within k (m / 128) ++ s) = sym (ap (λ l. l ++ r) (low_byte k n h)) ∙ e ∙ ap (λ l. l ++ s) (high_byte k m g) in
    let heads : n ≡ 128 + m % 128 = cc in
    omega arith

both_high : (k n m : ℕ) (r s : List ℕ) → 128 ≤ n → 128 ≤ m → number_within (suc k) n ++ r ≡ number_within (suc k) m ++ s →
    (128 + n % 128 ≡ 128 + m % 128) × (number_within k (n / 128) ++ r ≡ number_within k (m / 128) ++ s)
both_high k n m r s h g e =
    let f : (128 + n % 128) ∷ (number_within k (n / 128) ++ r) ≡ (128 + m % 128) ∷ (number_within k (m / 128) ++ s) = sym (ap (λ l. l ++ r) (high_byte k n h)) ∙ e ∙ ap (λ l. l ++ s) (high_byte k m g) in
    (cc, cc)

pub number_unique : (k n m : ℕ) (r s : List ℕ) → number_within k n ++ r ≡ number_within k m ++ s → NumberSame n m r s
number_unique zero n m r s e =
    let f : n ∷ r ≡ m ∷ s = sym (ap (λ l. l ++ r) (number_end n)) ∙ e ∙ ap (λ l. l ++ s) (number_end m) in
    (cc, cc)
number_unique (suc k) n m r s e =
    let ih = number_unique k (n / 128) (m / 128) r s in
    elim (cases_lt n 128) [
      | inl h ↦ elim (cases_lt m 128) [
        | inl g ↦ both_low k n m r s h g e
        | inr g ↦ absurd (low_and_high k n m r s h g e)
      ]
      | inr h ↦ elim (cases_lt m 128) [
        | inl g ↦ absurd (low_and_high k m n s r g h (sym e))
        | inr g ↦ (let low = (both_high k n m r s h g e).0 in let high : n / 128 ≡ m / 128 = (ih (both_high k n m r s h g e).1).0 in omega arith, (ih (both_high k n m r s h g e).1).1)
      ]
    ]

pub number_field : (V : ℕ → Type 0) → Field number_bytes V
number_field V = record { unique = λ x y r s v w e. number_unique 9 x y r s e }

pub text_field : (V : List ℕ → Type 0) → Field text_bytes V
text_field V = record {
  unique = λ x y r s v w e.
      let f = number_unique 9 (length x) (length y) (x ++ r) (y ++ s) (sym (append_assoc (number_bytes (length x)) x r) ∙ e ∙ append_assoc (number_bytes (length y)) y s) in
      fronts x y r s f.0 f.1;
}

pub items_unique : {A : Type 0} (f : A → List ℕ) (V : A → Type 0) → Field f V → (xs ys : List A) (r s : List ℕ) → All V xs → All V ys → length xs ≡ length ys → flat_map f xs ++ r ≡ flat_map f ys ++ s → (xs ≡ ys) × (r ≡ s)
items_unique f V field [] [] r s v w l e = (refl, e)
items_unique f V field [] (y ∷ ys) r s v w l e = absurd (omega arith)
items_unique f V field (x ∷ xs) [] r s v w l e = absurd (omega arith)
items_unique f V field (x ∷ xs) (y ∷ ys) r s v w l e =
    let one = field.unique x y (flat_map f xs ++ r) (flat_map f ys ++ s) (All-head V x xs v) (All-head V y ys w) (sym (append_assoc (f x) (flat_map f xs) r) ∙ e ∙ append_assoc (f y) (flat_map f ys) s) in
    let more = items_unique f V field xs ys r s (All-tail V x xs v) (All-tail V y ys w) (omega arith) one.1 in
    let heads : x ≡ y = one.0 in
    let tails : xs ≡ ys = more.0 in
    (cc, more.1)

pub list_field : {A : Type 0} (f : A → List ℕ) (V : A → Type 0) (most : ℕ) → Field f V → Field (list_bytes f) (IsListOf most V)
list_field f V most field = record {
  unique = λ x y r s v w e.
      let g = number_unique 9 (length x) (length y) (flat_map f x ++ r) (flat_map f y ++ s) (sym (append_assoc (number_bytes (length x)) (flat_map f x) r) ∙ e ∙ append_assoc (number_bytes (length y)) (flat_map f y) s) in
      items_unique f V field x y r s v.each w.each g.0 g.1;
}

option_unique : {A : Type 0} (f : A → List ℕ) (V : A → Type 0) → Field f V → (x y : Option A) (r s : List ℕ) → IfSome x V → IfSome y V → option_bytes f x ++ r ≡ option_bytes f y ++ s → (x ≡ y) × (r ≡ s)
option_unique f V field None None r s v w e = (refl, cc)
option_unique f V field None (Some y) r s v w e = cc
option_unique f V field (Some x) None r s v w e = cc
option_unique f V field (Some x) (Some y) r s v w e =
    let more : f x ++ r ≡ f y ++ s = cc in
    let one = field.unique x y r s v w more in
    (ap Some one.0, one.1)

pub option_field : {A : Type 0} (f : A → List ℕ) (V : A → Type 0) → Field f V → Field (option_bytes f) (λ o. IfSome o V)
option_field f V field = record { unique = option_unique f V field }

flag_unique : (x y : Bool) (r s : List ℕ) → flag_bytes x ++ r ≡ flag_bytes y ++ s → (x ≡ y) × (r ≡ s)
flag_unique false false r s e = (refl, cc)
flag_unique false true r s e = cc
flag_unique true false r s e = cc
flag_unique true true r s e = (refl, cc)

pub flag_field : (V : Bool → Type 0) → Field flag_bytes V
flag_field V = record { unique = λ x y r s v w e. flag_unique x y r s e }

-- the byte of each status, behavior and verb names it
tail : List ℕ → List ℕ
tail [] = []
tail (b ∷ bytes) = bytes

status_back : List ℕ → Status × List ℕ
status_back bytes = (get_or (Passing ∷ Warning ∷ Critical ∷ []) (get_or bytes 0 0) Passing, tail bytes)

status_again : (x : Status) (r : List ℕ) → status_back (status_bytes x ++ r) ≡ (x, r)
unfolding status_back tail
status_again Passing r = refl
status_again Warning r = refl
status_again Critical r = refl

pub status_field : (V : Status → Type 0) → Field status_bytes V
status_field V = field_from_back status_bytes V status_back (λ x r v. status_again x r)

behavior_back : List ℕ → Behavior × List ℕ
behavior_back bytes = (get_or (behaviors.Release ∷ behaviors.Delete ∷ []) (get_or bytes 0 0) behaviors.Release, tail bytes)

behavior_again : (x : Behavior) (r : List ℕ) → behavior_back (behavior_bytes x ++ r) ≡ (x, r)
unfolding behavior_back tail
behavior_again behaviors.Release r = refl
behavior_again behaviors.Delete r = refl

pub behavior_field : (V : Behavior → Type 0) → Field behavior_bytes V
behavior_field V = field_from_back behavior_bytes V behavior_back (λ x r v. behavior_again x r)

verb_back : List ℕ → Verb × List ℕ
verb_back bytes = (
  get_or (verbs.Set ∷ verbs.Cas ∷ verbs.Lock ∷ verbs.Unlock ∷ verbs.Get ∷ verbs.GetOrEmpty ∷ verbs.GetTree ∷ verbs.CheckIndex ∷ verbs.CheckSession
      ∷ verbs.CheckNotExists ∷ verbs.Delete ∷ verbs.DeleteTree ∷ verbs.DeleteCas ∷ []) (get_or bytes 0 0) verbs.Set,
  tail bytes,
)

verb_again : (x : Verb) (r : List ℕ) → verb_back (verb_bytes x ++ r) ≡ (x, r)
unfolding verb_back tail
verb_again verbs.Set r = refl
verb_again verbs.Cas r = refl
verb_again verbs.Lock r = refl
verb_again verbs.Unlock r = refl
verb_again verbs.Get r = refl
verb_again verbs.GetOrEmpty r = refl
verb_again verbs.GetTree r = refl
verb_again verbs.CheckIndex r = refl
verb_again verbs.CheckSession r = refl
verb_again verbs.CheckNotExists r = refl
verb_again verbs.Delete r = refl
verb_again verbs.DeleteTree r = refl
verb_again verbs.DeleteCas r = refl

pub verb_field : (V : Verb → Type 0) → Field verb_bytes V
verb_field V = field_from_back verb_bytes V verb_back (λ x r v. verb_again x r)

-- eight bytes say a number of 64 bits
eight : (n m : ℕ) (r s : List ℕ) → n < 2 ^ 64 → m < 2 ^ 64 → to_be_bytes w64 n ++ r ≡ to_be_bytes w64 m ++ s → NumberSame n m r s
eight n m r s h g e =
    let one = fronts (to_be_bytes w64 n) (to_be_bytes w64 m) r s refl e in
    (sym (from_be_bytes-to_be_bytes_8 n h) ∙ ap (from_be_bytes w64) one.0 ∙ from_be_bytes-to_be_bytes_8 m g, one.1)

pub id_field : Field id_bytes IsId
unfolding id_bytes
id_field = record {
  unique = λ x y r s v w e.
      let high = eight (x / 2 ^ 64) (y / 2 ^ 64) (to_be_bytes w64 (x % 2 ^ 64) ++ r) (to_be_bytes w64 (y % 2 ^ 64) ++ s) (omega arith) (omega arith)
      (sym (append_assoc (to_be_bytes w64 (x / 2 ^ 64)) (to_be_bytes w64 (x % 2 ^ 64)) r) ∙ e ∙ append_assoc (to_be_bytes w64 (y / 2 ^ 64)) (to_be_bytes w64 (y % 2 ^ 64)) s) in
      let low = eight (x % 2 ^ 64) (y % 2 ^ 64) r s (omega arith) (omega arith) high.1 in
      let a : x / 2 ^ 64 ≡ y / 2 ^ 64 = high.0 in
      let b : x % 2 ^ 64 ≡ y % 2 ^ 64 = low.0 in
      (omega arith, low.1);
}

-- What a reader of one field answers on the field's own bytes: the value where all of them are there, and that they are
-- cut off where the last are missing.
use Rattle.std.proofs.Common.{◌≡◌, ℕ, suc, ◌+◌, ◌≤◌, List, [], ◌∷◌, ◌++◌, length, refl, sym, ap, ◌∙◌, arith, append_assoc, inl, inr, Ok, Err}
use Rattle.std.proofs.lemmas.List.{length-append, append-nil}
use Rattle.cat_model.specs.Spelling.{spelling}
use Rattle.cat_model.specs.Bounds.{InBounds}
use Rattle.cat_model.proofs.Formats.{Field}
use Rattle.cat_model.proofs.CommandFormats.{spelling_unique}
use Rattle.command_codec.specs.declared.fault.Fault.TheVariants.{Cut, Bad}
use Rattle.command_codec.specs.Reading.{Read}
use Rattle.command_codec.proofs.Grammar.{IsBytes, Stops, Word, Right, Single, prefix_cases}

module _ {A : Type 0} (f : A → List ℕ) (V : A → Type 0) (field : Field f V) where
  -- no value's bytes go on with bytes of another's
  pub no_longer : (x y : A) → V x → V y → (u : List ℕ) (next : ℕ) (more : List ℕ) → f x ≡ f y ++ (u ++ next ∷ more) → ⊥
  no_longer x y v w u next more e =
      let same = field.unique x y [] (u ++ next ∷ more) v w (append-nil (f x) ∙ e) in
      let long : 0 ≡ length (u ++ next ∷ more) = ap length same.1 in
      let sum : length (u ++ next ∷ more) ≡ length u + suc (length more) = length-append u (next ∷ more) in
      omega arith

  whole_by : (x : A) → V x → (rest s : List ℕ) → s ≡ f x ++ rest → (out : Read A) → Right (Single f V) s out → out ≡ Ok (x, rest)
  whole_by x v rest s e (Ok y) found =
      let is : s ≡ f y.0 ++ y.1 = found.is ∙ ap (λ l. l ++ y.1) found.spelled.is in
      let same = field.unique y.0 x y.1 rest found.spelled.valid v (sym is ∙ e) in
      (λ i. Ok (same.0 i, same.1 i))
  whole_by x v rest s e (Err Cut) o =
      absurd (no_longer o.spelled.of x o.spelled.is.valid v rest o.next o.more
      (sym o.spelled.is.is ∙ ap (λ l. l ++ o.next ∷ o.more) e ∙ append_assoc (f x) rest (o.next ∷ o.more)))
  whole_by x v rest s e (Err (Bad left)) o = elim (prefix_cases (f x) o.good rest o.bad o.more (sym e ∙ o.is)) [
    | inl p ↦ absurd (no_longer o.opens.spelled.of x o.opens.spelled.is.valid v p.0 o.opens.next o.opens.more
        (sym o.opens.spelled.is.is ∙ ap (λ l. l ++ o.opens.next ∷ o.opens.more) p.1 ∙ append_assoc (f x) p.0 (o.opens.next ∷ o.opens.more)))
    | inr p ↦ absurd (o.never p.0 (record { of = x; is = record { valid = v; is = sym p.1 } }))
  ]

  part_by : (x : A) → V x → (next : ℕ) (more s : List ℕ) → f x ≡ s ++ next ∷ more → (out : Read A) → Right (Single f V) s out → out ≡ Err Cut
  part_by x v next more s e (Ok y) found =
      let is : s ≡ f y.0 ++ y.1 = found.is ∙ ap (λ l. l ++ y.1) found.spelled.is in
      absurd (no_longer x y.0 v found.spelled.valid y.1 next more (e ∙ ap (λ l. l ++ next ∷ more) is ∙ append_assoc (f y.0) y.1 (next ∷ more)))
  part_by x v next more s e (Err Cut) o = refl
  part_by x v next more s e (Err (Bad left)) o =
      absurd (o.never (o.more ++ next ∷ more) (record { of = x; is = record { valid = v; is = sym (e ∙ ap (λ l. l ++ next ∷ more) o.is ∙ append_assoc o.good (o.bad ∷ o.more) (next ∷ more)) } }))

  module _ (read : List ℕ → Read A) (right : (s : List ℕ) → IsBytes s → Right (Single f V) s (read s)) where
    pub read_whole : (x : A) → V x → (rest : List ℕ) → IsBytes (f x ++ rest) → read (f x ++ rest) ≡ Ok (x, rest)
    read_whole x v rest bytes = whole_by x v rest (f x ++ rest) refl (read (f x ++ rest)) (right (f x ++ rest) bytes)

    pub read_part : (x : A) → V x → (next : ℕ) (more s : List ℕ) → f x ≡ s ++ next ∷ more → IsBytes s → read s ≡ Err Cut
    read_part x v next more s e bytes = part_by x v next more s e (read s) (right s bytes)

pub left_within : {C : Type 0} (R : C → List ℕ → Type 0) (s : List ℕ) (left : ℕ) → Stops (Word R) s left → left ≤ length s
left_within R s left o =
    let sum : length s ≡ length o.good + suc (length o.more) = ap length o.is ∙ length-append o.good (o.bad ∷ o.more) in
    let place : left ≡ suc (length o.more) = o.place in
    omega arith

-- a command is such a field
pub command_field : Field spelling InBounds
command_field = record { unique = λ x y r s v w e. spelling_unique x y r s v w e }

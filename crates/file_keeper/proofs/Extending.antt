-- Bytes that are no record's and not cut off in one stay so, whatever comes behind them.
use Rattle.std.proofs.Common.{◌≡◌, ℕ, ◌+◌, ◌<◌, ◌≤◌, List, [], ◌∷◌, ◌++◌, length, refl, sym, ap, ◌∙◌, arith, append_assoc, ◌⊎◌, inl, inr}
use Rattle.std.proofs.lemmas.List.{length-append}
use Rattle.cat_model.specs.Spelling.{number_bytes}
use Rattle.cat_model.proofs.Formats.{fronts}
use Rattle.store_records.specs.Records.{record_bytes}
use Rattle.store_records.specs.RecordReading.{InLength, IsCut, IsWrong}
use Rattle.store_records.proofs.RecordReads.{front_is_cut}

-- of two fronts of one list, one begins with the other
pub two_fronts : {A : Type 0} (a b c d : List A) → a ++ b ≡ c ++ d → ((u : List A) × (a ≡ c ++ u)) ⊎ ((x : A) × (u : List A) × (c ≡ a ++ x ∷ u))
two_fronts a b [] d e = inl (a, refl)
two_fronts [] b (y ∷ c) d e = inr (y, c, refl)
two_fronts (x ∷ a) b (y ∷ c) d e =
    let h : x ≡ y = cc in
    let more : a ++ b ≡ c ++ d = cc in
    elim (two_fronts a b c d more) [
      | inl p ↦ inl (p.0, (let q : a ≡ c ++ p.0 = p.1 in cc))
      | inr p ↦ inr (p.0, p.1, (let q : c ≡ a ++ p.0 ∷ p.1 = p.2 in cc))
    ]

-- the first of what follows
record First {A : Type 0} (whole : List A) : Type 0 where
  pub next : A
  pub more : List A
  pub is : whole ≡ next ∷ more

first_of_both : {A : Type 0} (s : List A) (next : A) (more : List A) → First (s ++ next ∷ more)
first_of_both [] next more = record { next = next; more = more; is = refl }
first_of_both (x ∷ s) next more = record { next = x; more = s ++ next ∷ more; is = refl }

in_length : (n : ℕ) (s rest : List ℕ) → 3 ≤ n → n ≤ 100000000 → First rest → number_bytes n ≡ s ++ rest → InLength s
in_length n s rest from to f e = record { length_is = n; from = from; to = to; next = f.next; more = f.more; is = e ∙ ap (λ l. s ++ l) f.is }

-- what is cut off within a record is so after fewer bytes
pub cut_before : (s more : List ℕ) → IsCut (s ++ more) → IsCut s
cut_before s more (inl c) =
    inl (in_length c.length_is s (more ++ c.next ∷ c.more) c.from c.to (first_of_both more c.next c.more) (c.is ∙ append_assoc s more (c.next ∷ c.more)))
cut_before s more (inr c) =
    let n = number_bytes c.length_is in
    elim (two_fronts s more n c.front c.is) [
      | inl p ↦
          (let split : n ++ (p.0 ++ more) ≡ n ++ c.front = sym (append_assoc n p.0 more) ∙ ap (λ l. l ++ more) (sym p.1) ∙ c.is in
          let rest : p.0 ++ more ≡ c.front = (fronts n n (p.0 ++ more) c.front refl split).1 in
          let long : length p.0 + length more ≡ length c.front = sym (length-append p.0 more) ∙ ap length rest in
          let short : length c.front < c.length_is = c.short in
          let f = first_of_both more c.next c.more in
          inr (record {
            length_is = c.length_is;
            from = c.from;
            to = c.to;
            front = p.0;
            is = p.1;
            short = omega arith;
            of = c.of;
            bounds = c.bounds;
            next = f.next;
            more = f.more;
            goes_on = c.goes_on ∙ ap (λ l. l ++ c.next ∷ c.more) (sym rest) ∙ append_assoc p.0 more (c.next ∷ c.more) ∙ ap (λ l. p.0 ++ l) f.is;
          }))
      | inr p ↦ inl (in_length c.length_is s (p.0 ∷ p.1) c.from c.to (record { next = p.0; more = p.1; is = refl }) p.2)
    ]

pub wrong_after : (s more : List ℕ) → IsWrong s → IsWrong (s ++ more)
wrong_after s more w = record {
  none = λ r size b. elim (two_fronts s more (record_bytes r) b.rest b.is) [
    | inl p ↦ w.none r (length (record_bytes r)) (record { bounds = b.bounds; rest = p.0; is = p.1; sized = refl })
    | inr p ↦ w.not_cut (front_is_cut r b.bounds s p.0 p.1 p.2)
  ];
  not_cut = λ c. w.not_cut (cut_before s more c);
}

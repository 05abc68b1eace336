-- What is kept of the parts of a duration goes with them, byte by byte.
use Rattle.std.proofs.Common.{◌≡◌, ℕ, ◌+◌, ◌*◌, ◌<◌, ◌≤◌, ◌^◌, ◌==◌, ◌&&◌, ◌∷◌, [], List, Bool, true, false, cond, length, drop, get_or, refl, sym, ap, ◌∙◌, Option, Some, None, option_map, option_and_then, IfSome, inl, inr, nat_lt, nat_le, arith, zero, suc}
use Rattle.std.specs.Prelude.{◌-◌}
use Rattle.std.specs.Char.{is_ascii_digit}
use Rattle.std.proofs.lemmas.Bool.{cond-true, cond-false, cases_lt, le-leb, lt-leb}
use Rattle.std.proofs.lemmas.List.{drop_more, get_or_default}
use Rattle.std.proofs.lemmas.Option.{none-some, same_Some}
use Rattle.json_bodies.specs.declared.durations.Tail.{Tail}
use Rattle.json_bodies.specs.Durations.{Part, number_of, sum_of, unit_of, begun, with_digit, with_unit, with_byte, parts_of, total}
use Rattle.json_bodies.specs.Tails.{capped, tail_of, tail_begun, tail_with_digit, tail_with_unit, tail_with_byte, tail_total, IsSmall}

few : (n : ℕ) → n ≤ 2 ^ 53 → capped n ≡ n
few n h = cond-true _ _ _ (le-leb n (2 ^ 53) h)

many : (n : ℕ) → 2 ^ 53 < n → capped n ≡ 2 ^ 53 + 1
many n h = cond-false _ _ _ (lt-leb n (2 ^ 53) h)

capped_sum : (m n : ℕ) → capped (m + capped n) ≡ capped (m + n)
capped_sum m n =
    elim (cases_lt (2 ^ 53) n) [
      | inl over ↦ ap (λ k. capped (m + k)) (many n over) ∙ many (m + (2 ^ 53 + 1)) (omega arith) ∙ sym (many (m + n) (omega (arith, over)))
      | inr within ↦ ap (λ k. capped (m + k)) (few n within)
    ]

-- ---- a byte of a part

kept_if : (b : Bool) (x y : Option (List Part)) (s t : Option Tail) → option_map tail_of x ≡ option_map Some s → option_map tail_of y ≡ option_map Some t
    → option_map tail_of (cond b x y) ≡ option_map Some (cond b s t)
kept_if true x y s t p q = p
kept_if false x y s t p q = q

begins : (ps : List Part) (sum : ℕ) (unit : Option ℕ) → sum ≡ capped (sum_of ps) → option_map tail_of (option_and_then (begun ps) unit) ≡ option_map Some (option_and_then (tail_begun sum) unit)
begins ps sum None e = refl
begins ps sum (Some u) e = ap (λ s. option_map Some (tail_begun s u)) (sym e)

abbrev counted : (n c : ℕ) (p : Part) (ps : List Part) → Tail
counted n c p ps = record { count = n; number = (c - 48) * 10 ^ length p.digits + number_of p.digits; unit = p.unit; sum = capped (sum_of ps) }

digit_more : (c : ℕ) (p : Part) (ps : List Part) → Some (counted (suc (length p.digits)) c p ps) ≡ Some (counted (length p.digits + 1) c p ps)
digit_more c p ps = let n : suc (length p.digits) ≡ length p.digits + 1 = omega arith in ap (λ k. Some (counted k c p ps)) n

digit_kept : (c : ℕ) (ps : List Part) → option_map tail_of (with_digit c ps) ≡ option_map Some (tail_with_digit c (tail_of ps))
digit_kept c [] = refl
digit_kept c (p ∷ ps) = kept_if (nat_lt (length p.digits) 10) _ None _ None (ap Some (digit_more c p ps)) refl

unit_kept : (c : ℕ) (ps : List Part) → option_map tail_of (with_unit c ps) ≡ option_map Some (tail_with_unit c (tail_of ps))
unit_kept c [] = begins [] 0 (unit_of c) refl
unit_kept c (p ∷ ps) =
    kept_if (length p.digits == 0) _ _ _ _
    (kept_if (c == 109 && p.unit == 1000) (begun ps 1) None (tail_begun (capped (sum_of ps)) 1) None refl refl)
    (begins (p ∷ ps) _ (unit_of c) (capped_sum (number_of p.digits * p.unit) (sum_of ps)))

byte_kept : (c : ℕ) (ps : List Part) → option_map tail_of (with_byte c ps) ≡ option_map Some (tail_with_byte c (tail_of ps))
byte_kept c ps = kept_if (is_ascii_digit c) _ _ _ _ (digit_kept c ps) (unit_kept c ps)

-- ---- a byte of a text

next_of : (c : ℕ) (o : Option (List Part)) (t : Option Tail) → option_map tail_of o ≡ Some t → option_map tail_of (option_and_then (with_byte c) o) ≡ option_map Some (tail_with_byte c t)
next_of c None t e = absurd (none-some _ e)
next_of c (Some ps) t e = byte_kept c ps ∙ ap (λ u. option_map Some (tail_with_byte c u)) (same_Some _ _ e)

next_kept : (text : List ℕ) (i c : ℕ) (t : Option Tail) → c ≡ get_or text i c → i < length text → option_map tail_of (parts_of (drop (i + 1) text)) ≡ Some t
    → option_map tail_of (parts_of (drop i text)) ≡ option_map Some (tail_with_byte c t)
next_kept text i c t is less before =
    ap (λ cs. option_map tail_of (parts_of cs)) (drop_more text i c less ∙ ap (λ d. d ∷ drop (i + 1) text) (sym is)) ∙ next_of c (parts_of (drop (i + 1) text)) t before

pub kept_before : (text : List ℕ) (left : ℕ) (t : Option Tail) → 0 < left → left ≤ length text → option_map tail_of (parts_of (drop left text)) ≡ Some t
    → option_map tail_of (parts_of (drop (left - 1) text)) ≡ option_map Some (tail_with_byte (get_or text (left - 1) 0) t)
kept_before text left t more within before =
    let less : left - 1 < length text = omega (arith, more, within) in
    let behind : left - 1 + 1 ≡ left = omega (arith, more) in
    next_kept text (left - 1) (get_or text (left - 1) 0) t (get_or_default text (left - 1) 0 (get_or text (left - 1) 0) less) less
    (ap (λ k. option_map tail_of (parts_of (drop k text))) behind ∙ before)

-- where the end of a text has no parts, the text has none
none_before : (c : ℕ) (o : Option (List Part)) → o ≡ None → option_and_then (with_byte c) o ≡ None
none_before c o e = ap (option_and_then (with_byte c)) e

stops : (text : List ℕ) (i : ℕ) → parts_of (drop i text) ≡ None → parts_of text ≡ None
stops text zero e = e
stops [] (suc i) e = e
stops (c ∷ cs) (suc i) e = none_before c (parts_of cs) (stops cs i e)

none_kept : (o : Option (List Part)) → option_map tail_of o ≡ None → o ≡ None
none_kept None e = refl
none_kept (Some ps) e = absurd (none-some _ (sym e))

pub refused : (text : List ℕ) (i : ℕ) → option_map tail_of (parts_of (drop i text)) ≡ None → option_and_then total (parts_of text) ≡ None
refused text i e = ap (option_and_then total) (stops text i (none_kept (parts_of (drop i text)) e))

-- ---- the whole

total_at : (n : ℕ) → cond (nat_le (capped n) (2 ^ 53)) (Some (capped n)) None ≡ cond (nat_le n (2 ^ 53)) (Some n) None
total_at n =
    elim (cases_lt (2 ^ 53) n) [
      | inl over ↦ ap (λ k. cond (nat_le k (2 ^ 53)) (Some k) None) (many n over) ∙ sym (cond-false _ (Some n) None (lt-leb n (2 ^ 53) over))
      | inr within ↦ ap (λ k. cond (nat_le k (2 ^ 53)) (Some k) None) (few n within)
    ]

total_kept : (ps : List Part) → tail_total (tail_of ps) ≡ total ps
total_kept [] = refl
total_kept (p ∷ ps) =
    ap (λ o. cond (length p.digits == 0) None o)
    (ap (λ k. cond (nat_le k (2 ^ 53)) (Some k) None) (capped_sum (number_of p.digits * p.unit) (sum_of ps)) ∙ total_at (sum_of (p ∷ ps)))

total_of : (o : Option (List Part)) (t : Option Tail) → option_map tail_of o ≡ Some t → tail_total t ≡ option_and_then total o
total_of None t e = absurd (none-some _ e)
total_of (Some ps) t e = ap tail_total (sym (same_Some _ _ e)) ∙ total_kept ps

pub ends : (text : List ℕ) (t : Option Tail) → option_map tail_of (parts_of (drop 0 text)) ≡ Some t → tail_total t ≡ option_and_then total (parts_of text)
ends text t e = total_of (parts_of text) t e

-- nothing is read so far
pub begins_at_end : (text : List ℕ) → option_map tail_of (parts_of (drop (length text) text)) ≡ Some None
begins_at_end [] = refl
begins_at_end (c ∷ cs) = begins_at_end cs

pub record Kept (text : List ℕ) (left : ℕ) (tail : Option Tail) : Type 0 where
  pub within : left ≤ length text
  pub kept : option_map tail_of (parts_of (drop left text)) ≡ Some tail
  pub small : IfSome tail IsSmall

-- A refusal stays, whatever bytes come: so it does not depend on how they were cut.
use Rattle.std.proofs.Common.{◌≡◌, ℕ, ◌+◌, ◌-◌, ◌<◌, ◌≤◌, ◌&&◌, List, [], ◌++◌, Bool, true, false, length, take, drop, refl, sym, ap, ◌∙◌, subst, arith, append_assoc, append-nil, length-append, true≢false}
use Rattle.std.specs.Prelude.{nat_lt}
use Rattle.std.specs.List.{list_all}
use Rattle.std.proofs.lemmas.Bool.{ltb-true, ltb-false}
use Rattle.std.proofs.lemmas.List.{take-append-drop, take-append-le, drop-append-le}
use Rattle.std.proofs.Math.Seq.{take-append-add}
use Rattle.std.proofs.lemmas.List.Folds.{list_all-append}
use Rattle.std.proofs.lemmas.List.Sums.{position_or_len_is, passes_at_first, fails_before_first}
use Rattle.std.proofs.Math.ListN.{get_or-append}
use Rattle.httparse.specs.Grammar.{is_uri_byte, ReadsRequest, NeverHasRequest}
use Rattle.http_wire.specs.Head.{is_space, first_space, ends_in_target, judged}

never_longer : (j x : List ℕ) → NeverHasRequest j → NeverHasRequest (j ++ x)
never_longer j x never more h rest reads =
    never (x ++ more) h rest (subst (λ (b : List ℕ). ReadsRequest b h rest) (append_assoc j x more) reads)

abbrev Extends : List ℕ → List ℕ → Type 0
Extends j k = (x : List ℕ) × (k ≡ j ++ x)

never_extends : (j k : List ℕ) → Extends j k → NeverHasRequest j → NeverHasRequest k
never_extends j k e never = subst NeverHasRequest (sym e.1) (never_longer j e.0 never)

split_and : (a b : Bool) → (a && b) ≡ true → (a ≡ true) × (b ≡ true)
split_and true b e = (refl, e)
split_and false b e = absurd (true≢false (sym e))

-- where a space has come, its place stays
same_space : (b more : List ℕ) → first_space b < length b → first_space (b ++ more) ≡ first_space b
same_space b more within =
    position_or_len_is is_space (b ++ more) (first_space b) 0 (grind (arith, within, length-append))
    (λ k less. ap is_space (get_or-append b more 0 k (omega (arith, less, within))) ∙ fails_before_first is_space b k 0 less)
    (λ _. ap is_space (get_or-append b more 0 (first_space b) within) ∙ passes_at_first is_space b 0 within)

front : (n : ℕ) (b more : List ℕ) → n ≤ length b → take n (b ++ more) ≡ take n b
front n b more within = take-append-le n b more within

back : (n : ℕ) (b more : List ℕ) → n ≤ length b → drop n (b ++ more) ≡ drop n b ++ more
back n b more within = drop-append-le n b more within

whole_extends : (n : ℕ) (b more : List ℕ) → Extends (take n b) (b ++ more)
whole_extends n b more = (drop n b ++ more, sym (sym (append_assoc (take n b) (drop n b) more) ∙ ap (λ (u : List ℕ). u ++ more) (take-append-drop n b)))

-- a space that came later lies behind all the bytes before
behind : (b more : List ℕ) → length b ≤ first_space b → first_space (b ++ more) < length (b ++ more) → length b ≤ first_space (b ++ more)
behind b more none within = by_test (nat_lt (first_space (b ++ more)) (length b)) refl
  where
    by_test : (t : Bool) → nat_lt (first_space (b ++ more)) (length b) ≡ t → length b ≤ first_space (b ++ more)
    by_test true e =
        let less = ltb-true (first_space (b ++ more)) (length b) e in
        let here = passes_at_first is_space (b ++ more) 0 within in
        let same = ap is_space (get_or-append b more 0 (first_space (b ++ more)) less) in
        let none_here = fails_before_first is_space b (first_space (b ++ more)) 0 (omega (arith, less, none)) in
        absurd (true≢false (sym here ∙ (same ∙ none_here)))
    by_test false e = omega (arith, ltb-false (first_space (b ++ more)) (length b) e)

suc_le : (m n : ℕ) → m < n → m + 1 ≤ n
suc_le m n less = omega (arith, less)

later : (b more : List ℕ) (t : Bool) → nat_lt (first_space b) (length b) ≡ t → ends_in_target b ≡ false → ends_in_target (b ++ more) ≡ true
    → Extends (judged b) (judged (b ++ more))
later b more true is e f =
    let within = ltb-true (first_space b) (length b) is in
    let same = same_space b more within in
    let all : list_all is_uri_byte (drop (first_space (b ++ more) + 1) (b ++ more)) ≡ true = (split_and _ _ f).1 in
    let cut : drop (first_space (b ++ more) + 1) (b ++ more) ≡ drop (first_space b + 1) b ++ more =
    ap (λ (n : ℕ). drop (n + 1) (b ++ more)) same ∙ back (first_space b + 1) b more (suc_le (first_space b) (length b) within) in
    let both : (list_all is_uri_byte (drop (first_space b + 1) b) && list_all is_uri_byte more) ≡ true =
    sym (list_all-append is_uri_byte (drop (first_space b + 1) b) more) ∙ (ap (list_all is_uri_byte) (sym cut) ∙ all) in
    let one : list_all is_uri_byte (drop (first_space b + 1) b) ≡ true =
    (split_and (list_all is_uri_byte (drop (first_space b + 1) b)) (list_all is_uri_byte more) both).0 in
    let again : ends_in_target b ≡ true = rw (is, one) refl in
    absurd (true≢false (sym again ∙ e))
later b more false is e f =
    let within = ltb-true (first_space (b ++ more)) (length (b ++ more)) (split_and _ _ f).0 in
    let past = behind b more (ltb-false (first_space b) (length b) is) within in
    let n = first_space (b ++ more) + 1 - length b in
    let size : first_space (b ++ more) + 1 ≡ length b + n = omega (arith, past) in
    rw (e, f) (take n more, ap (λ (m : ℕ). take m (b ++ more)) size ∙ take-append-add b more n)

grows : (b more : List ℕ) (s t : Bool) → ends_in_target b ≡ s → ends_in_target (b ++ more) ≡ t → Extends (judged b) (judged (b ++ more))
grows b more true true e f =
    let within = ltb-true (first_space b) (length b) (split_and _ _ e).0 in
    rw (e, f, same_space b more within) ([], front (first_space b + 1) b more (omega (arith, within)) ∙ sym (append-nil (take (first_space b + 1) b)))
grows b more true false e f = rw (e, f) (whole_extends (first_space b + 1) b more)
grows b more false false e f = rw (e, f) (more, refl)
grows b more false true e f = later b more _ refl e f

pub never_grows : (b more : List ℕ) → NeverHasRequest (judged b) → NeverHasRequest (judged (b ++ more))
never_grows b more never = never_extends (judged b) (judged (b ++ more)) (grows b more _ _ refl refl) never

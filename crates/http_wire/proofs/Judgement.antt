-- Who expects a Continue sends a body.
use Rattle.std.proofs.Common.{◌≡◌, ℕ, ◌+◌, ◌-◌, ◌*◌, ◌<◌, ◌≤◌, ◌&&◌, List, [], ◌∷◌, Bool, true, false, refl, sym, ap, ◌∙◌, true≢false, arith, map}
use Rattle.std.specs.Prelude.{Result, Ok, Option, Some, None, nat_lt, nat_le, codes}
use Rattle.std.proofs.lemmas.Bool.{ltb-true, ltb-false}
use Rattle.httparse.specs.Grammar.{RequestHead}
use Rattle.http_wire.specs.declared.rejection.Rejection.{Rejection}
use Rattle.http_wire.specs.Judge.{Facts, judge, judge_parts, refuse, with_length, size_of, one_length, values, value_after, below, is_visible}
use Rattle.httparse.specs.Spans.{name_and_value}
use Rattle.std.specs.Str.{IsAscii, IsUtf8}
use Rattle.std.proofs.lemmas.Bool.Decides.{nat_tests}
use Rattle.std.proofs.lemmas.Str.{IsUtf8-from_ascii}
use Rattle.std.proofs.lemmas.Str.Ascii.{IsAscii-cons, IsAscii-nil}

refuse_ok : (b : Bool) (e : Rejection) (r : Result Facts Rejection) (f : Facts) → refuse b e r ≡ Ok f → r ≡ Ok f
unfolding refuse
refuse_ok true e r f is = grind (arith, is)
refuse_ok false e r f is = is

left_and : (a b : Bool) → (a && b) ≡ true → a ≡ true
left_and true b e = refl
left_and false b e = e

abbrev ok_of : Facts → Result Facts Rejection
ok_of f = Ok f

ok_same : (a b : Facts) → ok_of a ≡ ok_of b → a ≡ b
ok_same a b e = cc e

some_length : (method target : List ℕ) (minor : ℕ) (fields : List (List ℕ × List ℕ)) (found : Option (Option ℕ)) (f : Facts)
    → with_length method target minor fields found ≡ Ok f → f.expects ≡ true → 0 < f.length
some_length method target minor fields None f is on = grind (arith, is)
some_length method target minor fields (Some found) f is on =
    let same = ok_same _ f (refuse_ok _ _ _ f (refuse_ok _ _ _ f (refuse_ok _ _ _ f is))) in
    let less = ltb-true 0 (size_of found) (left_and (nat_lt 0 (size_of found)) _ (ap (λ (g : Facts). g.expects) same ∙ on)) in
    omega (arith, less, ap (λ (g : Facts). g.length) same)

pub expects_some : (h : RequestHead) (f : Facts) → judge h ≡ Ok f → f.expects ≡ true → 0 < f.length
unfolding judge judge_parts
expects_some h f is on =
    let fields = map name_and_value h.fields in
    some_length h.method h.target h.minor fields (one_length (Some None) (values (codes "content-length") fields)) f (refuse_ok _ _ _ f (refuse_ok _ _ _ f is)) on

-- a length that was not refused
refuse_no : (b : Bool) (e : Rejection) (r : Result Facts Rejection) (f : Facts) → refuse b e r ≡ Ok f → b ≡ false
unfolding refuse
refuse_no true e r f is = grind (arith, is)
refuse_no false e r f is = refl

few_length : (method target : List ℕ) (minor : ℕ) (fields : List (List ℕ × List ℕ)) (found : Option (Option ℕ)) (f : Facts)
    → with_length method target minor fields found ≡ Ok f → f.length ≤ 1048576
few_length method target minor fields None f is = grind (arith, is)
few_length method target minor fields (Some found) f is =
    let same = ok_same _ f (refuse_ok _ _ _ f (refuse_ok _ _ _ f (refuse_ok _ _ _ f is))) in
    let most = ltb-false 1048576 (size_of found) (refuse_no (nat_lt 1048576 (size_of found)) _ _ f is) in
    omega (arith, most, ap (λ (g : Facts). g.length) same)

pub length_few : (h : RequestHead) (f : Facts) → judge h ≡ Ok f → f.length ≤ 1048576
unfolding judge judge_parts
length_few h f is =
    let fields = map name_and_value h.fields in
    few_length h.method h.target h.minor fields (one_length (Some None) (values (codes "content-length") fields)) f (refuse_ok _ _ _ f (refuse_ok _ _ _ f is))

pub value_grows : (n : ℕ) (bs : List ℕ) → n ≤ value_after n bs
value_grows n [] = omega arith
value_grows n (b ∷ bs) = omega (arith, value_grows (n * 10 + (b - 48)) bs)

pub below_none : (n : ℕ) → 18446744073709551616 ≤ n → None ≡ below n
below_none n big = by_test (nat_lt n 18446744073709551616) refl
  where
    by_test : (t : Bool) → nat_lt n 18446744073709551616 ≡ t → None ≡ below n
    by_test true e = absurd (omega (arith, big, ltb-true n 18446744073709551616 e))
    by_test false e = rw e refl

pub judge_is : (h : RequestHead) (m t : List ℕ) (v : ℕ) (fs : List (List ℕ × List ℕ)) → m ≡ h.method → t ≡ h.target → v ≡ h.minor → fs ≡ map name_and_value h.fields → judge_parts m t v fs ≡ judge h
unfolding judge
judge_is h m t v fs a b c d =
    ap (λ x. judge_parts x t v fs) a ∙ (ap (λ x. judge_parts h.method x v fs) b ∙ (ap (λ x. judge_parts h.method h.target x fs) c ∙ ap (λ x. judge_parts h.method h.target h.minor x) d))

-- visible bytes are ASCII
right_and : (a b : Bool) → (a && b) ≡ true → b ≡ true
right_and true b e = e
right_and false b e = absurd (true≢false (sym e))

few_visible : (b : ℕ) → (nat_le 33 b && nat_le b 126) ≡ true → b < 128
few_visible b e =
    let most : nat_le b 126 ≡ true = right_and (nat_le 33 b) (nat_le b 126) e in
    grind (arith, nat_tests, most)

visible_ascii : (bytes : List ℕ) → is_visible bytes ≡ true → IsAscii bytes
visible_ascii [] e = IsAscii-nil
visible_ascii (b ∷ bs) e =
    IsAscii-cons b bs (few_visible b (left_and (nat_le 33 b && nat_le b 126) (is_visible bs) e)) (visible_ascii bs (right_and (nat_le 33 b && nat_le b 126) (is_visible bs) e))

pub visible_utf8 : (bytes : List ℕ) → is_visible bytes ≡ true → IsUtf8 bytes
visible_utf8 bytes e = IsUtf8-from_ascii bytes (visible_ascii bytes e)

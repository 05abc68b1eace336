-- What the reader's exits rest on.
use Rattle.std.proofs.Common.{◌≡◌, ℕ, ◌+◌, ◌-◌, ◌<◌, ◌≤◌, inl, inr, List, [], ◌∷◌, ◌++◌, Bool, true, false, length, take, drop, refl, sym, ap, ◌∙◌, subst, arith, append_assoc, length-append}
use Rattle.std.specs.Prelude.{nat_lt}
use Rattle.std.proofs.lemmas.Bool.{ltb-true, ltb-false}
use Rattle.std.proofs.lemmas.List.{take-append-drop, take-append-le, take_all, length-take, take_at}
use Rattle.std.proofs.Math.Seq.{take-append-add}
use Rattle.std.proofs.lemmas.List.Elements.{All-cons, All-nil}
use Rattle.std.proofs.lemmas.Str.{IsUtf8-from_ascii}
use Rattle.std.proofs.lemmas.Str.Ascii.{IsAscii-cons, IsAscii-nil}
use Rattle.httparse.specs.Grammar.{lf, is_token_byte, is_uri_byte, RequestHead, IsRequestHead, print_request, HasNoRequest, NeverHasRequest}
use Rattle.httparse.specs.Spans.{IsRequestAt, IsRequestOf}
use Rattle.httparse.specs.declared.spans.HeaderSpan.{HeaderSpan}
use Rattle.httparse.specs.declared.spans.RequestSpans.{RequestSpans}
use Rattle.http_wire.specs.Head.{judged}
use Rattle.http_wire.specs.declared.rejection.Rejection.{Rejection}
use Rattle.http_wire.specs.declared.rejection.Rejection.TheVariants as rejections
use Rattle.http_wire.specs.declared.judge.Head.{Head}
use Rattle.http_wire.specs.declared.judge.Judged.TheVariants as judgeds
use Rattle.http_wire.specs.Judge.{judge}
use Rattle.http_wire.specs.Stream.{front, no_head, Begins, MayBegin, Refuses, IsTail}
use Rattle.http_wire.specs.Reader.{Judges, FoundHead}
use Rattle.http_wire.proofs.Unique.{begins_may}

pub front_joined : (old piece : List ℕ) → length old < 16384 → old ++ take (16384 - length old) piece ≡ front (old ++ piece)
front_joined old piece short =
    let n = 16384 - length old in
    let whole : length old + n ≡ 16384 = omega (arith, short) in
    sym (take-append-add old piece n) ∙ ap (λ (m : ℕ). take m (old ++ piece)) whole

-- the front of what is held and a piece, cut back to what was held
pub back : (old piece top : List ℕ) → length old < 16384 → top ≡ front (old ++ piece) → take (length old) top ≡ old
back old piece top short e =
    ap (take (length old)) (e ∙ sym (front_joined old piece short))
    ∙ take_at old _ (length old) refl

pub bad : (old piece top : List ℕ) → top ≡ front (old ++ piece) → NeverHasRequest (judged top) → Refuses rejections.Head (old ++ piece)
bad old piece top e never = inl (subst (λ (l : List ℕ). NeverHasRequest (judged l)) e never, refl)

pub may_begin : (bytes top : List ℕ) → top ≡ front bytes → HasNoRequest top → ¬ (NeverHasRequest (judged top)) → MayBegin bytes
may_begin bytes top e none may = record {
  none = subst HasNoRequest e none;
  may = λ never. may (subst (λ (l : List ℕ). NeverHasRequest (judged l)) (sym e) never);
}

-- a front that is short is all
front_all : (bytes : List ℕ) → length (front bytes) < 16384 → (length bytes < 16384) × (front bytes ≡ bytes)
front_all bytes short = by_size (nat_lt (length bytes) 16384) refl
  where
    by_size : (b : Bool) → nat_lt (length bytes) 16384 ≡ b → (length bytes < 16384) × (front bytes ≡ bytes)
    by_size true e =
        let less = ltb-true (length bytes) 16384 e in
        (less, take_all 16384 bytes (omega (arith, less)))
    by_size false e = absurd (grind (arith, short, length-take 16384 bytes, ltb-false (length bytes) 16384 e))

pub more : (old piece top : List ℕ) → top ≡ front (old ++ piece) → HasNoRequest top → ¬ (NeverHasRequest (judged top)) → length top < 16384
    → (top ≡ old ++ piece) × IsTail no_head top
more old piece top e none may short =
    let all = front_all (old ++ piece) (subst (λ (l : List ℕ). length l < 16384) e short) in
    let same : top ≡ old ++ piece = e ∙ all.1 in
    (same, subst (IsTail no_head) (sym same) (may_begin (old ++ piece) top e none may, all.0))

pub long : (old piece top : List ℕ) → top ≡ front (old ++ piece) → HasNoRequest top → ¬ (NeverHasRequest (judged top)) → 16384 ≤ length top
    → Refuses rejections.HeadTooLarge (old ++ piece)
long old piece top e none may size =
    let sizes = ap (λ (l : List ℕ). length l) e in
    inr (inl (may_begin (old ++ piece) top e none may, grind (arith, size, sizes, length-take 16384 (old ++ piece)), refl))

-- a head that the parser found begins the bytes
pub begins : (bytes top : List ℕ) (headers : List HeaderSpan) (spans : RequestSpans) (h : RequestHead) → top ≡ front bytes → IsRequestAt top headers spans h
    → Begins bytes h (drop spans.len top ++ drop 16384 bytes)
begins bytes top headers spans h e at =
    let whole : bytes ≡ top ++ drop 16384 bytes = sym (take-append-drop 16384 bytes) ∙ ap (λ (l : List ℕ). l ++ drop 16384 bytes) (sym e) in
    let sizes : length top ≡ length (print_request h) + length (drop spans.len top) = ap (λ (l : List ℕ). length l) at.reads.1 ∙ length-append (print_request h) (drop spans.len top) in
    let tops = ap (λ (l : List ℕ). length l) e in
    record {
      head = record { grammar = at.reads.0; size = grind (arith, sizes, tops, length-take 16384 bytes) };
      are = whole ∙ (ap (λ (l : List ℕ). l ++ drop 16384 bytes) at.reads.1 ∙ append_assoc (print_request h) (drop spans.len top) (drop 16384 bytes));
    }

pub head_refused : (old piece top : List ℕ) (headers : List HeaderSpan) (spans : RequestSpans) (e : Rejection) → top ≡ front (old ++ piece)
    → IsRequestOf top headers spans → ((h : RequestHead) → IsRequestAt top headers spans h → Judges (judge h) (judgeds.Refused e)) → Refuses e (old ++ piece)
head_refused old piece top headers spans e is of judges =
    inr (inr (of.0, _, begins (old ++ piece) top headers spans of.0 is of.1, judges of.0 of.1))

-- what held no head is shorter than the head
longer : (old piece : List ℕ) (h : RequestHead) (more : List ℕ) → IsTail no_head old → Begins (old ++ piece) h more → length old < length (print_request h)
longer old piece h rest none b = by_size (nat_lt (length old) (length (print_request h))) refl
  where
    by_size : (t : Bool) → nat_lt (length old) (length (print_request h)) ≡ t → length old < length (print_request h)
    by_size true e = ltb-true (length old) (length (print_request h)) e
    by_size false e =
        let within = ltb-false (length old) (length (print_request h)) e in
        let front_is : take (length (print_request h)) old ≡ print_request h =
        sym (take-append-le (length (print_request h)) old piece within) ∙ (ap (take (length (print_request h))) b.are ∙ take_at (print_request h) rest (length (print_request h)) refl) in
        let at_old : Begins old h (drop (length (print_request h)) old) = record {
          head = b.head;
          are = sym (take-append-drop (length (print_request h)) old) ∙ ap (λ (l : List ℕ). l ++ drop (length (print_request h)) old) front_is;
        } in
        absurd (begins_may old h _ at_old none.0)

-- two ways to cut the same bytes
cut_at : (old piece new rest : List ℕ) → length old < length new → old ++ piece ≡ new ++ rest
    → (length new - length old ≤ length piece) × (new ≡ old ++ take (length new - length old) piece)
cut_at old piece new rest less e =
    let n = length new - length old in
    let sizes : length old + length piece ≡ length new + length rest = sym (length-append old piece) ∙ (ap (λ (l : List ℕ). length l) e ∙ length-append new rest) in
    let size : length old + n ≡ length new = omega (arith, less) in (
      omega (arith, sizes, less),
      sym (take_at new rest (length new) refl) ∙ (ap (take (length new)) (sym e) ∙ (ap (λ (m : ℕ). take m (old ++ piece)) (sym size) ∙ take-append-add old piece n)),
    )

pub head_found : (old piece top new : List ℕ) (headers : List HeaderSpan) (spans : RequestSpans) (hd : Head) → IsTail no_head old → top ≡ front (old ++ piece)
    → IsRequestOf top headers spans → ((h : RequestHead) → IsRequestAt top headers spans h → Judges (judge h) (judgeds.Fine hd)) → new ≡ take spans.len top
    → FoundHead old new piece hd (length new - length old)
head_found old piece top new headers spans hd none is of judges e =
    let h = of.0 in
    let b = begins (old ++ piece) top headers spans h is of.1 in
    let same : new ≡ print_request h = e ∙ (ap (take spans.len) of.1.reads.1 ∙ take_at (print_request h) _ spans.len (sym of.1.len)) in
    let sizes = ap (λ (l : List ℕ). length l) same in
    let rest = drop spans.len top ++ drop 16384 (old ++ piece) in
    let whole : old ++ piece ≡ new ++ rest = b.are ∙ ap (λ (l : List ℕ). l ++ rest) (sym same) in
    let less : length old < length new = grind (arith, sizes, longer old piece h _ none b) in
    let cut = cut_at old piece new rest less whole in
    record { start = none; is = record { head = h; is_head = b.head; are = same; judged_so = judges h of.1 }; within = cut.0; some = omega (arith, less); are = cut.1 }

pub front_size : (bytes top : List ℕ) → top ≡ front bytes → length top ≤ 16384
front_size bytes top e = grind (arith, ap (λ (l : List ℕ). length l) e, length-take 16384 bytes)

abbrev pub HasNone : List ℕ → Type 0
HasNone bytes = HasNoRequest bytes

-- ---- no bytes may become a head

example : RequestHead
example = record { blank = []; method = 71 ∷ []; target = 47 ∷ []; minor = 0; line_end = lf; fields = []; last = lf }

is_example : IsRequestHead example
unfolding example is_token_byte
is_example = record {
  method = (omega arith, All-cons (λ b. is_token_byte b ≡ true) 71 [] refl (All-nil _));
  target = (omega arith, All-cons (λ b. is_uri_byte b ≡ true) 47 [] refl (All-nil _));
  target_text = IsUtf8-from_ascii _ (IsAscii-cons 47 [] (omega arith) IsAscii-nil);
  minor = omega arith;
  fields = All-nil _;
}

head_some : (h : RequestHead) → IsRequestHead h → 0 < length (print_request h)
unfolding print_request
head_some h ok = grind (arith, ok.method.0, length-append)

none_yet : HasNoRequest []
none_yet h rest reads =
    let sizes : 0 ≡ length (print_request h) + length rest = ap (λ (l : List ℕ). length l) reads.1 ∙ length-append (print_request h) rest in
    omega (arith, sizes, head_some h reads.0)

not_never_yet : NeverHasRequest [] → ⊥
not_never_yet never = never (print_request example ++ []) example [] (is_example, refl)

pub nothing_yet : IsTail no_head []
nothing_yet = (record { none = none_yet; may = not_never_yet }, omega arith)

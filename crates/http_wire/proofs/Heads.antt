-- Why room for 8,192 headers is enough, and that judged bytes which may go on do.
use Rattle.std.proofs.Common.{◌≡◌, ℕ, ◌+◌, ◌*◌, ◌<◌, ◌≤◌, ◌&&◌, List, [], ◌∷◌, ◌++◌, Bool, true, false, length, take, drop, refl, sym, ap, ◌∙◌, subst, arith, append_assoc, append-nil, get_or, add-one, length-append, codes, inl, inr, true≢false}
use Rattle.std.specs.Prelude.{flat_map, nat_lt}
use Rattle.std.specs.List.{All}
use Rattle.std.proofs.lemmas.List.Elements.{All-get_or, All-cons, All-nil, All-append, All-head, All-tail}
use Rattle.std.proofs.Math.Seq.{get_or-append_seam, drop-append-add}
use Rattle.std.proofs.lemmas.List.{get_or-append-add, take_more}
use Rattle.std.proofs.lemmas.Bool.{lt-ltb, ltb-true}
use Rattle.std.proofs.lemmas.List.Sums.{list_all-from_AllPass, passes_at_first}
use Rattle.std.proofs.lemmas.Str.{IsUtf8-from_ascii}
use Rattle.std.proofs.lemmas.Str.Ascii.{IsAscii-cons, IsAscii-nil}
use Rattle.httparse.specs.Grammar.{is_token_byte, is_uri_byte, AllPass, IsToken, IsField, LineEnd, crlf, lf, print_end, print_blank, Field, print_field, RequestHead, print_request, IsRequestHead, ReadsRequest, HasNoRequest, NeverHasRequest}
use Rattle.httparse.specs.Spans.{RequestExceeds, RequestOverflows}
use Rattle.httparse.proofs.PieceLemmas.{space_ends_token}
use Rattle.httparse.proofs.GrammarLemmas.{print_request-append}
use Rattle.http_wire.specs.Head.{is_space, first_space, ends_in_target, judged, MayHaveRequest}

-- ---- room

field_bytes : (f : Field) → IsField f → 2 ≤ length (print_field f)
field_bytes f ok = grind (arith, ok.name.0, length-append)

section_bytes : (fs : List Field) → All IsField fs → 2 * length fs ≤ length (flat_map print_field fs)
section_bytes [] ok = omega arith
section_bytes (f ∷ fs) ok =
    let one = field_bytes f (All-head IsField f fs ok) in
    let more = section_bytes fs (All-tail IsField f fs ok) in
    grind (arith, one, more, length-append)

request_bytes : (h : RequestHead) → IsRequestHead h → 2 * length h.fields ≤ length (print_request h)
unfolding print_request
request_bytes h ok =
    let some = section_bytes h.fields ok.fields in
    grind (arith, some, length-append)

pub room_is_enough : (buf : List ℕ) → length buf ≤ 16384 → RequestExceeds 8192 buf → ⊥
room_is_enough buf short x =
    let some = request_bytes x.3 x.4.0 in
    let whole = ap (λ (b : List ℕ). length b) x.4.1 in
    let parts = ap (λ (b : List ℕ). length b) x.2 in
    grind (arith, some, whole, parts, x.5, length-append)

pub none_by_room : (buf : List ℕ) → length buf ≤ 16384 → RequestOverflows 8192 buf → HasNoRequest buf
none_by_room buf short over h rest reads =
    let some = request_bytes h reads.0 in
    let whole = ap (λ (b : List ℕ). length b) reads.1 in
    let many = over [] h rest (subst (λ (b : List ℕ). ReadsRequest b h rest) (sym (append-nil buf)) reads) in
    grind (arith, some, whole, many, length-append)

-- ---- the first space

token_no_space : (b : ℕ) → is_token_byte b ≡ true → is_space b ≡ false
token_no_space b token = by_test (is_space b) refl
  where
    by_test : (e : Bool) → is_space b ≡ e → e ≡ false
    by_test true e = absurd (true≢false (sym token ∙ subst (λ (v : ℕ). is_token_byte v ≡ false) (grind (arith, e)) space_ends_token))
    by_test false e = refl

pub at_first_space : (a t : List ℕ) → All (λ b. is_space b ≡ false) a → first_space (a ++ 32 ∷ t) ≡ length a
at_first_space [] t all = refl
at_first_space (b ∷ a) t all =
    let here = All-head (λ b. is_space b ≡ false) b a all in
    let later = at_first_space a t (All-tail (λ b. is_space b ≡ false) b a all) in
    rw here (ap (λ (n : ℕ). 1 + n) later ∙ omega arith)

print_end_no_space : (e : LineEnd) → All (λ b. is_space b ≡ false) (print_end e)
print_end_no_space crlf = All-cons (λ b. is_space b ≡ false) 13 (10 ∷ []) refl (All-cons (λ b. is_space b ≡ false) 10 [] refl (All-nil _))
print_end_no_space lf = All-cons (λ b. is_space b ≡ false) 10 [] refl (All-nil _)

blank_no_space : (es : List LineEnd) → All (λ b. is_space b ≡ false) (print_blank es)
blank_no_space [] = All-nil _
blank_no_space (e ∷ es) = All-append (λ b. is_space b ≡ false) (print_end e) (print_blank es) (print_end_no_space e) (blank_no_space es)

tokens_no_space : (m : List ℕ) → AllPass is_token_byte m → All (λ b. is_space b ≡ false) m
tokens_no_space [] all = All-nil _
tokens_no_space (b ∷ m) all =
    All-cons (λ b. is_space b ≡ false) b m (token_no_space b (All-head (λ b. is_token_byte b ≡ true) b m all)) (tokens_no_space m (All-tail (λ b. is_token_byte b ≡ true) b m all))

-- ---- what can follow

tail : List ℕ
tail = 47 ∷ 32 ∷ codes "HTTP/1.0" ++ 10 ∷ 10 ∷ []

goes_on : (blank : List LineEnd) (method : List ℕ) → 0 < length method → AllPass is_token_byte method
    → (h : RequestHead) × ReadsRequest (((print_blank blank ++ method) ++ 32 ∷ []) ++ tail) h []
unfolding tail
goes_on blank method some all =
    let h : RequestHead = record { blank = blank; method = method; target = 47 ∷ []; minor = 0; line_end = lf; fields = []; last = lf } in (
      h,
      (
        record {
          method = (some, all);
          target = (omega arith, All-cons (λ b. is_uri_byte b ≡ true) 47 [] refl (All-nil _));
          target_text = IsUtf8-from_ascii _ (IsAscii-cons 47 [] (omega arith) IsAscii-nil);
          minor = omega arith;
          fields = All-nil _;
        },
        append_assoc (print_blank blank ++ method) (32 ∷ []) tail ∙ (append_assoc (print_blank blank) method (32 ∷ tail) ∙ sym (print_request-append h [])),
      ),
    )

-- ---- judged bytes

last_space : (a b t : List ℕ) → a ++ 32 ∷ [] ≡ b ++ 32 ∷ t → All (λ b. is_uri_byte b ≡ true) t → t ≡ []
last_space a b [] e uri = refl
last_space a b (x ∷ t) e uri =
    let lens : length a ≡ length b + (length t + 1) = grind (arith, ap (λ (l : List ℕ). length l) e, length-append) in
    let left : get_or (a ++ 32 ∷ []) (length a) 0 ≡ 32 = get_or-append_seam a 32 [] 0 in
    let right : get_or (b ++ 32 ∷ x ∷ t) (length b + (length t + 1)) 0 ≡ get_or (32 ∷ x ∷ t) (length t + 1) 0 = get_or-append-add b (32 ∷ x ∷ t) (length t + 1) 0 in
    let last : is_uri_byte (get_or (x ∷ t) (length t) 0) ≡ true = All-get_or (λ b. is_uri_byte b ≡ true) (x ∷ t) (length t) 0 (omega arith) uri in
    let same : get_or (32 ∷ x ∷ t) (length t + 1) 0 ≡ get_or (x ∷ t) (length t) 0 = rw add-one refl in
    let is : get_or (x ∷ t) (length t) 0 ≡ 32 = cc (lens, left, right, e, same) in
    absurd (true≢false (sym last ∙ ap is_uri_byte is))

in_target : (a t : List ℕ) → All (λ b. is_space b ≡ false) a → AllPass is_uri_byte t → ends_in_target (a ++ 32 ∷ t) ≡ true
in_target a t plain uri =
    let rest : drop (length a + 1) (a ++ 32 ∷ t) ≡ t = drop-append-add a (32 ∷ t) 1 in
    let less : nat_lt (length a) (length (a ++ 32 ∷ t)) ≡ true = lt-ltb (length a) (length (a ++ 32 ∷ t)) (grind (arith, length-append)) in
    rw (at_first_space a t plain, rest, less, list_all-from_AllPass is_uri_byte t uri) refl

starts_no_space : (blank : List LineEnd) (method : List ℕ) → AllPass is_token_byte method → All (λ b. is_space b ≡ false) (print_blank blank ++ method)
starts_no_space blank method all = All-append (λ b. is_space b ≡ false) (print_blank blank) method (blank_no_space blank) (tokens_no_space method all)

left_true : (a b : Bool) → (a && b) ≡ true → a ≡ true
left_true true b e = refl
left_true false b e = e

a_space : (b : ℕ) → is_space b ≡ true → b ≡ 32
a_space b e = grind (arith, e)

open_target : (buf : List ℕ) (e : Bool) → ends_in_target buf ≡ e → (blank : List LineEnd) (method target : List ℕ) → IsToken method → AllPass is_uri_byte target
    → judged buf ≡ (print_blank blank ++ method) ++ 32 ∷ target → target ≡ []
open_target buf true is blank method target token uri e =
    let p = first_space buf in
    let within : p < length buf = ltb-true p (length buf) (left_true _ _ is) in
    let cut : judged buf ≡ take p buf ++ 32 ∷ [] = rw is (take_more buf p 0 within ∙ ap (λ (b : ℕ). take p buf ++ b ∷ []) (a_space (get_or buf p 0) (passes_at_first is_space buf 0 within))) in
    last_space (take p buf) (print_blank blank ++ method) target (sym cut ∙ e) uri
open_target buf false is blank method target token uri e =
    let whole : judged buf ≡ buf = rw is refl in
    let again = in_target (print_blank blank ++ method) target (starts_no_space blank method token.1) uri in
    absurd (true≢false (sym again ∙ (ap ends_in_target (sym e ∙ whole) ∙ is)))

pub may_have : (buf : List ℕ) → MayHaveRequest (judged buf) → NeverHasRequest (judged buf) → ⊥
may_have buf (inl m) never = never [] m.0 m.1 (subst (λ (b : List ℕ). ReadsRequest b m.0 m.1) (sym (append-nil (judged buf))) m.2)
may_have buf (inr (inl m)) never = never m.0 m.1 [] m.2
may_have buf (inr (inr m)) never =
    let none = open_target buf (ends_in_target buf) refl m.0 m.1 m.2 m.3 m.4 m.5 in
    let on = goes_on m.0 m.1 m.3.0 m.3.1 in
    never tail on.0 [] (subst (λ (b : List ℕ). ReadsRequest (b ++ tail) on.0 []) (sym (m.5 ∙ ap (λ (t : List ℕ). (print_blank m.0 ++ m.1) ++ 32 ∷ t) none)) on.1)

-- A stream is split in one way, and a refusal stays.
use Rattle.std.proofs.Common.{◌≡◌, ℕ, ◌+◌, ◌-◌, ◌<◌, ◌≤◌, inl, inr, List, [], ◌∷◌, ◌++◌, Bool, true, false, length, take, drop, refl, sym, ap, ◌∙◌, subst, arith, append_assoc, append-nil, length-append}
use Rattle.std.specs.Prelude.{flat_map, Result, Ok, Err, nat_lt}
use Rattle.std.proofs.lemmas.Bool.{ltb-true, ltb-false}
use Rattle.std.specs.List.{AllByRecursion}
use Rattle.std.proofs.lemmas.List.{take-append-drop, take-append-le, take_all, append_cancel_left}
use Rattle.std.proofs.Math.Seq.{take-append-add}
use Rattle.httparse.specs.Grammar.{RequestHead, print_request, ReadsRequest, HasNoRequest, NeverHasRequest}
use Rattle.httparse.proofs.GrammarLemmas.{request_unique}
use Rattle.http_wire.specs.Head.{judged, ends_in_target, first_space}
use Rattle.http_wire.proofs.Grow.{never_grows}
use Rattle.http_wire.specs.declared.rejection.Rejection.{Rejection}
use Rattle.http_wire.specs.Judge.{Facts, judge}
use Rattle.http_wire.specs.Stream.{Sent, frame, IsSent, front, Tail, no_head, no_body, refused, Begins, MayBegin, Refuses, IsTail, Splits}

-- ---- a head at the front

front_of : (h : RequestHead) (more : List ℕ) → length (print_request h) ≤ 16384 → front (print_request h ++ more) ≡ print_request h ++ take (16384 - length (print_request h)) more
front_of h more size =
    let n = 16384 - length (print_request h) in
    let whole : 16384 ≡ length (print_request h) + n = omega (arith, size) in
    ap (λ (m : ℕ). take m (print_request h ++ more)) whole ∙ take-append-add (print_request h) more n

pub head_at_front : (bytes : List ℕ) (h : RequestHead) (more : List ℕ) → Begins bytes h more → ReadsRequest (front bytes) h (take (16384 - length (print_request h)) more)
head_at_front bytes h more b = (b.head.grammar, ap front b.are ∙ front_of h more b.head.size)

judged_cuts : (b : List ℕ) (e : Bool) → ends_in_target b ≡ e → (x : List ℕ) × (judged b ++ x ≡ b)
judged_cuts b true e = rw e (drop (first_space b + 1) b, take-append-drop (first_space b + 1) b)
judged_cuts b false e = rw e ([], append-nil b)

pub not_never : (b : List ℕ) (h : RequestHead) (rest : List ℕ) → ReadsRequest b h rest → NeverHasRequest (judged b) → ⊥
not_never b h rest reads never =
    let cut = judged_cuts b _ refl in
    never cut.0 h rest (subst (λ (v : List ℕ). ReadsRequest v h rest) (sym cut.1) reads)

pub begins_may : (bytes : List ℕ) (h : RequestHead) (more : List ℕ) → Begins bytes h more → MayBegin bytes → ⊥
begins_may bytes h more b m = m.none h _ (head_at_front bytes h more b)

pub begins_never : (bytes : List ℕ) (h : RequestHead) (more : List ℕ) → Begins bytes h more → NeverHasRequest (judged (front bytes)) → ⊥
begins_never bytes h more b never = not_never (front bytes) h _ (head_at_front bytes h more b) never

pub begins_once : (bytes : List ℕ) (h k : RequestHead) (more rest : List ℕ) → Begins bytes h more → Begins bytes k rest → (h ≡ k) × (more ≡ rest)
begins_once bytes h k more rest a b = request_unique bytes h k more rest (a.head.grammar, a.are) (b.head.grammar, b.are)

ok_once : (r : Result Facts Rejection) (a b : Facts) → r ≡ Ok a → r ≡ Ok b → a ≡ b
ok_once r a b x y = grind (arith, x, y)

err_once : (r : Result Facts Rejection) (a b : Rejection) → r ≡ Err a → r ≡ Err b → a ≡ b
err_once r a b x y = grind (arith, x, y)

ok_or_err : (r : Result Facts Rejection) (a : Facts) (b : Rejection) → r ≡ Ok a → r ≡ Err b → ⊥
ok_or_err r a b x y = grind (arith, x, y)

pub no_refusal : (bytes : List ℕ) (h : RequestHead) (more : List ℕ) (f : Facts) (e : Rejection) → Begins bytes h more → judge h ≡ Ok f → Refuses e bytes → ⊥
no_refusal bytes h more f e b ok (inl never) = begins_never bytes h more b never.0
no_refusal bytes h more f e b ok (inr (inl long)) = begins_may bytes h more b long.0
no_refusal bytes h more f e b ok (inr (inr r)) =
    ok_or_err (judge h) f e ok (ap judge (begins_once bytes h r.0 more r.1 b r.2).0 ∙ r.3)

refused_once : (bytes : List ℕ) (d e : Rejection) → Refuses d bytes → Refuses e bytes → d ≡ e
refused_once bytes d e (inl a) (inl b) = a.1 ∙ sym b.1
refused_once bytes d e (inl a) (inr (inl b)) = absurd (b.0.may a.0)
refused_once bytes d e (inl a) (inr (inr b)) = absurd (begins_never bytes b.0 b.1 b.2 a.0)
refused_once bytes d e (inr (inl a)) (inl b) = absurd (a.0.may b.0)
refused_once bytes d e (inr (inl a)) (inr (inl b)) = a.2 ∙ sym b.2
refused_once bytes d e (inr (inl a)) (inr (inr b)) = absurd (begins_may bytes b.0 b.1 b.2 a.0)
refused_once bytes d e (inr (inr a)) (inl b) = absurd (begins_never bytes a.0 a.1 a.2 b.0)
refused_once bytes d e (inr (inr a)) (inr (inl b)) = absurd (begins_may bytes a.0 a.1 a.2 b.0)
refused_once bytes d e (inr (inr a)) (inr (inr b)) =
    err_once (judge a.0) d e a.3 (ap judge (begins_once bytes a.0 b.0 a.1 b.1 a.2 b.2).0 ∙ b.3)

no_head_refused : (bytes : List ℕ) (e : Rejection) → MayBegin bytes → length bytes < 16384 → Refuses e bytes → ⊥
no_head_refused bytes e m short (inl a) = m.may a.0
no_head_refused bytes e m short (inr (inl a)) = omega (arith, short, a.1)
no_head_refused bytes e m short (inr (inr a)) = begins_may bytes a.0 a.1 a.2 m

pub tail_once : (bytes : List ℕ) (t u : Tail) → IsTail t bytes → IsTail u bytes → t ≡ u
tail_once bytes no_head no_head a b = refl
tail_once bytes no_head (no_body f) a b = absurd (begins_may bytes b.0 b.1 b.2 a.0)
tail_once bytes no_head (refused e) a b = absurd (no_head_refused bytes e a.0 a.1 b)
tail_once bytes (no_body f) no_head a b = absurd (begins_may bytes a.0 a.1 a.2 b.0)
tail_once bytes (no_body f) (no_body g) a b = ap no_body (ok_once (judge a.0) f g a.3 (ap judge (begins_once bytes a.0 b.0 a.1 b.1 a.2 b.2).0 ∙ b.3))
tail_once bytes (no_body f) (refused e) a b = absurd (no_refusal bytes a.0 a.1 f e a.2 a.3 b)
tail_once bytes (refused e) no_head a b = absurd (no_head_refused bytes e b.0 b.1 a)
tail_once bytes (refused e) (no_body f) a b = absurd (no_refusal bytes b.0 b.1 f e b.2 b.3 a)
tail_once bytes (refused d) (refused e) a b = ap refused (refused_once bytes d e a b)

-- ---- whole messages

pub sent_begins : (s : Sent) (more : List ℕ) → IsSent s → Begins (frame s ++ more) s.head (s.body ++ more)
sent_begins s more is = record { head = is.head; are = append_assoc (print_request s.head) s.body more }

pub sent_no_tail : (s : Sent) (more : List ℕ) (t : Tail) → IsSent s → IsTail t (frame s ++ more) → ⊥
sent_no_tail s more no_head is a = begins_may _ s.head _ (sent_begins s more is) a.0
sent_no_tail s more (no_body f) is a =
    let same = begins_once _ s.head a.0 _ a.1 (sent_begins s more is) a.2 in
    let facts = ok_once (judge s.head) s.facts f is.judged_so (ap judge same.0 ∙ a.3) in
    let sizes : length s.body + length more ≡ length a.1 = sym (length-append s.body more) ∙ ap (λ (l : List ℕ). length l) same.1 in
    omega (arith, is.size, ap (λ (g : Facts). g.length) facts, sizes, a.4)
sent_no_tail s more (refused e) is a = no_refusal _ s.head _ s.facts e (sent_begins s more is) is.judged_so a

abbrev sent_of : RequestHead → Facts → List ℕ → Sent
sent_of h f b = record { head = h; facts = f; body = b }

same_sent : (h k : RequestHead) (f g : Facts) (b c : List ℕ) → h ≡ k → f ≡ g → b ≡ c → sent_of h f b ≡ sent_of k g c
same_sent h k f g b c x y z = ap (λ (i : RequestHead). sent_of i f b) x ∙ (ap (λ (i : Facts). sent_of k i b) y ∙ ap (λ (i : List ℕ). sent_of k g i) z)

pub sent_once : (s u : Sent) (x y : List ℕ) → IsSent s → IsSent u → frame s ++ x ≡ frame u ++ y → (s ≡ u) × (x ≡ y)
sent_once s u x y a b e =
    let at_u : Begins (frame s ++ x) u.head (u.body ++ y) = record { head = b.head; are = e ∙ append_assoc (print_request u.head) u.body y } in
    let same = begins_once _ s.head u.head _ _ (sent_begins s x a) at_u in
    let facts = ok_once (judge s.head) s.facts u.facts a.judged_so (ap judge same.0 ∙ b.judged_so) in
    let sizes : length s.body ≡ length u.body = a.size ∙ (ap (λ (g : Facts). g.length) facts ∙ sym b.size) in
    let bodies : s.body ≡ u.body = sym (take_exact s.body x) ∙ (ap (λ (n : ℕ). take n (s.body ++ x)) sizes ∙ (ap (λ (l : List ℕ). take (length u.body) l) same.1 ∙ take_exact u.body y)) in
    let rests : x ≡ y = append_cancel_left u.body x y (ap (λ (l : List ℕ). l ++ x) (sym bodies) ∙ same.1) in
    (same_sent s.head u.head s.facts u.facts s.body u.body same.0 facts bodies, rests)
  where
    take_exact : (p q : List ℕ) → take (length p) (p ++ q) ≡ p
    take_exact p q = take-append-le (length p) p q (omega arith) ∙ take_all (length p) p (omega arith)

flat_cons : (s : Sent) (ss : List Sent) (rest : List ℕ) → flat_map frame (s ∷ ss) ++ rest ≡ frame s ++ (flat_map frame ss ++ rest)
flat_cons s ss rest = append_assoc (frame s) (flat_map frame ss) rest

once : (ss us : List Sent) (t u : Tail) (x y : List ℕ) → AllByRecursion IsSent ss → AllByRecursion IsSent us → IsTail t x → IsTail u y
    → flat_map frame ss ++ x ≡ flat_map frame us ++ y → (ss ≡ us) × (t ≡ u) × (x ≡ y)
once [] [] t u x y a b c d e = (refl, tail_once y t u (subst (IsTail t) e c) d, e)
once [] (v ∷ us) t u x y a b c d e = absurd (sent_no_tail v _ t b.0 (subst (IsTail t) (e ∙ flat_cons v us y) c))
once (s ∷ ss) [] t u x y a b c d e = absurd (sent_no_tail s _ u a.0 (subst (IsTail u) (sym e ∙ flat_cons s ss x) d))
once (s ∷ ss) (v ∷ us) t u x y a b c d e =
    let same = sent_once s v _ _ a.0 b.0 (sym (flat_cons s ss x) ∙ (e ∙ flat_cons v us y)) in
    let more = once ss us t u x y a.1 b.1 c d same.1 in
    (cc (same.0, more.0), more.1, more.2)

-- A stream is split in one way.
pub splits_once : (stream : List ℕ) (ss us : List Sent) (t u : Tail) (x y : List ℕ) → Splits stream ss t x → Splits stream us u y → (ss ≡ us) × (t ≡ u) × (x ≡ y)
splits_once stream ss us t u x y a b = once ss us t u x y a.each b.each a.ends b.ends (sym a.parts ∙ b.parts)

-- ---- a refusal stays

front_more : (bytes more : List ℕ) → 16384 ≤ length bytes → front (bytes ++ more) ≡ front bytes
front_more bytes more long = take-append-le 16384 bytes more long

front_short : (bytes more : List ℕ) → length bytes ≤ 16384 → (x : List ℕ) × (front (bytes ++ more) ≡ front bytes ++ x)
front_short bytes more short =
    let n = 16384 - length bytes in
    let whole : 16384 ≡ length bytes + n = omega (arith, short) in
    (take n more, ap (λ (m : ℕ). take m (bytes ++ more)) whole ∙ (take-append-add bytes more n ∙ ap (λ (l : List ℕ). l ++ take n more) (sym (take_all 16384 bytes short))))

never_stays : (bytes more : List ℕ) → NeverHasRequest (judged (front bytes)) → NeverHasRequest (judged (front (bytes ++ more)))
never_stays bytes more never = by_size (nat_lt (length bytes) 16384) refl
  where
    by_size : (b : Bool) → nat_lt (length bytes) 16384 ≡ b → NeverHasRequest (judged (front (bytes ++ more)))
    by_size true e =
        let cut = front_short bytes more (omega (arith, ltb-true (length bytes) 16384 e)) in
        subst (λ (l : List ℕ). NeverHasRequest (judged l)) (sym cut.1) (never_grows (front bytes) cut.0 never)
    by_size false e = subst (λ (l : List ℕ). NeverHasRequest (judged l)) (sym (front_more bytes more (ltb-false (length bytes) 16384 e))) never

pub begins_more : (bytes : List ℕ) (h : RequestHead) (rest more : List ℕ) → Begins bytes h rest → Begins (bytes ++ more) h (rest ++ more)
begins_more bytes h rest more b = record { head = b.head; are = ap (λ (l : List ℕ). l ++ more) b.are ∙ append_assoc (print_request h) rest more }

pub refuses_more : (bytes more : List ℕ) (e : Rejection) → Refuses e bytes → Refuses e (bytes ++ more)
refuses_more bytes more e (inl a) = inl (never_stays bytes more a.0, a.1)
refuses_more bytes more e (inr (inl a)) =
    let same = front_more bytes more a.1 in
    inr (inl (
      record {
        none = subst HasNoRequest (sym same) a.0.none;
        may = λ never. a.0.may (subst (λ (l : List ℕ). NeverHasRequest (judged l)) same never);
      },
      grind (arith, a.1, length-append),
      a.2,
    ))
refuses_more bytes more e (inr (inr a)) = inr (inr (a.0, a.1 ++ more, begins_more bytes a.0 a.1 more a.2, a.3))

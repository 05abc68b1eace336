-- What a step of the reader gives, from what the body's bytes make of it.
use Rattle.std.proofs.Common.{◌≡◌, ◌≢◌, ℕ, ◌+◌, ◌-◌, ◌<◌, ◌≤◌, List, [], ◌∷◌, ◌++◌, true, false, length, take, drop, true≢false, refl, sym, ap, ◌∙◌, subst, arith, append_assoc, append-nil, length-append}
use Rattle.std.specs.Prelude.{Option, Some, None, is_some}
use Rattle.std.proofs.lemmas.List.{take-append-drop, take_at, length-drop, length-take-le}
use Rattle.std.proofs.Math.Seq.{take-append-add}
use Rattle.http_wire.specs.declared.judge.Head.{Head}
use Rattle.http_wire.specs.declared.partial.RawRequest.{RawRequest}
use Rattle.http_wire.specs.declared.partial.Got.{Got}
use Rattle.http_wire.specs.declared.partial.Got.TheVariants as gots
use Rattle.http_wire.specs.Judge.{Facts}
use Rattle.http_wire.specs.Stream.{go_on, no_head, no_body, Refuses, IsTail, continues}
use Rattle.http_wire.specs.Reader.{facts_of, raw, IsTop, FoundHead, AreHeld, IsHeld, Behind, Waits, GoesOn, Gives, Moves, AddsBody, KeepsOf, MovesBodyOf, IsBodyOf}
use Rattle.http_wire.specs.declared.partial.Fed.{Fed}
use Rattle.http_wire.specs.declared.reader.Stop.{Stop}
use Rattle.http_wire.specs.declared.reader.RequestReader.TheInside.{Inside}
use Rattle.http_wire.specs.State.{GoesOnHeld}
use Rattle.http_wire.specs.declared.rejection.Rejection.{Rejection}
use Rattle.http_wire.proofs.Judgement.{expects_some, length_few}
use Rattle.http_wire.proofs.Exits.{nothing_yet}

-- a head, and less than its body
pub lacks_body : (top : List ℕ) (hd : Head) (body : List ℕ) → IsTop top hd → length body < hd.length → IsTail (no_body (facts_of hd)) (top ++ body)
lacks_body top hd body is less =
    (is.head, body, record { head = is.is_head; are = ap (λ (l : List ℕ). l ++ body) is.are }, is.judged_so, less)

behind_body : (top : List ℕ) (hd : Head) (body : List ℕ) → IsTop top hd → length body < hd.length → Behind (top ++ body) (continues (facts_of hd))
behind_body top hd body is less = record { tail = no_body (facts_of hd); is = lacks_body top hd body is less; items_are = refl; calm = refl }

behind_none : (old : List ℕ) → IsTail no_head old → Behind old []
behind_none old is = record { tail = no_head; is = is; items_are = refl; calm = refl }

continues_no : (f : Facts) → f.expects ≡ false → [] ≡ continues f
continues_no f e = rw e refl

continues_yes : (f : Facts) → f.expects ≡ true → continues f ≡ go_on ∷ []
continues_yes f e = rw e refl

waits : (old piece top : List ℕ) (hd : Head) (body : List ℕ) → Behind old (continues (facts_of hd)) → IsTop top hd → length body < hd.length → top ++ body ≡ old ++ piece
    → Waits old piece (top ++ body)
waits old piece top hd body before is less e =
    record { items = continues (facts_of hd); before = before; after = behind_body top hd body is less; adds = e }

gives : (old bytes top : List ℕ) (hd : Head) (m : RawRequest) → Behind old (continues (facts_of hd)) → IsTop top hd → length m.body ≡ hd.length → top ++ m.body ≡ old ++ bytes
    → m.method ≡ hd.method → m.target ≡ hd.target → m.close ≡ hd.close → Gives old bytes (raw m)
gives old bytes top hd m before is size e x y z = record {
  sent = record { head = is.head; facts = facts_of hd; body = m.body };
  is = record { head = is.is_head; judged_so = is.judged_so; size = size };
  before = before;
  frame_is = ap (λ (l : List ℕ). l ++ m.body) (sym is.are) ∙ e;
  raw_is = cc (x, y, z);
}

pub both_none : (a b : List ℕ) → a ≡ [] → b ≡ [] → a ++ b ≡ []
both_none a b x y = ap (λ (l : List ℕ). l ++ b) x ∙ y

kept : (top top' : List ℕ) (hd : Head) (head' : Option Head) (body' : List ℕ) → IsTop top hd → top' ≡ top → head' ≡ Some hd → length body' < hd.length → AreHeld top' head' body'
kept top top' hd head' body' is x y less =
    subst (λ (h : Option Head). AreHeld top' h body') (sym y) (subst (λ (l : List ℕ). IsTop l hd) (sym x) is, less)

pub kept_none : (top' : List ℕ) (head' : Option Head) (body' : List ℕ) → top' ≡ [] → head' ≡ None → body' ≡ [] → AreHeld top' head' body'
kept_none top' head' body' x y z =
    subst (λ (h : Option Head). AreHeld top' h body') (sym y) (z, subst (IsTail no_head) (sym x) nothing_yet)

-- ---- a head that was just found

found_goes_on : (old top piece : List ℕ) (hd : Head) (used : ℕ) → FoundHead old top piece hd used → hd.expects ≡ true → GoesOn old (take used piece) (top ++ [])
found_goes_on old top piece hd used f on = record {
  before = behind_none old f.start;
  after = record {
    tail = no_body (facts_of hd);
    is = lacks_body top hd [] f.is (expects_some f.is.head (facts_of hd) f.is.judged_so on);
    items_are = continues_yes (facts_of hd) on;
    calm = refl;
  };
  adds = append-nil top ∙ f.are;
}

pub found_continue : (old top body piece : List ℕ) (hd : Head) (used : ℕ) → FoundHead old top piece hd used → body ≡ [] → hd.expects ≡ true
    → Moves old piece used gots.Continue (top ++ body) × KeepsOf gots.Continue top (Some hd) body
found_continue old top body piece hd used f none on =
    let less = expects_some f.is.head (facts_of hd) f.is.judged_so on in (
      subst (λ (b : List ℕ). GoesOn old (take used piece) (top ++ b)) (sym none) (found_goes_on old top piece hd used f on),
      (f.is, subst (λ (b : List ℕ). length b < hd.length) (sym none) less),
    )

two_takes : (u n : ℕ) (piece : List ℕ) → u ≤ length piece → take u piece ++ take n (drop u piece) ≡ take (u + n) piece
two_takes u n piece within =
    let size : length (take u piece) ≡ u = length-take-le u piece within in
    sym (ap (λ (l : List ℕ). take (u + n) l) (sym (take-append-drop u piece)) ∙ (ap (λ (m : ℕ). take (m + n) (take u piece ++ drop u piece)) (sym size) ∙ take-append-add (take u piece) (drop u piece) n))

pub found_moves : (old top body piece : List ℕ) (hd : Head) (used n : ℕ) (got : Got) (top' : List ℕ) (head' : Option Head) (body' : List ℕ)
    → FoundHead old top piece hd used → body ≡ [] → hd.expects ≡ false → AddsBody top hd body (drop used piece) n got top' head' body' → got ≢ gots.Memory
    → Moves old piece (used + n) got (top' ++ body') × KeepsOf got top' head' body'
found_moves old top body piece hd used n gots.More top' head' body' f none off adds other =
    let part : body' ≡ drop used piece = adds.3 ∙ ap (λ (l : List ℕ). l ++ drop used piece) none in
    let less : length (drop used piece) < hd.length = subst (λ (l : List ℕ). length l < hd.length) part adds.4 in
    let joined : top ++ drop used piece ≡ old ++ piece =
    ap (λ (l : List ℕ). l ++ drop used piece) f.are ∙ (append_assoc old (take used piece) (drop used piece) ∙ ap (λ (l : List ℕ). old ++ l) (take-append-drop used piece)) in
    let same : top' ++ body' ≡ top ++ drop used piece = ap (λ (l : List ℕ). l ++ body') adds.1 ∙ ap (λ (l : List ℕ). top ++ l) part in
    let before : Behind old (continues (facts_of hd)) = subst (Behind old) (continues_no (facts_of hd) off) (behind_none old f.start) in (
      (omega (arith, adds.0, length-drop used piece, f.within), subst (Waits old piece) (sym same) (waits old piece top hd (drop used piece) before f.is less joined)),
      kept top top' hd head' body' f.is adds.1 adds.2 adds.4,
    )
found_moves old top body piece hd used n (gots.Message m) top' head' body' f none off adds other =
    let before : Behind old (continues (facts_of hd)) = subst (Behind old) (continues_no (facts_of hd) off) (behind_none old f.start) in
    let bytes : m.body ≡ take n (drop used piece) = adds.4 ∙ ap (λ (l : List ℕ). l ++ take n (drop used piece)) none in
    let joined : top ++ m.body ≡ old ++ take (used + n) piece =
    ap (λ (l : List ℕ). l ++ m.body) f.are ∙ (ap (λ (l : List ℕ). (old ++ take used piece) ++ l) bytes ∙ (append_assoc old (take used piece) (take n (drop used piece)) ∙ ap (λ (l : List ℕ). old ++ l) (two_takes used n piece f.within))) in (
      (both_none top' body' adds.0 adds.2, gives old (take (used + n) piece) top hd m before f.is adds.5 joined adds.6 adds.7 adds.8),
      kept_none top' head' body' adds.0 adds.1 adds.2,
    )
found_moves old top body piece hd used n gots.Memory top' head' body' f none off adds other = absurd (other refl)
found_moves old top body piece hd used n gots.Continue top' head' body' f none off adds other = absurd adds
found_moves old top body piece hd used n (gots.Refused e) top' head' body' f none off adds other = absurd adds

-- ---- a head that was known

pub known_moves : (top : List ℕ) (hd : Head) (body piece : List ℕ) (n : ℕ) (got : Got) (top' : List ℕ) (head' : Option Head) (body' : List ℕ)
    → IsTop top hd → length body < hd.length → AddsBody top hd body piece n got top' head' body'
    → Moves (top ++ body) piece n got (top' ++ body') × KeepsOf got top' head' body'
known_moves top hd body piece n gots.More top' head' body' is less adds =
    let joined : top ++ (body ++ piece) ≡ (top ++ body) ++ piece = sym (append_assoc top body piece) in
    let same : top' ++ body' ≡ top ++ (body ++ piece) = ap (λ (l : List ℕ). l ++ body') adds.1 ∙ ap (λ (l : List ℕ). top ++ l) adds.3 in
    let fewer : length (body ++ piece) < hd.length = subst (λ (l : List ℕ). length l < hd.length) adds.3 adds.4 in (
      (adds.0, subst (Waits (top ++ body) piece) (sym same) (waits (top ++ body) piece top hd (body ++ piece) (behind_body top hd body is less) is fewer joined)),
      kept top top' hd head' body' is adds.1 adds.2 adds.4,
    )
known_moves top hd body piece n (gots.Message m) top' head' body' is less adds =
    let joined : top ++ m.body ≡ (top ++ body) ++ take n piece = ap (λ (l : List ℕ). top ++ l) adds.4 ∙ sym (append_assoc top body (take n piece)) in (
      (both_none top' body' adds.0 adds.2, gives (top ++ body) (take n piece) top hd m (behind_body top hd body is less) is adds.5 joined adds.6 adds.7 adds.8),
      kept_none top' head' body' adds.0 adds.1 adds.2,
    )
known_moves top hd body piece n gots.Memory top' head' body' is less adds = (adds, tt)
known_moves top hd body piece n gots.Continue top' head' body' is less adds = absurd adds
known_moves top hd body piece n (gots.Refused e) top' head' body' is less adds = absurd adds

is_none : (head : Option Head) → is_some head ≡ false → head ≡ None
is_none None e = refl
is_none (Some hd) e = absurd (true≢false e)

pub none_held : (top : List ℕ) (head : Option Head) (body : List ℕ) → is_some head ≡ false → AreHeld top head body → (head ≡ None) × (body ≡ []) × IsTail no_head top
none_held top None body e are = (refl, are.0, are.1)
none_held top (Some hd) body e are = absurd (true≢false e)

pub known : (top : List ℕ) (head : Option Head) (body piece : List ℕ) (fed : Fed) (top' : List ℕ) (head' : Option Head) (body' : List ℕ)
    → is_some head ≡ true → AreHeld top head body → MovesBodyOf top head body piece fed top' head' body'
    → Moves (top ++ body) piece fed.used fed.got (top' ++ body') × KeepsOf fed.got top' head' body'
known top None body piece fed top' head' body' e are moves = absurd moves
known top (Some hd) body piece fed top' head' body' e are moves = known_moves top hd body piece fed.used fed.got top' head' body' are.0 are.1 moves

pub is_body : (top : List ℕ) (head : Option Head) (body : List ℕ) → is_some head ≡ true → AreHeld top head body → IsBodyOf top head body
is_body top None body e are = absurd (true≢false (sym e))
is_body top (Some hd) body e are = (are.0, omega (arith, are.1))

-- what is held is the top alone while no head is known
pub top_alone : (top body : List ℕ) → body ≡ [] → top ≡ top ++ body
top_alone top body e = sym (ap (λ (l : List ℕ). top ++ l) e ∙ append-nil top)

pub found_start : (old top piece : List ℕ) (hd : Head) (n : ℕ) → n ≡ length old → FoundHead old top piece hd (length top - length old) → take n top ≡ old
found_start old top piece hd n e f = ap (λ (l : List ℕ). take n l) f.are ∙ take_at old _ n (sym e)

pub none_refused : (top new body piece : List ℕ) (e : Rejection) → body ≡ [] → IsTail no_head top → new ≡ top → Refuses e (top ++ piece)
    → Moves (top ++ body) piece 0 (gots.Refused e) (new ++ body)
none_refused top new body piece e none is same r =
    let all = top_alone top body none in (
      refl,
      ap (λ (l : List ℕ). l ++ body) same,
      subst (λ (l : List ℕ). Behind l []) all (behind_none top is),
      subst (λ (l : List ℕ). Refuses e (l ++ piece)) all r,
    )

pub held_few : (top : List ℕ) (head : Option Head) (body : List ℕ) → AreHeld top head body → length top + length body ≤ 1064960
held_few top None body are = omega (arith, ap (λ (l : List ℕ). length l) are.0, are.1.1)
held_few top (Some hd) body are =
    omega (arith, are.1, length_few are.0.head (facts_of hd) are.0.judged_so, are.0.is_head.size, ap (λ (l : List ℕ). length l) are.0.are)

-- what refuses keeps what it had
pub refused_few : (top body top' body' piece : List ℕ) (used : ℕ) (got : Got) (e : Rejection) → got ≡ gots.Refused e → Moves (top ++ body) piece used got (top' ++ body') → length top + length body ≤ 1064960
    → length top' + length body' ≤ 1064960
refused_few top body top' body' piece used got e is moves few =
    let refuses = subst (λ (g : Got). Moves (top ++ body) piece used g (top' ++ body')) is moves in
    let same : length (top' ++ body') ≡ length (top ++ body) = ap (λ (l : List ℕ). length l) refuses.1 in
    grind (arith, same, length-append, few)

pub keeps_held : (got : Got) (top : List ℕ) (head : Option Head) (body : List ℕ) → KeepsOf got top head body → ((e : Rejection) → got ≢ gots.Refused e) → got ≢ gots.Memory → AreHeld top head body
keeps_held gots.More top head body k r m = k
keeps_held gots.Continue top head body k r m = k
keeps_held (gots.Message x) top head body k r m = k
keeps_held (gots.Refused e) top head body k r m = absurd (r e refl)
keeps_held gots.Memory top head body k r m = absurd (m refl)

pub goes_on_held : (stop : Option Stop) (a : Inside) → stop ≡ None → IsHeld a.partial → GoesOnHeld stop a
goes_on_held stop a e are = subst (λ (s : Option Stop). GoesOnHeld s a) (sym e) are

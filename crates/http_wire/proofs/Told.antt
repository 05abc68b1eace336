-- The loop over a piece.
use Rattle.std.proofs.Common.{◌≡◌, ◌≢◌, ℕ, ◌<◌, ◌≤◌, List, [], ◌∷◌, ◌++◌, length, take, drop, refl, sym, ap, ◌∙◌, subst, arith, append_assoc, append-nil}
use Rattle.std.specs.Prelude.{Option, Some, None}
use Rattle.std.proofs.lemmas.List.{take-append-drop, length-drop}
use Rattle.http_wire.specs.declared.rejection.Rejection.{Rejection}
use Rattle.http_wire.specs.declared.partial.Got.{Got}
use Rattle.http_wire.specs.declared.partial.Got.TheVariants as gots
use Rattle.http_wire.specs.declared.reader.Stop.{Stop}
use Rattle.http_wire.specs.declared.reader.Stop.TheVariants as stops
use Rattle.http_wire.specs.declared.partial.RawRequest.{RawRequest}
use Rattle.http_wire.specs.Stream.{Given, go_on, whole, Tail, no_head, refused, Messages, rejection_of}
use Rattle.http_wire.specs.Reader.{raw, Takes}
use Rattle.http_wire.specs.State.{Reader, Read, Told, FeedsFrom, Follows, Taking, GivesAll, rejection_in, seen_by, given_by}
use Rattle.http_wire.proofs.Exits.{nothing_yet}
use Rattle.http_wire.proofs.Follow as follow

more_refused : (e : Rejection) → gots.More ≡ gots.Refused e → ⊥
more_refused e x = cc x

go_on_refused : (e : Rejection) → gots.Continue ≡ gots.Refused e → ⊥
go_on_refused e x = cc x

message_refused : (m : RawRequest) (e : Rejection) → gots.Message m ≡ gots.Refused e → ⊥
message_refused m e x = cc x

by_more : (s piece : List ℕ) (items : List Given) (r q : Reader) (used : ℕ) (stop : Option Stop) → Told s items r.held stop → FeedsFrom stop r piece used gots.More q → Told (s ++ piece) items q.held q.stop
by_more s piece items r q used None told f = subst (λ (st : Option Stop). Told (s ++ piece) items q.held st) (sym f.1) (follow.read_more s piece q.held items r.held told f.0.1)
by_more s piece items r q used (Some (stops.Refused e)) told f = absurd (more_refused e f.1)
by_more s piece items r q used (Some stops.Memory) told f = absurd told

by_continue : (s piece : List ℕ) (items : List Given) (r q : Reader) (used : ℕ) (stop : Option Stop) → Told s items r.held stop → FeedsFrom stop r piece used gots.Continue q
    → Told (s ++ take used piece) (items ++ go_on ∷ []) q.held q.stop
by_continue s piece items r q used None told f =
    subst (λ (st : Option Stop). Told (s ++ take used piece) (items ++ go_on ∷ []) q.held st) (sym f.1) (follow.read_continue s (take used piece) q.held items r.held told f.0)
by_continue s piece items r q used (Some (stops.Refused e)) told f = absurd (go_on_refused e f.1)
by_continue s piece items r q used (Some stops.Memory) told f = absurd told

by_message : (s piece : List ℕ) (items : List Given) (r q : Reader) (used : ℕ) (m : RawRequest) (stop : Option Stop) → Told s items r.held stop → FeedsFrom stop r piece used (gots.Message m) q
    → Told (s ++ take used piece) (items ++ whole (raw m) ∷ []) q.held q.stop
by_message s piece items r q used m None told f =
    subst (λ (st : Option Stop). Told (s ++ take used piece) (items ++ whole (raw m) ∷ []) q.held st) (sym f.1)
    (subst (λ (h : List ℕ). Read (s ++ take used piece) (items ++ whole (raw m) ∷ []) h) (sym f.0.0) (follow.read_message s (take used piece) (raw m) items r.held told f.0.1))
by_message s piece items r q used m (Some (stops.Refused e)) told f = absurd (message_refused m e f.1)
by_message s piece items r q used m (Some stops.Memory) told f = absurd told

by_refused : (s piece : List ℕ) (items : List Given) (r q : Reader) (used : ℕ) (e : Rejection) (stop : Option Stop) → r.stop ≡ stop → Told s items r.held stop → FeedsFrom stop r piece used (gots.Refused e) q
    → Told (s ++ piece) items q.held q.stop
by_refused s piece items r q used e None is told f =
    subst (λ (st : Option Stop). Told (s ++ piece) items q.held st) (sym f.1) (follow.read_refused s piece e items r.held told f.0.2 f.0.3)
by_refused s piece items r q used e (Some (stops.Refused d)) is told f =
    subst (λ (st : Option Stop). Told (s ++ piece) items q.held st) (sym (ap (λ (x : Reader). x.stop) f.2 ∙ is)) (follow.stays_refused s piece d items told)
by_refused s piece items r q used e (Some stops.Memory) is told f = absurd told

-- ---- behind a first part of the piece

at : (s a b : List ℕ) (items : List Given) (q : Reader) → Told (s ++ a ++ b) items q.held q.stop → Told (s ++ (a ++ b)) items q.held q.stop
at s a b items q told = subst (λ (l : List ℕ). Told l items q.held q.stop) (append_assoc s a b) told

pub ends_more : (old : Reader) (items : List Given) (piece : List ℕ) (r q : Reader) (items' : List Given) (rest : List ℕ) (used : ℕ) (got : Got)
    → Taking old items piece r items' rest → FeedsFrom r.stop r rest used got q → got ≡ gots.More → Follows old items piece q items'
ends_more old items piece r q items' rest used got t f e s told =
    subst (λ (l : List ℕ). Told (s ++ l) items' q.held q.stop) (sym t.parts)
    (at s t.taken rest items' q (by_more (s ++ t.taken) rest items' r q used r.stop (t.follows s told) (subst (λ (g : Got). FeedsFrom r.stop r rest used g q) e f)))

pub ends_refused : (old : Reader) (items : List Given) (piece : List ℕ) (r q : Reader) (items' : List Given) (rest : List ℕ) (used : ℕ) (got : Got) (e : Rejection)
    → Taking old items piece r items' rest → FeedsFrom r.stop r rest used got q → got ≡ gots.Refused e → Follows old items piece q items'
ends_refused old items piece r q items' rest used got d t f e s told =
    subst (λ (l : List ℕ). Told (s ++ l) items' q.held q.stop) (sym t.parts)
    (at s t.taken rest items' q (by_refused (s ++ t.taken) rest items' r q used d r.stop refl (t.follows s told) (subst (λ (g : Got). FeedsFrom r.stop r rest used g q) e f)))

cut : (piece taken rest : List ℕ) (used : ℕ) → piece ≡ taken ++ rest → piece ≡ (taken ++ take used rest) ++ drop used rest
cut piece taken rest used e = e ∙ (ap (λ (l : List ℕ). taken ++ l) (sym (take-append-drop used rest)) ∙ sym (append_assoc taken (take used rest) (drop used rest)))

pub goes_continue : (old : Reader) (items : List Given) (piece : List ℕ) (r q : Reader) (items' : List Given) (rest : List ℕ) (used : ℕ) (got : Got)
    → Taking old items piece r items' rest → FeedsFrom r.stop r rest used got q → got ≡ gots.Continue → Taking old items piece q (items' ++ go_on ∷ []) (drop used rest)
goes_continue old items piece r q items' rest used got t f e = record {
  taken = t.taken ++ take used rest;
  parts = cut piece t.taken rest used t.parts;
  follows = λ s told. at s t.taken (take used rest) (items' ++ go_on ∷ []) q
      (by_continue (s ++ t.taken) rest items' r q used r.stop (t.follows s told) (subst (λ (g : Got). FeedsFrom r.stop r rest used g q) e f));
}

pub goes_message : (old : Reader) (items : List Given) (piece : List ℕ) (r q : Reader) (items' : List Given) (rest : List ℕ) (used : ℕ) (got : Got) (m : RawRequest)
    → Taking old items piece r items' rest → FeedsFrom r.stop r rest used got q → got ≡ gots.Message m → Taking old items piece q (items' ++ whole (raw m) ∷ []) (drop used rest)
goes_message old items piece r q items' rest used got m t f e = record {
  taken = t.taken ++ take used rest;
  parts = cut piece t.taken rest used t.parts;
  follows = λ s told. at s t.taken (take used rest) (items' ++ whole (raw m) ∷ []) q
      (by_message (s ++ t.taken) rest items' r q used m r.stop (t.follows s told) (subst (λ (g : Got). FeedsFrom r.stop r rest used g q) e f));
}

shorter : (rest : List ℕ) (used : ℕ) → used ≤ length rest → used ≢ 0 → length (drop used rest) < length rest
shorter rest used within some = grind (arith, within, some, length-drop used rest)

stop_continue : (r q : Reader) (rest : List ℕ) (used : ℕ) (stop : Option Stop) → FeedsFrom stop r rest used gots.Continue q → used ≢ 0
stop_continue r q rest used None f = follow.continue_takes r.held rest q.held used f.0
stop_continue r q rest used (Some (stops.Refused e)) f = absurd (go_on_refused e f.1)
stop_continue r q rest used (Some stops.Memory) f = absurd (cc f.1)

stop_message : (r q : Reader) (rest : List ℕ) (used : ℕ) (m : RawRequest) (stop : Option Stop) → FeedsFrom stop r rest used (gots.Message m) q → used ≢ 0
stop_message r q rest used m None f = follow.message_takes r.held rest (raw m) used f.0.1
stop_message r q rest used m (Some (stops.Refused e)) f = absurd (message_refused m e f.1)
stop_message r q rest used m (Some stops.Memory) f = absurd (cc f.1)

pub continue_smaller : (r q : Reader) (rest : List ℕ) (used : ℕ) (got : Got) → FeedsFrom r.stop r rest used got q → got ≡ gots.Continue → used ≤ length rest → length (drop used rest) < length rest
continue_smaller r q rest used got f e within =
    shorter rest used within (stop_continue r q rest used r.stop (subst (λ (g : Got). FeedsFrom r.stop r rest used g q) e f))

pub message_smaller : (r q : Reader) (rest : List ℕ) (used : ℕ) (got : Got) (m : RawRequest) → FeedsFrom r.stop r rest used got q → got ≡ gots.Message m → used ≤ length rest → length (drop used rest) < length rest
message_smaller r q rest used got m f e within =
    shorter rest used within (stop_message r q rest used m r.stop (subst (λ (g : Got). FeedsFrom r.stop r rest used g q) e f))

pub takes : (r q : Reader) (piece : List ℕ) (used : ℕ) (got : Got) → FeedsFrom r.stop r piece used got q → Takes got used
takes r q piece used gots.More f = tt
takes r q piece used gots.Continue f = omega (arith, stop_continue r q piece used r.stop f)
takes r q piece used (gots.Message m) f = omega (arith, stop_message r q piece used m r.stop f)
takes r q piece used (gots.Refused e) f = tt
takes r q piece used gots.Memory f = tt

-- ---- all pieces

-- of a stream of which nothing has come
pub told_first : (held : List ℕ) (stop : Option Stop) → held ≡ [] → stop ≡ None → Told [] [] held stop
told_first held stop a b =
    subst (λ (s : Option Stop). Told [] [] held s) (sym b) (subst (λ (l : List ℕ). Read [] [] l) (sym a) first)
  where
    first : Read [] [] []
    first = record { sent = []; tail = no_head; splits = record { parts = refl; each = tt; ends = nothing_yet }; items_are = refl; calm = refl }

pub gives_all : (stream : List ℕ) (items : List Given) (held : List ℕ) (stop : Option Stop) → Told stream items held stop → GivesAll stream items (rejection_in stop)
gives_all stream items held None told = record {
  tail = told.tail;
  messages = record { sent = told.sent; rest = held; splits = told.splits; items_are = told.items_are };
  rejection_is = sym told.calm;
}
gives_all stream items held (Some (stops.Refused e)) told = record { tail = refused e; messages = told; rejection_is = refl }
gives_all stream items held (Some stops.Memory) told = absurd told

pub gives_only : (stream : List ℕ) (items : List Given) (r : Option Rejection) → GivesAll stream items r → (others : List Given) (tail : Tail) → Messages stream others tail
    → (items ≡ others) × (r ≡ rejection_of tail)
gives_only stream items r g others tail m =
    let same = follow.messages_once stream items others g.tail tail g.messages m in
    (same.0, g.rejection_is ∙ ap rejection_of same.1)

pub tells : (r q : Reader) (piece : List ℕ) (used : ℕ) (got : Got) → FeedsFrom r.stop r piece used got q
    → (s : List ℕ) (items : List Given) → Told s items r.held r.stop → got ≢ gots.Memory → Told (s ++ seen_by got used piece) (items ++ given_by got) q.held q.stop
tells r q piece used gots.More f s items told other =
    subst (λ (l : List Given). Told (s ++ piece) l q.held q.stop) (sym (append-nil items)) (by_more s piece items r q used r.stop told f)
tells r q piece used gots.Continue f s items told other = by_continue s piece items r q used r.stop told f
tells r q piece used (gots.Message m) f s items told other = by_message s piece items r q used m r.stop told f
tells r q piece used (gots.Refused e) f s items told other =
    subst (λ (l : List Given). Told (s ++ piece) l q.held q.stop) (sym (append-nil items)) (by_refused s piece items r q used e r.stop refl told f)
tells r q piece used gots.Memory f s items told other = absurd (other refl)

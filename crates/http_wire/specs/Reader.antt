-- What a call of the reader does.
use Rattle.std.specs.Prelude.{◌≡◌, ℕ, ◌-◌, ◌<◌, ◌≤◌, List, [], ◌∷◌, ◌++◌, length, take, Option, Some, None, Result, Ok, Err}
use Rattle.httparse.specs.Grammar.{RequestHead, print_request}
use Rattle.http_wire.specs.declared.rejection.Rejection.{Rejection}
use Rattle.http_wire.specs.declared.partial.RawRequest.{RawRequest}
use Rattle.http_wire.specs.declared.judge.Head.{Head}
use Rattle.http_wire.specs.declared.judge.Judged.{Judged}
use Rattle.http_wire.specs.declared.judge.Judged.TheVariants as judgeds
use Rattle.http_wire.specs.declared.search.Look.{Look}
use Rattle.http_wire.specs.declared.search.Look.TheVariants as looks
use Rattle.http_wire.specs.declared.partial.Got.{Got}
use Rattle.http_wire.specs.declared.partial.Got.TheVariants as gots
use Rattle.http_wire.specs.declared.partial.Partial.{Partial}
use Rattle.http_wire.specs.declared.partial.Fed.{Fed}
use Rattle.http_wire.specs.Judge.{Facts, judge}
use Rattle.http_wire.specs.Stream.{Raw, Given, go_on, Sent, frame, IsHead, IsSent, Tail, no_head, Refuses, IsTail, continues, raw_of, given_behind, rejection_of}

abbrev pub facts_of : Head → Facts
facts_of h = record { method = h.method; target = h.target; length = h.length; expects = h.expects; close = h.close }

abbrev pub raw : RawRequest → Raw
raw m = record { method = m.method; target = m.target; body = m.body; close = m.close }

-- what a judgement is
abbrev pub Judges : Result Facts Rejection → Judged → Type 0
Judges judgement (judgeds.Fine hd) = judgement ≡ Ok (facts_of hd)
Judges judgement (judgeds.Refused e) = judgement ≡ Err e
Judges judgement judgeds.Memory = Unit {0}

-- the bytes are this head, which is not refused
pub record IsTop (top : List ℕ) (hd : Head) : Type 0 where
  pub head : RequestHead
  pub is_head : IsHead head
  pub are : top ≡ print_request head
  pub judged_so : judge head ≡ Ok (facts_of hd)

-- a head was found in what was held and the first bytes of a piece
pub record FoundHead (old top piece : List ℕ) (hd : Head) (used : ℕ) : Type 0 where
  pub start : IsTail no_head old
  pub is : IsTop top hd
  pub within : used ≤ length piece
  pub some : 0 < used
  pub are : top ≡ old ++ take used piece

-- looking for a head at the front of what is held and the piece
abbrev pub Looks : List ℕ → List ℕ → List ℕ → Look → Type 0
Looks old piece new looks.More = (new ≡ old ++ piece) × IsTail no_head new
Looks old piece new (looks.Found hd) = FoundHead old new piece hd (length new - length old)
Looks old piece new (looks.Refused e) = (new ≡ old) × Refuses e (old ++ piece)
Looks old piece new looks.Memory = Unit {0}

-- less than a whole message, as the reader keeps it
abbrev pub AreHeld : List ℕ → Option Head → List ℕ → Type 0
AreHeld top None body = (body ≡ []) × IsTail no_head top
AreHeld top (Some hd) body = IsTop top hd × (length body < hd.length)

abbrev pub IsHeld : Partial → Type 0
IsHeld p = AreHeld p.top.items p.head p.body.items

-- the bytes that are kept
abbrev pub held : Partial → List ℕ
held p = p.top.items ++ p.body.items

-- what was given of a message that is not whole
pub record Behind (bytes : List ℕ) (items : List Given) : Type 0 where
  pub tail : Tail
  pub is : IsTail tail bytes
  pub items_are : given_behind tail ≡ items
  pub calm : rejection_of tail ≡ None

pub record Waits (old piece new : List ℕ) : Type 0 where
  pub items : List Given
  pub before : Behind old items
  pub after : Behind new items
  pub adds : new ≡ old ++ piece

pub record GoesOn (old bytes new : List ℕ) : Type 0 where
  pub before : Behind old []
  pub after : Behind new (go_on ∷ [])
  pub adds : new ≡ old ++ bytes

pub record Gives (old bytes : List ℕ) (m : Raw) : Type 0 where
  pub sent : Sent
  pub is : IsSent sent
  pub before : Behind old (continues sent.facts)
  pub frame_is : frame sent ≡ old ++ bytes
  pub raw_is : raw_of sent ≡ m

abbrev pub Moves : List ℕ → List ℕ → ℕ → Got → List ℕ → Type 0
Moves old piece used gots.More new = (used ≡ length piece) × Waits old piece new
Moves old piece used gots.Continue new = GoesOn old (take used piece) new
Moves old piece used (gots.Message m) new = (new ≡ []) × Gives old (take used piece) (raw m)
Moves old piece used (gots.Refused e) new = (used ≡ 0) × (new ≡ old) × Behind old [] × Refuses e (old ++ piece)
Moves old piece used gots.Memory new = used ≡ 0

-- a head is known, and what has come of the body is at most the body
abbrev pub IsBodyOf : List ℕ → Option Head → List ℕ → Type 0
IsBodyOf top None body = ⊥
IsBodyOf top (Some hd) body = IsTop top hd × (length body ≤ hd.length)

abbrev pub IsBody : Partial → Type 0
IsBody p = IsBodyOf p.top.items p.head p.body.items

-- what the body's bytes make of it
abbrev pub AddsBody : List ℕ → Head → List ℕ → List ℕ → ℕ → Got → List ℕ → Option Head → List ℕ → Type 0
AddsBody top hd body piece used gots.More top' head' body' =
    (used ≡ length piece) × (top' ≡ top) × (head' ≡ Some hd) × (body' ≡ body ++ piece) × (length body' < hd.length)
AddsBody top hd body piece used (gots.Message m) top' head' body' =
    (top' ≡ []) × (head' ≡ None) × (body' ≡ []) × (used ≤ length piece)
    × ((raw m).body ≡ body ++ take used piece) × (length (raw m).body ≡ hd.length)
    × (m.method ≡ hd.method) × (m.target ≡ hd.target) × (m.close ≡ hd.close)
AddsBody top hd body piece used gots.Memory top' head' body' = used ≡ 0
AddsBody top hd body piece used gots.Continue top' head' body' = ⊥
AddsBody top hd body piece used (gots.Refused e) top' head' body' = ⊥

abbrev pub MovesBodyOf : List ℕ → Option Head → List ℕ → List ℕ → Fed → List ℕ → Option Head → List ℕ → Type 0
MovesBodyOf top None body piece fed top' head' body' = ⊥
MovesBodyOf top (Some hd) body piece fed top' head' body' = AddsBody top hd body piece fed.used fed.got top' head' body'

abbrev pub MovesBody : Partial → List ℕ → Fed → Partial → Type 0
MovesBody old piece fed new = MovesBodyOf old.top.items old.head old.body.items piece fed new.top.items new.head new.body.items

-- what is kept is less than a message, while the reader goes on
abbrev pub KeepsOf : Got → List ℕ → Option Head → List ℕ → Type 0
KeepsOf gots.More top head body = AreHeld top head body
KeepsOf gots.Continue top head body = AreHeld top head body
KeepsOf (gots.Message m) top head body = AreHeld top head body
KeepsOf (gots.Refused e) top head body = Unit {0}
KeepsOf gots.Memory top head body = Unit {0}

abbrev pub Keeps : Got → Partial → Type 0
Keeps got new = KeepsOf got new.top.items new.head new.body.items

-- a Continue and a message take at least one byte
abbrev pub Takes : Got → ℕ → Type 0
Takes gots.More used = Unit {0}
Takes gots.Continue used = 0 < used
Takes (gots.Message m) used = 0 < used
Takes (gots.Refused e) used = Unit {0}
Takes gots.Memory used = Unit {0}

-- The whole messages at the front of a stream, and what stands behind them.
use Rattle.std.specs.Prelude.{◌≡◌, ℕ, ◌<◌, ◌≤◌, ◌⊎◌, Bool, if◌then◌else◌, List, [], ◌∷◌, ◌++◌, length, take, flat_map, Ok, Err, Option, Some, None}
use Rattle.std.specs.List.{AllByRecursion}
use Rattle.httparse.specs.Grammar.{RequestHead, IsRequestHead, print_request, HasNoRequest, NeverHasRequest}
use Rattle.http_wire.specs.Head.{judged}
use Rattle.http_wire.specs.declared.rejection.Rejection.{Rejection}
use Rattle.http_wire.specs.declared.rejection.Rejection.TheVariants as rejections
use Rattle.http_wire.specs.Judge.{Facts, judge}

-- a message without where it lies in memory
pub record Raw : Type 0 where
  pub method : List ℕ
  pub target : List ℕ
  pub body : List ℕ
  pub close : Bool

-- what a stream gives, in order
pub data Given : Type 0 where
  go_on : Given
  whole : Raw → Given

-- a message on the stream: its head, what the head asks for, and its body
pub record Sent : Type 0 where
  pub head : RequestHead
  pub facts : Facts
  pub body : List ℕ

abbrev pub frame : Sent → List ℕ
frame s = print_request s.head ++ s.body

-- a head of the grammar that fits into 16,384 bytes
pub record IsHead (h : RequestHead) : Type 0 where
  pub grammar : IsRequestHead h
  pub size : length (print_request h) ≤ 16384

-- the head is not refused, and the body has the length that it says
pub record IsSent (s : Sent) : Type 0 where
  pub head : IsHead s.head
  pub judged_so : judge s.head ≡ Ok s.facts
  pub size : length s.body ≡ s.facts.length

-- the bytes that are looked at for a head
abbrev pub front : List ℕ → List ℕ
front bytes = take 16384 bytes

-- what stands behind the last whole message: less than a head, less than a body, or what is refused
pub data Tail : Type 0 where
  no_head : Tail
  no_body : Facts → Tail
  refused : Rejection → Tail

-- the bytes begin with a head
pub record Begins (bytes : List ℕ) (h : RequestHead) (more : List ℕ) : Type 0 where
  pub head : IsHead h
  pub are : bytes ≡ print_request h ++ more

-- the bytes are less than a head, and may become one
pub record MayBegin (bytes : List ℕ) : Type 0 where
  pub none : HasNoRequest (front bytes)
  pub may : ¬ (NeverHasRequest (judged (front bytes)))

abbrev pub Refuses : Rejection → List ℕ → Type 0
Refuses e bytes =
    (NeverHasRequest (judged (front bytes)) × (e ≡ rejections.Head))
    ⊎ ((MayBegin bytes × (16384 ≤ length bytes) × (e ≡ rejections.HeadTooLarge))
    ⊎ ((h : RequestHead) × (more : List ℕ) × Begins bytes h more × (judge h ≡ Err e)))

abbrev pub IsTail : Tail → List ℕ → Type 0
IsTail no_head bytes = MayBegin bytes × (length bytes < 16384)
IsTail (no_body facts) bytes =
    (h : RequestHead) × (part : List ℕ) × Begins bytes h part × (judge h ≡ Ok facts) × (length part < facts.length)
IsTail (refused e) bytes = Refuses e bytes

-- the stream is these messages, and then the rest
pub record Splits (stream : List ℕ) (sent : List Sent) (tail : Tail) (rest : List ℕ) : Type 0 where
  pub parts : stream ≡ flat_map frame sent ++ rest
  pub each : AllByRecursion IsSent sent
  pub ends : IsTail tail rest

-- a Continue where the head asks for it
abbrev pub continues : Facts → List Given
continues facts = if facts.expects then go_on ∷ [] else []

abbrev pub raw_of : Sent → Raw
raw_of s = record { method = s.facts.method; target = s.facts.target; body = s.body; close = s.facts.close }

abbrev pub given_of : Sent → List Given
given_of s = continues s.facts ++ whole (raw_of s) ∷ []

abbrev pub given_behind : Tail → List Given
given_behind no_head = []
given_behind (no_body facts) = continues facts
given_behind (refused e) = []

-- all that the stream gives, and how it ends
pub record Messages (stream : List ℕ) (items : List Given) (tail : Tail) : Type 0 where
  pub sent : List Sent
  pub rest : List ℕ
  pub splits : Splits stream sent tail rest
  pub items_are : items ≡ flat_map given_of sent ++ given_behind tail

-- why the stream is refused, if it is
abbrev pub rejection_of : Tail → Option Rejection
rejection_of no_head = None
rejection_of (no_body f) = None
rejection_of (refused e) = Some e

-- The reader as its users see it.
use Rattle.std.specs.Prelude.{◌≡◌, ◌≢◌, ℕ, ◌+◌, ◌≤◌, List, [], ◌∷◌, ◌++◌, length, take, flat_map, Option, Some, None}
use Rattle.http_wire.specs.declared.reader.Stop.{Stop}
use Rattle.http_wire.specs.declared.reader.Stop.TheVariants as stops
use Rattle.http_wire.specs.declared.partial.Got.{Got}
use Rattle.http_wire.specs.declared.partial.Got.TheVariants as gots
use Rattle.http_wire.specs.declared.partial.Fed.{Fed}
use Rattle.http_wire.specs.declared.reader.RequestReader.TheInside.{Inside}
use Rattle.http_wire.specs.Reader.{held, IsHeld, Moves, raw}
use Rattle.http_wire.specs.declared.stream.Item.{Item}
use Rattle.http_wire.specs.declared.stream.Item.TheVariants as items
use Rattle.http_wire.specs.declared.rejection.Rejection.{Rejection}
use Rattle.http_wire.specs.Stream.{Given, go_on, whole, Sent, Tail, refused, Splits, given_of, given_behind, Messages, rejection_of}

pub record Reader : Type 0 where
  pub held : List ℕ
  pub stop : Option Stop

abbrev pub view_of : Inside → Reader
view_of a = record { held = held a.partial; stop = a.stop }

abbrev pub GoesOnHeld : Option Stop → Inside → Type 0
GoesOnHeld None a = IsHeld a.partial
GoesOnHeld (Some s) a = Unit {0}

pub record IsReader (a : Inside) : Type 0 where
  pub is : GoesOnHeld a.stop a
  pub few : length a.partial.top.items + length a.partial.body.items ≤ 1064960

abbrev pub stop_of : Got → Option Stop
stop_of gots.More = None
stop_of gots.Continue = None
stop_of (gots.Message m) = None
stop_of (gots.Refused e) = Some (stops.Refused e)
stop_of gots.Memory = Some stops.Memory

abbrev pub got_of : Stop → Got
got_of (stops.Refused e) = gots.Refused e
got_of stops.Memory = gots.Memory

-- what has stopped answers the same for ever, and changes no more
abbrev pub FeedsFrom : Option Stop → Reader → List ℕ → ℕ → Got → Reader → Type 0
FeedsFrom None old piece used got new = Moves old.held piece used got new.held × (new.stop ≡ stop_of got)
FeedsFrom (Some s) old piece used got new = (used ≡ 0) × (got ≡ got_of s) × (new ≡ old)

abbrev pub Feeds : Reader → List ℕ → Fed → Reader → Type 0
Feeds old piece fed new = FeedsFrom old.stop old piece fed.used fed.got new

abbrev pub rejection_in : Option Stop → Option Rejection
rejection_in None = None
rejection_in (Some (stops.Refused e)) = Some e
rejection_in (Some stops.Memory) = None

abbrev pub given : Item → Given
given items.Continue = go_on
given (items.Message m) = whole (raw m)

-- the stream gave these items, and these bytes are held of it
pub record Read (stream : List ℕ) (items : List Given) (held : List ℕ) : Type 0 where
  pub sent : List Sent
  pub tail : Tail
  pub splits : Splits stream sent tail held
  pub items_are : items ≡ flat_map given_of sent ++ given_behind tail
  pub calm : rejection_of tail ≡ None

-- the same of a reader, which may have stopped
abbrev pub Told : List ℕ → List Given → List ℕ → Option Stop → Type 0
Told stream items held None = Read stream items held
Told stream items held (Some (stops.Refused e)) = Messages stream items (refused e)
Told stream items held (Some stops.Memory) = ⊥

-- whatever came before, the reader and its items tell of the stream with the piece
abbrev pub Follows : Reader → List Given → List ℕ → Reader → List Given → Type 0
Follows old items piece new items' =
    (stream : List ℕ) → Told stream items old.held old.stop → Told (stream ++ piece) items' new.held new.stop

-- the stream gives these items, and is refused so at its end, if at all
pub record GivesAll (stream : List ℕ) (items : List Given) (rejection : Option Rejection) : Type 0 where
  pub tail : Tail
  pub messages : Messages stream items tail
  pub rejection_is : rejection ≡ rejection_of tail

-- a first part of the piece was taken
pub record Taking (old : Reader) (items : List Given) (piece : List ℕ) (new : Reader) (items' : List Given) (rest : List ℕ) : Type 0 where
  pub taken : List ℕ
  pub parts : piece ≡ taken ++ rest
  pub follows : Follows old items taken new items'

-- what a call gives
abbrev pub given_by : Got → List Given
given_by gots.More = []
given_by gots.Continue = go_on ∷ []
given_by (gots.Message m) = whole (raw m) ∷ []
given_by (gots.Refused e) = []
given_by gots.Memory = []

-- the bytes that a call speaks of: the whole piece where it refuses
abbrev pub seen_by : Got → ℕ → List ℕ → List ℕ
seen_by gots.More used piece = piece
seen_by gots.Continue used piece = take used piece
seen_by (gots.Message m) used piece = take used piece
seen_by (gots.Refused e) used piece = piece
seen_by gots.Memory used piece = []

-- whatever the stream gave before, it gave this after it
abbrev pub Tells : Reader → List ℕ → Fed → Reader → Type 0
Tells old piece fed new =
    (stream : List ℕ) (items : List Given) → Told stream items old.held old.stop → fed.got ≢ gots.Memory
    → Told (stream ++ seen_by fed.got fed.used piece) (items ++ given_by fed.got) new.held new.stop

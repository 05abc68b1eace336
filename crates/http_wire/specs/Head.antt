-- Which bytes are judged, and what a head is.
use Rattle.std.specs.Prelude.{ℕ, ◌==◌, ◌+◌, ◌&&◌, ◌⊎◌, List, length, take, drop, Bool, if◌then◌else◌, nat_lt, ⊤}
use Rattle.std.specs.List.{list_all, position_or_len}
use Rattle.httparse.specs.Grammar.{is_uri_byte, RequestHead, ReadsRequest, HasNoRequest, NeverHasRequest, MayBecomeRequest}
use Rattle.httparse.specs.Spans.{IsRequestWithin, IsRequestOf}
use Rattle.httparse.specs.declared.spans.HeaderSpan.{HeaderSpan}
use Rattle.http_wire.specs.declared.head.Found.{Found}
use Rattle.http_wire.specs.declared.head.Found.TheVariants.{More, Bad, Head, Memory}
use Rattle.http_wire.specs.declared.head.Parsed.{Parsed}
use Rattle.http_wire.specs.declared.head.Parsed.TheVariants as parsed

abbrev pub is_space : ℕ → Bool
is_space b = b == 32

-- the place of the first space, or the length
abbrev pub first_space : List ℕ → ℕ
first_space bytes = position_or_len is_space bytes

-- one space has come, and every byte behind it may stand in a target
abbrev pub ends_in_target : List ℕ → Bool
ends_in_target bytes = nat_lt (first_space bytes) (length bytes) && list_all is_uri_byte (drop (first_space bytes + 1) bytes)

-- the bytes up to and with the space before the target, where they end within it
abbrev pub judged : List ℕ → List ℕ
judged bytes = if ends_in_target bytes then take (first_space bytes + 1) bytes else bytes

abbrev pub IfHead : List ℕ → List HeaderSpan → Found → Type 0
IfHead buf headers More = ⊤
IfHead buf headers Bad = ⊤
IfHead buf headers Memory = ⊤
IfHead buf headers (Head spans) = IsRequestWithin buf headers spans × IsRequestOf buf headers spans

-- a head is there, or may come
abbrev pub MayHaveRequest : List ℕ → Type 0
MayHaveRequest buf = ((h : RequestHead) × (rest : List ℕ) × ReadsRequest buf h rest) ⊎ MayBecomeRequest buf

-- what the parser made of the bytes is so
abbrev pub IsParsed : List ℕ → List HeaderSpan → Parsed → Type 0
IsParsed buf headers (parsed.Head spans) = IsRequestWithin buf headers spans × IsRequestOf buf headers spans
IsParsed buf headers parsed.Partial = HasNoRequest buf × MayBecomeRequest buf
IsParsed buf headers parsed.Bad = NeverHasRequest buf
IsParsed buf headers parsed.Crowded = ⊤
IsParsed buf headers parsed.Memory = ⊤

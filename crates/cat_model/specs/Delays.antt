-- Lock delays and TTLs by the clock of one server, in milliseconds.
-- Consul, Sessions: "Session Design" (lock-delay, and the TTL, after which a session may be invalidated, at the latest after twice the TTL).
use Rattle.std.specs.Prelude.{ℕ, ◌+◌, ◌*◌, if◌then◌else◌, List, [], ◌∷◌, length, map, nat_eq, reverse}
use Rattle.std.proofs.Common.{max}
use Rattle.cat_model.specs.Keys.{same_text}
use Rattle.cat_model.specs.Machine.{freed, at_past}
use Rattle.cat_model.specs.declared.command.Command.{Command}

-- a command with the clock at which the server applied it, in its present life
pub record Timed : Type 0 where
  pub command : Command
  pub clock : ℕ

abbrev pub commands : List Timed → List Command
commands applied = map (λ t. t.command) applied

-- the greatest end of the delays of this key among the keys that were freed at this clock, or 0
abbrev pub freed_until : List ℕ → ℕ → List (List ℕ × ℕ) → ℕ
freed_until key clock [] = 0
freed_until key clock (f ∷ fs) = if same_text f.0 key then max (clock + f.1) (freed_until key clock fs) else freed_until key clock fs

-- as at_past, with the last command first
unfoldable pub past_delay : List ℕ → List Timed → ℕ
past_delay key [] = 0
past_delay key (t ∷ past) = max (freed_until key t.clock (freed (length past + 1) t.command (at_past (commands past)))) (past_delay key past)

-- The clock at which the key's lock delay is over at a server that applied these commands: the greatest clock plus delay of the positions that freed the key, or 0.
abbrev pub delay_until : List ℕ → List Timed → ℕ
delay_until key applied = past_delay key (reverse applied)

-- when a session began to live anew at a leading server in office: the server applied its creation, or renewed it
pub record Start : Type 0 where
  pub session : ℕ
  pub clock : ℕ

-- The clock at which a session's TTL began last at a leading server: when it took office, or the latest creation or renewal of the session in office, if that is later.
unfoldable pub ttl_start : ℕ → ℕ → List Start → ℕ
ttl_start id office [] = office
ttl_start id office (s ∷ starts) = if nat_eq s.session id then max s.clock (ttl_start id office starts) else ttl_start id office starts

-- the clock at which the leader may end the session
abbrev pub ttl_end : ℕ → ℕ → ℕ
ttl_end start ttl_ms = start + 2 * ttl_ms

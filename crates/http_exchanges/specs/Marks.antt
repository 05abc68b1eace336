-- What marks ask, take and answer, and what calls put behind them. Marks stand the first one first.
use Rattle.std.specs.Prelude.{◌≡◌, ◌⊎◌, ℕ, ◌+◌, ◌^◌, ◌<◌, ◌≤◌, true, List, [], ◌∷◌, ◌++◌, length, reverse, Option, Some, None, option_map}
use Rattle.std.specs.List.{AllByRecursion}
use Rattle.cat_model.specs.declared.command.Command.{Command}
use Rattle.cat_model.specs.declared.command.Entry.{Entry}
use Rattle.cat_model.specs.declared.request.Event.{Event}
use Rattle.cat_model.specs.declared.request.Event.TheVariants as event
use Rattle.cat_model.specs.declared.reply.Mark.{Mark}
use Rattle.cat_model.specs.declared.reply.Mark.TheVariants as mark
use Rattle.cat_model.specs.Log.{commands_of}
use Rattle.cluster_rules.specs.Replies.{Reply}
use Rattle.cluster_rules.specs.Sound.{IsAmong, entered_in}
use Rattle.turn_lock.specs.Lists.{Among, EachOnce, numbers}
use Rattle.http_exchanges.specs.declared.cluster.Ask.{Ask}

-- the request that a mark asks
abbrev pub opens : Mark → Option ℕ
opens (mark.Asked number agent asked draw) = Some number
opens other = None

-- the request whose reply a mark takes
abbrev pub takes : Mark → Option ℕ
takes (mark.Taken number) = Some number
takes other = None

-- the request that a mark answers
abbrev pub answers : Mark → Option ℕ
answers (mark.Answered number kind known contact) = Some number
answers other = None

-- whose clocks: the servers' or the agents'
pub data Whose : Type 0 where
  Servers : Whose
  Agents : Whose

-- the clock of theirs that an event lets go on, and by how many milliseconds
abbrev pub going : Whose → Event → Option (ℕ × ℕ)
going Servers (event.Tick server ms) = Some (server, ms)
going Agents (event.AgentTick agent ms) = Some (agent, ms)
going whose other = None

-- the server or the agent whose clock went on
abbrev pub ticks : Whose → Mark → Option ℕ
ticks whose (mark.Made made) = option_map (λ t. t.0) (going whose made)
ticks whose other = None

-- the milliseconds by which it went on
abbrev pub ticks_by : Whose → Mark → Option ℕ
ticks_by whose (mark.Made made) = option_map (λ t. t.1) (going whose made)
ticks_by whose other = None

abbrev pub asked_mark : ℕ → Ask → Mark
asked_mark number a = mark.Asked number a.agent a.asked a.draw

abbrev pub answered_mark : Reply → Mark
answered_mark r = mark.Answered r.number r.kind r.known r.contact

-- the agreed log that marks tell
abbrev pub log_of : List Mark → List Entry
log_of marks = entered_in (reverse marks)

-- and its commands, as the catalog machine takes them
abbrev pub agreed_by : List Mark → List Command
agreed_by marks = commands_of (log_of marks)

-- the agent is one of so many
abbrev pub Fits : ℕ → Ask → Type 0
Fits agents a = (0 < a.agent) × (a.agent ≤ agents)

-- nothing was asked or taken
pub record AddsQuiet (old new : List Mark) : Type 0 where
  pub rest : List Mark
  pub are : new ≡ old ++ rest
  pub opens_none : numbers opens rest ≡ []
  pub takes_none : numbers takes rest ≡ []

-- the request was asked, once, and nothing was taken
pub record AddsAsked (number : ℕ) (ask : Ask) (old new : List Mark) : Type 0 where
  pub rest : List Mark
  pub are : new ≡ old ++ rest
  pub opens_it : numbers opens rest ≡ number ∷ []
  pub takes_none : numbers takes rest ≡ []
  pub asked : IsAmong (asked_mark number ask) rest

-- nothing was taken, and at most one request asked: an ask without memory may have put its mark
pub record AddsCut (old new : List Mark) : Type 0 where
  pub rest : List Mark
  pub are : new ≡ old ++ rest
  pub opens_few : length (numbers opens rest) ≤ 1
  pub takes_none : numbers takes rest ≡ []

-- each clock that went on, a server's or an agent's, did so once, and by so many milliseconds
pub record TicksBy (ms : ℕ) (old new : List Mark) : Type 0 where
  pub rest : List Mark
  pub are : new ≡ old ++ rest
  pub once : (whose : Whose) → EachOnce (numbers (ticks whose) rest)
  pub by_ms : (whose : Whose) → AllByRecursion (λ n. n ≡ ms) (numbers (ticks_by whose) rest)

-- Each of so many servers' clocks went on, but for those that would have passed their end, 2 ^ 53 milliseconds, and each of
-- so many agents', which have no end. `clock` tells how the servers' stood before.
pub record TicksAll (servers agents : ℕ) (clock : ℕ → ℕ) (ms : ℕ) (old new : List Mark) : Type 0 where
  pub rest : List Mark
  pub are : new ≡ old ++ rest
  pub each_server : (s : ℕ) → 0 < s → s ≤ servers → Among s (numbers (ticks Servers) rest) ⊎ (2 ^ 53 < clock s + ms)
  pub each_agent : (a : ℕ) → 0 < a → a ≤ agents → Among a (numbers (ticks Agents) rest)

-- so many messages were delivered: the most that may be, or all of them, so that none is under way
pub record Delivers (most : ℕ) (idle : Type 0) (count : ℕ) (old new : List Mark) : Type 0 where
  pub rest : List Mark
  pub are : new ≡ old ++ rest
  pub told : IsAmong (mark.Settled count true) rest
  pub enough : (count ≡ most) ⊎ ((count ≤ most) × idle)

-- no clock went on, neither a server's nor an agent's
pub record TicksNone (old new : List Mark) : Type 0 where
  pub rest : List Mark
  pub are : new ≡ old ++ rest
  pub none : (whose : Whose) → numbers (ticks whose) rest ≡ []

-- each number is asked at most once and answered at most once, and only what was asked is taken
pub record AreKept (marks : List Mark) : Type 0 where
  pub once : EachOnce (numbers opens marks)
  pub only : EachOnce (numbers answers marks)
  pub taken : (n : ℕ) → Among n (numbers takes marks) → Among n (numbers opens marks)

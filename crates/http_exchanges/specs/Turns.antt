-- What a turn does.
use Rattle.std.specs.Prelude.{◌≡◌, ℕ, ◌+◌, ◌-◌, ◌<◌, min, List, Option, Some, None}
use Rattle.cat_model.specs.declared.reply.Mark.{Mark}
use Rattle.cat_model.specs.Taken.{IsTakenAsked}
use Rattle.cluster_rules.specs.Replies.{Reply}
use Rattle.http_exchanges.specs.declared.cluster.Ask.{Ask}
use Rattle.http_exchanges.specs.declared.served.Turned.{Turned}
use Rattle.http_exchanges.specs.Marks.{AddsAsked, AddsCut, AddsQuiet, Delivers, Fits, TicksAll, TicksBy, TicksNone}
use Rattle.http_exchanges.specs.Collects.{Collects}

-- the agent is one of the cluster's, and the cluster takes what is asked
abbrev pub MayAsk : ℕ → Ask → Type 0
MayAsk agents a = Fits agents a × IsTakenAsked a.asked

-- How many milliseconds a turn catches up on, whose last one caught up on all up to `last`: a day at most, and none where
-- the outside clock has fallen.
abbrev pub passed : ℕ → ℕ → ℕ
passed last now = min (now - last) 86400000

-- the clocks went on by as much, once
abbrev pub GoesOn : ℕ → ℕ → ℕ → List Mark → List Mark → Type 0
GoesOn last last' now old new = (last' ≡ last + passed last now) × TicksBy (passed last now) old new

-- the clocks stood still
abbrev pub StandsStill : ℕ → ℕ → List Mark → List Mark → Type 0
StandsStill last last' old new = (last' ≡ last) × TicksNone old new

-- the request was asked, if there is one; the one of this number is waited for
abbrev pub Makes : Option Ask → ℕ → ℕ → List Mark → List Mark → Type 0
Makes None number n old new = (n ≡ number) × AddsQuiet old new
Makes (Some ask) number n old new = AddsAsked n ask old new

-- memory ran out: nothing was taken, and nothing asked but the request, if there is one
abbrev pub FallsShort : Option Ask → List Mark → List Mark → Type 0
FallsShort None old new = AddsQuiet old new
FallsShort (Some ask) old new = AddsCut old new

-- `marks` are a cluster's, and `idle` says that no message is under way in it.
module _ {C : Type 0} (marks : C → List Mark) (idle : C → Type 0) where
  -- messages were delivered, and nothing else was done
  pub record Settles (old new : C) : Type 0 where
    pub quiet : AddsQuiet (marks old) (marks new)
    pub still : TicksNone (marks old) (marks new)
    pub count : ℕ
    pub delivered : Delivers 4096 (idle new) count (marks old) (marks new)

  -- the request was asked, if there is one, and then messages were delivered
  pub record Asks (ask : Option Ask) (number n : ℕ) (old new : C) : Type 0 where
    pub asked : C
    pub made : Makes ask number n (marks old) (marks asked)
    pub still : TicksNone (marks old) (marks asked)
    pub settled : Settles asked new

  -- and then it was collected, which put no message under way
  pub record Exchanges (shows : ℕ → Ask → Reply → List Mark → Type 0) (ask : Option Ask) (number : ℕ) (t : Turned) (old new : C) : Type 0 where
    pub settled : C
    pub asks : Asks ask number t.number old settled
    pub got : Collects shows t.number t.got (marks settled) (marks new)
    pub calm : idle settled → idle new

  -- All clocks went on by the time that had passed, and then messages were delivered, so that what became due by then is
  -- done. `servers`, `agents` and `clock` tell of a cluster's clocks.
  pub record Readies (servers : C → ℕ) (agents : ℕ) (clock : C → ℕ → ℕ) (last now : ℕ) (old new : C) : Type 0 where
    pub timed : C
    pub quiet : AddsQuiet (marks old) (marks timed)
    pub by : TicksBy (passed last now) (marks old) (marks timed)
    pub all : 0 < passed last now → TicksAll (servers old) agents (clock old) (passed last now) (marks old) (marks timed)
    pub settled : Settles timed new

  -- A turn: first the clocks went on and what that brought was settled, and only then the request was asked, settled and
  -- collected.
  pub record Turns (servers : C → ℕ) (agents : ℕ) (clock : C → ℕ → ℕ) (shows : ℕ → Ask → Reply → List Mark → Type 0) (last now : ℕ) (ask : Option Ask) (number : ℕ) (t : Turned) (old new : C) : Type 0 where
    pub ready : C
    pub readied : Readies servers agents clock last now old ready
    pub exchanged : Exchanges shows ask number t ready new

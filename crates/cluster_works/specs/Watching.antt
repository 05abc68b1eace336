-- Which of the requests that were asked may have something due.
use Rattle.std.specs.Prelude.{ℕ, ◌<◌, ◌⊎◌, List}
use Rattle.cat_model.specs.declared.query.Chan.{Chan}
use Rattle.cluster_rules.specs.Cluster.{Stand, AtPlace, InRound, ForIndex, Ended}
use Rattle.read_watch.specs.Watch as plain
use Rattle.read_watch.specs.Watch.{Watch, nobody}

-- a watch that has taken in the requests up to the one numbered `seen`
pub record Watching : Type 0 where
  pub watch : Watch
  pub seen : ℕ

-- a request that was asked since, or is awake
abbrev pub MayBeDue : ℕ → Watching → Type 0
MayBeDue n w = (w.seen < n) ⊎ plain.IsAwake n w.watch

-- at server i the request sleeps on these channels until this time of the server's clock
abbrev pub Sleeps : (i n : ℕ) (chans : List Chan) (deadline : ℕ) → Watching → Type 0
Sleeps i n chans deadline w = plain.Sleeps i n chans deadline w.watch

-- at server i the request, which stands so, is in line: a write for the position at which it was entered, a read for its round
abbrev pub IsInLine : (i n : ℕ) → Stand → Watching → Type 0
IsInLine i n (AtPlace index term) w = plain.AwaitsPosition i n index w.watch
IsInLine i n (InRound round deadline) w = plain.AwaitsRound i n round.term round.number w.watch
IsInLine i n (ForIndex deadline looked) w = ⊥
IsInLine i n (Ended event) w = ⊥

-- nobody joined or left a line
abbrev pub SameLines : Watching → Watching → Type 0
SameLines old new = plain.SameLines old.watch new.watch

-- who is in line stays there
abbrev pub StayInLine : Watching → Watching → Type 0
StayInLine old new = (i n : ℕ) (stand : Stand) → IsInLine i n stand old → IsInLine i n stand new

-- who is in line stays there, or something may be due of it
abbrev pub LeaveLine : Watching → Watching → Type 0
LeaveLine old new = (i n : ℕ) (stand : Stand) → IsInLine i n stand old → MayBeDue n new ⊎ IsInLine i n stand new

-- what may be due stays so
abbrev pub StayAwake : Watching → Watching → Type 0
StayAwake old new = (n : ℕ) → MayBeDue n old → MayBeDue n new

-- of as many servers nobody sleeps
abbrev pub nothing_watched : ℕ → Watching
nothing_watched servers = record { watch = nobody servers; seen = 0 }

abbrev pub unwatched : Watching
unwatched = nothing_watched 0

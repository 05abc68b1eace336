-- Which requests are awake, so that something may be due of them, and which sleep.
use Rattle.std.specs.Prelude.{◌≡◌, ℕ, zero, suc, ◌<◌, ◌≤◌, ◌^◌, ◌⊎◌, Bool, true, false, not, List, [], ◌∷◌, Some, Contains, length, map, filter, replicate, slice_index_or, nat_eq}
use Rattle.std.specs.List.{AllByRecursion, list_any}
use Rattle.std.specs.Ordering.{nat_cmp}
use Rattle.std.specs.Map.{lookup}
use Rattle.std.specs.BTreeMap.{is_at}
use Rattle.cat_model.specs.Reach.{is_on}
use Rattle.cat_model.specs.declared.query.Chan.{Chan}
use Rattle.read_watch.specs.Lines.{Line, WaitsIn}

-- The reads that sleep at a server, ascending by number: each with the channels on which it hangs, and each with the time of the server's clock at which its wait is over.
pub record Sleepers : Type 0 where
  pub asleep : List (ℕ × List Chan)
  pub timers : List (ℕ × ℕ)

-- The requests of all servers, which are numbered from 1: those that are awake, and at each server those that sleep, those that wait for a position of its log, and those that wait for a round of acknowledgements. Where `all` holds memory ran out, and any request may be awake.
pub record Watch : Type 0 where
  pub servers : List Sleepers
  pub positions : List Line
  pub rounds : List Line
  pub awake : List ℕ
  pub all : Bool

abbrev pub no_sleeper : Sleepers
no_sleeper = record { asleep = []; timers = [] }

-- no request at so many servers
abbrev pub nobody : ℕ → Watch
nobody servers = record { servers = replicate servers no_sleeper; positions = replicate servers []; rounds = replicate servers []; awake = []; all = false }

-- a server's number
abbrev pub IsServer : ℕ → Watch → Type 0
IsServer i w = (1 ≤ i) × (i ≤ length w.servers)

-- server i's sleepers
abbrev pub sleepers_of : List Sleepers → ℕ → Sleepers
sleepers_of servers zero = no_sleeper
sleepers_of servers (suc i) = slice_index_or servers i no_sleeper

-- the request is awake
abbrev pub IsAwake : ℕ → Watch → Type 0
IsAwake n w = (w.all ≡ true) ⊎ Contains w.awake n

-- the request is among these sleepers, on these channels and until this time
pub record SleepsAmong (n : ℕ) (chans : List Chan) (deadline : ℕ) (s : Sleepers) : Type 0 where
  pub hangs : lookup (is_at (nat_cmp n)) s.asleep ≡ Some chans
  pub until : lookup (is_at (nat_cmp n)) s.timers ≡ Some deadline

-- at server i the request sleeps on these channels until this time of the server's clock
abbrev pub Sleeps : (i n : ℕ) (chans : List Chan) (deadline : ℕ) → Watch → Type 0
Sleeps i n chans deadline w = SleepsAmong n chans deadline (sleepers_of w.servers i)

-- at server i the request waits for this position, which has no term here
abbrev pub AwaitsPosition : (i n index : ℕ) → Watch → Type 0
AwaitsPosition i n index w = WaitsIn i n 0 index w.positions

-- at server i the request waits for the round of this term and number
abbrev pub AwaitsRound : (i n term number : ℕ) → Watch → Type 0
AwaitsRound i n term number w = WaitsIn i n term number w.rounds

-- nobody joined or left a line
abbrev pub SameLines : Watch → Watch → Type 0
SameLines old new = (new.positions ≡ old.positions) × (new.rounds ≡ old.rounds)

-- Who slept is among these numbers now, or sleeps on, and the latter only on channels and until a time of which `stays` holds.
pub record Leave (stays : List Chan → ℕ → Type 0) (numbers : List ℕ) (before after : Sleepers) : Type 0 where
  pub each : (n : ℕ) (chans : List Chan) (deadline : ℕ) → SleepsAmong n chans deadline before → Contains numbers n ⊎ (SleepsAmong n chans deadline after × stays chans deadline)

-- all but this number sleep on
pub record OthersStay (number : ℕ) (before after : Sleepers) : Type 0 where
  pub each : (n : ℕ) (chans : List Chan) (deadline : ℕ) → (n ≡ number → ⊥) → SleepsAmong n chans deadline before → SleepsAmong n chans deadline after

-- whether a number is one of these
abbrev pub is_among : ℕ → List ℕ → Bool
is_among n numbers = list_any (λ m. nat_eq m n) numbers

-- the numbers without this one
abbrev pub without : ℕ → List ℕ → List ℕ
without n numbers = filter (λ m. not (nat_eq m n)) numbers

-- the numbers ascend
abbrev pub Rises : List ℕ → Type 0
Rises [] = Unit {0}
Rises (n ∷ ns) = AllByRecursion (λ m. n < m) ns × Rises ns

-- the numbers of those that hang on a channel which a fired one reaches
abbrev pub hit_by : List Chan → List (ℕ × List Chan) → List ℕ
hit_by fired asleep = map (λ w. w.0) (filter (λ w. is_on fired w.1) asleep)

-- the number has a timer whose time has come
abbrev pub IsOver : ℕ → ℕ → List (ℕ × ℕ) → Type 0
IsOver n clock timers = (deadline : ℕ) × (lookup (is_at (nat_cmp n)) timers ≡ Some deadline) × (deadline ≤ clock)

-- each timer's key is the number of a request, which has 64 bits
abbrev pub AreNumbers : List (ℕ × ℕ) → Type 0
AreNumbers = AllByRecursion (λ t. t.0 < 2 ^ 64)

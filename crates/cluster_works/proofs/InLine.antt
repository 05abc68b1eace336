-- Who stays in line at the servers and who leaves it, as a watch goes on.
use Rattle.std.proofs.Common.{◌≡◌, ◌⊎◌, inl, inr, ℕ, suc, ◌<◌, Bool, true, List, ◌∷◌, length, refl, sym, ap, subst, arith}
use Rattle.raft_model.specs.declared.message.Round.{Round}
use Rattle.read_watch.specs.Lines.{Line, Waiter, WaitsIn, line_of}
use Rattle.read_watch.specs.Watch as plain
use Rattle.cluster_rules.specs.Cluster.{AtPlace, Ended, ForIndex, InRound, Stand}
use Rattle.cluster_works.specs.Watching.{IsInLine, LeaveLine, MayBeDue, StayAwake, StayInLine, Watching}

-- what holds of who waits for a position and of who waits for a round holds of all that are in line
from_line : (old : Watching) (P : ℕ → ℕ → Stand → Type 0) → ((i n index term : ℕ) → plain.AwaitsPosition i n index old.watch → P i n (AtPlace index term))
    → ((i n : ℕ) (round : Round) (deadline : ℕ) → plain.AwaitsRound i n round.term round.number old.watch → P i n (InRound round deadline)) → (i n : ℕ) (stand : Stand) → IsInLine i n stand old → P i n stand
from_line old P positions rounds i n (AtPlace index term) x = positions i n index term x
from_line old P positions rounds i n (InRound round deadline) x = rounds i n round deadline x
from_line old P positions rounds i n (ForIndex deadline looked) x = absurd x
from_line old P positions rounds i n (Ended event) x = absurd x

same_waits : (i n term number : ℕ) (old new : List Line) → new ≡ old → WaitsIn i n term number old → WaitsIn i n term number new
same_waits i n term number old new e x = subst (λ (lines : List Line). WaitsIn i n term number lines) (sym e) x

-- of one that is awake something may be due
awake_or : {A : Type 0} (new : Watching) (n : ℕ) → plain.IsAwake n new.watch ⊎ A → MayBeDue n new ⊎ A
awake_or new n (inl awake) = inl (inr awake)
awake_or new n (inr x) = inr x

but_later : {A B C : Type 0} → A ⊎ (B × C) → A ⊎ B
but_later (inl a) = inl a
but_later (inr b) = inr b.0

-- one joins the line for positions
pub positions_stay : (now old new : Watching) → old ≡ now → ((i n at : ℕ) → plain.AwaitsPosition i n at old.watch → plain.AwaitsPosition i n at new.watch) → new.watch.rounds ≡ old.watch.rounds → StayInLine now new
positions_stay now old new is kept same =
    subst (λ (w : Watching). StayInLine w new) is
    (from_line old (λ i n stand. IsInLine i n stand new) (λ i n index term x. kept i n index x)
    (λ i n round deadline x. same_waits i n round.term round.number old.watch.rounds new.watch.rounds same x))

-- one joins the line for rounds
pub rounds_stay : (now old new : Watching) → old ≡ now → new.watch.positions ≡ old.watch.positions → ((i n t k : ℕ) → plain.AwaitsRound i n t k old.watch → plain.AwaitsRound i n t k new.watch) → StayInLine now new
rounds_stay now old new is same kept =
    subst (λ (w : Watching). StayInLine w new) is
    (from_line old (λ i n stand. IsInLine i n stand new) (λ i n index term x. same_waits i n 0 index old.watch.positions new.watch.positions same x)
    (λ i n round deadline x. kept i n round.term round.number x))

-- some leave the line for positions
pub positions_leave : (now old new : Watching) (Later : ℕ → ℕ → Type 0) → old ≡ now → ((i n at : ℕ) → plain.AwaitsPosition i n at old.watch → plain.IsAwake n new.watch ⊎ (plain.AwaitsPosition i n at new.watch × Later i at))
    → new.watch.rounds ≡ old.watch.rounds → LeaveLine now new
positions_leave now old new Later is left same =
    subst (λ (w : Watching). LeaveLine w new) is
    (from_line old (λ i n stand. MayBeDue n new ⊎ IsInLine i n stand new) (λ i n index term x. awake_or new n (but_later (left i n index x)))
    (λ i n round deadline x. inr (same_waits i n round.term round.number old.watch.rounds new.watch.rounds same x)))

-- who stays in it waits for a later position
pub positions_later : (now old new : Watching) (server position : ℕ) → old ≡ now → ((i n at : ℕ) → plain.AwaitsPosition i n at old.watch → plain.IsAwake n new.watch ⊎ (plain.AwaitsPosition i n at new.watch × (i ≡ server → position < at)))
    → (n index term : ℕ) → IsInLine server n (AtPlace index term) now → MayBeDue n new ⊎ (position < index)
positions_later now old new server position is left =
    subst (λ (w : Watching). (n index term : ℕ) → IsInLine server n (AtPlace index term) w → MayBeDue n new ⊎ (position < index)) is (λ n index term x. by n index (left server n index x))
  where
    by : (n at : ℕ) → plain.IsAwake n new.watch ⊎ (plain.AwaitsPosition server n at new.watch × (server ≡ server → position < at)) → MayBeDue n new ⊎ (position < at)
    by n at (inl awake) = inl (inr awake)
    by n at (inr (x, later)) = inr (later refl)

-- some leave the line for rounds
pub rounds_leave : (now old new : Watching) → old ≡ now → new.watch.positions ≡ old.watch.positions → ((i n t k : ℕ) → plain.AwaitsRound i n t k old.watch → plain.IsAwake n new.watch ⊎ plain.AwaitsRound i n t k new.watch) → LeaveLine now new
rounds_leave now old new is same left =
    subst (λ (w : Watching). LeaveLine w new) is
    (from_line old (λ i n stand. MayBeDue n new ⊎ IsInLine i n stand new) (λ i n index term x. inr (same_waits i n 0 index old.watch.positions new.watch.positions same x))
    (λ i n round deadline x. awake_or new n (left i n round.term round.number x)))

-- some leave both lines, and of who stays this is told of its server
pub lines_left : (now old new : Watching) (Away : ℕ → Type 0) → old ≡ now → ((i n at : ℕ) → plain.AwaitsPosition i n at old.watch → plain.IsAwake n new.watch ⊎ (plain.AwaitsPosition i n at new.watch × Away i))
    → ((i n t k : ℕ) → plain.AwaitsRound i n t k old.watch → plain.IsAwake n new.watch ⊎ (plain.AwaitsRound i n t k new.watch × Away i)) → (i n : ℕ) (stand : Stand) → IsInLine i n stand now → MayBeDue n new ⊎ (IsInLine i n stand new × Away i)
lines_left now old new Away is positions rounds =
    subst (λ (w : Watching). (i n : ℕ) (stand : Stand) → IsInLine i n stand w → MayBeDue n new ⊎ (IsInLine i n stand new × Away i)) is
    (from_line old (λ i n stand. MayBeDue n new ⊎ (IsInLine i n stand new × Away i)) (λ i n index term x. awake_or new n (positions i n index x)) (λ i n round deadline x. awake_or new n (rounds i n round.term round.number x)))

pub left_leave : (old new : Watching) (Away : ℕ → Type 0) → ((i n : ℕ) (stand : Stand) → IsInLine i n stand old → MayBeDue n new ⊎ (IsInLine i n stand new × Away i)) → LeaveLine old new
left_leave old new Away left i n stand x = but_later (left i n stand x)

pub then_leave : (a b c : Watching) → LeaveLine a b → StayAwake b c → LeaveLine b c → LeaveLine a c
then_leave a b c first up next i n stand x = by (first i n stand x)
  where
    by : MayBeDue n b ⊎ IsInLine i n stand b → MayBeDue n c ⊎ IsInLine i n stand c
    by (inl due) = inl (up n due)
    by (inr y) = next i n stand y

pub leave_here : (w : Watching) → LeaveLine w w
leave_here w i n stand x = inr x

-- the first leaves the line for rounds
pub one_less : (now old new : Watching) (server : ℕ) (woke : Bool) → old ≡ now → (woke ≡ true → (e : Waiter) × (line_of old.watch.rounds server ≡ e ∷ line_of new.watch.rounds server)) → woke ≡ true
    → length (line_of new.watch.rounds server) < length (line_of now.watch.rounds server)
one_less now old new server woke is first e =
    let same : length (line_of old.watch.rounds server) ≡ suc (length (line_of new.watch.rounds server)) = ap length (first e).1 in
    subst (λ (w : Watching). length (line_of new.watch.rounds server) < length (line_of w.watch.rounds server)) is (omega (arith, same))

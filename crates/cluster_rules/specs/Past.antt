-- What steps put on the marks of a cluster, the last one first, and the numbers in them.
use Rattle.std.specs.Prelude.{◌≡◌, ◌≢◌, ℕ, suc, ◌⊎◌, List, [], ◌∷◌, ◌++◌, Some}
use Rattle.std.specs.List.{AllByRecursion as Each}
use Rattle.cat_model.specs.declared.request.Event.{Event}
use Rattle.cat_model.specs.declared.request.Event.TheVariants as event
use Rattle.cat_model.specs.declared.reply.Mark.{Mark}
use Rattle.cat_model.specs.declared.reply.Mark.TheVariants as mark
use Rattle.cluster_rules.specs.Replies.{Out, number_of}
use Rattle.cluster_rules.specs.Cluster.{Pending, Cluster}
use Rattle.cluster_rules.specs.Reached.{moves_of}

-- marks were put that name no move: nothing was asked, made, taken, settled or advanced
pub record Adds (past past' : List Mark) : Type 0 where
  pub more : List Mark
  pub are : past' ≡ more ++ past
  pub quiet : moves_of more ≡ []

-- The mark of the event, a request's with its number; one that was cut while it made up has none yet.
abbrev pub event_mark : Event → ℕ → Mark
event_mark (event.Ask agent asked draw) asked_so_far = mark.Asked (suc asked_so_far) agent asked draw
event_mark other asked_so_far = mark.Made other

-- an event put its own mark, and then marks that name no move
pub record AddsEvent (made : Event) (c c' : Cluster) : Type 0 where
  pub own : Mark
  pub more : List Mark
  pub own_is : (own ≡ event_mark made c.asked) ⊎ (own ≡ mark.Made made)
  pub are : c'.past ≡ more ++ own ∷ c.past
  pub quiet : moves_of more ≡ []

abbrev pub Among : ℕ → List ℕ → Type 0
Among n [] = ⊥
Among n (x ∷ xs) = (x ≡ n) ⊎ Among n xs

-- no number stands twice
abbrev pub EachOnce : List ℕ → Type 0
EachOnce [] = Unit {0}
EachOnce (x ∷ xs) = (Among x xs → ⊥) × EachOnce xs

-- the numbers that were asked, answered and taken
abbrev pub asked_of : List Mark → List ℕ
asked_of [] = []
asked_of (mark.Asked number agent asked draw ∷ past) = number ∷ asked_of past
asked_of (other ∷ past) = asked_of past

abbrev pub answered_of : List Mark → List ℕ
answered_of [] = []
answered_of (mark.Answered number kind known contact ∷ past) = number ∷ answered_of past
answered_of (other ∷ past) = answered_of past

abbrev pub taken_of : List Mark → List ℕ
taken_of [] = []
taken_of (mark.Taken number ∷ past) = number ∷ taken_of past
taken_of (other ∷ past) = taken_of past

-- each number is asked at most once and answered at most once, and only what was asked is taken
pub record AreKept (past : List Mark) : Type 0 where
  pub once : EachOnce (asked_of past)
  pub only : EachOnce (answered_of past)
  pub taken : (n : ℕ) → Among n (taken_of past) → Among n (asked_of past)

-- nothing was asked or taken
pub record AddsQuiet (past past' : List Mark) : Type 0 where
  pub more : List Mark
  pub are : past' ≡ more ++ past
  pub asked : asked_of more ≡ []
  pub taken : taken_of more ≡ []

-- the request has no out in the tray
abbrev pub HasNoOut : ℕ → List Out → Type 0
HasNoOut number tray = Each (λ (o : Out). number_of o ≢ Some number) tray

-- and is not held
abbrev pub IsNotHeld : ℕ → List Pending → Type 0
IsNotHeld number held = Each (λ (h : Pending). h.question.number ≢ number) held

-- the event is no request's
abbrev pub AsksNothing : Event → Type 0
AsksNothing (event.Ask agent asked draw) = ⊥
AsksNothing other = Unit {0}

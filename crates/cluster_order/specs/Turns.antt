-- What the parts of an event do: one work that is due, all that is due, the act, and the whole event.
use Rattle.std.specs.Prelude.{◌≡◌, ◌≢◌, ◌⊎◌, ℕ, suc, Bool, true, false, List, [], ◌∷◌, length, None, Some, Result, Ok, Err}
use Rattle.cat_model.specs.declared.request.Asked.{Asked}
use Rattle.cat_model.specs.declared.request.Draw.{Draw}
use Rattle.cat_model.specs.declared.request.Event.{Event}
use Rattle.cat_model.specs.declared.request.Event.TheVariants as event
use Rattle.cat_model.specs.declared.reply.Mark.{Mark}
use Rattle.cat_model.specs.declared.reply.Mark.TheVariants as mark
use Rattle.raft_model.specs.World.{WorldStep}
use Rattle.raft_model.specs.World as world
use Rattle.cluster_rules.specs.Replies.{Question}
use Rattle.cluster_rules.specs.Cluster.{Cluster}
use Rattle.cluster_rules.specs.Due.{Work, due, IsDue, did, Works, IsMadeUp}
use Rattle.cluster_rules.specs.Requests as rules
use Rattle.cluster_rules.specs.Requests.{Handles, Answers, Goes, way, asked_server, moved}
use Rattle.cluster_rules.specs.Proposals.{Tends}
use Rattle.cluster_rules.specs.Step.{Acts, Remembers, Does, ClusterStep, noted, shelved}
use Rattle.cluster_order.specs.declared.cut.Cut.{Cut}
use Rattle.cluster_order.specs.declared.cut.Cut.TheVariants.{Before, Within}
use Rattle.cluster_order.specs.declared.parts.Way.{Way}
use Rattle.cluster_order.specs.declared.parts.Way.TheVariants as ways
use Rattle.cluster_order.specs.declared.impulse.Impulse.{Impulse}
use Rattle.cluster_order.specs.declared.impulse.Impulse.TheVariants as impulse

-- the event of an impulse
abbrev pub event_of : Impulse → Event
event_of (impulse.Timeout server) = event.Timeout server
event_of (impulse.Beat server) = event.Beat server
event_of (impulse.Deliver number) = event.Deliver number
event_of (impulse.Restart server) = event.Restart server
event_of (impulse.FailKeep server nth) = event.FailKeep server nth

-- where a request goes
abbrev pub way_of : Way → rules.Way
way_of (ways.Answers why) = Answers why
way_of (ways.Goes server) = Goes server

-- one work was done, or none was due
abbrev pub Turned : ℕ → Bool → Cluster → Cluster → Type 0
Turned i true c c' = (w : Work) × IsDue i c w × (c' ≡ did i w c)
Turned i false c c' = (due i c ≡ None) × (c' ≡ c)

-- some works were done, and at least one
abbrev pub WorkedSome : ℕ → Cluster → Cluster → Type 0
WorkedSome i c c' = (w : Work) × IsDue i c w × Works i (did i w c) c'

-- all that was due was done, if there was something
abbrev pub MadeUp : ℕ → Bool → Cluster → Cluster → Type 0
MadeUp i true c c' = WorkedSome i c c' × (due i c' ≡ None)
MadeUp i false c c' = (due i c ≡ None) × (c' ≡ c)

-- memory ran out while something was due
abbrev pub FellBehind : ℕ → Cut → Cluster → Cluster → Type 0
FellBehind i Before c c' = (due i c ≢ None) × (c' ≡ c)
FellBehind i Within c c' = WorkedSome i c c' × (due i c' ≢ None)

-- an act that found all the memory that it needed
abbrev pub ActsWhole : ℕ → Event → Cluster → Cluster → Type 0
ActsWhole i made c c' = (act : Acts 0 c i made c') × Remembers act

-- one that didn't changed nothing, or left a term saved and forgotten
abbrev pub ActsCut : ℕ → Event → Cut → Cluster → Cluster → Type 0
ActsCut i made Before c c' = c' ≡ c
ActsCut i made Within c c' = (act : Acts 0 c i made c') × ¬ Remembers act

-- what a marked event does at its server
abbrev pub IsDone : ℕ → Event → Cluster → Cluster → Type 0
IsDone i made c c' = (c₁ : Cluster) × IsMadeUp i c c₁ × Does i made 0 c₁ c' true

-- and what it does where it is cut short
abbrev pub IsCut : ℕ → Event → Cut → Cluster → Cluster → Type 0
IsCut i made Before c c' = c' ≡ c
IsCut i made Within c c' = WorkedSome i c c' ⊎ ((c₁ : Cluster) × IsMadeUp i c c₁ × Does i made 0 c₁ c' false)

-- an event that found no memory changed nothing, or was cut short
abbrev pub FindsNoMemory : Event → Cluster → Cluster → Type 0
FindsNoMemory made c c' = (c' ≡ c) ⊎ ClusterStep c made c' false

-- an event was noted, and nothing else happened since
abbrev pub IsJustNoted : Cluster → Type 0
IsJustNoted c = (made : Event) × (before : Cluster) × (c ≡ noted made before)

-- it is as if that event had not come
abbrev pub Forgets : Cluster → Cluster → Type 0
Forgets c c' = (made : Event) (before : Cluster) → c ≡ noted made before → c' ≡ before

-- An event that was noted is over, and its outs join the tray. One that has changed nothing is forgotten.
abbrev pub Concludes : {T U E : Type 0} → Result T Cut → Result U E → Cluster → Cluster → Type 0
Concludes (Ok done) (Ok value) c c' = c' ≡ shelved c
Concludes (Err Before) (Err lack) c c' = Forgets c c'
Concludes (Err Within) (Err lack) c c' = c' ≡ shelved c
Concludes done result c c' = ⊥

-- The request that was noted last is this one; answers alone came since.
abbrev pub IsCome : ℕ → Asked → Draw → List Mark → Type 0
IsCome agent asked draw [] = ⊥
IsCome agent asked draw (mark.Answered number kind known contact ∷ past) = IsCome agent asked draw past
IsCome agent asked draw (mark.Made made ∷ past) = made ≡ event.Ask agent asked draw
IsCome agent asked draw (other ∷ past) = ⊥

-- another mark in place of the last one that is no answer's
abbrev pub in_place : Mark → List Mark → List Mark
in_place new [] = []
in_place new (mark.Answered number kind known contact ∷ past) = mark.Answered number kind known contact ∷ in_place new past
in_place new (other ∷ past) = new ∷ past

-- the request that was noted last takes its number
abbrev pub numbered : ℕ → Asked → Draw → Cluster → Cluster
numbered agent asked draw c = record c { asked = suc c.asked; past = in_place (mark.Asked (suc c.asked) agent asked draw) c.past }

-- the request as it was numbered last
abbrev pub newest : ℕ → Asked → Draw → Cluster → Question
newest agent asked draw c = record { number = c.asked; agent = agent; asked = asked; draw = draw }

-- server i does its part for the request, once that has its number
abbrev pub HandlesNewest : ℕ → ℕ → Asked → Draw → Cluster → Cluster → Type 0
HandlesNewest i agent asked draw c c' = Handles (numbered agent asked draw c) i (newest agent asked draw (numbered agent asked draw c)) c'

-- the request goes this way
abbrev pub GoesBy : ℕ → Asked → rules.Way → Cluster → Type 0
GoesBy agent asked found c = way c.world (asked_server (length c.servers) agent) asked ≡ Some found

-- the server's clock goes on
abbrev pub Ticks : ℕ → ℕ → Cluster → Cluster → Type 0
Ticks i ms c c' = (w : world.World) × WorldStep c.world (world.Ticks i ms) w × (c' ≡ moved i w c)

-- the second act of a tick, as far as memory reached
abbrev pub TendsInPart : ℕ → Cluster → Cluster → Type 0
TendsInPart i c c' = (c' ≡ c) ⊎ Tends i c c' false

-- a message is lost
abbrev pub Loses : ℕ → Cluster → Cluster → Type 0
Loses k c c' = (w : world.World) × WorldStep c.world (world.Drops k) w × (c' ≡ record c { world = w })

-- what the code's cut is once something was caught up on or not
abbrev pub cut_after : Bool → Cut
cut_after true = Within
cut_after false = Before

-- What a request that was noted makes its server do, once it has its number.
abbrev pub IsServed : ℕ → ℕ → Asked → Draw → Cluster → Cluster → Type 0
IsServed i agent asked draw c c' = (c₁ : Cluster) × (c₂ : Cluster) × IsMadeUp i c c₁ × HandlesNewest i agent asked draw c₁ c₂ × IsMadeUp i c₂ c'

-- and where it is cut short: without its number while it is caught up on, or with it behind the act
abbrev pub IsServedCut : ℕ → ℕ → Asked → Draw → Cut → Cluster → Cluster → Type 0
IsServedCut i agent asked draw Before c c' = c' ≡ c
IsServedCut i agent asked draw Within c c' =
    WorkedSome i c c'
    ⊎ ((c₁ : Cluster) × (c₂ : Cluster) × IsMadeUp i c c₁ × HandlesNewest i agent asked draw c₁ c₂ × Works i c₂ c' × (due i c' ≢ None))

-- an event is taken; of requests those that are taken
abbrev pub IsTaken : (Asked → Type 0) → Event → Type 0
IsTaken Takes (event.Ask agent asked draw) = Takes asked
IsTaken Takes other = Unit {0}

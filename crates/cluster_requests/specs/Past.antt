-- The marks of what has happened, the last one first.
use Rattle.std.specs.Prelude.{◌≡◌, ℕ, suc, List, [], ◌∷◌, drop, true, Option, Some, None}
use Rattle.cat_model.specs.declared.request.Event.TheVariants as event
use Rattle.cat_model.specs.declared.reply.Mark.{Mark}
use Rattle.cat_model.specs.declared.reply.Mark.TheVariants as mark
use Rattle.cluster_rules.specs.Requests.{entries_past}
use Rattle.cluster_requests.specs.declared.past.Happened.{Happened}
use Rattle.cluster_requests.specs.declared.past.Happened.TheVariants.{Made, Requested, Numbered, Came, Forgotten, Answered, Joined, Halted, Settled, Taken}

-- The mark of the event at work is the last one but for answers, and it is of no request with a number.
abbrev pub IsMadeLast : List Mark → Type 0
IsMadeLast [] = ⊥
IsMadeLast (mark.Answered number kind known contact ∷ past) = IsMadeLast past
IsMadeLast (mark.Made made ∷ past) = Unit {0}
IsMadeLast (other ∷ past) = ⊥

-- another mark in its place
abbrev pub in_place : Mark → List Mark → List Mark
in_place new [] = []
in_place new (mark.Answered number kind known contact ∷ past) = mark.Answered number kind known contact ∷ in_place new past
in_place new (other ∷ past) = new ∷ past

-- The mark of the event at work is the last one, and it is of no request with a number.
abbrev pub IsJustMade : List Mark → Type 0
IsJustMade (mark.Made made ∷ past) = Unit {0}
IsJustMade other = ⊥

-- the marks before the last one
abbrev pub but_last : List Mark → List Mark
but_last [] = []
but_last (m ∷ past) = past

-- the mark of an out's taking; a sync's has none
abbrev pub taken_past : Option ℕ → List Mark → List Mark
taken_past None past = past
taken_past (Some number) past = mark.Taken number ∷ past

abbrev pub after : Happened → List Mark → List Mark
after (Made made) past = mark.Made made.now ∷ past
after (Requested agent asked draw) past = mark.Made (event.Ask agent asked.now draw) ∷ past
after (Numbered number agent asked draw) past = in_place (mark.Asked number agent asked.now draw) past
after (Came number agent asked draw) past = mark.Asked number agent asked.now draw ∷ past
after Forgotten past = but_last past
after (Answered reply) past = mark.Answered reply.now.number reply.now.kind reply.now.known reply.now.contact ∷ past
after (Joined agreed from) past = entries_past (drop from agreed.now) past
after (Halted server) past = mark.Halted server ∷ past
after (Settled pairs) past = mark.Settled pairs true ∷ past
after (Taken number) past = taken_past number past

-- a count of so many, where it still fits
abbrev pub IsCount : Option ℕ → ℕ → Type 0
IsCount None count = Unit {0}
IsCount (Some own) count = own ≡ count

-- The count of events, as marks are put in place and taken back.
use Rattle.std.proofs.Common.{◌≡◌, ℕ, suc, List, [], ◌∷◌, Option, Some, None, refl}
use Rattle.cat_model.specs.declared.request.Asked.{Asked}
use Rattle.cat_model.specs.declared.request.Draw.{Draw}
use Rattle.cat_model.specs.declared.reply.Mark.{Mark}
use Rattle.cat_model.specs.declared.reply.Mark.TheVariants as mark
use Rattle.raft_model.specs.Log.{Log}
use Rattle.cluster_rules.specs.Requests.{entries_past}
use Rattle.cluster_rules.specs.Step.{events_in}
use Rattle.cluster_requests.specs.Past.{IsJustMade, IsMadeLast, but_last, in_place, taken_past}

-- entries are no events
pub entries_uncounted : (log : Log) (past : List Mark) → events_in (entries_past log past) ≡ events_in past
entries_uncounted [] past = refl
entries_uncounted (e ∷ log) past = entries_uncounted log (mark.Entry e ∷ past)

-- a request's mark with its number stands for the event's
pub count_stays : (number agent : ℕ) (asked : Asked) (draw : Draw) (past : List Mark) → IsMadeLast past → events_in (in_place (mark.Asked number agent asked draw) past) ≡ events_in past
count_stays number agent asked draw [] h = refl
count_stays number agent asked draw (mark.Made made ∷ past) h = refl
count_stays number agent asked draw (mark.Answered a b c d ∷ past) h = count_stays number agent asked draw past h
count_stays number agent asked draw (other ∷ past) h = absurd h

-- one event less
pub one_forgotten : (past : List Mark) → IsJustMade past → events_in past ≡ suc (events_in (but_last past))
one_forgotten [] h = absurd h
one_forgotten (mark.Made made ∷ past) h = refl
one_forgotten (other ∷ past) h = absurd h

-- the taking of an out is no event
pub taken_uncounted : (number : Option ℕ) (past : List Mark) → events_in (taken_past number past) ≡ events_in past
taken_uncounted None past = refl
taken_uncounted (Some number) past = refl

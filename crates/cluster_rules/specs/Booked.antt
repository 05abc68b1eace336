-- What stays true of a cluster's books, that is of the requests that were asked, are held, were answered and were taken,
-- whatever its stores held at the beginning. No agreement between servers is a part of it.
use Rattle.std.specs.Prelude.{◌≡◌, ℕ, suc, List, [], ◌∷◌}
use Rattle.std.specs.List.{AllByRecursion as Each}
use Rattle.cat_model.specs.declared.reply.Mark.{Mark}
use Rattle.cat_model.specs.declared.reply.Mark.TheVariants as mark
use Rattle.cluster_rules.specs.Replies.{came, Out, Replied, Closed, Synced}
use Rattle.cluster_rules.specs.Cluster.{Ended, Pending, Cluster}
use Rattle.cluster_rules.specs.Sound.{IsAmong, IsOpen, RestartedAt, WasAsked, Ascends, NoneLost, asked_in}

-- Requests: each held one was asked and is not answered, and one that is to be closed has its server's restart.
pub record PendingIsBooked (past : List Mark) (h : Pending) : Type 0 where
  pub asked : IsAmong (came h.question) past
  pub open_ : IsOpen h.question.number past
  pub ended : (event : ℕ) → h.stand ≡ Ended event → RestartedAt event h.server past

-- Marks: the numbers of requests are those of their marks in order, and an answer came after its request, once.
abbrev pub IsNumbered : List Mark → Type 0
IsNumbered [] = Unit {0}
IsNumbered (mark.Asked number agent asked draw ∷ past) = (number ≡ suc (asked_in past)) × IsNumbered past
IsNumbered (mark.Answered number kind known contact ∷ past) = (WasAsked past number × IsOpen number past) × IsNumbered past
IsNumbered (other ∷ past) = IsNumbered past

-- Outs: a reply that nobody has taken was asked and is that of its mark; a request is closed since its server restarted.
abbrev pub OutIsBooked : List Mark → Out → Type 0
OutIsBooked past (Replied r) = WasAsked past r.number × IsAmong (mark.Answered r.number r.kind r.known r.contact) past
OutIsBooked past (Closed number event) = WasAsked past number × ((server : ℕ) × RestartedAt event server past)
OutIsBooked past (Synced agent count) = Unit {0}

-- what holds also in the midst of an event
pub record Books (asked : ℕ) (requests : List Pending) (new waiting : List Out) (past : List Mark) : Type 0 where
  pub asked_is : asked ≡ asked_in past
  pub held : Each (PendingIsBooked past) requests
  pub ascends : Ascends requests
  pub marks : IsNumbered past
  pub fresh : Each (OutIsBooked past) new
  pub tray : Each (OutIsBooked past) waiting

abbrev pub IsBookedAtWork : Cluster → Type 0
IsBookedAtWork c = Books c.asked c.held c.fresh c.tray c.past

-- what holds between events
pub record Booked (c : Cluster) : Type 0 where
  pub parts : IsBookedAtWork c
  pub none_lost : NoneLost c.asked c
  pub shelved : c.fresh ≡ []

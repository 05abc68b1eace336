-- What a call that looks for a request's out finds.
use Rattle.std.specs.Prelude.{◌≡◌, ◌==◌, Bool, false, ℕ, get_or, List, ◌∷◌, ◌++◌, Option, Some, None}
use Rattle.std.specs.List.{remove}
use Rattle.cat_model.specs.declared.request.Asked.{Asked}
use Rattle.cat_model.specs.declared.request.Asked.TheVariants.{Good}
use Rattle.cat_model.specs.declared.request.Request.TheVariants.{Read}
use Rattle.cluster_rules.specs.Replies.{Out, Replied, Closed, number_of}
use Rattle.cluster_rules.specs.Cluster.{Pending, Stand, AtPlace, InRound, ForIndex, Ended}
use Rattle.cluster_rules.specs.Sound.{IsAmong}
use Rattle.cluster_rules.specs.Past.{HasNoOut, IsNotHeld}
use Rattle.cluster_requests.specs.declared.collected.Awaits.{Awaits}
use Rattle.cluster_requests.specs.declared.collected.Awaits.TheVariants as awaits
use Rattle.cluster_requests.specs.declared.collected.Collected.{Collected}
use Rattle.cluster_requests.specs.declared.collected.Collected.TheVariants as collected
use Rattle.cluster_requests.specs.Past.{taken_past}
use Rattle.cluster_requests.specs.Requests.{Requests}

-- This out was taken out of the tray, and a request's taking is marked.
pub record Takes (out : Out) (old new : Requests) : Type 0 where
  pub before : List Out
  pub after : List Out
  pub there : old.tray ≡ before ++ out ∷ after
  pub is : new ≡ record old { tray = before ++ after; past = taken_past (number_of out) old.past }

-- The first out of the tray was taken.
abbrev pub TakesFirst : Out → Requests → Requests → Type 0
TakesFirst out old new = (old.tray ≡ out ∷ new.tray) × (new ≡ record old { tray = new.tray; past = taken_past (number_of out) old.past })

abbrev pub has_number : Option ℕ → ℕ → Bool
has_number None number = false
has_number (Some own) number = own == number

-- the out is of this request
abbrev pub is_of : ℕ → Out → Bool
is_of number out = has_number (number_of out) number

-- the out at this place of the tray was taken
abbrev pub TakesAt : ℕ → Out → Requests → Requests → Type 0
TakesAt at out old new = (out ≡ get_or old.tray at out) × (new ≡ record old { tray = remove old.tray at; past = taken_past (number_of out) old.past })

abbrev pub least_of : Asked → ℕ
least_of (Good (Read query mode least wait raw)) = least
least_of other = 0

-- the out at this place is of the request of this number, or of none
abbrev pub IsNumberAt : ℕ → List Out → Option ℕ → Type 0
IsNumberAt at outs number = (other : Out) → number ≡ number_of (get_or outs at other)

-- what a request with this stand waits for
abbrev pub awaits_of : Asked → Stand → Awaits
awaits_of asked (AtPlace index term) = awaits.Position index
awaits_of asked (InRound round deadline) = awaits.Round round.number
awaits_of asked (ForIndex deadline looked) = awaits.Index (least_of asked) deadline
awaits_of asked (Ended event) = awaits.Closing

-- the held request of this number waits for this
abbrev pub Waits : ℕ → Awaits → List Pending → Type 0
Waits number wanted held = (h : Pending) × IsAmong h held × (h.question.number ≡ number) × (wanted ≡ awaits_of h.question.asked h.stand)

-- What is collected: the out that was there, else what a held request waits for, else nothing.
abbrev pub IsCollected : ℕ → Collected → Requests → Requests → Type 0
IsCollected number (collected.Ready reply) old new = Takes (Replied reply) old new × (reply.number ≡ number)
IsCollected number (collected.Closed event) old new = Takes (Closed number event) old new
IsCollected number (collected.NotYet wanted) old new = (new ≡ old) × HasNoOut number old.tray × Waits number wanted old.held
IsCollected number collected.Gone old new = (new ≡ old) × HasNoOut number old.tray × IsNotHeld number old.held

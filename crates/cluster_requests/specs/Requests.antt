-- The requests of a cluster: what the rules' cluster has beside its world, its servers and its agents. `room` is how many
-- calls may still come that take no memory; the rules know nothing of it.
use Rattle.std.specs.Prelude.{◌≡◌, ℕ, ◌+◌, ◌-◌, ◌^◌, ◌≤◌, ◌==◌, Bool, true, false, List, [], ◌∷◌, ◌++◌, drop, map, if◌then◌else◌, Option}
use Rattle.cat_model.specs.declared.request.Asked.{Asked}
use Rattle.cat_model.specs.declared.request.Draw.{Draw}
use Rattle.cat_model.specs.declared.request.Event.{Event}
use Rattle.cat_model.specs.declared.reply.Kind.{Kind}
use Rattle.cat_model.specs.declared.reply.Mark.{Mark}
use Rattle.cat_model.specs.declared.reply.Mark.TheVariants as mark
use Rattle.cluster_rules.specs.Agents.{Agent}
use Rattle.cluster_rules.specs.Replies.{Question, Content, Reply, Out, Replied, Closed, Synced, index_shown}
use Rattle.cluster_rules.specs.Cluster.{Cluster, Pending, Server, Stand, Start}
use Rattle.cluster_rules.specs.Due.{without, put_out}
use Rattle.cluster_rules.specs.Requests.{entries_past, halts_past}
use Rattle.cluster_rules.specs.Step.{ended, events_in}
use Rattle.raft_model.specs.Log.{Log}
use Rattle.raft_model.specs.World.{World}
use Rattle.cluster_requests.specs.Past.{IsCount, but_last, in_place}

pub record Requests : Type 0 where
  pub asked : ℕ  -- how many requests were asked
  pub held : List Pending  -- in the order of their numbers
  pub starts : List Start  -- the last one first
  pub fresh : List Out  -- the outs of the event at work, in the order of their numbers
  pub tray : List Out
  pub past : List Mark  -- the last one first
  pub room : ℕ

-- The cluster of these requests, in its world and with its servers and agents.
abbrev pub cluster_of : World → List Server → List Agent → Requests → Cluster
cluster_of world servers agents r = record {
  world = world;
  servers = servers;
  agents = agents;
  asked = r.asked;
  held = r.held;
  starts = r.starts;
  fresh = r.fresh;
  tray = r.tray;
  past = r.past;
}

-- no request was asked
abbrev pub empty : Requests
empty = record { asked = 0; held = []; starts = []; fresh = []; tray = []; past = []; room = 0 }

abbrev pub with_mark : Mark → Requests → Requests
with_mark m r = record r { past = m ∷ r.past }

-- the entries of this agreed log from a place on joined it
abbrev pub joining : ℕ → Log → Requests → Requests
joining from agreed r = record r { past = entries_past (drop from agreed) r.past }

-- the mark of an event, whatever it is
abbrev pub noted : Event → Requests → Requests
noted made r = with_mark (mark.Made made) r

-- a request comes and is marked with its number
abbrev pub came_with : ℕ → Asked → Draw → Requests → Requests
came_with agent asked draw r = record r { asked = r.asked + 1; past = mark.Asked (r.asked + 1) agent asked draw ∷ r.past }

-- the request that was noted last takes its number
abbrev pub numbered_with : ℕ → Asked → Draw → Requests → Requests
numbered_with agent asked draw r = record r { asked = r.asked + 1; past = in_place (mark.Asked (r.asked + 1) agent asked draw) r.past }

-- the mark of an event is taken back
abbrev pub forgotten : Requests → Requests
forgotten r = record r { past = but_last r.past }

abbrev pub reply_with : ℕ → Kind → Bool → ℕ → Content → Reply
reply_with number kind known contact content = record { number = number; index = index_shown kind; content = content; known = known; contact = contact; kind = kind }

-- a request is dropped for its reply
abbrev pub given_with : Reply → Requests → Requests
given_with reply r = record r { held = without reply.number r.held; fresh = put_out (Replied reply) r.fresh; past = mark.Answered reply.number reply.kind reply.known reply.contact ∷ r.past }

-- the request of this number is answered
abbrev pub answered_with : ℕ → Kind → Bool → ℕ → Content → Requests → Requests
answered_with number kind known contact content r = given_with (reply_with number kind known contact content) r

-- the request of this number is closed
abbrev pub closed_with : ℕ → ℕ → Requests → Requests
closed_with number event r = record r { held = without number r.held; fresh = put_out (Closed number event) r.fresh }

-- it is told how many commands an agent's sync proposed, or that it found no leader
abbrev pub told_sync : ℕ → Option ℕ → Requests → Requests
told_sync agent count r = record r { fresh = put_out (Synced agent count) r.fresh }

-- server i begins to hold the request
abbrev pub holding_with : Question → ℕ → Stand → Start → Requests → Requests
holding_with q i stand start r = record r { held = r.held ++ record { question = q; server = i; stand = stand } ∷ []; starts = start ∷ r.starts }

-- the held request of this number with another stand
abbrev pub restood : ℕ → Stand → Pending → Pending
restood number stand h = if h.question.number == number then record h { stand = stand } else h

-- server i restarted in the event that was noted last
abbrev pub ended_all : ℕ → Requests → Requests
ended_all i r = record r { held = map (ended i (events_in r.past)) r.held }

-- the outs of an event join the tray
abbrev pub shelved_all : Requests → Requests
shelved_all r = record r { tray = r.tray ++ r.fresh; fresh = [] }

-- what lies in store for so many calls, by lengths and capacities, and by what room there is for held requests
pub record HasRoom (room held_room fresh fresh_room tray tray_room : ℕ) : Type 0 where
  pub of_held : room ≤ held_room
  pub of_fresh : fresh + room ≤ fresh_room
  pub of_tray : tray + fresh + room ≤ tray_room

-- numbers in store for so many calls, and the count of events
pub record HasNumbers (room asked : ℕ) (events : Option ℕ) (past : List Mark) : Type 0 where
  pub of_asked : asked + room ≤ 2 ^ 64 - 1
  pub counted : IsCount events (events_in past)

-- one call more took what lay in store for it
abbrev pub used : Requests → Requests
used r = record r { room = r.room - 1 }

-- the mark of a server's halt, where its store failed
abbrev pub halted_with : Bool → ℕ → Requests → Requests
halted_with failed i r = record r { past = halts_past i failed r.past }

-- What is due at a server, and what doing it does to the cluster. A server is behind exactly where something is due
-- there; making up is doing it. (Consul, "Blocking Queries": an answer comes with an index above the one given, or once
-- the wait is over. Extended Raft paper, figure 2, "All Servers": entries are applied up to the commit; its section on
-- read-only operations for rounds.)
use Rattle.std.specs.Prelude.{◌≡◌, ℕ, suc, ◌==◌, nat_le, nat_lt, not, ◌&&◌, ◌||◌, Bool, true, false, List, [], ◌∷◌, ◌++◌, length, map, filter, if◌then◌else◌, Option, Some, None}
use Rattle.cat_model.specs.declared.query.Query.{Query}
use Rattle.cat_model.specs.declared.command.Entry.{Entry}
use Rattle.cat_model.specs.declared.request.Mode.{Mode}
use Rattle.cat_model.specs.declared.request.Request.TheVariants.{Read, Execute}
use Rattle.cat_model.specs.declared.request.Asked.{Asked}
use Rattle.cat_model.specs.declared.request.Asked.TheVariants.{Good}
use Rattle.cat_model.specs.declared.reply.Kind.{Kind}
use Rattle.cat_model.specs.declared.reply.Kind.TheVariants.{Acked, At, Seen, Refused}
use Rattle.cat_model.specs.declared.reply.Mark.TheVariants as mark
use Rattle.cat_model.specs.declared.reply.Refusal.TheVariants as refusal
use Rattle.cat_model.specs.Indexes.{index_of}
use Rattle.cat_model.specs.Log.{commands_of}
use Rattle.raft_model.specs.Log.{Log, entry_at, term_at}
use Rattle.raft_model.specs.Node.{set_server}
use Rattle.raft_model.specs.Rules.{is_confirmed}
use Rattle.cluster_rules.specs.Replies.{Question, Out, Replied, Closed, number_of, reply_of}
use Rattle.cluster_rules.specs.Cluster.{Server, Stand, AtPlace, InRound, ForIndex, Ended, Pending, Cluster, node_of, server_of, applied_of, clock_of, knows, contact_of}

-- One thing that is due: a held request's answer, another stand of it, its closing, or the next position.
pub data Work : Type 0 where
  Replies : (question : Question) (kind : Kind) → Work
  Holds : (held : Pending) → Work
  Closes : (number event : ℕ) → Work
  Applies : Work

-- the first of two works that is there
abbrev pub or_work : Option Work → Option Work → Option Work
or_work None other = other
or_work (Some work) other = Some work

-- the first work of a list of held requests
abbrev pub first_work : (Pending → Option Work) → List Pending → Option Work
first_work f [] = None
first_work f (h ∷ hs) = or_work (f h) (first_work f hs)

-- a write whose position is applied
abbrev pub landed : ℕ → ℕ → Log → Kind
landed index term applied = if term_at index applied == term then Acked index else Refused (refusal.Lost term (term_at index applied))

-- an index was looked for and was not there
abbrev pub has_looked : Stand → Bool
has_looked (ForIndex deadline looked) = looked
has_looked other = false

-- a request that waits at server i for an index
abbrev pub waits : ℕ → Pending → Bool
waits i h = h.server == i && has_looked h.stand

-- how many do
abbrev pub waiting : ℕ → List Pending → ℕ
waiting i held = length (filter (waits i) held)

-- A query at an applied prefix: it is answered where its index is above the one given or its time is over. One that was
-- looked for waits on; a new one begins to wait, or is refused where 4,096 wait already.
abbrev pub asks : Pending → ℕ → ℕ → Log → ℕ → Bool → Query → Mode → ℕ → Option Work
asks h others clock applied deadline looked query mode least =
    if nat_lt least (index_of query (commands_of applied)) || nat_le deadline clock
    then Some (Replies h.question (At mode (length applied) (index_of query (commands_of applied)) clock deadline))
    else if looked then None
    else if nat_le 4096 others then Some (Replies h.question (Refused (refusal.TooMany others)))
    else Some (Holds (record h { stand = ForIndex deadline true }))

-- a held read, or an execution, which waits for no index
abbrev pub asks_read : Pending → ℕ → ℕ → Log → ℕ → Bool → Asked → Option Work
asks_read h others clock applied deadline looked (Good (Read query mode least wait raw)) = asks h others clock applied deadline looked query mode least
asks_read h others clock applied deadline looked (Good (Execute name limit mode)) = Some (Replies h.question (Seen mode (length applied)))
asks_read h others clock applied deadline looked other = None

-- what is due before the next position is applied
abbrev pub early_stand : Cluster → ℕ → Pending → Stand → Option Work
early_stand c i h (Ended event) = Some (Closes h.question.number event)
early_stand c i h (AtPlace index term) =
    if nat_le index (length (applied_of c i)) then Some (Replies h.question (landed index term (applied_of c i))) else None
early_stand c i h (InRound round deadline) =
    if nat_lt round.term (node_of c.world i).term then Some (Replies h.question (Refused (refusal.Lost round.term (node_of c.world i).term))) else None
early_stand c i h (ForIndex deadline looked) = asks_read h (waiting i c.held) (clock_of c.world i) (applied_of c i) deadline looked h.question.asked

-- it is to be closed
abbrev pub is_ended : Stand → Bool
is_ended (Ended event) = true
is_ended other = false

-- A halted server answers all that it holds, but for what is to be closed.
abbrev pub early_work : Cluster → ℕ → Pending → Option Work
early_work c i h =
    if h.server == i
    then (if (node_of c.world i).halted && not (is_ended h.stand)
    then Some (Replies h.question (Refused (refusal.Halted i)))
    else early_stand c i h h.stand)
    else None

-- what is due once all that is committed is applied: a round that is confirmed, with its commit applied
abbrev pub late_stand : Cluster → ℕ → Pending → Stand → Option Work
late_stand c i h (InRound round deadline) =
    if not (node_of c.world i).halted && (is_confirmed (node_of c.world i) round && nat_le round.commit (length (applied_of c i)))
    then Some (Holds (record h { stand = ForIndex deadline false }))
    else None
late_stand c i h other = None

-- the same of a held request of server i
abbrev pub late_work : Cluster → ℕ → Pending → Option Work
late_work c i h = if h.server == i then late_stand c i h h.stand else None

-- the next position, where more is committed than applied
abbrev pub next_work : Cluster → ℕ → Option Work
next_work c i = if nat_lt (length (applied_of c i)) (node_of c.world i).commit then Some Applies else None

-- what is due at server i: the first early work, else the next position, else the first confirmed round
abbrev pub due : ℕ → Cluster → Option Work
due i c = or_work (first_work (early_work c i) c.held) (or_work (next_work c i) (first_work (late_work c i) c.held))

-- the held requests of other numbers
abbrev pub without : ℕ → List Pending → List Pending
without number held = filter (λ h. not (h.question.number == number)) held

-- with this one in place of the one of its number
abbrev pub with_held : Pending → List Pending → List Pending
with_held new held = map (λ h. if h.question.number == new.question.number then new else h) held

-- replies and closings in ascending number, then the syncs
abbrev pub is_before : Option ℕ → Option ℕ → Bool
is_before None other = false
is_before (Some a) None = true
is_before (Some a) (Some b) = nat_lt a b

-- an out in its place among those of the event
abbrev pub put_out : Out → List Out → List Out
put_out out [] = out ∷ []
put_out out (o ∷ outs) = if is_before (number_of out) (number_of o) then out ∷ o ∷ outs else o ∷ put_out out outs

-- the reply of this kind, which shows what the log holds
abbrev pub answered : Question → Kind → Bool → ℕ → Log → Cluster → Cluster
answered q kind known contact log c =
    record c {
      held = without q.number c.held;
      fresh = put_out (Replied (reply_of q kind known contact log)) c.fresh;
      past = mark.Answered q.number kind known contact ∷ c.past;
    }

-- a server with one more entry, applied at this time of its clock
abbrev pub applies_entry : ℕ → Server → Option Entry → Server
applies_entry clock s None = s
applies_entry clock s (Some e) = record s { applied = s.applied ++ e ∷ []; clocks = s.clocks ++ clock ∷ [] }

-- server i applies its next position
abbrev pub applies : ℕ → Cluster → Cluster
applies i c =
    record c {
      servers = set_server c.servers i (applies_entry (clock_of c.world i) (server_of c.servers i) (entry_at (suc (length (applied_of c i))) (node_of c.world i).log));
    }

-- the cluster once this is done at server i
unfoldable pub did : ℕ → Work → Cluster → Cluster
did i (Replies q kind) c = answered q kind (knows c.world i kind) (contact_of c.world i kind) (applied_of c i) c
did i (Holds h) c = record c { held = with_held h c.held }
did i (Closes number event) c = record c { held = without number c.held; fresh = put_out (Closed number event) c.fresh }
did i Applies c = applies i c

-- What may be done next: anything that a held request allows; where there is nothing the next position; and once all
-- is applied a confirmed round.
pub data IsDue (i : ℕ) (c : Cluster) (w : Work) : Type 0 where
  early : (before after : List Pending) (h : Pending) → c.held ≡ before ++ h ∷ after → early_work c i h ≡ Some w → IsDue i c w
  next_one : first_work (early_work c i) c.held ≡ None → next_work c i ≡ Some w → IsDue i c w
  late : first_work (early_work c i) c.held ≡ None → next_work c i ≡ None → (before after : List Pending) (h : Pending) → c.held ≡ before ++ h ∷ after → late_work c i h ≡ Some w → IsDue i c w

-- some of what is due at the server is done, one thing after another
pub data Works (i : ℕ) : Cluster → Cluster → Type 0 where
  none : {c : Cluster} → Works i c c
  work : {c c' : Cluster} (w : Work) → IsDue i c w → Works i (did i w c) c' → Works i c c'

-- all of it is done
abbrev pub IsMadeUp : ℕ → Cluster → Cluster → Type 0
IsMadeUp i c c' = Works i c c' × (due i c' ≡ None)

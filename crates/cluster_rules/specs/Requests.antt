-- The way of a request, and its part at the server to which it went (Consul, "Consistency Modes": default and
-- consistent requests go to the leader, stale ones are answered by any server; "Blocking Queries": a wait is five
-- minutes where none is given, and ten at most). An agent's request has no way: the agent itself answers it.
use Rattle.std.specs.Prelude.{◌≡◌, ◌≢◌, ℕ, suc, ◌+◌, ◌-◌, ◌%◌, ◌==◌, nat_lt, min, not, ◌&&◌, ◌||◌, ◌⊎◌, Bool, true, false, List, [], ◌∷◌, ◌++◌, length, drop, if◌then◌else◌, Option, Some, None}
use Rattle.cat_model.specs.declared.row.SessionRow.{SessionRow}
use Rattle.cat_model.specs.declared.command.Command.{Command}
use Rattle.cat_model.specs.declared.request.Mode.{Mode}
use Rattle.cat_model.specs.declared.request.Mode.TheVariants.{Default, Consistent}
use Rattle.cat_model.specs.declared.request.Request.TheVariants.{Read, Execute, Write, Renew}
use Rattle.cat_model.specs.declared.request.Asked.{Asked}
use Rattle.cat_model.specs.declared.request.Asked.TheVariants.{Good, Bad}
use Rattle.cat_model.specs.declared.reply.Kind.TheVariants.{Seen, Delayed, Refused}
use Rattle.cat_model.specs.declared.reply.Mark.{Mark}
use Rattle.cat_model.specs.declared.reply.Mark.TheVariants as mark
use Rattle.cat_model.specs.declared.reply.Refusal.{Refusal}
use Rattle.cat_model.specs.declared.reply.Refusal.TheVariants as refusal
use Rattle.cat_model.specs.Catalog.{session_at}
use Rattle.cat_model.specs.Log.{commands_of}
use Rattle.cat_model.specs.LogLimits.{log_bytes}
use Rattle.cat_model.specs.Machine.{catalog_at}
use Rattle.raft_model.specs.Facts.{next_round}
use Rattle.raft_model.specs.Log.{Log, last_term}
use Rattle.raft_model.specs.Node.{Node}
use Rattle.raft_model.specs.Rules.{Propose, Probe, has_room, proposal}
use Rattle.raft_model.specs.World.{World, Acts as NodeActs}
use Rattle.cluster_rules.specs.Replies.{Question, entered}
use Rattle.cluster_rules.specs.Lasting.{is_stale}
use Rattle.cluster_rules.specs.Locks.{delayed}
use Rattle.cluster_rules.specs.Offices.{renew_in}
use Rattle.cluster_rules.specs.Cluster.{Stand, AtPlace, InRound, ForIndex, Start, Proposed, Probed, Looked, Cluster, node_of, applied_of, clock_of, runs_leading, until_at, office_of, with_office}
use Rattle.cluster_rules.specs.Due.{answered}

-- Where a request goes: it is answered at once, or a server handles it.
pub data Way : Type 0 where
  Answers : (why : Refusal) → Way
  Goes : (server : ℕ) → Way

-- the asked server doesn't lead: to the server that it holds for leader, if that one leads
abbrev pub to_leader : World → ℕ → Option ℕ → Way
to_leader w a None = Answers (refusal.NoLeader (node_of w a).term (node_of w a).role None)
to_leader w a (Some l) =
    if runs_leading w l then Goes l
    else Answers (refusal.NoLeader (node_of w a).term (node_of w a).role (Some (record { server = l; term = (node_of w l).term; role = (node_of w l).role })))

-- A halted server refuses. A stale read stays at the asked server, as does any request where it leads.
abbrev pub way_of : World → ℕ → Bool → Way
way_of w a stale =
    if (node_of w a).halted then Answers (refusal.Halted a)
    else if stale || runs_leading w a then Goes a
    else to_leader w a (node_of w a).leader

-- the way of a request from the asked server
abbrev pub way : World → ℕ → Asked → Option Way
way w a (Bad why) = Some (Answers why)
way w a (Good (Read query mode least wait raw)) = Some (way_of w a (is_stale mode))
way w a (Good (Write command)) = Some (way_of w a false)
way w a (Good (Execute name limit mode)) = Some (way_of w a (is_stale mode))
way w a (Good (Renew id)) = Some (way_of w a false)
way w a (Good other) = None

-- the server that agent a asks
abbrev pub asked_server : ℕ → ℕ → ℕ
asked_server servers agent = (agent - 1) % servers + 1

-- a leading server that has applied an entry of its term
abbrev pub is_ready : Cluster → ℕ → Bool
is_ready c i = not (nat_lt (last_term (applied_of c i)) (node_of c.world i).term)

-- it is a stale read or execution
abbrev pub is_stale_read : Asked → Bool
is_stale_read (Good (Read query mode least wait raw)) = is_stale mode
is_stale_read (Good (Execute name limit mode)) = is_stale mode
is_stale_read other = false

-- A request goes on at a server that is ready, and a stale read anywhere.
abbrev pub MayGo : Cluster → ℕ → Question → Type 0
MayGo c i q = (is_stale_read q.asked ≡ true) ⊎ (is_ready c i ≡ true)

-- how long a read waits at most, in milliseconds: five minutes where nothing is said, and never above ten
abbrev pub wait_of : ℕ → ℕ
wait_of wait = if wait == 0 then 300000 else min wait 600000

-- what is answered from what its server has applied, with its mode and how long it may wait
abbrev pub look_of : Asked → Option (Mode × ℕ)
look_of (Good (Read query mode least wait raw)) = Some (mode, wait)
look_of (Good (Execute name limit mode)) = Some (mode, 0)
look_of other = None

-- the first key that the command locks whose lock delay is not over at server i
abbrev pub delayed_at : Cluster → ℕ → Command → Option (List ℕ)
delayed_at c i command = delayed (until_at c i) (clock_of c.world i) command

-- a session's row at server i
abbrev pub session_of : Cluster → ℕ → ℕ → Option SessionRow
session_of c i id = session_at id (catalog_at (commands_of (applied_of c i))).sessions

-- an entry's mark for each entry that joined the agreed log
abbrev pub entries_past : Log → List Mark → List Mark
entries_past [] past = past
entries_past (e ∷ es) past = entries_past es (mark.Entry e ∷ past)

-- a mark where the server's durable store failed
abbrev pub halts_past : ℕ → Bool → List Mark → List Mark
halts_past i true past = mark.Halted i ∷ past
halts_past i false past = past

-- what joined the agreed log from one world to the next
abbrev pub joined : World → World → Log
joined w w' = drop (length w.agreed) w'.agreed

-- the cluster in its next world, which a server's step made; the store failed in it or not
abbrev pub moved_with : Bool → ℕ → World → Cluster → Cluster
moved_with failed i w' c = record c { world = w'; past = entries_past (joined c.world w') (halts_past i failed c.past) }

-- a running server's store fails exactly where the server halts
abbrev pub halted_now : World → World → ℕ → Bool
halted_now w w' i = not (node_of w i).halted && (node_of w' i).halted

-- the cluster after a step of server i's node
abbrev pub moved : ℕ → World → Cluster → Cluster
moved i w' c = moved_with (halted_now c.world w' i) i w' c

-- server i begins to hold the request
abbrev pub holding : Question → ℕ → Stand → Start → Cluster → Cluster
holding q i stand start c = record c {
  held = c.held ++ record { question = q; server = i; stand = stand } ∷ [];
  starts = start ∷ c.starts;
}

-- the request is refused at once
abbrev pub refused : Question → Refusal → Cluster → Cluster
refused q why c = answered q (Refused why) false 0 [] c

-- the log with the request's entry
abbrev pub log_with : Node → Question → Command → Log
log_with n q command = n.log ++ proposal n q.number (entered q command) ∷ []

-- What the server does with a request that was just asked.
pub data Handles (c : Cluster) (i : ℕ) (q : Question) (c' : Cluster) : Type 0 where
  -- not ready
  unready : is_stale_read q.asked ≡ false → is_ready c i ≡ false → c' ≡ refused q (refusal.NotReady (node_of c.world i).term (last_term (applied_of c i))) c → Handles c i q c'
  -- The log has no room for the entry. The refused proposal's number is counted.
  full : (command : Command) (w' : World) → q.asked ≡ Good (Write command) → delayed_at c i command ≡ None → MayGo c i q → has_room (node_of c.world i) q.number (entered q command) ≡ false →
      NodeActs c.world i (Propose q.number (entered q command)) w' →
      c' ≡ refused q (refusal.LogFull (length (log_with (node_of c.world i) q command)) (log_bytes (log_with (node_of c.world i) q command))) (moved i w' c) → Handles c i q c'
  -- it is proposed, and held until its position is applied
  proposes : (command : Command) (w' : World) → q.asked ≡ Good (Write command) → delayed_at c i command ≡ None → MayGo c i q → has_room (node_of c.world i) q.number (entered q command) ≡ true →
      NodeActs c.world i (Propose q.number (entered q command)) w' → (node_of w' i).halted ≡ false →
      c' ≡ holding q i (AtPlace (suc (length (node_of c.world i).log)) (node_of c.world i).term) (Proposed (suc (length (node_of c.world i).log)) (proposal (node_of c.world i) q.number (entered q command))) (moved i w' c) → Handles c i q c'
  -- the durable store fails in the proposal
  stops : (command : Command) (w' : World) → q.asked ≡ Good (Write command) → delayed_at c i command ≡ None → MayGo c i q → has_room (node_of c.world i) q.number (entered q command) ≡ true →
      NodeActs c.world i (Propose q.number (entered q command)) w' → (node_of w' i).halted ≡ true → c' ≡ refused q (refusal.Halted i) (moved i w' c) → Handles c i q c'
  -- a lock delay is not over
  delays : (command : Command) (key : List ℕ) → q.asked ≡ Good (Write command) → MayGo c i q → delayed_at c i command ≡ Some key →
      c' ≡ answered q (Delayed key (until_at c i key) (clock_of c.world i)) false 0 [] c → Handles c i q c'
  -- a consistent read or execution waits for its round; its deadline counts from now on
  probes : (wait : ℕ) (w' : World) → look_of q.asked ≡ Some (Consistent, wait) → MayGo c i q → NodeActs c.world i Probe w' →
      c' ≡ holding q i (InRound (next_round (node_of c.world i)) (clock_of c.world i + wait_of wait)) (Probed q.number i (next_round (node_of c.world i))) (moved i w' c) → Handles c i q c'
  -- any other is asked at once
  reads : (mode : Mode) (wait : ℕ) → look_of q.asked ≡ Some (mode, wait) → mode ≢ Consistent → MayGo c i q →
      c' ≡ holding q i (ForIndex (clock_of c.world i + wait_of wait) false) (Looked q.number i (length (applied_of c i))) c → Handles c i q c'
  -- a session is renewed, where there is one
  renews : (id : ℕ) → q.asked ≡ Good (Renew id) → MayGo c i q →
      c' ≡ answered q (Seen Default (length (applied_of c i))) false 0 (applied_of c i) (with_office i (renew_in (session_of c i id) (clock_of c.world i) (office_of c i)) (record c { starts = Looked q.number i (length (applied_of c i)) ∷ c.starts })) → Handles c i q c'

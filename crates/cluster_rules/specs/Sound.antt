-- What stays true of a cluster, whatever is lost, repeated, restarted or cut short for lack of memory.
use Rattle.std.specs.Prelude.{◌≡◌, ◌≢◌, ℕ, suc, ◌+◌, ◌<◌, ◌≤◌, ◌==◌, nat_le, nat_lt, ◌&&◌, ◌⊎◌, Bool, true, false, List, [], ◌∷◌, ◌++◌, length, take, if◌then◌else◌, Option, Some, None}
use Rattle.std.specs.List.{AllByRecursion as Each}
use Rattle.cat_model.specs.declared.query.Query.{Query}
use Rattle.cat_model.specs.declared.command.Entry.{Entry}
use Rattle.cat_model.specs.declared.request.Mode.{Mode}
use Rattle.cat_model.specs.declared.request.Mode.TheVariants.{Default, Consistent, Stale}
use Rattle.cat_model.specs.declared.request.Request.TheVariants.{Read, Execute, Write}
use Rattle.cat_model.specs.declared.request.Asked.{Asked}
use Rattle.cat_model.specs.declared.request.Asked.TheVariants.{Good}
use Rattle.cat_model.specs.declared.request.Event.TheVariants as event
use Rattle.cat_model.specs.declared.reply.Kind.{Kind}
use Rattle.cat_model.specs.declared.reply.Kind.TheVariants.{Acked, At, Seen, Local, Delayed, Refused}
use Rattle.cat_model.specs.declared.reply.Mark.{Mark}
use Rattle.cat_model.specs.declared.reply.Mark.TheVariants as mark
use Rattle.cat_model.specs.declared.reply.Refusal.TheVariants as refusal
use Rattle.cat_model.specs.Indexes.{index_of}
use Rattle.cat_model.specs.Log.{commands_of}
use Rattle.raft_model.specs.declared.message.Round.{Round}
use Rattle.raft_model.specs.Facts.{IsPlaced}
use Rattle.raft_model.specs.Log.{Log, term_at, number_at}
use Rattle.raft_model.specs.Node.{Node}
use Rattle.raft_model.specs.Rules.{is_confirmed}
use Rattle.raft_model.specs.World.{World, Reaches, IsReached, IsServer}
use Rattle.cluster_rules.specs.Replies.{Question, came, entered, Reply, reply_of, Out, Replied, Closed, Synced, number_of}
use Rattle.cluster_rules.specs.Lasting.{IsWrite, IsLook, Lasting}
use Rattle.cluster_rules.specs.Cluster.{Server, Stand, AtPlace, InRound, ForIndex, Ended, Pending, Start, Proposed, Probed, Looked, Cluster, node_of, server_of}
use Rattle.cluster_rules.specs.Step.{events_in}

-- the item is in the list
abbrev pub IsAmong : {A : Type 0} → A → List A → Type 0
IsAmong x [] = ⊥
IsAmong x (y ∷ ys) = (x ≡ y) ⊎ IsAmong x ys

-- No entry of this term and number is agreed, now or later.
abbrev pub NeverEnters : World → ℕ → ℕ → Type 0
NeverEnters w term number =
    (v : World) → Reaches w v → (k : ℕ) → 0 < k → k ≤ length v.agreed → term_at k v.agreed ≡ term → number_at k v.agreed ≡ number → ⊥

-- A round, once confirmed, shows that its leader had committed all of the first n agreed entries.
abbrev pub IsFreshRound : World → ℕ → Round → Type 0
IsFreshRound w n round = (v : World) → Reaches w v → (j : ℕ) (d : Node) → IsServer v j d → is_confirmed d round ≡ true → n ≤ round.commit

-- Servers: each has applied a front of the agreed log, up to its commit at most, and has its clock at each position.
pub record ServerIsSound (agreed : Log) (commit : ℕ) (s : Server) : Type 0 where
  pub front : s.applied ≡ take (length s.applied) agreed
  pub within : length s.applied ≤ commit
  pub clocks : length s.clocks ≡ length s.applied

-- all servers
pub record ServersAreSound (w : World) (servers : List Server) : Type 0 where
  pub count : length servers ≡ length w.nodes
  pub each : (i : ℕ) → ServerIsSound w.agreed (node_of w i).commit (server_of servers i)

-- What the marks tell.
-- the request has no answer
abbrev pub IsOpen : ℕ → List Mark → Type 0
IsOpen number [] = Unit {0}
IsOpen number (mark.Answered k kind known contact ∷ past) = (k ≢ number) × IsOpen number past
IsOpen number (other ∷ past) = IsOpen number past

-- how many requests were asked
abbrev pub asked_in : List Mark → ℕ
asked_in [] = 0
asked_in (mark.Asked number agent asked draw ∷ past) = suc (asked_in past)
asked_in (other ∷ past) = asked_in past

-- the entries that joined the agreed log
abbrev pub entered_in : List Mark → Log
entered_in [] = []
entered_in (mark.Entry e ∷ past) = entered_in past ++ e ∷ []
entered_in (other ∷ past) = entered_in past

-- how many entries were agreed before a request was asked
abbrev pub entries_before : ℕ → List Mark → ℕ
entries_before number [] = 0
entries_before number (mark.Asked k agent asked draw ∷ past) = if k == number then length (entered_in past) else entries_before number past
entries_before number (other ∷ past) = entries_before number past

-- server s restarted in the event of this number
abbrev pub RestartedAt : ℕ → ℕ → List Mark → Type 0
RestartedAt number s [] = ⊥
RestartedAt number s (m ∷ past) = ((m ≡ mark.Made (event.Restart s)) × (number ≡ events_in (m ∷ past))) ⊎ RestartedAt number s past

-- how often a request was answered
abbrev pub answers_in : ℕ → List Mark → ℕ
answers_in k [] = 0
answers_in k (mark.Answered number kind known contact ∷ past) = (if number == k then 1 else 0) + answers_in k past
answers_in k (other ∷ past) = answers_in k past

-- how often server i's durable store failed, by the marks
abbrev pub halts_in : ℕ → List Mark → ℕ
halts_in i [] = 0
halts_in i (mark.Halted s ∷ past) = (if s == i then 1 else 0) + halts_in i past
halts_in i (other ∷ past) = halts_in i past

-- A read's prefix is fresh: of a consistent one it is no shorter than what was agreed before its asking, of any other
-- it is no shorter than what its server had applied then.
abbrev pub LookedBefore : ℕ → List Start → ℕ → Type 0
LookedBefore number starts prefix = (server : ℕ) × (applied : ℕ) × IsAmong (Looked number server applied) starts × (applied ≤ prefix)

-- of a read of each mode
abbrev pub IsFresh : Mode → ℕ → List Mark → List Start → ℕ → Type 0
IsFresh Default number past starts prefix = LookedBefore number starts prefix
IsFresh Consistent number past starts prefix = entries_before number past ≤ prefix
IsFresh Stale number past starts prefix = LookedBefore number starts prefix

-- of an answer; only reads have a prefix
abbrev pub IsFreshKind : Kind → ℕ → List Mark → List Start → Type 0
IsFreshKind (Acked position) number past starts = Unit {0}
IsFreshKind (At mode prefix index clock deadline) number past starts = IsFresh mode number past starts prefix
IsFreshKind (Seen mode prefix) number past starts = IsFresh mode number past starts prefix
IsFreshKind (Local body) number past starts = Unit {0}
IsFreshKind (Delayed key until now) number past starts = Unit {0}
IsFreshKind (Refused why) number past starts = Unit {0}

-- Starts. A proposal keeps its place, and is that of a request that was asked.
abbrev pub WasProposed : List Mark → Entry → Type 0
WasProposed past e = (q : Question) × IsAmong (came q) past × (q.number ≡ e.number) × IsWrite q.asked (λ command. e.command ≡ entered q command)

-- a request of this number was asked
abbrev pub WasAsked : List Mark → ℕ → Type 0
WasAsked past number = (q : Question) × IsAmong (came q) past × (q.number ≡ number)

-- a proposal has its place, a probe's round shows what was agreed before its request was asked
abbrev pub StartIsSound : World → List Mark → Start → Type 0
StartIsSound w past (Proposed index entry) = (0 < index) × IsPlaced w index entry × WasProposed past entry
StartIsSound w past (Probed number server round) = IsFreshRound w (entries_before number past) round × WasAsked past number
StartIsSound w past (Looked number server applied) = WasAsked past number

-- Requests: each held one was asked and is not answered, and what it waits for is so.
abbrev pub WasBelow : Query → ℕ → Bool → Log → Type 0
WasBelow query least false applied = Unit {0}
WasBelow query least true applied = (n : ℕ) × (n ≤ length applied) × (index_of query (commands_of (take n applied)) ≤ least)

-- of a read that was looked for, that its index was not above the one given then
abbrev pub LookedBelow : Asked → Bool → Log → Type 0
LookedBelow (Good (Read query mode least wait raw)) looked applied = WasBelow query least looked applied
LookedBelow other looked applied = Unit {0}

-- what a held request waits for is so, by what its server has applied
abbrev pub StandIsSound : Log → List Mark → List Start → ℕ → Question → Stand → Type 0
StandIsSound applied past starts server q (AtPlace index term) =
    IsWrite q.asked (λ command. IsAmong (Proposed index (record { term = term; number = q.number; command = entered q command })) starts)
StandIsSound applied past starts server q (InRound round deadline) =
    IsLook q.asked (λ mode. (mode ≡ Consistent) × IsAmong (Probed q.number server round) starts)
StandIsSound applied past starts server q (ForIndex deadline looked) =
    IsLook q.asked (λ mode. IsFresh mode q.number past starts (length applied)) × LookedBelow q.asked looked applied
StandIsSound applied past starts server q (Ended number) = RestartedAt number server past

-- a held request
pub record PendingIsSound (servers : List Server) (past : List Mark) (starts : List Start) (h : Pending) : Type 0 where
  pub asked : IsAmong (came h.question) past
  pub open_ : IsOpen h.question.number past
  pub stand : StandIsSound (server_of servers h.server).applied past starts h.server h.question h.stand

-- in the order of their numbers
abbrev pub Ascends : List Pending → Type 0
Ascends [] = Unit {0}
Ascends (h ∷ hs) = Each (λ (g : Pending). h.question.number < g.question.number) hs × Ascends hs

-- Answers. An acknowledged write stands where it was proposed. Of a write whose leadership was lost another term's
-- entry stands there, and its own, told by its term and number, is never agreed. Of a read that lost its round it is
-- the term of the round.
abbrev pub LostFor : World → List Start → Question → Asked → ℕ → ℕ → Type 0
LostFor w starts q (Good (Write command)) old found =
    (index : ℕ) × (e : Entry) × IsAmong (Proposed index e) starts × (e.number ≡ q.number) × (e.term ≡ old)
    × (index ≤ length w.agreed) × (term_at index w.agreed ≡ found) × NeverEnters w old q.number
LostFor w starts q (Good (Read query mode least wait raw)) old found =
    (server : ℕ) × (round : Round) × IsAmong (Probed q.number server round) starts × (round.term ≡ old)
LostFor w starts q (Good (Execute name limit mode)) old found =
    (server : ℕ) × (round : Round) × IsAmong (Probed q.number server round) starts × (round.term ≡ old)
LostFor w starts q other old found = Unit {0}

-- what an answer rests on beside the agreed log
abbrev pub RestsOn : World → List Start → Question → Kind → Type 0
RestsOn w starts q (Acked position) = (e : Entry) × IsAmong (Proposed position e) starts × (e.number ≡ q.number)
RestsOn w starts q (Refused (refusal.Lost old found)) = LostFor w starts q q.asked old found
RestsOn w starts q other = Unit {0}

-- the answer came after its request, once, and lasts
pub record AnswerIsSound (w : World) (past : List Mark) (starts : List Start) (number : ℕ) (kind : Kind) : Type 0 where
  pub question : Question
  pub asked : IsAmong (came question) past
  pub number_is : question.number ≡ number
  pub once : IsOpen number past
  pub lasts : Lasting question kind w.agreed
  pub fresh : IsFreshKind kind number past starts
  pub rests : RestsOn w starts question kind

-- the numbers of requests are those of their marks in order
abbrev pub PastIsSound : World → List Start → List Mark → Type 0
PastIsSound w starts [] = Unit {0}
PastIsSound w starts (mark.Asked number agent asked draw ∷ past) = (number ≡ suc (asked_in past)) × PastIsSound w starts past
PastIsSound w starts (mark.Answered number kind known contact ∷ past) = AnswerIsSound w past starts number kind × PastIsSound w starts past
PastIsSound w starts (other ∷ past) = PastIsSound w starts past

-- Outs. A reply that nobody has taken is that of its mark, and shows what the agreed log holds; a request is closed
-- since its server restarted.
pub record ReplyIsSound (w : World) (past : List Mark) (r : Reply) : Type 0 where
  pub question : Question
  pub asked : IsAmong (came question) past
  pub marked : IsAmong (mark.Answered r.number r.kind r.known r.contact) past
  pub is : r ≡ reply_of question r.kind r.known r.contact w.agreed
  pub lasts : Lasting question r.kind w.agreed

-- an out that nobody has taken
abbrev pub OutIsSound : World → List Mark → Out → Type 0
OutIsSound w past (Replied r) = ReplyIsSound w past r
OutIsSound w past (Closed number event) = WasAsked past number × ((server : ℕ) × RestartedAt event server past)
OutIsSound w past (Synced agent count) = Unit {0}

-- As many requests were asked as there are marks of it, no greater number was proposed, and the marks tell the agreed
-- log.
pub record CountsAreSound (w : World) (asked : ℕ) (past : List Mark) : Type 0 where
  pub asked_is : asked ≡ asked_in past
  pub proposed : w.greatest ≤ asked
  pub entries : entered_in past ≡ w.agreed

-- what holds also in the midst of an event
pub record IsSoundAtWork (c : Cluster) : Type 0 where
  pub world : IsReached c.world
  pub servers : ServersAreSound c.world c.servers
  pub starts : Each (StartIsSound c.world c.past) c.starts
  pub held : Each (PendingIsSound c.servers c.past c.starts) c.held
  pub ascends : Ascends c.held
  pub marks : PastIsSound c.world c.starts c.past
  pub fresh : Each (OutIsSound c.world c.past) c.fresh
  pub tray : Each (OutIsSound c.world c.past) c.tray
  pub counts : CountsAreSound c.world c.asked c.past

-- Where a request is: held, or its out is fresh, in the tray, or taken.
abbrev pub one_if : Bool → ℕ
one_if b = if b then 1 else 0

-- it is of request k
abbrev pub is_of : ℕ → Option ℕ → Bool
is_of k None = false
is_of k (Some number) = number == k

-- how often request k is held
abbrev pub held_times : ℕ → List Pending → ℕ
held_times k [] = 0
held_times k (h ∷ hs) = one_if (h.question.number == k) + held_times k hs

-- how often it has an out here
abbrev pub out_times : ℕ → List Out → ℕ
out_times k [] = 0
out_times k (o ∷ os) = one_if (is_of k (number_of o)) + out_times k os

-- how often its out was taken
abbrev pub taken_times : ℕ → List Mark → ℕ
taken_times k [] = 0
taken_times k (mark.Taken number ∷ past) = one_if (number == k) + taken_times k past
taken_times k (other ∷ past) = taken_times k past

-- in how many places it is
abbrev pub found : ℕ → Cluster → ℕ
found k c = held_times k c.held + out_times k c.fresh + out_times k c.tray + taken_times k c.past

-- Each of the first n requests is in exactly one place, and there are no others: none is lost, and none is answered
-- twice.
abbrev pub NoneLost : ℕ → Cluster → Type 0
NoneLost n c = (k : ℕ) → found k c ≡ one_if (nat_lt 0 k && nat_le k n)

-- what holds between events
pub record Sound (c : Cluster) : Type 0 where
  pub parts : IsSoundAtWork c
  pub none_lost : NoneLost c.asked c
  pub shelved : c.fresh ≡ []

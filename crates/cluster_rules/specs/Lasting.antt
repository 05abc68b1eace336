-- The part of a reply's meaning that no later event undoes: of a write its place in the log, of a read its prefix and
-- index, of a refusal the values that show its cause.
use Rattle.std.specs.Prelude.{◌≡◌, ◌≢◌, ℕ, ◌<◌, ◌≤◌, ◌⊎◌, Bool, true, false, length, take, Option, Some, None}
use Rattle.cat_model.specs.declared.query.Query.{Query}
use Rattle.cat_model.specs.declared.command.Command.{Command}
use Rattle.cat_model.specs.declared.command.Entry.{Entry}
use Rattle.cat_model.specs.declared.request.Mode.{Mode}
use Rattle.cat_model.specs.declared.request.Mode.TheVariants.{Default, Consistent, Stale}
use Rattle.cat_model.specs.declared.request.Request.TheVariants.{Read, Execute, Write, Renew, Agent}
use Rattle.cat_model.specs.declared.request.Asked.{Asked}
use Rattle.cat_model.specs.declared.request.Asked.TheVariants.{Good, Bad}
use Rattle.cat_model.specs.declared.reply.Held as leader
use Rattle.cat_model.specs.declared.reply.Kind.{Kind}
use Rattle.cat_model.specs.declared.reply.Kind.TheVariants.{Acked, At, Seen, Local, Delayed, Refused}
use Rattle.cat_model.specs.declared.reply.Refusal.{Refusal}
use Rattle.cat_model.specs.declared.reply.Refusal.TheVariants as refusal
use Rattle.cat_model.specs.Indexes.{index_of}
use Rattle.cat_model.specs.Log.{commands_of}
use Rattle.cat_model.specs.LogLimits.{most_entries, most_bytes}
use Rattle.cat_model.specs.Role.{leads}
use Rattle.raft_model.specs.Log.{Log, entry_at}
use Rattle.cluster_rules.specs.Locks.{LocksKey}
use Rattle.cluster_rules.specs.Replies.{Question, entered}

-- the request is a write of a command of which this holds
abbrev pub IsWrite : Asked → (Command → Type 0) → Type 0
IsWrite (Good (Write command)) P = P command
IsWrite other P = ⊥

-- the request is a read of which this holds
abbrev pub IsRead : Asked → (Query → Mode → ℕ → Type 0) → Type 0
IsRead (Good (Read query mode least wait raw)) P = P query mode least
IsRead other P = ⊥

-- The request is answered from what its server has applied, in a mode of which this holds: a read or an execution.
abbrev pub IsLook : Asked → (Mode → Type 0) → Type 0
IsLook (Good (Read query mode least wait raw)) P = P mode
IsLook (Good (Execute name limit mode)) P = P mode
IsLook other P = ⊥

-- The mode in which an execution or a renewal sees the log.
abbrev pub IsSeen : Asked → Mode → Type 0
IsSeen (Good (Execute name limit mode)) by = by ≡ mode
IsSeen (Good (Renew id)) by = by ≡ Default
IsSeen other by = ⊥

-- an agent's request
abbrev pub IsAgents : Asked → Type 0
IsAgents (Good (Agent op)) = Unit {0}
IsAgents other = ⊥

-- position m has the request's number and its command
pub record IsEntered (m number : ℕ) (command : Command) (log : Log) : Type 0 where
  pub entry : Entry
  pub there : entry_at m log ≡ Some entry
  pub number_is : entry.number ≡ number
  pub command_is : entry.command ≡ command

-- a read's index at a prefix, above the index given or after the full wait
pub record IsAnswerAt (query : Query) (least prefix index clock deadline : ℕ) (log : Log) : Type 0 where
  pub within : prefix ≤ length log
  pub index_is : index ≡ index_of query (commands_of (take prefix log))
  pub due : (least < index) ⊎ (deadline ≤ clock)

-- the server that is held for leader, if there is one, doesn't lead
abbrev pub NoneLeads : Option leader.Held → Type 0
NoneLeads None = Unit {0}
NoneLeads (Some held) = leads held.role ≡ false

-- the read is by the asked server as it stands
abbrev pub is_stale : Mode → Bool
is_stale Default = false
is_stale Consistent = false
is_stale Stale = true

-- The terms of a read whose leadership was lost: only a consistent one waits for a round.
abbrev pub HasLostRound : Mode → ℕ → ℕ → Type 0
HasLostRound Default old found = ⊥
HasLostRound Consistent old found = old < found
HasLostRound Stale old found = ⊥

-- why a read, an execution or a renewal may be refused, by the values that the refusal carries
abbrev pub RefusesLook : Mode → Refusal → Type 0
RefusesLook mode (refusal.NoLeader term role held) = (is_stale mode ≡ false) × (leads role ≡ false) × NoneLeads held
RefusesLook mode (refusal.NotReady term applied) = (is_stale mode ≡ false) × (applied < term)
RefusesLook mode (refusal.Lost old found) = HasLostRound mode old found
RefusesLook mode (refusal.Halted server) = Unit {0}
RefusesLook mode other = ⊥

-- a read also where too many wait
abbrev pub RefusesRead : Mode → Refusal → Type 0
RefusesRead mode (refusal.TooMany waiting) = 4096 ≤ waiting
RefusesRead mode other = RefusesLook mode other

-- an agent, where it doesn't have what is named
abbrev pub RefusesAgent : Refusal → Type 0
RefusesAgent (refusal.NotFound what) = Unit {0}
RefusesAgent other = ⊥

-- why a write may be refused
abbrev pub RefusesWrite : Refusal → Type 0
RefusesWrite (refusal.NoLeader term role held) = (leads role ≡ false) × NoneLeads held
RefusesWrite (refusal.NotReady term applied) = applied < term
RefusesWrite (refusal.Lost old found) = old ≢ found
RefusesWrite (refusal.LogFull entries bytes) = (most_entries < entries) ⊎ (most_bytes < bytes)
RefusesWrite (refusal.Halted server) = Unit {0}
RefusesWrite other = ⊥

-- Why a request may be refused. A request that is none has the refusal that it came with.
abbrev pub IsRefused : Asked → Refusal → Type 0
IsRefused (Good (Read query mode least wait raw)) why = RefusesRead mode why
IsRefused (Good (Write command)) why = RefusesWrite why
IsRefused (Good (Execute name limit mode)) why = RefusesLook mode why
IsRefused (Good (Renew id)) why = RefusesLook Default why
IsRefused (Good (Agent op)) why = RefusesAgent why
IsRefused (Bad why) other = other ≡ why

-- What a reply of this kind to such a request says of a log.
unfoldable pub LastsFor : Question → Asked → Kind → Log → Type 0
LastsFor q asked (Acked position) log = IsWrite asked (λ command. IsEntered position q.number (entered q command) log)
LastsFor q asked (At by prefix index clock deadline) log =
    IsRead asked (λ query mode least. (by ≡ mode) × IsAnswerAt query least prefix index clock deadline log)
LastsFor q asked (Seen mode prefix) log = IsSeen asked mode × (prefix ≤ length log)
LastsFor q asked (Local body) log = IsAgents asked
LastsFor q asked (Delayed key until now) log = IsWrite asked (LocksKey key) × (now < until)
LastsFor q asked (Refused why) log = IsRefused asked why

-- what a reply of this kind says of a log
abbrev pub Lasting : Question → Kind → Log → Type 0
Lasting q kind log = LastsFor q q.asked kind log

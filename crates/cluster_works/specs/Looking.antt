-- Which of the held requests has something due at a server, by the servers of the cluster.
use Rattle.std.specs.Prelude.{◌≡◌, ◌⊎◌, ℕ, nat_le, nat_lt, ◌==◌, not, ◌&&◌, ◌||◌, if◌then◌else◌, Bool, true, false, List, length, Option, None, Some}
use Rattle.std.specs.List.{AllByRecursion as Each, find}
use Rattle.cat_model.specs.declared.query.Query.{Query}
use Rattle.cat_model.specs.declared.request.Request.TheVariants.{Read, Execute}
use Rattle.cat_model.specs.declared.request.Asked.{Asked}
use Rattle.cat_model.specs.declared.request.Asked.TheVariants.{Good}
use Rattle.cat_model.specs.declared.reply.Kind.TheVariants.{Refused}
use Rattle.cat_model.specs.declared.reply.Refusal.TheVariants as refusal
use Rattle.cat_model.specs.Indexes.{index_of}
use Rattle.cat_model.specs.Log.{commands_of}
use Rattle.raft_model.specs.declared.message.Round.{Round}
use Rattle.raft_model.specs.Log.{Log}
use Rattle.raft_model.specs.Rules.{is_confirmed}
use Rattle.cluster_rules.specs.Cluster.{Cluster, Pending, Stand, AtPlace, InRound, ForIndex, Ended, clock_of, node_of, server_of}
use Rattle.cluster_rules.specs.Due.{Work, Replies, Holds}
use Rattle.cluster_replicas.specs.Servers.{Servers}
use Rattle.cluster_works.specs.Watching.{Watching, MayBeDue}

-- what a server has applied
abbrev pub applied_at : Servers → ℕ → Log
applied_at s i = (server_of s.servers i).applied

-- the servers of a cluster
abbrev pub servers_of : Cluster → Servers
servers_of c = record { world = c.world; servers = c.servers }

-- It was not looked for yet, or its time is over, or its index is above the one given.
abbrev pub is_read_due : Servers → ℕ → ℕ → Bool → Query → ℕ → Bool
is_read_due s i deadline looked query least = not looked || (nat_le deadline (clock_of s.world i) || nat_lt least (index_of query (commands_of (applied_at s i))))

-- What waits for an index is a read, or an execution, which waits for nothing.
abbrev pub is_look_due : Servers → ℕ → ℕ → Bool → Asked → Bool
is_look_due s i deadline looked (Good (Read query mode least wait raw)) = is_read_due s i deadline looked query least
is_look_due s i deadline looked (Good (Execute name limit mode)) = true
is_look_due s i deadline looked other = false

-- By what it waits for.
abbrev pub is_stand_due : Servers → ℕ → Asked → Stand → Bool
is_stand_due s i asked (Ended event) = true
is_stand_due s i asked (AtPlace index term) = nat_le index (length (applied_at s i))
is_stand_due s i asked (InRound round deadline) = nat_lt round.term (node_of s.world i).term
is_stand_due s i asked (ForIndex deadline looked) = is_look_due s i deadline looked asked

-- A halted server drops all that it holds.
abbrev pub is_early : Servers → ℕ → Pending → Bool
is_early s i h = h.server == i && ((node_of s.world i).halted || is_stand_due s i h.question.asked h.stand)

-- A round that is confirmed at a server that runs, with its commit applied.
abbrev pub is_round_over : Servers → ℕ → Round → Bool
is_round_over s i round = not (node_of s.world i).halted && (is_confirmed (node_of s.world i) round && nat_le round.commit (length (applied_at s i)))

-- A round of this term and number waits for nothing more: its term is over, or it is confirmed.
abbrev pub is_round_past : Servers → (i term number : ℕ) → Bool
is_round_past s i term number = nat_lt term (node_of s.world i).term || is_confirmed (node_of s.world i) (record { term = term; number = number; commit = 0 })

-- what waits for a round that is over
abbrev pub is_stand_late : Servers → ℕ → Stand → Bool
is_stand_late s i (InRound round deadline) = is_round_over s i round
is_stand_late s i other = false

-- the same of a held request of server i
abbrev pub is_late : Servers → ℕ → Pending → Bool
is_late s i h = h.server == i && is_stand_late s i h.stand

-- of the held request with this number, if there is one
abbrev pub test_held : (Pending → Bool) → Option Pending → Bool
test_held test None = false
test_held test (Some h) = test h

abbrev pub numbered_in : ℕ → List Pending → Option Pending
numbered_in number held = find (λ h. h.question.number == number) held

abbrev pub is_number_early : Servers → List Pending → (server number : ℕ) → Bool
is_number_early s held i number = test_held (is_early s i) (numbered_in number held)

abbrev pub is_number_late : Servers → List Pending → (server number : ℕ) → Bool
is_number_late s held i number = test_held (is_late s i) (numbered_in number held)

-- A new query whose index is not above the one given waits, or is refused where 4,096 wait already.
abbrev pub waits_on : Pending → ℕ → ℕ → Option Work
waits_on h others deadline =
    if nat_le 4096 others then Some (Replies h.question (Refused (refusal.TooMany others)))
    else Some (Holds (record h { stand = ForIndex deadline true }))

-- Nothing is due of any of these held requests at server i, but for those of which something may be.
abbrev pub OnlyAwakeIsDue : Watching → Servers → ℕ → List Pending → Type 0
OnlyAwakeIsDue watch s i held = Each (λ h. MayBeDue h.question.number watch ⊎ ((is_early s i h ≡ false) × (is_late s i h ≡ false))) held

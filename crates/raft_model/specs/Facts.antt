-- What holds of each world that is reached from here, for the layers above.
use Rattle.std.specs.Prelude.{◌≡◌, ◌≢◌, ℕ, suc, ◌<◌, ◌≤◌, ◌⊎◌, true, false, length, take, Some}
use Rattle.cat_model.specs.declared.command.Entry.{Entry}
use Rattle.cat_model.specs.declared.reply.Role.TheVariants.{Leader}
use Rattle.raft_model.specs.declared.message.Round.{Round}
use Rattle.raft_model.specs.Log.{Log, term_at, number_at, entry_at}
use Rattle.raft_model.specs.Node.{Kept, Node}
use Rattle.raft_model.specs.Rules.{is_confirmed}
use Rattle.raft_model.specs.World.{World, IsServer, Reaches}

-- a running leader
abbrev pub IsLeading : Node → Type 0
IsLeading n = (n.halted ≡ false) × (n.role ≡ Leader)

-- a running leader that has committed an entry of its own term
abbrev pub IsReady : Node → Type 0
IsReady n = IsLeading n × (0 < n.commit) × (term_at n.commit n.log ≡ n.term)

-- the round that a probe begins at a leader
abbrev pub next_round : Node → Round
next_round n = record { term = n.term; number = suc n.round; commit = n.commit }

-- Where the round is ever confirmed, now or later and at whichever server, the list that its commit stands for
-- extends what is agreed here.
abbrev pub ShowsAgreed : World → Round → Type 0
ShowsAgreed w round =
    (w' : World) → Reaches w w' → (j : ℕ) (n : Node) → IsServer w' j n → is_confirmed n round ≡ true
    → (length w.agreed ≤ round.commit) × (take (length w.agreed) (take round.commit w'.agreed) ≡ w.agreed)

-- An entry has this place: now and later an agreed entry of that index and its term is this one, and an agreed entry
-- of its term and number, where that is not 0, stands at that index.
abbrev pub IsPlaced : World → ℕ → Entry → Type 0
IsPlaced w index e =
    (w' : World) → Reaches w w'
    → (index ≤ length w'.agreed → term_at index w'.agreed ≡ e.term → entry_at index w'.agreed ≡ Some e)
    × (e.number ≢ 0 → (k : ℕ) → 0 < k → k ≤ length w'.agreed → term_at k w'.agreed ≡ e.term → number_at k w'.agreed ≡ e.number → k ≡ index)

-- a log of this world: the agreed one, a running server's, or a store's
abbrev pub IsLogOf : World → Log → Type 0
IsLogOf w log =
    (log ≡ w.agreed)
    ⊎ ((i : ℕ) × (n : Node) × IsServer w i n × (n.halted ≡ false) × (log ≡ n.log))
    ⊎ ((i : ℕ) × (n : Node) × (kept : Kept) × IsServer w i n × (n.store.contents ≡ Some kept) × (log ≡ kept.log))

-- An entry of one term with a number other than 0 stands at one index, in each log of two worlds.
abbrev pub StandsOnce : World → World → Type 0
StandsOnce w w' =
    (x y : Log) (m k : ℕ) → IsLogOf w x → IsLogOf w' y → 0 < m → m ≤ length x → 0 < k → k ≤ length y
    → term_at m x ≡ term_at k y → number_at m x ≡ number_at k y → number_at m x ≢ 0 → m ≡ k

-- A term has one leader.
abbrev pub HasOneLeader : World → Type 0
HasOneLeader w = (i j : ℕ) (n m : Node) → IsServer w i n → IsServer w j m → IsLeading n → IsLeading m → n.term ≡ m.term → i ≡ j

-- Logs match: two logs that have one term at one index are the same up to it.
abbrev pub HasMatchingLogs : World → Type 0
HasMatchingLogs w = (x y : Log) (m : ℕ) → IsLogOf w x → IsLogOf w y → m ≤ length x → m ≤ length y → term_at m x ≡ term_at m y → take m x ≡ take m y

-- From one world to a later one a server's kept term never falls, and its vote in a term stays.
abbrev pub KeepsVotes : World → World → Type 0
KeepsVotes w w' =
    (i : ℕ) (n n' : Node) (kept kept' : Kept) → IsServer w i n → IsServer w' i n' → n.store.contents ≡ Some kept → n'.store.contents ≡ Some kept'
    → (kept.term ≤ kept'.term) × ((c : ℕ) → kept.term ≡ kept'.term → kept.vote ≡ Some c → kept'.vote ≡ Some c)

-- What a cluster has done so far: each server's kept values, and what was true at its elections. The ghost
-- part (votes of past terms, stood, leaders, first, ledger, electors, acks) is read by no server.
use Rattle.std.specs.Prelude.{◌≡◌, ◌≢◌, ℕ, suc, ◌+◌, ◌<◌, ◌≤◌, ◌==◌, nat_le, max, ◌⊎◌, Bool, true, false, [], ◌∷◌, ◌++◌, length, take, if◌then◌else◌, Option, Some, None}
use Rattle.cat_model.specs.declared.reply.Role.{Role}
use Rattle.cat_model.specs.declared.reply.Role.TheVariants.{Follower, Candidate, Leader}
use Rattle.raft_model.specs.Quorum.{Servers, IsMajority}
use Rattle.cat_model.specs.declared.command.Command.TheVariants.{Noop}
use Rattle.cat_model.specs.declared.command.Entry.{Entry}
use Rattle.raft_model.specs.Log.{Log, term_at, number_at, accepted}
use Rattle.raft_model.proofs.Pairs.{OpensWithNoop}

-- a function with another value at one place
abbrev pub put : {A : Type 0} → (ℕ → A) → ℕ → A → ℕ → A
put f i x j = if j == i then x else f j

abbrev pub put₂ : {A : Type 0} → (ℕ → ℕ → A) → ℕ → ℕ → A → ℕ → ℕ → A
put₂ f i k x = put f i (put (f i) k x)

pub record History : Type 0 where
  pub terms : ℕ → ℕ  -- server: its kept term
  pub votes : ℕ → ℕ → Option ℕ  -- server, term: the vote that it kept in that term
  pub logs : ℕ → Log  -- server: its kept log
  pub roles : ℕ → Role  -- server
  pub stood : ℕ → ℕ → Log  -- server, term: the log with which it stood for election
  pub leaders : ℕ → Option ℕ  -- term: who led it
  pub first : ℕ → Log  -- term: its leader's log when elected
  pub ledger : ℕ → Log  -- term: its leader's log as far as it came
  pub electors : ℕ → Servers  -- term: whose votes elected its leader
  pub acks : ℕ → ℕ → ℕ  -- server, term: the greatest index that it acknowledged there
  pub heard : ℕ → ℕ → ℕ  -- server, term: the greatest round that it acknowledged there
  pub probed : ℕ → ℕ  -- term: the greatest round that its leader began
  pub spent : ℕ → Bool  -- the terms that an earlier run led
  pub greatest : ℕ  -- the greatest number proposed
  pub agreed : Log

-- the log has the ledger of term t up to n
abbrev pub Has : (ℕ → Log) → ℕ → ℕ → Log → Type 0
Has ledger t n log = take n log ≡ take n (ledger t)

-- each front of the log is a front of the ledger of the term of its last entry: logs match
abbrev pub Follows : (ℕ → Log) → Log → Type 0
Follows ledger log = (n : ℕ) → n ≤ length log → Has ledger (term_at n log) n log

-- the leaders of the terms above t and below u began with the ledger of t up to n
abbrev pub AllBegin : (ℕ → Option ℕ) → (ℕ → Log) → (ℕ → Log) → ℕ → ℕ → ℕ → Type 0
AllBegin leaders first ledger t n u = (v c : ℕ) → t < v → v < u → leaders v ≡ Some c → Has ledger t n (first v)

-- a majority acknowledged the ledger of t up to n, which is an entry of term t
pub record IsCommitted (servers : ℕ) (first ledger : ℕ → Log) (acks : ℕ → ℕ → ℕ) (t n : ℕ) : Type 0 where
  pub own : length (first t) < n
  pub there : n ≤ length (ledger t)
  pub majority : IsMajority servers (λ i. nat_le n (acks i t))

pub record VotesAreKept (servers : ℕ) (terms : ℕ → ℕ) (votes : ℕ → ℕ → Option ℕ) (leaders : ℕ → Option ℕ) (electors : ℕ → Servers) : Type 0 where
  pub later : (i t : ℕ) → terms i < t → votes i t ≡ None
  pub majority : (t c : ℕ) → leaders t ≡ Some c → IsMajority servers (electors t)
  pub for_leader : (t c i : ℕ) → leaders t ≡ Some c → electors t i ≡ true → votes i t ≡ Some c
  -- who has a vote voted for itself
  pub candidate : (i c t : ℕ) → votes i t ≡ Some c → votes c t ≡ Some c

pub record RolesAreTrue (terms : ℕ → ℕ) (votes : ℕ → ℕ → Option ℕ) (logs : ℕ → Log) (roles : ℕ → Role) (stood : ℕ → ℕ → Log) (leaders : ℕ → Option ℕ) (ledger : ℕ → Log) : Type 0 where
  pub term : (t c : ℕ) → leaders t ≡ Some c → t ≤ terms c
  pub vote : (c : ℕ) → roles c ≡ Candidate → votes c (terms c) ≡ Some c
  pub log : (c : ℕ) → roles c ≡ Candidate → stood c (terms c) ≡ logs c
  pub unelected : (c : ℕ) → roles c ≡ Candidate → leaders (terms c) ≢ Some c
  pub elected : (c : ℕ) → roles c ≡ Leader → leaders (terms c) ≡ Some c
  pub leading : (c : ℕ) → roles c ≡ Leader → ledger (terms c) ≡ logs c

pub record LedgersGrow (leaders : ℕ → Option ℕ) (first ledger : ℕ → Log) : Type 0 where
  pub begins : (t : ℕ) → take (length (first t)) (ledger t) ≡ first t
  pub older : (t n : ℕ) → 0 < n → n ≤ length (first t) → term_at n (first t) < t
  pub own : (t n : ℕ) → length (first t) < n → n ≤ length (ledger t) → term_at n (ledger t) ≡ t
  pub none : (t : ℕ) → leaders t ≡ None → ledger t ≡ []

pub record LogsMatch (terms : ℕ → ℕ) (logs : ℕ → Log) (stood : ℕ → ℕ → Log) (ledger : ℕ → Log) : Type 0 where
  pub of_ledgers : (t : ℕ) → Follows ledger (ledger t)
  pub of_logs : (i : ℕ) → Follows ledger (logs i)
  pub bound : (i n : ℕ) → 0 < n → n ≤ length (logs i) → term_at n (logs i) ≤ terms i
  pub of_stood : (c t : ℕ) → Follows ledger (stood c t)
  pub stood_older : (c t n : ℕ) → 0 < n → n ≤ length (stood c t) → term_at n (stood c t) < t

pub record AcksLast (terms : ℕ → ℕ) (votes : ℕ → ℕ → Option ℕ) (logs : ℕ → Log) (roles : ℕ → Role) (stood : ℕ → ℕ → Log) (leaders : ℕ → Option ℕ) (first ledger : ℕ → Log) (electors : ℕ → Servers) (acks : ℕ → ℕ → ℕ) : Type 0 where
  pub within : (i t : ℕ) → acks i t ≤ length (ledger t)
  pub reached : (i t : ℕ) → terms i < t → acks i t ≡ 0
  -- what a server acknowledged is in its log, unless a later leader began without it
  pub kept : (i t n : ℕ) → n ≤ acks i t → length (first t) < n → AllBegin leaders first ledger t n (suc (terms i)) → Has ledger t n (logs i)
  -- and in the log of each candidate that got its vote
  pub voted : (i c u t n : ℕ) → votes i u ≡ Some c → t < u → n ≤ acks i t → length (first t) < n → AllBegin leaders first ledger t n (suc u) → Has ledger t n (stood c u)
  -- and in the log of each leader that its vote elected
  pub elected : (i c u t n : ℕ) → leaders u ≡ Some c → electors u i ≡ true → t < u → n ≤ acks i t → length (first t) < n → AllBegin leaders first ledger t n u → Has ledger t n (first u)
  pub leader : (c : ℕ) → roles c ≡ Leader → acks c (terms c) ≡ length (logs c)

pub record RoundsAreHeard (terms : ℕ → ℕ) (leaders : ℕ → Option ℕ) (heard : ℕ → ℕ → ℕ) (probed : ℕ → ℕ) : Type 0 where
  pub begun : (i t : ℕ) → heard i t ≤ probed t
  pub none_yet : (i t : ℕ) → terms i < t → heard i t ≡ 0
  pub unled : (t : ℕ) → leaders t ≡ None → probed t ≡ 0

-- Two entries of one term have not the same number, but 0. Of the terms that are not spent, no two entries have.
pub record NumbersApart (terms : ℕ → ℕ) (roles : ℕ → Role) (leaders : ℕ → Option ℕ) (first ledger : ℕ → Log) (spent : ℕ → Bool) (greatest : ℕ) : Type 0 where
  pub apart : (t m k : ℕ) → length (first t) < m → m < k → k ≤ length (ledger t) → number_at m (ledger t) ≡ number_at k (ledger t) → number_at m (ledger t) ≡ 0
  pub known : (t m : ℕ) → spent t ≡ false → length (first t) < m → m ≤ length (ledger t) → number_at m (ledger t) ≤ greatest
  pub across : (t u m k : ℕ) → t ≢ u → spent t ≡ false → spent u ≡ false → length (first t) < m → m ≤ length (ledger t) → length (first u) < k → k ≤ length (ledger u) → number_at m (ledger t) ≡ number_at k (ledger u) → number_at m (ledger t) ≡ 0
  pub leading : (c : ℕ) → roles c ≡ Leader → spent (terms c) ≡ false
  pub unled : (t : ℕ) → leaders t ≡ None → spent t ≡ false

-- a number that a leader may give an entry
abbrev pub IsNewNumber : History → ℕ → Type 0
IsNewNumber h number = (number ≡ 0) ⊎ (((t m : ℕ) → h.spent t ≡ false → length (h.first t) < m → m ≤ length (h.ledger t) → number_at m (h.ledger t) < number) × (number ≤ h.greatest))

-- an entry that may come behind this log: the first is a Noop with number 0
abbrev pub MayFollow : Log → Entry → Type 0
MayFollow log e = (0 < length log) ⊎ ((e.number ≡ 0) × (e.command ≡ Noop))

pub record Sound (servers : ℕ) (h : History) : Type 0 where
  pub votes : VotesAreKept servers h.terms h.votes h.leaders h.electors
  pub roles : RolesAreTrue h.terms h.votes h.logs h.roles h.stood h.leaders h.ledger
  pub ledgers : LedgersGrow h.leaders h.first h.ledger
  pub logs : LogsMatch h.terms h.logs h.stood h.ledger
  pub acks : AcksLast h.terms h.votes h.logs h.roles h.stood h.leaders h.first h.ledger h.electors h.acks
  pub rounds : RoundsAreHeard h.terms h.leaders h.heard h.probed
  pub numbers : NumbersApart h.terms h.roles h.leaders h.first h.ledger h.spent h.greatest
  pub opens : (t : ℕ) → OpensWithNoop (h.ledger t)
  pub agreed : (h.agreed ≡ []) ⊎ ((t : ℕ) × IsCommitted servers h.first h.ledger h.acks t (length h.agreed) × Has h.ledger t (length h.agreed) h.agreed)

-- a server learns of a higher term
abbrev pub rise : ℕ → ℕ → History → History
rise i t h = record h { terms = put h.terms i t; roles = put h.roles i Follower }

-- a server steps down, or starts again
abbrev pub rest : ℕ → History → History
rest i h = record h { roles = put h.roles i Follower }

-- a server stands for election in its term, with its own vote
abbrev pub stand : ℕ → History → History
stand i h = record h {
  votes = put₂ h.votes i (h.terms i) (Some i);
  roles = put h.roles i Candidate;
  stood = put₂ h.stood i (h.terms i) (h.logs i);
}

-- server i votes for c in its term
abbrev pub grant : ℕ → ℕ → History → History
grant i c h = record h { votes = put₂ h.votes i (h.terms i) (Some c) }

-- a candidate leads by the votes of these servers
abbrev pub win : ℕ → Servers → History → History
win c by h = record h {
  roles = put h.roles c Leader;
  leaders = put h.leaders (h.terms c) (Some c);
  first = put h.first (h.terms c) (h.logs c);
  ledger = put h.ledger (h.terms c) (h.logs c);
  electors = put h.electors (h.terms c) by;
  acks = put₂ h.acks c (h.terms c) (length (h.logs c));
}

-- a leader appends an entry
abbrev pub append : ℕ → Entry → History → History
append c e h = record h {
  logs = put h.logs c (h.logs c ++ e ∷ []);
  ledger = put h.ledger (h.terms c) (h.ledger (h.terms c) ++ e ∷ []);
  acks = put₂ h.acks c (h.terms c) (suc (length (h.logs c)));
}

-- a server accepts and acknowledges entries that come behind index prev
abbrev pub accept : ℕ → ℕ → Log → History → History
accept i prev entries h = record h {
  logs = put h.logs i (accepted (h.logs i) prev entries);
  roles = put h.roles i Follower;
  acks = put₂ h.acks i (h.terms i) (max (h.acks i (h.terms i)) (prev + length entries));
}

-- the agreed list becomes the ledger of term t up to n
abbrev pub agree : ℕ → ℕ → History → History
agree t n h = record h { agreed = take n (h.ledger t) }

-- a vote for c
abbrev pub is_vote : ℕ → Option ℕ → Bool
is_vote c None = false
is_vote c (Some d) = c == d

-- the votes for c in term t
abbrev pub voters : (ℕ → ℕ → Option ℕ) → ℕ → ℕ → Servers
voters votes t c i = is_vote c (votes i t)

-- server i acknowledges a round of its term
abbrev pub hear : ℕ → ℕ → History → History
hear i round h = record h { heard = put₂ h.heard i (h.terms i) (max (h.heard i (h.terms i)) round) }

-- a leader begins a round
abbrev pub probe : ℕ → History → History
probe c h = record h { probed = put h.probed (h.terms c) (suc (h.probed (h.terms c))) }

-- a number is proposed
abbrev pub count_number : ℕ → History → History
count_number g h = record h { greatest = max h.greatest g }

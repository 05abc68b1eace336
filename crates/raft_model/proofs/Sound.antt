-- How the world stands to the history.
use Rattle.std.specs.Prelude.{◌≡◌, ◌≢◌, ℕ, suc, ◌+◌, ◌<◌, ◌≤◌, ◌⊎◌, true, false, List, [], ◌∷◌, length, take, drop, get_or, Some}
use Rattle.cat_model.specs.declared.reply.Role.TheVariants.{Follower, Candidate, Leader}
use Rattle.raft_model.specs.declared.message.Message.{Message}
use Rattle.raft_model.specs.declared.message.Message.TheVariants.{AskVote, Vote, Append, Yes, No}
use Rattle.raft_model.specs.declared.message.Sent.{Sent}
use Rattle.raft_model.specs.Quorum.{Servers, IsMajority, members}
use Rattle.raft_model.specs.Log.{Log, term_at, last_term}
use Rattle.raft_model.specs.Node.{Kept, Node, of_server}
use Rattle.raft_model.specs.World.{Packet, World}
use Rattle.raft_model.proofs.History.{History, Sound}

-- A message is true of its sender. It stays true as the history goes on.
pub record AskIsTrue (h : History) (from term last_index last_term' : ℕ) : Type 0 where
  pub stands : h.votes from term ≡ Some from
  pub index : last_index ≡ length (h.stood from term)
  pub last : last_term' ≡ last_term (h.stood from term)

pub record AppendIsTrue (h : History) (from term prev prev_term : ℕ) (entries : Log) (commit round : ℕ) : Type 0 where
  pub leads : h.leaders term ≡ Some from
  pub within : prev + length entries ≤ length (h.ledger term)
  pub before : prev_term ≡ term_at prev (h.ledger term)
  pub entries_are : entries ≡ take (length entries) (drop prev (h.ledger term))
  pub commit_within : commit ≤ length h.agreed
  pub commit_agrees : take commit (h.ledger term) ≡ take commit h.agreed
  pub begun : round ≤ h.probed term

abbrev pub IsTrueOf : History → ℕ → ℕ → Message → Type 0
IsTrueOf h from to (AskVote term last_index last_term) = AskIsTrue h from term last_index last_term
IsTrueOf h from to (Vote term granted) = granted ≡ true → h.votes from term ≡ Some to
IsTrueOf h from to (Append term prev prev_term entries commit round) = AppendIsTrue h from term prev prev_term entries commit round
IsTrueOf h from to (Yes term matched round) = (matched ≤ h.acks from term) × (round ≤ h.heard from term)
IsTrueOf h from to (No term last) = Unit {0}

abbrev pub AllTrue : History → ℕ → List Sent → Type 0
AllTrue h from [] = Unit {0}
AllTrue h from (s ∷ ss) = IsTrueOf h from s.to s.message × AllTrue h from ss

-- A running server's values are those of the history.
pub record Runs (servers : ℕ) (h : History) (i : ℕ) (n : Node) : Type 0 where
  pub id : n.id ≡ i
  pub count : n.servers ≡ servers
  pub place : (0 < i) × (i ≤ servers)
  pub running : n.halted ≡ false
  pub term : h.terms i ≡ n.term
  pub vote : h.votes i n.term ≡ n.vote
  pub log : h.logs i ≡ n.log
  pub role : h.roles i ≡ n.role
  pub commit_within : n.commit ≤ length h.agreed
  pub commit_agrees : take n.commit n.log ≡ take n.commit h.agreed
  pub votes : n.role ≡ Candidate → (p : ℕ) → members n.votes p ≡ true → h.votes p n.term ≡ Some i
  pub matched : n.role ≡ Leader → (p : ℕ) → of_server n.matched p ≤ h.acks p n.term
  pub next : n.role ≡ Leader → (p : ℕ) → of_server n.next p ≤ suc (length n.log)
  pub round : n.role ≡ Leader → n.round ≡ h.probed n.term
  pub acked : n.role ≡ Leader → (p : ℕ) → of_server n.acked p ≤ h.heard p n.term
  -- what was agreed in its own term the leader has committed
  pub own : n.role ≡ Leader → last_term h.agreed ≡ n.term → length h.agreed ≤ n.commit

-- The history went on, by moves of server i.
pub record GoesOn (i : ℕ) (h h' : History) : Type 0 where
  pub votes : (j t c : ℕ) → h.votes j t ≡ Some c → h'.votes j t ≡ Some c
  pub leaders : (t c : ℕ) → h.leaders t ≡ Some c → h'.leaders t ≡ Some c
  pub stood : (c t : ℕ) → h.votes c t ≡ Some c → h'.stood c t ≡ h.stood c t
  pub ledger : (t : ℕ) → take (length (h.ledger t)) (h'.ledger t) ≡ h.ledger t
  pub acks : (j t : ℕ) → h.acks j t ≤ h'.acks j t
  pub agreed : take (length h.agreed) h'.agreed ≡ h.agreed
  pub agreed_by : (h'.agreed ≡ h.agreed) ⊎ (h'.leaders (last_term h'.agreed) ≡ Some i)
  pub heard : (j t : ℕ) → h.heard j t ≤ h'.heard j t
  pub probed : (t : ℕ) → h.probed t ≤ h'.probed t
  pub first : (t : ℕ) → 0 < length (h.ledger t) → h'.first t ≡ h.first t
  pub greatest : h'.greatest ≡ h.greatest
  pub spent : (t : ℕ) → h'.spent t ≡ h.spent t
  pub terms_up : (j : ℕ) → h.terms j ≤ h'.terms j
  pub heard_old : (j t : ℕ) → t < h.terms j → h'.heard j t ≡ h.heard j t
  pub other_heard : (j t : ℕ) → j ≢ i → h'.heard j t ≡ h.heard j t
  pub other_probed : (t : ℕ) → h'.leaders t ≢ Some i → h'.probed t ≡ h.probed t
  pub other_terms : (j : ℕ) → j ≢ i → h'.terms j ≡ h.terms j
  pub other_votes : (j t : ℕ) → j ≢ i → h'.votes j t ≡ h.votes j t
  pub other_logs : (j : ℕ) → j ≢ i → h'.logs j ≡ h.logs j
  pub other_roles : (j : ℕ) → j ≢ i → h'.roles j ≡ h.roles j

-- A halted server's store is that of the history.
pub record Rests (servers : ℕ) (h : History) (i : ℕ) (n : Node) : Type 0 where
  pub id : n.id ≡ i
  pub count : n.servers ≡ servers
  pub place : (0 < i) × (i ≤ servers)
  pub kept : Kept
  pub holds : n.store.contents ≡ Some kept
  pub rests : n.role ≡ Follower
  pub term : h.terms i ≡ kept.term
  pub vote : h.votes i kept.term ≡ kept.vote
  pub log : h.logs i ≡ kept.log
  pub role : h.roles i ≡ Follower
  pub commit_within : n.commit ≤ length h.agreed
  pub commit_agrees : take n.commit n.log ≡ take n.commit h.agreed

-- what a store holds once the node's values are saved
abbrev pub kept_of : Node → Kept
kept_of n = record { term = n.term; vote = n.vote; log = n.log }

-- a leader's log is not empty
abbrev pub HasBegun : Node → Type 0
HasBegun n = n.role ≡ Leader → 0 < length n.log

abbrev pub Fits : ℕ → History → ℕ → Node → Type 0
Fits servers h i n = ((n.store.contents ≡ Some (kept_of n)) × Runs servers h i n × HasBegun n) ⊎ ((n.halted ≡ true) × Rests servers h i n)

abbrev pub AllPackets : (Packet → Type 0) → List Packet → Type 0
AllPackets P [] = Unit {0}
AllPackets P (p ∷ ps) = P p × AllPackets P ps

-- some history accounts for the world
pub record IsSound (w : World) : Type 0 where
  pub history : History
  pub sound : Sound (length w.nodes) history
  pub fits : (i : ℕ) (d : Node) → i < length w.nodes → Fits (length w.nodes) history (suc i) (get_or w.nodes i d)
  pub told : AllPackets (λ p. IsTrueOf history p.from p.to p.message) w.bag.packets
  pub agreed : history.agreed ≡ w.agreed
  pub greatest : history.greatest ≤ w.greatest

-- a majority of servers is in later terms than t, and has not acknowledged round r of t
pub record IsBlocked (servers : ℕ) (h : History) (t r : ℕ) : Type 0 where
  pub past : Servers
  pub majority : IsMajority servers past
  pub each : (i : ℕ) → past i ≡ true → (t < h.terms i) × (h.heard i t < r)

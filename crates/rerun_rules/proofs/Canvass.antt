-- Server 1 canvasses for votes: each server that is asked and has not voted will, as no message is lost.
use Rattle.std.proofs.Common.{◌≡◌, ◌≢◌, ℕ, zero, suc, ◌+◌, ◌*◌, ◌-◌, ◌^◌, ◌<◌, ◌≤◌, ◌⊎◌, inl, inr, true, cond, List, [], ◌∷◌, ◌++◌, length, Some, refl, sym, ◌∙◌, ap, subst, arith}
use Rattle.std.specs.Prelude.{nat_le, nat_lt, ◌&&◌, ◌==◌}
use Rattle.std.specs.List.{AllByRecursion as Each}
use Rattle.raft_model.specs.declared.message.Message.{Message}
use Rattle.raft_model.specs.declared.message.Message.TheVariants.{Append, AskVote, No, Vote, Yes}
use Rattle.raft_model.specs.declared.message.Sent.{Sent}
use Rattle.raft_model.specs.Log.{Log, last_term}
use Rattle.raft_model.specs.Node.{Node, to_others}
use Rattle.raft_model.specs.Quorum.{members}
use Rattle.raft_model.specs.Rules.{with_voter}
use Rattle.std.proofs.lemmas.List.{length-append}
use Rattle.raft_model.specs.World.{Bag, Packet, message_bytes, numbered, packets_bytes, posted, posted_all, takes, without}
use Rattle.raft_model.proofs.Tests.{and_is, at_bool, eq_tells, le_is, lt_is}
use Rattle.cluster_rules.specs.Sound.{IsAmong}
use Rattle.cluster_rules.proofs.Tools.{each_append, eq_tells_not}
use Rattle.rerun_rules.proofs.Bags.{among_last, among_left, among_without, each_without}
use Rattle.rerun_rules.proofs.Voting.{IsOpen, IsShort, not_all, voter_before, voter_now}

-- Server 1 asks another one for its vote, or another one grants it.
abbrev pub IsAsk : ℕ → ℕ → Log → Packet → Type 0
IsAsk servers term mine p = (p.from ≡ 1) × (1 < p.to) × (p.to ≤ servers) × (p.message ≡ AskVote term (length mine) (last_term mine))

abbrev pub IsGrant : ℕ → ℕ → Packet → Type 0
IsGrant servers term p = (1 < p.from) × (p.from ≤ servers) × (p.to ≡ 1) × (p.message ≡ Vote term true)

abbrev pub IsBallot : ℕ → ℕ → Log → Packet → Type 0
IsBallot servers term mine p = IsAsk servers term mine p ⊎ IsGrant servers term p

-- What comes of a message at most: an AskVote makes a Vote, and an Append a Yes.
abbrev pub worth_of : Message → ℕ
worth_of (AskVote term last_index last_term) = 2
worth_of (Vote term granted) = 1
worth_of (Append term prev prev_term entries commit round) = 2
worth_of (Yes term matched round) = 1
worth_of (No term last) = 1

abbrev pub worth : List Packet → ℕ
worth [] = 0
worth (p ∷ ps) = worth_of p.message + worth ps

some_worth : (m : Message) → 1 ≤ worth_of m
some_worth (AskVote term last_index last_term) = omega arith
some_worth (Vote term granted) = omega arith
some_worth (Append term prev prev_term entries commit round) = omega arith
some_worth (Yes term matched round) = omega arith
some_worth (No term last) = omega arith

pub few : (ps : List Packet) → length ps ≤ worth ps
few [] = omega arith
few (p ∷ ps) = let k = few ps in let l = some_worth p.message in omega arith

small_ballot : (servers term : ℕ) (mine : Log) (p : Packet) → IsBallot servers term mine p → message_bytes p.message ≡ 64
small_ballot servers term mine p (inl a) = ap message_bytes a.3
small_ballot servers term mine p (inr g) = ap message_bytes g.3

pub few_bytes : (servers term : ℕ) (mine : Log) (ps : List Packet) → Each (IsBallot servers term mine) ps → packets_bytes ps ≡ 64 * length ps
few_bytes servers term mine [] a = refl
few_bytes servers term mine (p ∷ ps) a = let k = few_bytes servers term mine ps a.1 in let l = small_ballot servers term mine p a.0 in omega arith

pub worth_append : (ps qs : List Packet) → worth (ps ++ qs) ≡ worth ps + worth qs
worth_append [] qs = omega arith
worth_append (p ∷ ps) qs = let k = worth_append ps qs in omega arith

pub worth_without : (k : ℕ) (ps : List Packet) (p : Packet) → numbered k ps ≡ Some p → worth ps ≡ worth_of p.message + worth (without k ps)
worth_without k [] p e = cc e
worth_without k (x ∷ ps) p e = at_bool (λ b. cond b (Some x) (numbered k ps) ≡ Some p → worth_of x.message + worth ps ≡ worth_of p.message + worth (cond b ps (x ∷ without k ps))) (x.number == k)
    (λ _ e. let same : x ≡ p = cc e in ap (λ (z : Packet). worth_of z.message + worth ps) same) (λ _ e. let q = worth_without k ps p e in omega arith) e

-- The bag has room for what is sent.
abbrev pub most : ℕ
most = 30

bag_takes : (servers term : ℕ) (mine : Log) (bag : Bag) (m : Message) → message_bytes m ≡ 64 → Each (IsBallot servers term mine) bag.packets → worth bag.packets + bag.last ≤ most → takes bag m ≡ true
bag_takes servers term mine bag m e a l =
    let n = few bag.packets in
    let b = few_bytes servers term mine bag.packets a in
    and_is (nat_lt (length bag.packets) 4096 && nat_le (packets_bytes bag.packets + message_bytes m) 67108864) (nat_lt bag.last (2 ^ 64 - 1))
    (and_is (nat_lt (length bag.packets) 4096) (nat_le (packets_bytes bag.packets + message_bytes m) 67108864) (lt_is (length bag.packets) 4096 (omega arith)) (le_is (packets_bytes bag.packets + message_bytes m) 67108864 (omega arith)))
    (lt_is bag.last (2 ^ 64 - 1) (omega arith))

abbrev pub packet_of : ℕ → Sent → Bag → Packet
packet_of from s bag = record { number = suc bag.last; from = from; to = s.to; message = s.message }

pub posted_is : (servers term : ℕ) (mine : Log) (from : ℕ) (s : Sent) (bag : Bag) → message_bytes s.message ≡ 64 → Each (IsBallot servers term mine) bag.packets → worth bag.packets + bag.last ≤ most →
    posted from s bag ≡ record { packets = bag.packets ++ packet_of from s bag ∷ []; last = suc bag.last }
posted_is servers term mine from s bag e a l = ap (λ b. cond b (record { packets = bag.packets ++ packet_of from s bag ∷ []; last = suc bag.last }) bag) (bag_takes servers term mine bag s.message e a l)

-- Server 1 of so many canvasses: it has not the votes of a majority, and each other server's vote was counted, is on
-- its way, or is asked for by a message on its way. So many messages got numbers, and these are on their way.
pub record Canvass (servers term : ℕ) (mine : Log) (nodes : ℕ → Node) (last : ℕ) (ps : List Packet) : Type 0 where
  pub first : IsShort servers term mine (nodes 1)
  pub unvoted : (j : ℕ) → 1 < j → j ≤ servers → IsOpen term mine (nodes j)
  pub ballots : Each (IsBallot servers term mine) ps
  pub pending : (j : ℕ) → 1 < j → j ≤ servers → ((p : Packet) × IsAmong p ps × ((p.to ≡ j) ⊎ (p.from ≡ j))) ⊎ (members (nodes 1).votes j ≡ true)
  pub small : worth ps + last ≤ most
  pub servers_few : servers ≤ 7

-- where nothing is on its way it has all votes
pub none_left : (servers term : ℕ) (mine : Log) (nodes : ℕ → Node) (last : ℕ) → 0 < servers → Canvass servers term mine nodes last [] → ⊥
none_left servers term mine nodes last l c = not_all servers (nodes 1).votes l c.first.short has
  where
    has : (j : ℕ) → 0 < j → j ≤ servers → members (nodes 1).votes j ≡ true
    has zero p q = absurd (omega arith)
    has (suc zero) p q = c.first.itself
    has (suc (suc j)) p q = elim (c.pending (suc (suc j)) (omega arith) q) [ inl x ↦ absurd x.1 | inr v ↦ v ]

-- An AskVote was delivered and is lost, and its answer is on its way.
pub ask_came : (servers term : ℕ) (mine : Log) (last : ℕ) (nodes nodes' : ℕ → Node) (k : ℕ) (ps : List Packet) (p v : Packet) → Canvass servers term mine nodes last ps → numbered k ps ≡ Some p → IsAsk servers term mine p → IsGrant servers term v → v.from ≡ p.to →
    IsOpen term mine (nodes' p.to) → ((j : ℕ) → j ≢ p.to → nodes' j ≡ nodes j) → Canvass servers term mine nodes' (suc last) (without k ps ++ v ∷ [])
ask_came servers term mine last nodes nodes' k ps p v c e ask grant from open_ others = record {
  first = subst (IsShort servers term mine) (sym same) c.first;
  unvoted = λ j l m. at_bool (λ b. (j == p.to) ≡ b → IsOpen term mine (nodes' j)) (j == p.to)
      (λ _ q. subst (λ z. IsOpen term mine (nodes' z)) (sym (eq_tells j p.to q)) open_)
      (λ _ q. subst (IsOpen term mine) (sym (others j (eq_tells_not j p.to q))) (c.unvoted j l m)) refl;
  ballots = each_append (IsBallot servers term mine) (without k ps) (v ∷ []) (each_without (IsBallot servers term mine) k ps c.ballots) (inr grant, tt);
  pending = λ j l m. elim (c.pending j l m) [
    | inl x ↦ inl (elim (among_without k ps p x.0 e x.1) [
      | inl y ↦ (v, among_last (without k ps) v, inr (answers j l (elim x.2 [ inl t ↦ inl (sym (ap (λ (z : Packet). z.to) y) ∙ t) | inr t ↦ inr (sym (ap (λ (z : Packet). z.from) y) ∙ t) ])))
      | inr y ↦ (x.0, among_left x.0 (without k ps) (v ∷ []) y, x.2)
    ])
    | inr x ↦ inr (ap (λ (z : Node). members z.votes j) same ∙ x)
  ];
  small = let a = worth_append (without k ps) (v ∷ []) in let b = worth_without k ps p e in let s = c.small in let d = ap worth_of ask.3 in let f = ap worth_of grant.3 in omega arith;
  servers_few = c.servers_few;
}
  where
    same : nodes' 1 ≡ nodes 1
    same = others 1 (λ q. let l = ask.1 in omega arith)

    answers : (j : ℕ) → 1 < j → (p.to ≡ j) ⊎ (p.from ≡ j) → v.from ≡ j
    answers j l (inl t) = from ∙ t
    answers j l (inr t) = absurd (let q = ask.0 in omega arith)

-- A Vote was delivered and is lost, and it was not enough.
pub grant_came : (servers term : ℕ) (mine : Log) (last : ℕ) (nodes nodes' : ℕ → Node) (k : ℕ) (ps : List Packet) (p : Packet) → Canvass servers term mine nodes last ps → numbered k ps ≡ Some p → IsGrant servers term p →
    IsShort servers term mine (nodes' 1) → (nodes' 1).votes ≡ with_voter (nodes 1).votes p.from → ((j : ℕ) → j ≢ 1 → nodes' j ≡ nodes j) → Canvass servers term mine nodes' last (without k ps)
grant_came servers term mine last nodes nodes' k ps p c e grant short votes others = record {
  first = short;
  unvoted = λ j l m. subst (IsOpen term mine) (sym (others j (λ q. omega arith))) (c.unvoted j l m);
  ballots = each_without (IsBallot servers term mine) k ps c.ballots;
  pending = λ j l m. elim (c.pending j l m) [
    | inl x ↦ elim (among_without k ps p x.0 e x.1) [
      | inl y ↦ inr (counted j (voter j l (elim x.2 [ inl t ↦ inl (sym (ap (λ (z : Packet). z.to) y) ∙ t) | inr t ↦ inr (sym (ap (λ (z : Packet). z.from) y) ∙ t) ])))
      | inr y ↦ inl (x.0, y, x.2)
    ]
    | inr x ↦ inr (ap (λ vs. members vs j) votes ∙ voter_before (nodes 1).votes p.from j x)
  ];
  small = let b = worth_without k ps p e in let s = c.small in omega arith;
  servers_few = c.servers_few;
}
  where
    voter : (j : ℕ) → 1 < j → (p.to ≡ j) ⊎ (p.from ≡ j) → p.from ≡ j
    voter j l (inl t) = absurd (let q = grant.2 in omega arith)
    voter j l (inr t) = t

    counted : (j : ℕ) → p.from ≡ j → members (nodes' 1).votes j ≡ true
    counted j t = ap (λ vs. members vs j) votes ∙ subst (λ z. members (with_voter (nodes 1).votes p.from) z ≡ true) t (voter_now (nodes 1).votes p.from)

-- The AskVotes of the beginning.
abbrev pub IsAskSent : ℕ → ℕ → Log → Sent → Type 0
IsAskSent servers term mine s = (1 < s.to) × (s.to ≤ servers) × (s.message ≡ AskVote term (length mine) (last_term mine))

pub record Posted (servers term : ℕ) (mine : Log) (ss : List Sent) (bag bag' : Bag) : Type 0 where
  pub ballots : Each (IsBallot servers term mine) bag'.packets
  pub total : worth bag'.packets + bag'.last ≡ worth bag.packets + bag.last + 3 * length ss
  pub sent : (s : Sent) → IsAmong s ss → (p : Packet) × IsAmong p bag'.packets × (p.to ≡ s.to)
  pub old : (p : Packet) → IsAmong p bag.packets → IsAmong p bag'.packets

pub posted_asks : (servers term : ℕ) (mine : Log) (ss : List Sent) (bag : Bag) → Each (IsAskSent servers term mine) ss → Each (IsBallot servers term mine) bag.packets → worth bag.packets + bag.last + 3 * length ss ≤ most → Posted servers term mine ss bag (posted_all 1 ss bag)
posted_asks servers term mine [] bag a b l = record { ballots = b; total = omega arith; sent = λ s m. absurd m; old = λ p m. m }
posted_asks servers term mine (s ∷ ss) bag a b l =
    subst (λ (z : Bag). Posted servers term mine (s ∷ ss) bag (posted_all 1 ss z)) (sym (posted_is servers term mine 1 s bag (ap message_bytes a.0.2) b (omega arith)))
    (let x = posted_asks servers term mine ss next a.1 ballots (let k = grown in omega arith) in
    record {
      ballots = x.ballots;
      total = let k = grown in let t = x.total in omega arith;
      sent = λ q m. elim m [
        | inl e ↦ (packet_of 1 s bag, x.old (packet_of 1 s bag) (among_last bag.packets (packet_of 1 s bag)), ap (λ (z : Sent). z.to) (sym e))
        | inr m ↦ x.sent q m
      ];
      old = λ p m. x.old p (among_left p bag.packets (packet_of 1 s bag ∷ []) m);
    })
  where
    next : Bag
    next = record { packets = bag.packets ++ packet_of 1 s bag ∷ []; last = suc bag.last }

    ballots : Each (IsBallot servers term mine) (bag.packets ++ packet_of 1 s bag ∷ [])
    ballots = each_append (IsBallot servers term mine) bag.packets (packet_of 1 s bag ∷ []) b (inl (refl, a.0.0, a.0.1, a.0.2), tt)

    grown : worth (bag.packets ++ packet_of 1 s bag ∷ []) + suc bag.last ≡ worth bag.packets + bag.last + 3
    grown = let k = worth_append bag.packets (packet_of 1 s bag ∷ []) in let d = ap worth_of a.0.2 in omega arith

asks_sent : (servers term : ℕ) (mine : Log) (k : ℕ) → k ≤ servers → Each (IsAskSent servers term mine) (to_others 1 (λ peer. AskVote term (length mine) (last_term mine)) k)
asks_sent servers term mine zero l = tt
asks_sent servers term mine (suc k) l = at_bool (λ b. (suc k == 1) ≡ b → Each (IsAskSent servers term mine) (cond b (to_others 1 (λ peer. AskVote term (length mine) (last_term mine)) k) (to_others 1 (λ peer. AskVote term (length mine) (last_term mine)) k ++ record { to = suc k; message = AskVote term (length mine) (last_term mine) } ∷ []))) (suc k == 1)
    (λ _ _. asks_sent servers term mine k (omega arith))
    (λ _ e. each_append (IsAskSent servers term mine) (to_others 1 (λ peer. AskVote term (length mine) (last_term mine)) k) (record { to = suc k; message = AskVote term (length mine) (last_term mine) } ∷ []) (asks_sent servers term mine k (omega arith)) ((let n = eq_tells_not (suc k) 1 e in omega arith, l, refl), tt)) refl

length_sent : (term : ℕ) (mine : Log) (k : ℕ) → length (to_others 1 (λ peer. AskVote term (length mine) (last_term mine)) k) ≤ k
length_sent term mine zero = omega arith
length_sent term mine (suc k) = at_bool (λ b. length (cond b (to_others 1 (λ peer. AskVote term (length mine) (last_term mine)) k) (to_others 1 (λ peer. AskVote term (length mine) (last_term mine)) k ++ record { to = suc k; message = AskVote term (length mine) (last_term mine) } ∷ [])) ≤ suc k) (suc k == 1)
    (λ _. let n = length_sent term mine k in omega arith) (λ _. let n = length_sent term mine k in omega (arith, length-append (to_others 1 (λ peer. AskVote term (length mine) (last_term mine)) k) (record { to = suc k; message = AskVote term (length mine) (last_term mine) } ∷ [])))

sent_to : (term : ℕ) (mine : Log) (j k : ℕ) → 1 < j → j ≤ k → IsAmong (record { to = j; message = AskVote term (length mine) (last_term mine) }) (to_others 1 (λ peer. AskVote term (length mine) (last_term mine)) k)
sent_to term mine j zero l m = absurd (omega arith)
sent_to term mine j (suc k) l m = at_bool (λ b. (suc k == 1) ≡ b → IsAmong (record { to = j; message = AskVote term (length mine) (last_term mine) }) (cond b (to_others 1 (λ peer. AskVote term (length mine) (last_term mine)) k) (to_others 1 (λ peer. AskVote term (length mine) (last_term mine)) k ++ record { to = suc k; message = AskVote term (length mine) (last_term mine) } ∷ []))) (suc k == 1)
    (λ _ e. absurd (let n = eq_tells (suc k) 1 e in omega arith))
    (λ _ _. at_bool (λ b. (j == suc k) ≡ b → IsAmong (record { to = j; message = AskVote term (length mine) (last_term mine) }) (to_others 1 (λ peer. AskVote term (length mine) (last_term mine)) k ++ record { to = suc k; message = AskVote term (length mine) (last_term mine) } ∷ [])) (j == suc k)
    (λ _ e. subst (λ z. IsAmong (record { to = z; message = AskVote term (length mine) (last_term mine) }) (to_others 1 (λ peer. AskVote term (length mine) (last_term mine)) k ++ record { to = suc k; message = AskVote term (length mine) (last_term mine) } ∷ [])) (sym (eq_tells j (suc k) e)) (among_last (to_others 1 (λ peer. AskVote term (length mine) (last_term mine)) k) (record { to = suc k; message = AskVote term (length mine) (last_term mine) })))
    (λ _ e. among_left (record { to = j; message = AskVote term (length mine) (last_term mine) }) (to_others 1 (λ peer. AskVote term (length mine) (last_term mine)) k) (record { to = suc k; message = AskVote term (length mine) (last_term mine) } ∷ []) (sent_to term mine j k l (let n = eq_tells_not j (suc k) e in omega arith))) refl) refl

-- Server 1 has just stood for election.
pub canvass_begins : (servers term : ℕ) (mine : Log) (nodes : ℕ → Node) → servers ≤ 7 → IsShort servers term mine (nodes 1) → ((j : ℕ) → 1 < j → j ≤ servers → IsOpen term mine (nodes j)) → (bag : Bag) → bag ≡ posted_all 1 (to_others 1 (λ peer. AskVote term (length mine) (last_term mine)) servers) (record { packets = []; last = 0 }) →
    Canvass servers term mine nodes bag.last bag.packets
canvass_begins servers term mine nodes l short unvoted bag e =
    let x : Posted servers term mine (to_others 1 (λ peer. AskVote term (length mine) (last_term mine)) servers) (record { packets = []; last = 0 }) bag =
    subst (Posted servers term mine (to_others 1 (λ peer. AskVote term (length mine) (last_term mine)) servers) (record { packets = []; last = 0 })) (sym e)
    (posted_asks servers term mine (to_others 1 (λ peer. AskVote term (length mine) (last_term mine)) servers) (record { packets = []; last = 0 }) (asks_sent servers term mine servers (omega arith)) tt (let n = length_sent term mine servers in omega arith)) in
    record {
      first = short;
      unvoted = unvoted;
      ballots = x.ballots;
      pending = λ j k m. let p = x.sent (record { to = j; message = AskVote term (length mine) (last_term mine) }) (sent_to term mine j servers k m) in inl (p.0, p.1, inl p.2);
      small = let n = length_sent term mine servers in let t = x.total in omega arith;
      servers_few = l;
    }

-- Server 1 stands for election in a term above all others', with a log that is as up to date as all others': who is
-- asked grants its vote, and who counts the votes of all leads.
use Rattle.std.proofs.Common.{◌≡◌, ℕ, zero, suc, ◌+◌, ◌*◌, ◌-◌, ◌^◌, ◌<◌, ◌≤◌, ◌⊎◌, inl, inr, Bool, true, false, cond, List, [], ◌∷◌, ◌++◌, length, Some, None, refl, sym, ◌∙◌, ap, subst, arith}
use Rattle.std.specs.Prelude.{nat_le, nat_lt, ◌&&◌, ◌||◌, ◌==◌}
use Rattle.cat_model.specs.declared.reply.Role.{Role}
use Rattle.cat_model.specs.declared.reply.Role.TheVariants.{Candidate, Follower, Leader}
use Rattle.raft_model.specs.declared.message.Message.TheVariants.{AskVote, Vote}
use Rattle.raft_model.specs.Limits.{is_full}
use Rattle.raft_model.specs.Log.{IsUpToDate, Log, last_term}
use Rattle.raft_model.specs.Node.{Done, Kept, Node, Store, begun, quiet, reply, to_others}
use Rattle.raft_model.specs.Quorum.{Servers, count, is_majority, members}
use Rattle.raft_model.specs.Rules.{Receive, Timeout, append_all, append_to, appended, ask_all, asked, candidate, counted, does, done, is_up_to_date, leading, leads, may_vote, noop, of_lower_term, of_own_term, received, risen, stands, timed_out, voted, with_voter}
use Rattle.raft_model.proofs.Tests.{and_is, at_bool, eq_is, eq_tells, le_is, lt_is, lt_tells, lt_tells_not, no_bool, or_left}
use Rattle.cluster_rules.proofs.Tools.{eq_self, eq_tells_not, one_of}
use Rattle.rerun_rules.proofs.Winning.{Wins, leads_wins}

-- A server that has no more up to date a log, and in this term voted for nobody but server 1.
pub record IsOpen (term : ℕ) (mine : Log) (n : Node) : Type 0 where
  pub log : IsUpToDate (last_term mine) (length mine) n.log
  pub vote : (n.term < term) ⊎ ((n.term ≡ term) × (n.vote ≡ Some 1))

-- who is open to a server with nothing has nothing itself
pub open_plain : (term : ℕ) (mine : Log) (n : Node) → mine ≡ [] → IsOpen term mine n → n.log ≡ []
open_plain term mine n e o = by n.log (subst (λ (z : Log). IsUpToDate (last_term z) (length z) n.log) e o.log)
  where
    by : (log : Log) → IsUpToDate 0 0 log → log ≡ []
    by [] u = refl
    by (x ∷ xs) u = absurd (let a = u.0 in let z : last_term (x ∷ xs) ≡ 0 = omega arith in let b = u.1 z in omega arith)

-- It grants its vote.
pub record Grants (term : ℕ) (mine : Log) (d : Done) : Type 0 where
  pub log : IsUpToDate (last_term mine) (length mine) d.node.log
  pub term_is : d.node.term ≡ term
  pub vote : d.node.vote ≡ Some 1
  pub sent : d.sent ≡ record { to = 1; message = Vote term true } ∷ []

up_is : (t n : ℕ) (log : Log) → IsUpToDate t n log → is_up_to_date t n log ≡ true
up_is t n log u = at_bool (λ b. nat_lt (last_term log) t ≡ b → (b || (last_term log == t && nat_le (length log) n)) ≡ true) (nat_lt (last_term log) t) (λ _ _. refl)
    (λ _ e. let l = lt_tells_not (last_term log) t e in let a = u.0 in let same : last_term log ≡ t = omega arith in
    and_is (last_term log == t) (nat_le (length log) n) (eq_is (last_term log) t same) (le_is (length log) n (u.1 same))) refl

asked_grants : (term : ℕ) (mine : Log) (n : Node) → n.term ≡ term → IsUpToDate (last_term mine) (length mine) n.log → may_vote n.vote 1 ≡ true → Grants term mine (asked n 1 (length mine) (last_term mine))
unfolding asked
asked_grants term mine n t l may = at_bool (λ b. (may_vote n.vote 1 && is_up_to_date (last_term mine) (length mine) n.log) ≡ b → Grants term mine (cond b (reply (record n { vote = Some 1 }) 1 (Vote n.term true)) (reply n 1 (Vote n.term false)))) (may_vote n.vote 1 && is_up_to_date (last_term mine) (length mine) n.log)
    (λ _ _. record { log = l; term_is = t; vote = refl; sent = ap (λ z. record { to = 1; message = Vote z true } ∷ []) t })
    (λ _ e. absurd (no_bool (may_vote n.vote 1 && is_up_to_date (last_term mine) (length mine) n.log) (ap (λ z. z && is_up_to_date (last_term mine) (length mine) n.log) may ∙ up_is (last_term mine) (length mine) n.log l) e)) refl

received_grants : (term : ℕ) (mine : Log) (n : Node) → IsOpen term mine n → Grants term mine (received n 1 (AskVote term (length mine) (last_term mine)))
unfolding received of_own_term
received_grants term mine n o = at_bool (λ c. nat_lt term n.term ≡ c → Grants term mine (cond c (of_lower_term n 1 (AskVote term (length mine) (last_term mine))) (asked (risen n term) 1 (length mine) (last_term mine)))) (nat_lt term n.term)
    (λ _ e. absurd (not_above o.vote (lt_tells term n.term e)))
    (λ _ _. at_bool (λ b. nat_lt n.term term ≡ b → Grants term mine (asked (cond b (record n { term = term; vote = None; role = Follower; leader = None }) n) 1 (length mine) (last_term mine))) (nat_lt n.term term)
    (λ _ _. asked_grants term mine (record n { term = term; vote = None; role = Follower; leader = None }) refl o.log refl)
    (λ _ e. let v = voted_so o.vote (lt_tells_not n.term term e) in asked_grants term mine n v.0 o.log (ap (λ z. may_vote z 1) v.1)) refl) refl
  where
    not_above : (n.term < term) ⊎ ((n.term ≡ term) × (n.vote ≡ Some 1)) → term < n.term → ⊥
    not_above (inl e) l = omega arith
    not_above (inr x) l = let e = x.0 in omega arith

    voted_so : (n.term < term) ⊎ ((n.term ≡ term) × (n.vote ≡ Some 1)) → term ≤ n.term → (n.term ≡ term) × (n.vote ≡ Some 1)
    voted_so (inl e) l = absurd (omega arith)
    voted_so (inr x) l = x

pub done_grants : (term : ℕ) (mine : Log) (n : Node) → n.halted ≡ false → IsOpen term mine n → Grants term mine (done n (Receive 1 (AskVote term (length mine) (last_term mine))))
unfolding done does
done_grants term mine n up o = at_bool (λ c. n.halted ≡ c → Grants term mine (cond c (quiet n) (received n 1 (AskVote term (length mine) (last_term mine))))) n.halted (λ _ e. absurd (no_bool n.halted e up)) (λ _ _. received_grants term mine n o) refl

-- A candidate of this term in a cluster of so many servers, that has not the votes of a majority.
pub record IsShort (servers term : ℕ) (mine : Log) (n : Node) : Type 0 where
  pub role : n.role ≡ Candidate
  pub term_is : n.term ≡ term
  pub id : n.id ≡ 1
  pub servers_are : n.servers ≡ servers
  pub log : n.log ≡ mine
  pub idle : n.commit ≡ 0
  pub itself : members n.votes 1 ≡ true
  pub short : is_majority servers (members n.votes) ≡ false

-- It counts one more vote, and then leads or not.
pub record Counts (servers term : ℕ) (mine : Log) (from : ℕ) (n : Node) (d : Done) : Type 0 where
  pub short : IsShort servers term mine d.node
  pub votes : d.node.votes ≡ with_voter n.votes from
  pub sent : d.sent ≡ []

some_majority : (servers : ℕ) (p : Servers) → is_majority servers p ≡ true → 0 < servers
some_majority zero p e = cc e
some_majority (suc n) p e = omega arith

members_more : (vs : List ℕ) (from p : ℕ) → members vs p ≡ true → members (vs ++ from ∷ []) p ≡ true
members_more [] from p e = cc e
members_more (v ∷ vs) from p e = elim (one_of (p == v) (members vs p) e) [
  | inl q ↦ or_left (p == v) (members (vs ++ from ∷ []) p) q
  | inr q ↦ or_true (p == v) (members (vs ++ from ∷ []) p) (members_more vs from p q)
]
  where
    or_true : (a b : Bool) → b ≡ true → (a || b) ≡ true
    or_true true b e = refl
    or_true false b e = e

members_last : (vs : List ℕ) (from : ℕ) → members (vs ++ from ∷ []) from ≡ true
members_last [] from = or_left (from == from) false (eq_self from)
members_last (v ∷ vs) from = or_true (from == v) (members (vs ++ from ∷ []) from) (members_last vs from)
  where
    or_true : (a b : Bool) → b ≡ true → (a || b) ≡ true
    or_true true b e = refl
    or_true false b e = e

-- who voted before
pub voter_before : (vs : List ℕ) (from p : ℕ) → members vs p ≡ true → members (with_voter vs from) p ≡ true
voter_before vs from p e = at_bool (λ b. members (cond b vs (vs ++ from ∷ [])) p ≡ true) (members vs from) (λ _. e) (λ _. members_more vs from p e)

-- and who votes now
pub voter_now : (vs : List ℕ) (from : ℕ) → members (with_voter vs from) from ≡ true
voter_now vs from = at_bool (λ b. members vs from ≡ b → members (cond b vs (vs ++ from ∷ [])) from ≡ true) (members vs from) (λ _ e. e) (λ _ _. members_last vs from) refl

counted_counts : (servers term : ℕ) (mine : Log) (from : ℕ) (n : Node) → IsShort servers term mine n → Wins servers term mine (counted (record n { votes = with_voter n.votes from })) ⊎ Counts servers term mine from n (counted (record n { votes = with_voter n.votes from }))
unfolding counted
counted_counts servers term mine from n s =
    let m : Node = record n { votes = with_voter n.votes from } in
    at_bool (λ b. is_majority n.servers (members (with_voter n.votes from)) ≡ b → Wins servers term mine (cond b (leads m) (quiet m)) ⊎ Counts servers term mine from n (cond b (leads m) (quiet m))) (is_majority n.servers (members (with_voter n.votes from)))
    (λ _ e. inl (leads_wins servers term mine m (let k = some_majority n.servers (members (with_voter n.votes from)) e in let q = s.servers_are in omega arith) s.id s.servers_are s.term_is s.log s.idle))
    (λ _ e. inr (record {
      short = record { role = s.role; term_is = s.term_is; id = s.id; servers_are = s.servers_are; log = s.log; idle = s.idle; itself = voter_before n.votes from 1 s.itself; short = subst (λ z. is_majority z (members (with_voter n.votes from)) ≡ false) s.servers_are e };
      votes = refl;
      sent = refl;
    })) refl

voted_counts : (servers term : ℕ) (mine : Log) (from : ℕ) (n : Node) (r : Role) → r ≡ Candidate → IsShort servers term mine n → Wins servers term mine (voted n from true r) ⊎ Counts servers term mine from n (voted n from true r)
unfolding voted
voted_counts servers term mine from n Candidate e s = counted_counts servers term mine from n s
voted_counts servers term mine from n Follower e s = cc e
voted_counts servers term mine from n Leader e s = cc e

received_counts : (servers term : ℕ) (mine : Log) (from : ℕ) (n : Node) → IsShort servers term mine n → Wins servers term mine (received n from (Vote term true)) ⊎ Counts servers term mine from n (received n from (Vote term true))
unfolding received of_own_term
received_counts servers term mine from n s =
    at_bool (λ c. nat_lt term n.term ≡ c → Wins servers term mine (cond c (of_lower_term n from (Vote term true)) (voted (risen n term) from true (risen n term).role)) ⊎ Counts servers term mine from n (cond c (of_lower_term n from (Vote term true)) (voted (risen n term) from true (risen n term).role))) (nat_lt term n.term)
    (λ _ e. absurd (let l = lt_tells term n.term e in let k = s.term_is in omega arith))
    (λ _ _. let up : Node = record n { term = term; vote = None; role = Follower; leader = None } in
    at_bool (λ b. nat_lt n.term term ≡ b → Wins servers term mine (voted (cond b up n) from true (cond b up n).role) ⊎ Counts servers term mine from n (voted (cond b up n) from true (cond b up n).role)) (nat_lt n.term term)
    (λ _ e. absurd (let l = lt_tells n.term term e in let k = s.term_is in omega arith))
    (λ _ _. voted_counts servers term mine from n n.role s.role s) refl) refl

pub done_counts : (servers term : ℕ) (mine : Log) (from : ℕ) (n : Node) → n.halted ≡ false → IsShort servers term mine n → Wins servers term mine (done n (Receive from (Vote term true))) ⊎ Counts servers term mine from n (done n (Receive from (Vote term true)))
unfolding done does
done_counts servers term mine from n up s = at_bool (λ c. n.halted ≡ c → Wins servers term mine (cond c (quiet n) (received n from (Vote term true))) ⊎ Counts servers term mine from n (cond c (quiet n) (received n from (Vote term true)))) n.halted
    (λ _ e. absurd (no_bool n.halted e up)) (λ _ _. received_counts servers term mine from n s) refl

-- who has all votes has those of a majority
count_all : (vs : List ℕ) (n : ℕ) → ((j : ℕ) → 0 < j → j ≤ n → members vs j ≡ true) → count (members vs) n ≡ n
count_all vs zero f = refl
count_all vs (suc n) f = ap (λ b. cond b (1 + count (members vs) n) (count (members vs) n)) (f (suc n) (omega arith) (omega arith)) ∙ (let k = count_all vs n (λ j p l. f j p (omega arith)) in omega arith)

pub not_all : (servers : ℕ) (vs : List ℕ) → 0 < servers → is_majority servers (members vs) ≡ false → ((j : ℕ) → 0 < j → j ≤ servers → members vs j ≡ true) → ⊥
not_all servers vs some short f = let k = count_all vs servers f in let l = lt_tells_not servers (2 * count (members vs) servers) short in omega arith

-- It has its own vote alone.
count_one : (n : ℕ) → count (members (1 ∷ [])) n ≤ 1
count_one zero = omega arith
count_one (suc zero) = omega arith
count_one (suc (suc n)) = at_bool (λ b. (suc (suc n) == 1) ≡ b → cond (b || false) (1 + count (members (1 ∷ [])) (suc n)) (count (members (1 ∷ [])) (suc n)) ≤ 1) (suc (suc n) == 1)
    (λ _ e. absurd (let k = eq_tells (suc (suc n)) 1 e in omega arith)) (λ _ _. count_one (suc n)) refl

one_short : (servers : ℕ) → 1 < servers → is_majority servers (members (1 ∷ [])) ≡ false
one_short servers l = at_bool (λ b. nat_lt servers (2 * count (members (1 ∷ [])) servers) ≡ b → b ≡ false) (nat_lt servers (2 * count (members (1 ∷ [])) servers))
    (λ _ e. absurd (let k = lt_tells servers (2 * count (members (1 ∷ [])) servers) e in let c = count_one servers in omega arith)) (λ _ _. refl) refl

-- Server 1 of so many has stood for election, with this in its store.
abbrev pub standing : ℕ → Store → Kept → Node
standing servers store kept = stands (begun 1 servers store kept)

pub standing_short : (servers : ℕ) (store : Store) (kept : Kept) → 1 < servers → IsShort servers (suc kept.term) kept.log (standing servers store kept)
standing_short servers store kept l = record { role = refl; term_is = refl; id = refl; servers_are = refl; log = refl; idle = refl; itself = refl; short = one_short servers l }

-- It asks all others, unless it leads alone.
pub record Asks (servers : ℕ) (store : Store) (kept : Kept) (d : Done) : Type 0 where
  pub some : 1 < servers
  pub node : d.node ≡ standing servers store kept
  pub sent : d.sent ≡ to_others 1 (λ peer. AskVote (suc kept.term) (length kept.log) (last_term kept.log)) servers

stands_or_leads : (servers : ℕ) (store : Store) (kept : Kept) → kept.term < 2 ^ 64 - 1 → done (begun 1 servers store kept) Timeout ≡ cond (servers == 1) (leads (standing servers store kept)) (ask_all (standing servers store kept))
unfolding done does timed_out candidate
stands_or_leads servers store kept l = ap (λ b. cond b (cond (servers == 1) (leads (standing servers store kept)) (ask_all (standing servers store kept))) (quiet (begun 1 servers store kept))) (lt_is kept.term (2 ^ 64 - 1) l)

pub done_asks : (servers : ℕ) (store : Store) (kept : Kept) → 0 < servers → kept.term < 2 ^ 64 - 1 → ((servers ≡ 1) × Wins servers (suc kept.term) kept.log (done (begun 1 servers store kept) Timeout)) ⊎ Asks servers store kept (done (begun 1 servers store kept) Timeout)
done_asks servers store kept some l =
    let m : Node = standing servers store kept in
    subst (λ d. ((servers ≡ 1) × Wins servers (suc kept.term) kept.log d) ⊎ Asks servers store kept d) (sym (stands_or_leads servers store kept l))
    (at_bool (λ b. (servers == 1) ≡ b → ((servers ≡ 1) × Wins servers (suc kept.term) kept.log (cond b (leads m) (ask_all m))) ⊎ Asks servers store kept (cond b (leads m) (ask_all m))) (servers == 1)
    (λ _ e. inl (eq_tells servers 1 e, leads_wins servers (suc kept.term) kept.log m some refl refl refl refl refl)) (λ _ e. inr (record { some = let k = eq_tells_not servers 1 e in omega arith; node = refl; sent = refl })) refl)

alone_silent : (m : Node) → m.id ≡ 1 → m.servers ≡ 1 → (append_all m).sent ≡ []
alone_silent m i s = ap (λ z. to_others z (append_to m) m.servers) i ∙ ap (to_others 1 (append_to m)) s

pub done_alone : (store : Store) (kept : Kept) → kept.term < 2 ^ 64 - 1 → (done (begun 1 1 store kept) Timeout).sent ≡ []
unfolding leads
done_alone store kept l =
    let m : Node = standing 1 store kept in
    ap (λ (d : Done). d.sent) (stands_or_leads 1 store kept l)
    ∙ at_bool (λ b. (append_all (cond b (leading m) (appended (leading m) (noop m.term)))).sent ≡ []) (is_full m.log) (λ _. alone_silent (leading m) refl refl) (λ _. alone_silent (appended (leading m) (noop m.term)) refl refl)

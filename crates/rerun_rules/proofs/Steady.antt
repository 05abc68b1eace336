-- What each rule makes of a node's term and role, and the terms of what it sends.
use Rattle.std.proofs.Common.{◌≡◌, ℕ, suc, zero, ◌+◌, ◌-◌, ◌<◌, ◌≤◌, ◌⊎◌, inl, inr, Bool, true, false, cond, max, min, List, [], ◌∷◌, ◌++◌, length, refl, sym, ◌∙◌, arith, Some, None}
use Rattle.std.specs.Prelude.{nat_le, nat_lt, ◌&&◌, ◌==◌, ◌^◌}
use Rattle.std.specs.List.{AllByRecursion as Each}
use Rattle.cat_model.specs.declared.command.Command.{Command}
use Rattle.cat_model.specs.declared.command.Entry.{Entry}
use Rattle.cat_model.specs.declared.reply.Role.{Role}
use Rattle.cat_model.specs.declared.reply.Role.TheVariants.{Candidate, Follower, Leader}
use Rattle.raft_model.specs.declared.message.Message.{Message}
use Rattle.raft_model.specs.declared.message.Message.TheVariants.{Append, AskVote, No, Vote, Yes}
use Rattle.raft_model.specs.declared.message.Sent.{Sent}
use Rattle.raft_model.specs.Limits.{is_full}
use Rattle.raft_model.specs.Log.{Log, accepted, last_term}
use Rattle.raft_model.specs.Node.{Done, Node, last, of_server, quiet, reply, to_others}
use Rattle.raft_model.specs.Quorum.{is_majority, members}
use Rattle.raft_model.specs.Rules.{Beat, Input, Probe, Propose, Receive, Timeout, accepts, after_yes, agreed_to, append_all, append_to, appended, ask_all, asked, beats, candidate, counted, declined, does, done, follows, has_room, is_refused, is_up_to_date, leading, leads, matches, may_vote, noop, noted, of_lower_term, of_own_term, offered, probes, proposal, proposes, received, risen, stands, term_of, timed_out, voted, with_commit, with_voter}
use Rattle.raft_model.proofs.Tests.{at_bool, lt_tells}

-- no message of a term above this one
abbrev pub AreUpTo : ℕ → List Sent → Type 0
AreUpTo t sent = Each (λ (s : Sent). term_of s.message ≤ t) sent

up_append : (t : ℕ) (xs ys : List Sent) → AreUpTo t xs → AreUpTo t ys → AreUpTo t (xs ++ ys)
up_append t [] ys a b = b
up_append t (x ∷ xs) ys a b = (a.0, up_append t xs ys a.1 b)

pub up_more : (t u : ℕ) → t ≤ u → (xs : List Sent) → AreUpTo t xs → AreUpTo u xs
up_more t u l [] a = tt
up_more t u l (x ∷ xs) a = (let k = a.0 in omega arith, up_more t u l xs a.1)

others_up : (t id : ℕ) (f : ℕ → Message) → ((p : ℕ) → term_of (f p) ≤ t) → (k : ℕ) → AreUpTo t (to_others id f k)
others_up t id f u zero = tt
others_up t id f u (suc k) = at_bool (λ b. AreUpTo t (cond b (to_others id f k) (to_others id f k ++ record { to = suc k; message = f (suc k) } ∷ []))) (suc k == id)
    (λ _. others_up t id f u k) (λ _. up_append t (to_others id f k) (record { to = suc k; message = f (suc k) } ∷ []) (others_up t id f u k) (u (suc k), tt))

all_up : (t : ℕ) (n : Node) → n.term ≡ t → AreUpTo t (append_all n).sent
all_up t n e = others_up t n.id (append_to n) (λ p. omega arith) n.servers

-- A rule that leaves the term: a follower follows still, and a leader leads still. It changes the vote or the log, but
-- not both.
pub record Stays (n : Node) (d : Done) : Type 0 where
  pub term : d.node.term ≡ n.term
  pub sent : AreUpTo n.term d.sent
  pub follows : n.role ≡ Follower → d.node.role ≡ Follower
  pub leads : n.role ≡ Leader → d.node.role ≡ Leader
  pub one : (d.node.vote ≡ n.vote) ⊎ (d.node.log ≡ n.log)

pub quiet_stays : (n : Node) → Stays n (quiet n)
quiet_stays n = record { term = refl; sent = tt; follows = λ e. e; leads = λ e. e; one = inl refl }

-- nothing but this message is sent
one_up : (n : Node) (to : ℕ) (m : Message) → term_of m ≡ n.term → Stays n (reply n to m)
one_up n to m e = record { term = refl; sent = (omega arith, tt); follows = λ r. r; leads = λ r. r; one = inl refl }

appended_term : (n : Node) (e : Entry) → (appended n e).term ≡ n.term
appended_term n e = at_bool (λ c. (cond c (record n { log = n.log ++ e ∷ []; commit = length (n.log ++ e ∷ []) }) (record n { log = n.log ++ e ∷ [] })).term ≡ n.term) (n.servers == 1) (λ _. refl) (λ _. refl)

pub appended_role : (n : Node) (e : Entry) → (appended n e).role ≡ n.role
appended_role n e = at_bool (λ c. (cond c (record n { log = n.log ++ e ∷ []; commit = length (n.log ++ e ∷ []) }) (record n { log = n.log ++ e ∷ [] })).role ≡ n.role) (n.servers == 1) (λ _. refl) (λ _. refl)

appended_vote : (n : Node) (e : Entry) → (appended n e).vote ≡ n.vote
appended_vote n e = at_bool (λ c. (cond c (record n { log = n.log ++ e ∷ []; commit = length (n.log ++ e ∷ []) }) (record n { log = n.log ++ e ∷ [] })).vote ≡ n.vote) (n.servers == 1) (λ _. refl) (λ _. refl)

-- an election that is won
pub leads_stays : (n : Node) → n.role ≡ Candidate → Stays n (leads n)
unfolding leads
leads_stays n r = record { term = same; sent = all_up n.term (cond (is_full n.log) (leading n) (appended (leading n) (noop n.term))) same; follows = λ e. cc (e, r); leads = λ e. cc (e, r); one = inl vote }
  where
    vote : (cond (is_full n.log) (leading n) (appended (leading n) (noop n.term))).vote ≡ n.vote
    vote = at_bool (λ b. (cond b (leading n) (appended (leading n) (noop n.term))).vote ≡ n.vote) (is_full n.log) (λ _. refl) (λ _. appended_vote (leading n) (noop n.term))

    same : (cond (is_full n.log) (leading n) (appended (leading n) (noop n.term))).term ≡ n.term
    same = at_bool (λ b. (cond b (leading n) (appended (leading n) (noop n.term))).term ≡ n.term) (is_full n.log) (λ _. refl) (λ _. appended_term (leading n) (noop n.term))

pub counted_stays : (n : Node) → n.role ≡ Candidate → Stays n (counted n)
unfolding counted
counted_stays n r = at_bool (λ c. Stays n (cond c (leads n) (quiet n))) (is_majority n.servers (members n.votes)) (λ _. leads_stays n r) (λ _. quiet_stays n)

voted_stays : (n : Node) (from : ℕ) (g : Bool) (r : Role) → n.role ≡ r → Stays n (voted n from g r)
unfolding voted
voted_stays n from true Candidate e = let s = counted_stays (record n { votes = with_voter n.votes from }) e in record { term = s.term; sent = s.sent; follows = s.follows; leads = s.leads; one = s.one }
voted_stays n from true Follower e = quiet_stays n
voted_stays n from true Leader e = quiet_stays n
voted_stays n from false Candidate e = quiet_stays n
voted_stays n from false Follower e = quiet_stays n
voted_stays n from false Leader e = quiet_stays n

-- a node that becomes a follower, and sends this
follower_stays : (n m : Node) (sent : List Sent) → m.term ≡ n.term → m.role ≡ Follower → m.vote ≡ n.vote → (n.role ≡ Leader → ⊥) → AreUpTo n.term sent → Stays n (record { node = m; sent = sent })
follower_stays n m sent t f v not u = record { term = t; sent = u; follows = λ _. f; leads = λ e. absurd (not e); one = inl v }

accepts_stays : (n : Node) (from prev : ℕ) (es : Log) (commit round : ℕ) → (n.role ≡ Leader → ⊥) → Stays n (accepts n from prev es commit round)
unfolding accepts
accepts_stays n from prev es commit round not = at_bool (λ b. Stays n (cond b (quiet (follows n from))
    (reply (record (follows n from) { log = accepted n.log prev es; commit = max n.commit (min commit (prev + length es)) }) from (Yes n.term (prev + length es) round))))
    (is_refused n (accepted n.log prev es)) (λ _. follower_stays n _ _ refl refl refl not tt) (λ _. follower_stays n _ _ refl refl refl not (omega arith, tt))

offered_stays : (n : Node) (r : Role) (from prev pt : ℕ) (es : Log) (commit round : ℕ) → n.role ≡ r → Stays n (offered n r from prev pt es commit round)
unfolding offered
offered_stays n Leader from prev pt es commit round e = quiet_stays n
offered_stays n Follower from prev pt es commit round e = at_bool (λ c. Stays n (cond c (accepts n from prev es commit round) (reply (follows n from) from (No n.term (last n))))) (matches n prev pt)
    (λ _. accepts_stays n from prev es commit round (λ k. cc (k, e))) (λ _. follower_stays n _ _ refl refl refl (λ k. cc (k, e)) (omega arith, tt))
offered_stays n Candidate from prev pt es commit round e = at_bool (λ c. Stays n (cond c (accepts n from prev es commit round) (reply (follows n from) from (No n.term (last n))))) (matches n prev pt)
    (λ _. accepts_stays n from prev es commit round (λ k. cc (k, e))) (λ _. follower_stays n _ _ refl refl refl (λ k. cc (k, e)) (omega arith, tt))

after_stays : (old n : Node) (from : ℕ) → Stays n (after_yes old n from)
unfolding after_yes
after_stays old n from = at_bool (λ b. Stays n (cond b (append_all n) (cond (nat_le (of_server n.next from) (last n)) (reply n from (append_to n from)) (quiet n)))) (nat_lt old.commit n.commit)
    (λ _. record { term = refl; sent = all_up n.term n refl; follows = λ e. e; leads = λ e. e; one = inl refl })
    (λ _. at_bool (λ b. Stays n (cond b (reply n from (append_to n from)) (quiet n))) (nat_le (of_server n.next from) (last n)) (λ _. one_up n from (append_to n from) refl) (λ _. quiet_stays n))

agreed_stays : (n : Node) (r : Role) (from matched round : ℕ) → Stays n (agreed_to n r from matched round)
unfolding agreed_to
agreed_stays n Follower from matched round = quiet_stays n
agreed_stays n Candidate from matched round = quiet_stays n
agreed_stays n Leader from matched round =
    at_bool (λ c. Stays n (cond c (after_yes n (with_commit (noted n from matched round)) from) (quiet n))) (nat_le matched (last n))
    (λ _. let s = after_stays n (with_commit (noted n from matched round)) from in record { term = s.term; sent = s.sent; follows = s.follows; leads = s.leads; one = s.one }) (λ _. quiet_stays n)

declined_stays : (n : Node) (r : Role) (from k : ℕ) → Stays n (declined n r from k)
unfolding declined
declined_stays n Leader from k = record { term = refl; sent = (omega arith, tt); follows = λ e. e; leads = λ e. e; one = inl refl }
declined_stays n Follower from k = quiet_stays n
declined_stays n Candidate from k = quiet_stays n

pub own_stays : (n : Node) (from : ℕ) (m : Message) → Stays n (of_own_term n from m)
unfolding of_own_term asked
own_stays n from (AskVote t li lt) = at_bool (λ c. Stays n (cond c (reply (record n { vote = Some from }) from (Vote n.term true)) (reply n from (Vote n.term false)))) (may_vote n.vote from && is_up_to_date lt li n.log)
    (λ _. record { term = refl; sent = (omega arith, tt); follows = λ e. e; leads = λ e. e; one = inr refl }) (λ _. one_up n from (Vote n.term false) refl)
own_stays n from (Vote t g) = voted_stays n from g n.role refl
own_stays n from (Append t prev pt es commit round) = offered_stays n n.role from prev pt es commit round refl
own_stays n from (Yes t matched round) = agreed_stays n n.role from matched round
own_stays n from (No t k) = declined_stays n n.role from k

lower_stays : (n : Node) (from : ℕ) (m : Message) → Stays n (of_lower_term n from m)
unfolding of_lower_term
lower_stays n from (AskVote t li lt) = one_up n from (Vote n.term false) refl
lower_stays n from (Vote t g) = quiet_stays n
lower_stays n from (Append t prev pt es commit round) = one_up n from (No n.term (last n)) refl
lower_stays n from (Yes t matched round) = quiet_stays n
lower_stays n from (No t k) = quiet_stays n

beats_stays : (n : Node) (r : Role) → Stays n (beats n r)
unfolding beats
beats_stays n Leader = record { term = refl; sent = all_up n.term n refl; follows = λ e. e; leads = λ e. e; one = inl refl }
beats_stays n Follower = quiet_stays n
beats_stays n Candidate = quiet_stays n

proposes_stays : (n : Node) (r : Role) (number : ℕ) (command : Command) → Stays n (proposes n r number command)
unfolding proposes
proposes_stays n Follower number command = quiet_stays n
proposes_stays n Candidate number command = quiet_stays n
proposes_stays n Leader number command = at_bool (λ c. Stays n (cond c (append_all (appended n (proposal n number command))) (quiet n))) (has_room n number command)
    (λ _. record {
      term = appended_term n (proposal n number command);
      sent = all_up n.term (appended n (proposal n number command)) (appended_term n (proposal n number command));
      follows = λ e. appended_role n (proposal n number command) ∙ e;
      leads = λ e. appended_role n (proposal n number command) ∙ e;
      one = inl (appended_vote n (proposal n number command));
    })
    (λ _. quiet_stays n)

probes_stays : (n : Node) (r : Role) → Stays n (probes n r)
unfolding probes
probes_stays n Leader = record { term = refl; sent = others_up n.term n.id (append_to (record n { round = n.round + 1 })) (λ p. omega arith) n.servers; follows = λ e. e; leads = λ e. e; one = inl refl }
probes_stays n Follower = quiet_stays n
probes_stays n Candidate = quiet_stays n

-- A node that is told of no term above t, and is to stand for no election.
abbrev pub Hears : ℕ → Input → Type 0
Hears t Timeout = ⊥
Hears t (Receive from message) = term_of message ≤ t
Hears t other = Unit {0}

-- Its term rises to t at most. A follower follows still, and a leader of term t leads on.
pub record Rests (t : ℕ) (n : Node) (d : Done) : Type 0 where
  pub up : n.term ≤ d.node.term
  pub under : d.node.term ≤ t
  pub sent : AreUpTo d.node.term d.sent
  pub follows : n.role ≡ Follower → d.node.role ≡ Follower
  pub leads : n.role ≡ Leader → n.term ≡ t → d.node.role ≡ Leader
  pub one : d.node.term ≡ n.term → (d.node.vote ≡ n.vote) ⊎ (d.node.log ≡ n.log)

rests_of : (t : ℕ) (n : Node) (d : Done) → n.term ≤ t → Stays n d → Rests t n d
rests_of t n d l s = record {
  up = let k = s.term in omega arith;
  under = let k = s.term in omega arith;
  sent = up_more n.term d.node.term (let k = s.term in omega arith) d.sent s.sent;
  follows = s.follows;
  leads = λ e _. s.leads e;
  one = λ _. s.one;
}

-- it rose to a higher term before
rests_risen : (t u : ℕ) (n : Node) (d : Done) → n.term < u → u ≤ t → Stays (record n { term = u; vote = None; role = Follower; leader = None }) d → Rests t n d
rests_risen t u n d up under s = record {
  up = let k = s.term in omega arith;
  under = let k = s.term in omega arith;
  sent = up_more u d.node.term (let k = s.term in omega arith) d.sent s.sent;
  follows = λ _. s.follows refl;
  leads = λ _ e. absurd (omega arith);
  one = λ e. absurd (let k = s.term in omega arith);
}

received_rests : (t : ℕ) (n : Node) (from : ℕ) (m : Message) → n.term ≤ t → term_of m ≤ t → Rests t n (received n from m)
unfolding received
received_rests t n from m l h = at_bool (λ c. Rests t n (cond c (of_lower_term n from m) (of_own_term (risen n (term_of m)) from m))) (nat_lt (term_of m) n.term)
    (λ _. rests_of t n _ l (lower_stays n from m))
    (λ _. at_bool (λ b. Rests t n (of_own_term (cond b (record n { term = term_of m; vote = None; role = Follower; leader = None }) n) from m)) (nat_lt n.term (term_of m))
    (λ e. rests_risen t (term_of m) n _ (lt_tells n.term (term_of m) e) h (own_stays (record n { term = term_of m; vote = None; role = Follower; leader = None }) from m))
    (λ _. rests_of t n _ l (own_stays n from m)))

does_rests : (t : ℕ) (n : Node) (input : Input) → n.term ≤ t → Hears t input → Rests t n (does n input)
unfolding does
does_rests t n Timeout l h = absurd h
does_rests t n Beat l h = rests_of t n _ l (beats_stays n n.role)
does_rests t n (Receive from m) l h = received_rests t n from m l h
does_rests t n (Propose number command) l h = rests_of t n _ l (proposes_stays n n.role number command)
does_rests t n Probe l h = rests_of t n _ l (probes_stays n n.role)

pub done_rests : (t : ℕ) (n : Node) (input : Input) → n.term ≤ t → Hears t input → Rests t n (done n input)
unfolding done
done_rests t n input l h = at_bool (λ c. Rests t n (cond c (quiet n) (does n input))) n.halted (λ _. rests_of t n _ l (quiet_stays n)) (λ _. does_rests t n input l h)

-- A node that stands for election.
pub record Stands (n : Node) (d : Done) : Type 0 where
  pub up : n.term ≤ d.node.term
  pub sent : AreUpTo d.node.term d.sent
  pub leads : n.role ≡ Leader → (d.node.role ≡ Leader) × (d.node.term ≡ n.term) × ((d.node.vote ≡ n.vote) ⊎ (d.node.log ≡ n.log))

stands_quiet : (n : Node) → Stands n (quiet n)
stands_quiet n = record { up = omega arith; sent = tt; leads = λ e. (e, refl, inl refl) }

candidate_stays : (n : Node) → n.role ≡ Candidate → Stays n (candidate n)
unfolding candidate
candidate_stays n r = at_bool (λ b. Stays n (cond b (leads n) (ask_all n))) (n.servers == 1) (λ _. leads_stays n r)
    (λ _. record { term = refl; sent = others_up n.term n.id (λ peer. AskVote n.term (last n) (last_term n.log)) (λ p. omega arith) n.servers; follows = λ e. e; leads = λ e. e; one = inl refl })

stood : (n : Node) (r : Role) → n.role ≡ r → (r ≡ Leader → ⊥) → Stands n (cond (nat_lt n.term (2 ^ 64 - 1)) (candidate (stands n)) (quiet n))
stood n r e not = at_bool (λ c. Stands n (cond c (candidate (stands n)) (quiet n))) (nat_lt n.term (2 ^ 64 - 1))
    (λ _. let s = candidate_stays (stands n) refl in record {
      up = let k = s.term in omega arith;
      sent = up_more (suc n.term) (candidate (stands n)).node.term (let k = s.term in omega arith) (candidate (stands n)).sent s.sent;
      leads = λ k. absurd (not (sym e ∙ k));
    })
    (λ _. stands_quiet n)

timed_out_stands : (n : Node) (r : Role) → n.role ≡ r → Stands n (timed_out n r)
unfolding timed_out
timed_out_stands n Leader e = stands_quiet n
timed_out_stands n Follower e = stood n Follower e (λ k. cc k)
timed_out_stands n Candidate e = stood n Candidate e (λ k. cc k)

pub done_stands : (n : Node) → Stands n (done n Timeout)
unfolding done does
done_stands n = at_bool (λ c. Stands n (cond c (quiet n) (timed_out n n.role))) n.halted (λ _. stands_quiet n) (λ _. timed_out_stands n n.role refl)

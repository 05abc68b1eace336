-- Plans by the rules of receiving, case by case.
use Rattle.std.proofs.Common.{◌≡◌, ℕ, zero, suc, ◌<◌, ◌≤◌, nat_le, nat_lt, Bool, true, false, ◌&&◌, cond, ◌⊎◌, inl, inr, List, [], ◌++◌, length, refl, sym, ◌∙◌, ap, subst, Option, None, Some, arith}
use Rattle.std.proofs.lemmas.List.{append-nil}
use Rattle.std.proofs.lemmas.Bool.Decides.{nat_tests}
use Rattle.cat_model.specs.declared.reply.Role.{Role}
use Rattle.cat_model.specs.declared.reply.Role.TheVariants.{Follower, Candidate, Leader}
use Rattle.raft_model.specs.declared.message.Message.{Message}
use Rattle.raft_model.specs.declared.message.Message.TheVariants.{AskVote, Vote, Append, Yes, No}
use Rattle.raft_model.specs.declared.message.Sent.{Sent}
use Rattle.raft_model.specs.Log.{Log}
use Rattle.raft_model.specs.Quorum.{is_majority, members}
use Rattle.raft_model.specs.Node.{Store, Node, Done, last, of_server, quiet, reply}
use Rattle.raft_model.specs.Rules.{may_vote, is_up_to_date, asked, counted, leads, with_voter, voted, matches, follows, accepts, offered, append_to, append_all, after_yes, noted, with_commit, committed_upto, agreed_to, stepped_back, declined, risen, of_own_term, of_lower_term, term_of, received}
use Rattle.raft_node.specs.declared.state.State.{State}
use Rattle.raft_node.specs.declared.state.Tail.{Tail}
use Rattle.raft_node.specs.declared.state.Planned.{Planned}
use Rattle.raft_node.specs.Counting.{counting}
use Rattle.raft_node.specs.Nodes.{seen, nowhere, after, Fits, IsSame, Plans}
use Rattle.raft_node.proofs.Deciding.{commit_same}

pub plan_of : (rule : Node → Done) (state st : State) (log : Log) (tail : Option Tail) (sent : List Sent) (planned : Planned)
    → planned ≡ record { state = st; tail = tail; sent = sent }
    → ((store : Store) → rule (seen store state log) ≡ record { node = seen store st (after log tail); sent = sent })
    → Fits log tail → st.halted ≡ state.halted → (state.commit ≤ length log → st.commit ≤ length (after log tail))
    → Plans rule state log planned
plan_of rule state st log tail sent planned e d f h c = subst (λ (p : Planned). Plans rule state log p) (sym e) (record { done = λ store. sym (d store); fits = f; running = h; commit = c })

-- a plan by another rule from another state
pub plan_via : (rule other : Node → Done) (state st : State) (log : Log) (planned : Planned) → Plans other st log planned
    → ((store : Store) → rule (seen store state log) ≡ other (seen store st log)) → st.halted ≡ state.halted → (state.commit ≤ length log → st.commit ≤ length log)
    → Plans rule state log planned
plan_via rule other state st log planned p d h c = record {
  done = λ store. p.done store ∙ sym (d store);
  fits = p.fits;
  running = p.running ∙ h;
  commit = λ l. p.commit (c l);
}

-- a plan from a copy of the state
pub plan_same : (rule : Node → Done) (state copy : State) (log : Log) (planned : Planned) → IsSame copy state → Plans rule copy log planned → Plans rule state log planned
plan_same rule state copy log planned e p =
    plan_via rule rule state copy log planned p (λ store. ap rule (sym (ap (λ (n : Node). record n { store = store; log = log }) e))) (ap (λ (n : Node). n.halted) e)
    (λ l. let c = ap (λ (n : Node). n.commit) e in omega (arith, l, c))

pub fits_none : (log : Log) → Fits log None
fits_none log = λ x e. cc e

-- a plan that leaves the log
pub plan_stays : (rule : Node → Done) (state st : State) (log : Log) (sent : List Sent) (planned : Planned)
    → planned ≡ record { state = st; tail = None; sent = sent }
    → ((store : Store) → rule (seen store state log) ≡ record { node = seen store st log; sent = sent })
    → st.halted ≡ state.halted → (state.commit ≤ length log → st.commit ≤ length log)
    → Plans rule state log planned
plan_stays rule state st log sent planned e d h c = plan_of rule state st log None sent planned e d (fits_none log) h c

-- the messages of a leader do not depend on its store
pub append_all_is : (state : State) (log : Log) (sent : List Sent) (store : Store) → sent ≡ (append_all (seen nowhere state (log ++ []))).sent → append_all (seen store state log) ≡ record { node = seen store state log; sent = sent }
append_all_is state log sent store e =
    let f : List Sent → Done = λ s. record { node = seen store state log; sent = s } in
    ap f (sym (e ∙ ap (λ (z : Log). (append_all (seen store state z)).sent) (append-nil log)))

pub append_to_is : (state : State) (log : Log) (message : Message) (store : Store) (peer : ℕ) → message ≡ append_to (seen nowhere state (log ++ [])) peer → append_to (seen store state log) peer ≡ message
append_to_is state log message store peer e = sym (e ∙ ap (λ (z : Log). append_to (seen store state z) peer) (append-nil log))

-- votes
pub asked_granted : (n : Node) (from last_index last_term : ℕ) → (may_vote n.vote from && is_up_to_date last_term last_index n.log) ≡ true
    → asked n from last_index last_term ≡ reply (record n { vote = Some from }) from (Vote n.term true)
unfolding asked
asked_granted n from last_index last_term e = ap (λ t. cond t (reply (record n { vote = Some from }) from (Vote n.term true)) (reply n from (Vote n.term false))) e

pub asked_declined : (n : Node) (from last_index last_term : ℕ) → (may_vote n.vote from && is_up_to_date last_term last_index n.log) ≡ false
    → asked n from last_index last_term ≡ reply n from (Vote n.term false)
unfolding asked
asked_declined n from last_index last_term e = ap (λ t. cond t (reply (record n { vote = Some from }) from (Vote n.term true)) (reply n from (Vote n.term false))) e

pub counted_leads : (n : Node) → is_majority n.servers (members n.votes) ≡ true → counted n ≡ leads n
unfolding counted
counted_leads n e = ap (λ t. cond t (leads n) (quiet n)) e

pub counted_waits : (n : Node) → is_majority n.servers (members n.votes) ≡ false → counted n ≡ quiet n
unfolding counted
counted_waits n e = ap (λ t. cond t (leads n) (quiet n)) e

pub voted_granted : (n : Node) (from : ℕ) (granted : Bool) (role : Role) → granted ≡ true → role ≡ Candidate → voted n from granted role ≡ counted (record n { votes = with_voter n.votes from })
unfolding voted
voted_granted n from granted role e f = ap (λ (r : Role). voted n from granted r) f ∙ ap (λ t. voted n from t Candidate) e

pub voted_declined : (n : Node) (from : ℕ) (granted : Bool) (role : Role) → granted ≡ false → voted n from granted role ≡ quiet n
unfolding voted
voted_declined n from granted Follower e = ap (λ t. voted n from t Follower) e
voted_declined n from granted Candidate e = ap (λ t. voted n from t Candidate) e
voted_declined n from granted Leader e = ap (λ t. voted n from t Leader) e

pub voted_follower : (n : Node) (from : ℕ) (granted : Bool) (role : Role) → role ≡ Follower → voted n from granted role ≡ quiet n
unfolding voted
voted_follower n from true role e = ap (λ (r : Role). voted n from true r) e
voted_follower n from false role e = ap (λ (r : Role). voted n from false r) e

pub voted_leader : (n : Node) (from : ℕ) (granted : Bool) (role : Role) → role ≡ Leader → voted n from granted role ≡ quiet n
unfolding voted
voted_leader n from true role e = ap (λ (r : Role). voted n from true r) e
voted_leader n from false role e = ap (λ (r : Role). voted n from false r) e

pub voted_other : (n : Node) (from : ℕ) (granted : Bool) (role : Role) → (role ≡ Leader) ⊎ (role ≡ Follower) → voted n from granted role ≡ quiet n
voted_other n from granted role h = elim h [ inl e ↦ voted_leader n from granted role e | inr e ↦ voted_follower n from granted role e ]

-- Appends
pub offered_leader : (n : Node) (role : Role) (from prev prev_term : ℕ) (entries : Log) (commit round : ℕ) → role ≡ Leader → offered n role from prev prev_term entries commit round ≡ quiet n
unfolding offered
offered_leader n role from prev prev_term entries commit round e = ap (λ (r : Role). offered n r from prev prev_term entries commit round) e

-- a server that may follow
abbrev pub answered : Node → ℕ → ℕ → ℕ → Log → ℕ → ℕ → Done
answered n from prev prev_term entries commit round = cond (matches n prev prev_term) (accepts n from prev entries commit round) (reply (follows n from) from (No n.term (last n)))

pub offered_follower : (n : Node) (role : Role) (from prev prev_term : ℕ) (entries : Log) (commit round : ℕ) → role ≡ Follower → offered n role from prev prev_term entries commit round ≡ answered n from prev prev_term entries commit round
unfolding offered
offered_follower n role from prev prev_term entries commit round e = ap (λ (r : Role). offered n r from prev prev_term entries commit round) e

pub offered_candidate : (n : Node) (role : Role) (from prev prev_term : ℕ) (entries : Log) (commit round : ℕ) → role ≡ Candidate → offered n role from prev prev_term entries commit round ≡ answered n from prev prev_term entries commit round
unfolding offered
offered_candidate n role from prev prev_term entries commit round e = ap (λ (r : Role). offered n r from prev prev_term entries commit round) e

pub offered_other : (n : Node) (role : Role) (from prev prev_term : ℕ) (entries : Log) (commit round : ℕ) → (role ≡ Follower) ⊎ (role ≡ Candidate) → offered n role from prev prev_term entries commit round ≡ answered n from prev prev_term entries commit round
offered_other n role from prev prev_term entries commit round h =
    elim h [ inl e ↦ offered_follower n role from prev prev_term entries commit round e | inr e ↦ offered_candidate n role from prev prev_term entries commit round e ]

pub answered_matched : (n : Node) (from prev prev_term : ℕ) (entries : Log) (commit round : ℕ) → matches n prev prev_term ≡ true → answered n from prev prev_term entries commit round ≡ accepts n from prev entries commit round
answered_matched n from prev prev_term entries commit round e = ap (λ t. cond t (accepts n from prev entries commit round) (reply (follows n from) from (No n.term (last n)))) e

pub answered_apart : (n : Node) (from prev prev_term : ℕ) (entries : Log) (commit round : ℕ) → matches n prev prev_term ≡ false → answered n from prev prev_term entries commit round ≡ reply (follows n from) from (No n.term (last n))
answered_apart n from prev prev_term entries commit round e = ap (λ t. cond t (accepts n from prev entries commit round) (reply (follows n from) from (No n.term (last n)))) e

-- Yes
abbrev pub after_cases : Bool → Bool → Node → ℕ → Done
after_cases rose lacks n from = cond rose (append_all n) (cond lacks (reply n from (append_to n from)) (quiet n))

pub after_is : (old n : Node) (from : ℕ) → after_yes old n from ≡ after_cases (nat_lt old.commit n.commit) (nat_le (of_server n.next from) (last n)) n from
unfolding after_yes
after_is old n from = refl

pub after_by : (old old' n : Node) (from : ℕ) → old.commit ≡ old'.commit → after_yes old n from ≡ after_yes old' n from
after_by old old' n from e = after_is old n from ∙ ap (λ c. after_cases (nat_lt c n.commit) (nat_le (of_server n.next from) (last n)) n from) e ∙ sym (after_is old' n from)

pub after_rose : (old n : Node) (from : ℕ) → old.commit < n.commit → after_yes old n from ≡ append_all n
after_rose old n from l = after_is old n from ∙ ap (λ t. after_cases t (nat_le (of_server n.next from) (last n)) n from) (lt_true old.commit n.commit l)
  where
    lt_true : (a b : ℕ) → a < b → nat_lt a b ≡ true
    lt_true a b l = grind (arith, nat_tests, l)

pub after_same : (old n : Node) (from : ℕ) → n.commit ≤ old.commit → after_yes old n from ≡ after_cases false (nat_le (of_server n.next from) (last n)) n from
after_same old n from l = after_is old n from ∙ ap (λ t. after_cases t (nat_le (of_server n.next from) (last n)) n from) (lt_false old.commit n.commit l)
  where
    lt_false : (a b : ℕ) → b ≤ a → nat_lt a b ≡ false
    lt_false a b l = grind (arith, nat_tests, l)

le_true : (a b : ℕ) → a ≤ b → nat_le a b ≡ true
le_true a b l = grind (arith, nat_tests, l)

le_false : (a b : ℕ) → b < a → nat_le a b ≡ false
le_false a b l = grind (arith, nat_tests, l)

pub after_lacks : (old n : Node) (from : ℕ) → n.commit ≤ old.commit → of_server n.next from ≤ last n → after_yes old n from ≡ reply n from (append_to n from)
after_lacks old n from l m = after_same old n from l ∙ ap (λ t. after_cases false t n from) (le_true (of_server n.next from) (last n) m)

pub after_has : (old n : Node) (from : ℕ) → n.commit ≤ old.commit → last n < of_server n.next from → after_yes old n from ≡ quiet n
after_has old n from l m = after_same old n from l ∙ ap (λ t. after_cases false t n from) (le_false (of_server n.next from) (last n) m)

pub agreed_leader : (n : Node) (role : Role) (from matched round : ℕ) → role ≡ Leader → matched ≤ last n → agreed_to n role from matched round ≡ after_yes n (with_commit (noted n from matched round)) from
unfolding agreed_to
agreed_leader n role from matched round e l =
    ap (λ (r : Role). agreed_to n r from matched round) e ∙ ap (λ t. cond t (after_yes n (with_commit (noted n from matched round)) from) (quiet n)) (le_true matched (last n) l)

pub agreed_beyond : (n : Node) (role : Role) (from matched round : ℕ) → role ≡ Leader → last n < matched → agreed_to n role from matched round ≡ quiet n
unfolding agreed_to
agreed_beyond n role from matched round e l =
    ap (λ (r : Role). agreed_to n r from matched round) e ∙ ap (λ t. cond t (after_yes n (with_commit (noted n from matched round)) from) (quiet n)) (le_false matched (last n) l)

pub agreed_follower : (n : Node) (role : Role) (from matched round : ℕ) → role ≡ Follower → agreed_to n role from matched round ≡ quiet n
unfolding agreed_to
agreed_follower n role from matched round e = ap (λ (r : Role). agreed_to n r from matched round) e

pub agreed_candidate : (n : Node) (role : Role) (from matched round : ℕ) → role ≡ Candidate → agreed_to n role from matched round ≡ quiet n
unfolding agreed_to
agreed_candidate n role from matched round e = ap (λ (r : Role). agreed_to n r from matched round) e

-- what a leader commits, as code counts it
pub committed_is : (leader : State) (log : Log) (store : Store) (before commit : ℕ) (n : Node) → seen store leader log ≡ n → leader.commit ≡ before
    → commit ≡ committed_upto (counting leader.id leader.servers leader.term before log leader.matched.items) (length log)
    → with_commit n ≡ seen store (record leader { commit = commit }) log
committed_is leader log store before commit n e h k =
    let f : ℕ → Node = λ c. record (seen store leader log) { commit = c } in
    let g : ℕ → ℕ = λ b. committed_upto (counting leader.id leader.servers leader.term b log leader.matched.items) (length log) in
    ap (λ (m : Node). with_commit m) (sym e) ∙ ap f (commit_same (seen store leader log) (length log) ∙ ap g h ∙ sym k)

pub agreed_other : (n : Node) (role : Role) (from matched round : ℕ) → (role ≡ Follower) ⊎ (role ≡ Candidate) → agreed_to n role from matched round ≡ quiet n
agreed_other n role from matched round h = elim h [ inl e ↦ agreed_follower n role from matched round e | inr e ↦ agreed_candidate n role from matched round e ]

-- the commit stays within the log
pub upto_within : (n : Node) (k m : ℕ) → n.commit ≤ m → k ≤ m → committed_upto n k ≤ m
upto_within n zero m c l = c
upto_within n (suc k) m c l = choose _ (suc k) (committed_upto n k) m l (upto_within n k m c (omega (arith, l)))
  where
    choose : (b : Bool) (x y m : ℕ) → x ≤ m → y ≤ m → cond b x y ≤ m
    choose true x y m p q = p
    choose false x y m p q = q

-- No
pub declined_leader : (n : Node) (role : Role) (from last : ℕ) → role ≡ Leader → declined n role from last ≡ reply (stepped_back n from last) from (append_to (stepped_back n from last) from)
unfolding declined
declined_leader n role from last e = ap (λ (r : Role). declined n r from last) e

pub declined_follower : (n : Node) (role : Role) (from last : ℕ) → role ≡ Follower → declined n role from last ≡ quiet n
unfolding declined
declined_follower n role from last e = ap (λ (r : Role). declined n r from last) e

pub declined_candidate : (n : Node) (role : Role) (from last : ℕ) → role ≡ Candidate → declined n role from last ≡ quiet n
unfolding declined
declined_candidate n role from last e = ap (λ (r : Role). declined n r from last) e

pub declined_other : (n : Node) (role : Role) (from last : ℕ) → (role ≡ Follower) ⊎ (role ≡ Candidate) → declined n role from last ≡ quiet n
declined_other n role from last h = elim h [ inl e ↦ declined_follower n role from last e | inr e ↦ declined_candidate n role from last e ]

-- messages of a lower term
pub lower_vote : (n : Node) (from : ℕ) (message : Message) (term last_index last_term : ℕ) → message ≡ AskVote term last_index last_term → of_lower_term n from message ≡ reply n from (Vote n.term false)
unfolding of_lower_term
lower_vote n from message term last_index last_term e = ap (λ (m : Message). of_lower_term n from m) e

pub lower_append : (n : Node) (from : ℕ) (message : Message) (term prev prev_term : ℕ) (entries : Log) (commit round : ℕ) → message ≡ Append term prev prev_term entries commit round → of_lower_term n from message ≡ reply n from (No n.term (last n))
unfolding of_lower_term
lower_append n from message term prev prev_term entries commit round e = ap (λ (m : Message). of_lower_term n from m) e

pub lower_other : (n : Node) (from : ℕ) (message : Message)
    → ((t : ℕ) × (granted : Bool) × (message ≡ Vote t granted)) ⊎ (((t : ℕ) × (matched : ℕ) × (round : ℕ) × (message ≡ Yes t matched round)) ⊎ ((t : ℕ) × (last : ℕ) × (message ≡ No t last)))
    → of_lower_term n from message ≡ quiet n
unfolding of_lower_term
lower_other n from message h = elim h [
  | inl v ↦ ap (λ (m : Message). of_lower_term n from m) v.2
  | inr k ↦ elim k [ inl y ↦ ap (λ (m : Message). of_lower_term n from m) y.3 | inr z ↦ ap (λ (m : Message). of_lower_term n from m) z.2 ]
]

-- messages of the own term
pub own_ask : (n : Node) (from : ℕ) (message : Message) (term last_index last_term : ℕ) → message ≡ AskVote term last_index last_term → of_own_term n from message ≡ asked n from last_index last_term
unfolding of_own_term
own_ask n from message term last_index last_term e = ap (λ (m : Message). of_own_term n from m) e

pub own_vote : (n : Node) (from : ℕ) (message : Message) (term : ℕ) (granted : Bool) → message ≡ Vote term granted → of_own_term n from message ≡ voted n from granted n.role
unfolding of_own_term
own_vote n from message term granted e = ap (λ (m : Message). of_own_term n from m) e

pub own_append : (n : Node) (from : ℕ) (message : Message) (term prev prev_term : ℕ) (entries : Log) (commit round : ℕ) → message ≡ Append term prev prev_term entries commit round
    → of_own_term n from message ≡ offered n n.role from prev prev_term entries commit round
unfolding of_own_term
own_append n from message term prev prev_term entries commit round e = ap (λ (m : Message). of_own_term n from m) e

pub own_yes : (n : Node) (from : ℕ) (message : Message) (term matched round : ℕ) → message ≡ Yes term matched round → of_own_term n from message ≡ agreed_to n n.role from matched round
unfolding of_own_term
own_yes n from message term matched round e = ap (λ (m : Message). of_own_term n from m) e

pub own_no : (n : Node) (from : ℕ) (message : Message) (term last : ℕ) → message ≡ No term last → of_own_term n from message ≡ declined n n.role from last
unfolding of_own_term
own_no n from message term last e = ap (λ (m : Message). of_own_term n from m) e

-- terms
pub received_lower : (n : Node) (from : ℕ) (message : Message) → term_of message < n.term → received n from message ≡ of_lower_term n from message
unfolding received
received_lower n from message l = ap (λ t. cond t (of_lower_term n from message) (of_own_term (risen n (term_of message)) from message)) (lt_true (term_of message) n.term l)
  where
    lt_true : (a b : ℕ) → a < b → nat_lt a b ≡ true
    lt_true a b l = grind (arith, nat_tests, l)

pub received_own : (n : Node) (from : ℕ) (message : Message) → n.term ≤ term_of message → received n from message ≡ of_own_term (risen n (term_of message)) from message
unfolding received
received_own n from message l = ap (λ t. cond t (of_lower_term n from message) (of_own_term (risen n (term_of message)) from message)) (lt_false (term_of message) n.term l)
  where
    lt_false : (a b : ℕ) → b ≤ a → nat_lt a b ≡ false
    lt_false a b l = grind (arith, nat_tests, l)

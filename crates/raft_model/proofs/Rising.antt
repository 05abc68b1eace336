-- No rule lowers the commit.
use Rattle.std.proofs.Common.{ℕ, Bool, Some, ap, arith, cond, false, length, max, min, refl, true, ◌+◌, ◌≡◌, ◌≤◌}
use Rattle.cat_model.specs.declared.reply.Role.{Role}
use Rattle.cat_model.specs.declared.reply.Role.TheVariants.{Candidate, Follower, Leader}
use Rattle.raft_model.proofs.Committing.{appended_up, committed_up}
use Rattle.raft_model.proofs.Tests.{at_bool}
use Rattle.raft_model.specs.Limits.{is_full}
use Rattle.raft_model.specs.Log.{Log, accepted}
use Rattle.raft_model.specs.Node.{Node, last, of_server, quiet, reply}
use Rattle.raft_model.specs.Quorum.{is_majority, members}
use Rattle.raft_model.specs.Rules.{accepts, after_yes, agreed_to, append_all, append_to, appended, ask_all, candidate, counted, declined, follows, is_refused, is_up_to_date, leading, leads, matches, may_vote, noop, noted, of_own_term, offered, voted, with_commit, with_voter, asked}
use Rattle.raft_model.specs.declared.message.Message.{Message}
use Rattle.raft_model.specs.declared.message.Message.TheVariants.{Append, AskVote, No, Vote, Yes}
use Rattle.std.specs.Prelude.{nat_le, nat_lt, ◌&&◌, ◌==◌}

pub leads_up : (n : Node) → n.commit ≤ last n → n.commit ≤ (leads n).node.commit
unfolding leads
leads_up n l = at_bool (λ b. n.commit ≤ (cond b (leading n) (appended (leading n) (noop n.term))).commit) (is_full n.log) (λ _. omega arith)
    (λ _. appended_up (leading n) (noop n.term) l)

pub candidate_up : (n : Node) → n.commit ≤ last n → n.commit ≤ (candidate n).node.commit
unfolding candidate
candidate_up n l = at_bool (λ b. n.commit ≤ (cond b (leads n) (ask_all n)).node.commit) (n.servers == 1) (λ _. leads_up n l) (λ _. omega arith)

counted_up : (n : Node) → n.commit ≤ last n → n.commit ≤ (counted n).node.commit
unfolding counted
counted_up n l = at_bool (λ b. n.commit ≤ (cond b (leads n) (quiet n)).node.commit) (is_majority n.servers (members n.votes)) (λ _. leads_up n l) (λ _. omega arith)

voted_up : (n : Node) (from : ℕ) (g : Bool) (r : Role) → n.commit ≤ last n → n.commit ≤ (voted n from g r).node.commit
unfolding voted
voted_up n from true Candidate l = counted_up (record n { votes = with_voter n.votes from }) l
voted_up n from true Follower l = omega arith
voted_up n from true Leader l = omega arith
voted_up n from false Candidate l = omega arith
voted_up n from false Follower l = omega arith
voted_up n from false Leader l = omega arith

accepts_up : (n : Node) (from prev : ℕ) (es : Log) (commit round : ℕ) → n.commit ≤ (accepts n from prev es commit round).node.commit
unfolding accepts
accepts_up n from prev es commit round = at_bool (λ b. n.commit ≤ (cond b (quiet (follows n from))
    (reply (record (follows n from) { log = accepted n.log prev es; commit = max n.commit (min commit (prev + length es)) }) from (Yes n.term (prev + length es) round))).node.commit)
    (is_refused n (accepted n.log prev es)) (λ _. omega arith) (λ _. omega arith)

offered_up : (n : Node) (r : Role) (from prev pt : ℕ) (es : Log) (commit round : ℕ) → n.commit ≤ (offered n r from prev pt es commit round).node.commit
unfolding offered
offered_up n Leader from prev pt es commit round = omega arith
offered_up n Follower from prev pt es commit round = at_bool (λ b. n.commit ≤ (cond b (accepts n from prev es commit round) (reply (follows n from) from (No n.term (last n)))).node.commit) (matches n prev pt) (λ _. accepts_up n from prev es commit round) (λ _. omega arith)
offered_up n Candidate from prev pt es commit round = at_bool (λ b. n.commit ≤ (cond b (accepts n from prev es commit round) (reply (follows n from) from (No n.term (last n)))).node.commit) (matches n prev pt) (λ _. accepts_up n from prev es commit round) (λ _. omega arith)

pub after_yes_is : (old n : Node) (from : ℕ) → (after_yes old n from).node ≡ n
unfolding after_yes
after_yes_is old n from = at_bool (λ b. (cond b (append_all n) (cond (nat_le (of_server n.next from) (last n)) (reply n from (append_to n from)) (quiet n))).node ≡ n) (nat_lt old.commit n.commit)
    (λ _. refl) (λ _. at_bool (λ b. (cond b (reply n from (append_to n from)) (quiet n)).node ≡ n) (nat_le (of_server n.next from) (last n)) (λ _. refl) (λ _. refl))

agreed_up : (n : Node) (r : Role) (from matched round : ℕ) → n.commit ≤ (agreed_to n r from matched round).node.commit
unfolding agreed_to
agreed_up n Follower from matched round = omega arith
agreed_up n Candidate from matched round = omega arith
agreed_up n Leader from matched round =
    let k : Node = noted n from matched round in
    at_bool (λ b. n.commit ≤ (cond b (after_yes n (with_commit k) from) (quiet n)).node.commit) (nat_le matched (last n)) (λ _. let q = ap (λ (z : Node). z.commit) (after_yes_is n (with_commit k) from) in let u = committed_up k in omega arith) (λ _. omega arith)

declined_up : (n : Node) (r : Role) (from k : ℕ) → n.commit ≤ (declined n r from k).node.commit
unfolding declined
declined_up n Leader from k = omega arith
declined_up n Follower from k = omega arith
declined_up n Candidate from k = omega arith

pub own_up : (n : Node) (from : ℕ) (m : Message) → n.commit ≤ last n → n.commit ≤ (of_own_term n from m).node.commit
unfolding of_own_term asked
own_up n from (AskVote t li lt) l = at_bool (λ b. n.commit ≤ (cond b (reply (record n { vote = Some from }) from (Vote n.term true)) (reply n from (Vote n.term false))).node.commit) (may_vote n.vote from && is_up_to_date lt li n.log) (λ _. omega arith) (λ _. omega arith)
own_up n from (Vote t g) l = voted_up n from g n.role l
own_up n from (Append t prev pt es commit round) l = offered_up n n.role from prev pt es commit round
own_up n from (Yes t matched round) l = agreed_up n n.role from matched round
own_up n from (No t k) l = declined_up n n.role from k

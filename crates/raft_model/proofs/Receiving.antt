-- A server that is given a message.
use Rattle.std.proofs.Common.{ℕ, None, ap, arith, cond, false, length, max, min, refl, subst, suc, sym, ◌+◌, ◌-◌, ◌∙◌, ◌≡◌, ◌≤◌}
use Rattle.cat_model.specs.declared.reply.Role.{Role}
use Rattle.cat_model.specs.declared.reply.Role.TheVariants.{Candidate, Follower, Leader}
use Rattle.raft_model.proofs.Came.{Came, append_is_true, came_append_all, came_quiet, came_reply, came_risen, commit_long, then}
use Rattle.raft_model.proofs.Committing.{came_with_commit}
use Rattle.raft_model.proofs.Following.{came_offered}
use Rattle.raft_model.proofs.Going.{true_stays}
use Rattle.raft_model.proofs.History.{History, Sound}
use Rattle.raft_model.proofs.Rising.{after_yes_is, own_up}
use Rattle.raft_model.proofs.Sound.{AppendIsTrue, AskIsTrue, IsTrueOf, Runs}
use Rattle.raft_model.proofs.Tests.{at_bool, at_server, le_tells, lt_tells_not}
use Rattle.raft_model.proofs.Voting.{came_asked, came_voted}
use Rattle.raft_model.specs.Node.{Node, last, of_server, quiet, reply}
use Rattle.raft_model.specs.Rules.{after_yes, agreed_to, append_all, append_to, committed_upto, declined, noted, of_lower_term, of_own_term, received, risen, stepped_back, term_of, with_commit}
use Rattle.raft_model.specs.declared.message.Message.{Message}
use Rattle.raft_model.specs.declared.message.Message.TheVariants.{Append, AskVote, No, Vote, Yes}
use Rattle.std.specs.Prelude.{nat_le, nat_lt}

module _ (servers : ℕ) (h : History) (s : Sound servers h) (i : ℕ) where
  -- a Yes
  came_agreed : (n : Node) (from matched round : ℕ) → Runs servers h i n → matched ≤ h.acks from n.term → round ≤ h.heard from n.term → Came servers h i (agreed_to n n.role from matched round)
  unfolding agreed_to after_yes
  came_agreed n from matched round r t tr = go n.role refl
    where
      notes : n.role ≡ Leader → matched ≤ length n.log → Runs servers h i (noted n from matched round)
      notes lead l = record {
        id = r.id;
        count = r.count;
        place = r.place;
        running = r.running;
        term = r.term;
        vote = r.vote;
        log = r.log;
        role = r.role;
        commit_within = r.commit_within;
        commit_agrees = r.commit_agrees;
        votes = r.votes;
        matched = λ e p. at_server (λ z. z ≤ h.acks p n.term) n.matched from (max (of_server n.matched from) matched) p
            (λ q. let w = r.matched e from in let k = ap (λ z. h.acks z n.term) q in omega arith) (r.matched e p);
        round = r.round;
        own = r.own;
        acked = λ e p. at_server (λ z. z ≤ h.heard p n.term) n.acked from (max (of_server n.acked from) round) p
            (λ q. let w = r.acked e from in let k = ap (λ z. h.heard z n.term) q in omega arith) (r.acked e p);
        next = λ e p. at_server (λ z. z ≤ suc (length n.log)) n.next from (max (of_server n.next from) (matched + 1)) p (λ _. let w = r.next e from in omega arith) (r.next e p);
      }

      answers : n.role ≡ Leader → matched ≤ length n.log → Came servers h i (after_yes n (with_commit (noted n from matched round)) from)
      answers lead l =
          let c = came_with_commit servers h s i (noted n from matched round) (notes lead l) lead in
          then servers h i (with_commit (noted n from matched round)) (after_yes n (with_commit (noted n from matched round)) from) c (let q = ap (λ (z : Node). z.commit) (after_yes_is n (with_commit (noted n from matched round)) from) in omega arith)
          (at_bool (λ b. Came servers c.after i (cond b (append_all (with_commit (noted n from matched round))) (cond (nat_le (of_server (noted n from matched round).next from) (last n)) (reply (with_commit (noted n from matched round)) from (append_to (with_commit (noted n from matched round)) from)) (quiet (with_commit (noted n from matched round))))))
          (nat_lt n.commit (committed_upto (noted n from matched round) (last (noted n from matched round))))
          (λ _. came_append_all servers c.after c.sound i (with_commit (noted n from matched round)) c.runs lead)
          (λ _. at_bool (λ b. Came servers c.after i (cond b (reply (with_commit (noted n from matched round)) from (append_to (with_commit (noted n from matched round)) from)) (quiet (with_commit (noted n from matched round)))))
          (nat_le (of_server (noted n from matched round).next from) (last n))
          (λ _. came_reply servers c.after c.sound i (with_commit (noted n from matched round)) c.runs from (append_to (with_commit (noted n from matched round)) from) (append_is_true servers c.after c.sound i (with_commit (noted n from matched round)) c.runs lead from))
          (λ _. came_quiet servers c.after c.sound i (with_commit (noted n from matched round)) c.runs)))

      go : (role : Role) → n.role ≡ role → Came servers h i (agreed_to n role from matched round)
      go Leader e = at_bool (λ b. Came servers h i (cond b (after_yes n (with_commit (noted n from matched round)) from) (quiet n))) (nat_le matched (last n))
          (λ q. answers e (le_tells matched (last n) q)) (λ _. came_quiet servers h s i n r)
      go Follower e = came_quiet servers h s i n r
      go Candidate e = came_quiet servers h s i n r

  -- a No
  came_declined : (n : Node) (from last' : ℕ) → Runs servers h i n → Came servers h i (declined n n.role from last')
  unfolding declined
  came_declined n from last' r = go n.role refl
    where
      short : n.role ≡ Leader → of_server n.matched from ≤ length n.log
      short lead =
          let w = r.matched lead from in
          let a = s.acks.within from n.term in
          let role : h.roles i ≡ Leader = r.role ∙ lead in
          let same : h.ledger n.term ≡ n.log = ap h.ledger (sym r.term) ∙ s.roles.leading i role ∙ r.log in
          let q = ap length same in omega arith

      notes : n.role ≡ Leader → Runs servers h i (stepped_back n from last')
      notes lead = record {
        id = r.id;
        count = r.count;
        place = r.place;
        running = r.running;
        term = r.term;
        vote = r.vote;
        log = r.log;
        role = r.role;
        commit_within = r.commit_within;
        commit_agrees = r.commit_agrees;
        votes = r.votes;
        matched = r.matched;
        round = r.round;
        own = r.own;
        acked = r.acked;
        next = λ e p. at_server (λ z. z ≤ suc (length n.log)) n.next from (max (of_server n.matched from + 1) (min (of_server n.next from - 1) (last' + 1))) p
            (λ _. let w = r.next e from in let k = short e in omega arith) (r.next e p);
      }

      go : (role : Role) → n.role ≡ role → Came servers h i (declined n role from last')
      go Leader e = came_reply servers h s i (stepped_back n from last') (notes e) from (append_to (stepped_back n from last') from) (append_is_true servers h s i (stepped_back n from last') (notes e) e from)
      go Follower e = came_quiet servers h s i n r
      go Candidate e = came_quiet servers h s i n r

-- a message of the node's own term
pub came_own : (servers : ℕ) (h : History) → Sound servers h → (i : ℕ) (n : Node) (from : ℕ) (m : Message) → Runs servers h i n → n.term ≡ term_of m → IsTrueOf h from i m → Came servers h i (of_own_term n from m)
unfolding of_own_term
came_own servers h s i n from (AskVote t li lt) r e a = came_asked servers h s i n from li lt r (subst (λ z. AskIsTrue h from z li lt) (sym e) a)
came_own servers h s i n from (Vote t granted) r e a = came_voted servers i h s n from granted r (λ g. ap (h.votes from) e ∙ a g)
came_own servers h s i n from (Append t prev pt es commit round) r e a = came_offered servers h s i n from prev pt es commit round r (subst (λ z. AppendIsTrue h from z prev pt es commit round) (sym e) a)
came_own servers h s i n from (Yes t matched round) r e a = came_agreed servers h s i n from matched round r (subst (λ z. matched ≤ h.acks from z) (sym e) a.0) (subst (λ z. round ≤ h.heard from z) (sym e) a.1)
came_own servers h s i n from (No t last') r e a = came_declined servers h s i n from last' r

pub came_lower : (servers : ℕ) (h : History) → Sound servers h → (i : ℕ) (n : Node) (from : ℕ) (m : Message) → Runs servers h i n → Came servers h i (of_lower_term n from m)
unfolding of_lower_term
came_lower servers h s i n from (AskVote t li lt) r = came_reply servers h s i n r from (Vote n.term false) (λ e. cc e)
came_lower servers h s i n from (Vote t granted) r = came_quiet servers h s i n r
came_lower servers h s i n from (Append t prev pt es commit round) r = came_reply servers h s i n r from (No n.term (last n)) tt
came_lower servers h s i n from (Yes t matched round) r = came_quiet servers h s i n r
came_lower servers h s i n from (No t last') r = came_quiet servers h s i n r

pub risen_term : (n : Node) (t : ℕ) → n.term ≤ t → (risen n t).term ≡ t
risen_term n t l = at_bool (λ b. (cond b (record n { term = t; vote = None; role = Follower; leader = None }) n).term ≡ t) (nat_lt n.term t) (λ _. refl) (λ e. let k = lt_tells_not n.term t e in omega arith)

pub came_received : (servers : ℕ) (h : History) → Sound servers h → (i : ℕ) (n : Node) (from : ℕ) (m : Message) → Runs servers h i n → IsTrueOf h from i m → Came servers h i (received n from m)
unfolding received
came_received servers h s i n from m r a = at_bool (λ b. Came servers h i (cond b (of_lower_term n from m) (of_own_term (risen n (term_of m)) from m))) (nat_lt (term_of m) n.term)
    (λ _. came_lower servers h s i n from m r)
    (λ e.
    let up = came_risen servers h s i n (term_of m) r in
    then servers h i (risen n (term_of m)) (of_own_term (risen n (term_of m)) from m) up (own_up (risen n (term_of m)) from m (commit_long servers up.after up.sound i (risen n (term_of m)) up.runs))
    (came_own servers up.after up.sound i (risen n (term_of m)) from m up.runs (risen_term n (term_of m) (lt_tells_not (term_of m) n.term e)) (true_stays servers i h up.after up.goes from i m a)))

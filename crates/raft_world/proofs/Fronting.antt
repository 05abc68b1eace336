-- No step changes what a server has committed.
use Rattle.std.proofs.Common.{ℕ, zero, suc, Bool, None, Some, [], List, length, take, arith, cond, max, min, refl, subst, sym, ap, true, false, ◌++◌, ◌+◌, ◌-◌, ◌∷◌, ◌∙◌, ◌≡◌, ◌≤◌}
use Rattle.std.specs.Prelude.{nat_le, nat_lt, ◌&&◌, ◌==◌, ◌^◌, not}
use Rattle.std.proofs.lemmas.List.{length_push, take-append-le}
use Rattle.cat_model.specs.declared.command.Command.{Command}
use Rattle.cat_model.specs.declared.command.Entry.{Entry}
use Rattle.cat_model.specs.declared.reply.Role.{Role}
use Rattle.cat_model.specs.declared.reply.Role.TheVariants.{Candidate, Follower, Leader}
use Rattle.raft_model.specs.declared.message.Message.{Message}
use Rattle.raft_model.specs.declared.message.Message.TheVariants.{Append, AskVote, No, Vote, Yes}
use Rattle.raft_model.specs.declared.message.Sent.{Sent}
use Rattle.raft_model.specs.Limits.{is_full, keeps_limits}
use Rattle.raft_model.specs.Log.{Log, accepted, merged}
use Rattle.raft_model.specs.Node.{Node, last, quiet, reply}
use Rattle.raft_model.specs.Quorum.{is_majority, members}
use Rattle.raft_model.specs.Rules.{accepts, Beat, Input, Probe, Propose, Receive, Timeout, after_yes, agreed_to, append_all, appended, ask_all, beats, candidate, counted, declined, does, done, follows, has_room, is_refused, is_up_to_date, keeps_front, leading, leads, matches, may_vote, noop, noted, of_lower_term, of_own_term, offered, probes, proposal, proposes, received, risen, stands, term_of, timed_out, voted, with_commit, with_voter, asked}
use Rattle.raft_model.specs.Step.{Outcome, Works, VoteFails, LogFails, Forgets, NodeStep}
use Rattle.raft_model.proofs.Committing.{committed_up}
use Rattle.raft_model.proofs.Going.{longer_length}
use Rattle.raft_model.proofs.Rising.{after_yes_is}
use Rattle.raft_model.proofs.Tests.{at_bool, and_tells, no_bool, not_tells, or_false}
use Rattle.raft_world.specs.Fronts.{HasFront}

-- a front of the same terms is the same, where entries are merged
merged_keeps : (k : ℕ) (x es : Log) → k ≤ length x → keeps_front k x (merged x es) ≡ true → take k (merged x es) ≡ take k x
merged_keeps zero x es l e = refl
merged_keeps (suc k) [] es l e = absurd (omega arith)
merged_keeps (suc k) (h ∷ hs) [] l e = refl
merged_keeps (suc k) (h ∷ hs) (e ∷ es) l keeps =
    at_bool (λ b. (h.term == e.term ≡ b) → keeps_front (suc k) (h ∷ hs) (cond b (h ∷ merged hs es) (e ∷ es)) ≡ true → take (suc k) (cond b (h ∷ merged hs es) (e ∷ es)) ≡ h ∷ take k hs) (h.term == e.term)
    (λ _ _ q. ap (λ z. h ∷ z) (merged_keeps k hs es (omega arith) (and_tells (h.term == h.term) (keeps_front k hs (merged hs es)) q).1))
    (λ _ differ q. absurd (no_bool (h.term == e.term) (and_tells (h.term == e.term) (keeps_front k hs es) q).0 differ))
    refl keeps

accepted_keeps : (k : ℕ) (log : Log) (prev : ℕ) (es : Log) → k ≤ length log → keeps_front k log (accepted log prev es) ≡ true → take k (accepted log prev es) ≡ take k log
accepted_keeps k log zero es l e = merged_keeps k log es l e
accepted_keeps zero log (suc prev) es l e = refl
accepted_keeps (suc k) [] (suc prev) es l e = absurd (omega arith)
accepted_keeps (suc k) (h ∷ hs) (suc prev) es l e = ap (λ z. h ∷ z) (accepted_keeps k hs prev es (omega arith) (and_tells (h.term == h.term) (keeps_front k hs (accepted hs prev es)) e).1)

keeps_less : (k m : ℕ) (x y : Log) → k ≤ m → keeps_front m x y ≡ true → keeps_front k x y ≡ true
keeps_less zero m x y l e = refl
keeps_less (suc k) zero x y l e = absurd (omega arith)
keeps_less (suc k) (suc m) [] y l e = refl
keeps_less (suc k) (suc m) (a ∷ x) [] l e = e
keeps_less (suc k) (suc m) (a ∷ x) (b ∷ y) l e =
    let q = and_tells (a.term == b.term) (keeps_front m x y) e in
    let r = keeps_less k m x y (omega arith) q.1 in
    ap (λ t. t && keeps_front k x y) q.0 ∙ r

module _ (x : Log) where
  appended_kept : (n : Node) (e : Entry) → HasFront x n → HasFront x (appended n e)
  appended_kept n e f =
      let within = longer_length x n.log f.1 in
      let front : take (length x) (n.log ++ e ∷ []) ≡ x = take-append-le (length x) n.log (e ∷ []) within ∙ f.1 in
      at_bool (λ b. HasFront x (cond b (record n { log = n.log ++ e ∷ []; commit = length (n.log ++ e ∷ []) }) (record n { log = n.log ++ e ∷ [] }))) (n.servers == 1)
      (λ _. (omega (arith, length_push n.log e), front)) (λ _. (f.0, front))

  leads_kept : (n : Node) → HasFront x n → HasFront x (leads n).node
  unfolding leads
  leads_kept n f = at_bool (λ b. HasFront x (cond b (leading n) (appended (leading n) (noop n.term)))) (is_full n.log) (λ _. f) (λ _. appended_kept (leading n) (noop n.term) f)

  candidate_kept : (n : Node) → HasFront x n → HasFront x (candidate n).node
  unfolding candidate
  candidate_kept n f = at_bool (λ b. HasFront x (cond b (leads n) (ask_all n)).node) (n.servers == 1) (λ _. leads_kept n f) (λ _. f)

  timed_out_kept : (n : Node) (role : Role) → HasFront x n → HasFront x (timed_out n role).node
  unfolding timed_out
  timed_out_kept n Leader f = f
  timed_out_kept n Follower f = at_bool (λ c. HasFront x (cond c (candidate (stands n)) (quiet n)).node) (nat_lt n.term (2 ^ 64 - 1)) (λ _. candidate_kept (stands n) f) (λ _. f)
  timed_out_kept n Candidate f = at_bool (λ c. HasFront x (cond c (candidate (stands n)) (quiet n)).node) (nat_lt n.term (2 ^ 64 - 1)) (λ _. candidate_kept (stands n) f) (λ _. f)

  counted_kept : (n : Node) → HasFront x n → HasFront x (counted n).node
  unfolding counted
  counted_kept n f = at_bool (λ c. HasFront x (cond c (leads n) (quiet n)).node) (is_majority n.servers (members n.votes)) (λ _. leads_kept n f) (λ _. f)

  voted_kept : (n : Node) (from : ℕ) (g : Bool) (r : Role) → HasFront x n → HasFront x (voted n from g r).node
  unfolding voted
  voted_kept n from true Candidate f = counted_kept (record n { votes = with_voter n.votes from }) f
  voted_kept n from true Follower f = f
  voted_kept n from true Leader f = f
  voted_kept n from false Candidate f = f
  voted_kept n from false Follower f = f
  voted_kept n from false Leader f = f

  accepts_kept : (n : Node) (from prev : ℕ) (es : Log) (commit round : ℕ) → HasFront x n → HasFront x (accepts n from prev es commit round).node
  unfolding accepts
  accepts_kept n from prev es commit round f = at_bool (λ b. HasFront x (cond b (quiet (follows n from))
      (reply (record (follows n from) { log = accepted n.log prev es; commit = max n.commit (min commit (prev + length es)) }) from (Yes n.term (prev + length es) round))).node)
      (is_refused n (accepted n.log prev es)) (λ _. f)
      (λ e.
      let within = longer_length x n.log f.1 in
      let keeps = not_tells (keeps_front n.commit n.log (accepted n.log prev es)) (or_false (not (keeps_limits (accepted n.log prev es))) (not (keeps_front n.commit n.log (accepted n.log prev es))) e).1 in
      (omega (arith, f.0), accepted_keeps (length x) n.log prev es within (keeps_less (length x) n.commit n.log (accepted n.log prev es) f.0 keeps) ∙ f.1))

  offered_kept : (n : Node) (r : Role) (from prev pt : ℕ) (es : Log) (commit round : ℕ) → HasFront x n → HasFront x (offered n r from prev pt es commit round).node
  unfolding offered
  offered_kept n Leader from prev pt es commit round f = f
  offered_kept n Follower from prev pt es commit round f = at_bool (λ c. HasFront x (cond c (accepts n from prev es commit round) (reply (follows n from) from (No n.term (last n)))).node) (matches n prev pt) (λ _. accepts_kept n from prev es commit round f) (λ _. f)
  offered_kept n Candidate from prev pt es commit round f = at_bool (λ c. HasFront x (cond c (accepts n from prev es commit round) (reply (follows n from) from (No n.term (last n)))).node) (matches n prev pt) (λ _. accepts_kept n from prev es commit round f) (λ _. f)

  agreed_kept : (n : Node) (r : Role) (from matched round : ℕ) → HasFront x n → HasFront x (agreed_to n r from matched round).node
  unfolding agreed_to
  agreed_kept n Follower from matched round f = f
  agreed_kept n Candidate from matched round f = f
  agreed_kept n Leader from matched round f =
      let k : Node = noted n from matched round in
      let m : Node = with_commit k in
      let up = committed_up k in
      at_bool (λ c. HasFront x (cond c (after_yes n m from) (quiet n)).node) (nat_le matched (last n)) (λ _. subst (λ (z : Node). HasFront x z) (sym (after_yes_is n m from)) (omega (arith, f.0, up), f.1)) (λ _. f)

  declined_kept : (n : Node) (r : Role) (from k : ℕ) → HasFront x n → HasFront x (declined n r from k).node
  unfolding declined
  declined_kept n Leader from k f = f
  declined_kept n Follower from k f = f
  declined_kept n Candidate from k f = f

  own_kept : (n : Node) (from : ℕ) (m : Message) → HasFront x n → HasFront x (of_own_term n from m).node
  unfolding of_own_term asked
  own_kept n from (AskVote t li lt) f = at_bool (λ c. HasFront x (cond c (reply (record n { vote = Some from }) from (Vote n.term true)) (reply n from (Vote n.term false))).node) (may_vote n.vote from && is_up_to_date lt li n.log) (λ _. f) (λ _. f)
  own_kept n from (Vote t g) f = voted_kept n from g n.role f
  own_kept n from (Append t prev pt es commit round) f = offered_kept n n.role from prev pt es commit round f
  own_kept n from (Yes t matched round) f = agreed_kept n n.role from matched round f
  own_kept n from (No t k) f = declined_kept n n.role from k f

  lower_kept : (n : Node) (from : ℕ) (m : Message) → HasFront x n → HasFront x (of_lower_term n from m).node
  unfolding of_lower_term
  lower_kept n from (AskVote t li lt) f = f
  lower_kept n from (Vote t g) f = f
  lower_kept n from (Append t prev pt es commit round) f = f
  lower_kept n from (Yes t matched round) f = f
  lower_kept n from (No t k) f = f

  risen_kept : (n : Node) (t : ℕ) → HasFront x n → HasFront x (risen n t)
  risen_kept n t f = at_bool (λ c. HasFront x (cond c (record n { term = t; vote = None; role = Follower; leader = None }) n)) (nat_lt n.term t) (λ _. f) (λ _. f)

  received_kept : (n : Node) (from : ℕ) (m : Message) → HasFront x n → HasFront x (received n from m).node
  unfolding received
  received_kept n from m f = at_bool (λ c. HasFront x (cond c (of_lower_term n from m) (of_own_term (risen n (term_of m)) from m)).node) (nat_lt (term_of m) n.term)
      (λ _. lower_kept n from m f) (λ _. own_kept (risen n (term_of m)) from m (risen_kept n (term_of m) f))

  beats_kept : (n : Node) (r : Role) → HasFront x n → HasFront x (beats n r).node
  unfolding beats
  beats_kept n Leader f = f
  beats_kept n Follower f = f
  beats_kept n Candidate f = f

  proposes_kept : (n : Node) (r : Role) (number : ℕ) (command : Command) → HasFront x n → HasFront x (proposes n r number command).node
  unfolding proposes
  proposes_kept n Follower number command f = f
  proposes_kept n Candidate number command f = f
  proposes_kept n Leader number command f = at_bool (λ c. HasFront x (cond c (append_all (appended n (proposal n number command))) (quiet n)).node) (has_room n number command) (λ _. appended_kept n (proposal n number command) f) (λ _. f)

  probes_kept : (n : Node) (r : Role) → HasFront x n → HasFront x (probes n r).node
  unfolding probes
  probes_kept n Leader f = f
  probes_kept n Follower f = f
  probes_kept n Candidate f = f

  does_kept : (n : Node) (input : Input) → HasFront x n → HasFront x (does n input).node
  unfolding does
  does_kept n Timeout f = timed_out_kept n n.role f
  does_kept n Beat f = beats_kept n n.role f
  does_kept n (Receive from m) f = received_kept n from m f
  does_kept n (Propose number command) f = proposes_kept n n.role number command f
  does_kept n Probe f = probes_kept n n.role f

  done_kept : (n : Node) (input : Input) → HasFront x n → HasFront x (done n input).node
  unfolding done
  done_kept n input f = at_bool (λ c. HasFront x (cond c (quiet n) (does n input)).node) n.halted (λ _. f) (λ _. does_kept n input f)

  pub step_kept : (outcome : Outcome) (old : Node) (input : Input) (new : Node) (sent : List Sent) → NodeStep outcome old input new sent → HasFront x old → HasFront x new
  step_kept Works old input new sent (between, v, l, is, out) f = subst (λ (z : Node). HasFront x z) (sym is) (done_kept old input f)
  step_kept VoteFails old input new sent (saves, c, is, out) f = subst (λ (z : Node). HasFront x z) (sym is) f
  step_kept LogFails old input new sent (between, v, stores, c, is, out) f = subst (λ (z : Node). HasFront x z) (sym is) f
  step_kept Forgets old input new sent (saves, c, stores, is, out) f = subst (λ (z : Node). HasFront x z) (sym is) f

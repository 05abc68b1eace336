-- A server that is offered entries.
use Rattle.std.proofs.Common.{ℕ, Some, ap, arith, cond, drop, inl, inr, length, max, min, not, refl, subst, sym, take, true, ◌+◌, ◌<◌, ◌∙◌, ◌≡◌, ◌≤◌, ◌⊎◌}
use Rattle.raft_model.specs.Rules.{accepts as node_accepts, follows, is_refused, keeps_front, matches, offered}
use Rattle.raft_model.proofs.Accepting.{accepts, match_logs}
use Rattle.cat_model.specs.declared.reply.Role.{Role}
use Rattle.cat_model.specs.declared.reply.Role.TheVariants.{Candidate, Follower, Leader}
use Rattle.raft_model.proofs.Came.{Came, came_quiet, commit_long}
use Rattle.raft_model.proofs.Election.{at_put₂, put_same}
use Rattle.raft_model.proofs.Going.{goes_further}
use Rattle.raft_model.proofs.History.{Follows, History, Sound, accept, hear, rest}
use Rattle.raft_model.proofs.Logs.{agree_below}
use Rattle.raft_model.proofs.Moved.{goes_accept, goes_hear, goes_rest}
use Rattle.raft_model.proofs.Moves.{sound_accept, sound_hear, sound_rest}
use Rattle.raft_model.proofs.Sound.{AppendIsTrue, GoesOn, Runs}
use Rattle.raft_model.proofs.Tests.{and_tells, at_bool, eq_tells, keeps_tells, le_tells, not_tells, or_false}
use Rattle.raft_model.specs.Limits.{keeps_limits}
use Rattle.raft_model.specs.Log.{Log, accepted, term_at}
use Rattle.raft_model.specs.Node.{Node, last, quiet, reply}
use Rattle.raft_model.specs.declared.message.Message.TheVariants.{No, Yes}
use Rattle.std.proofs.lemmas.Bool.{cases_lt}
use Rattle.std.specs.Prelude.{nat_le, ◌==◌}

module _ (servers : ℕ) (h : History) (s : Sound servers h) (i : ℕ) where
  Accepts-reaches : (n : Node) (r : Runs servers h i n) (prev k : ℕ) (es : Log) → prev ≤ length n.log → prev + k ≤ length (h.ledger n.term) → term_at prev n.log ≡ term_at prev (h.ledger n.term) → es ≡ take k (drop prev (h.ledger n.term)) →
      take (prev + k) (accepted n.log prev es) ≡ take (prev + k) (h.ledger n.term)
  Accepts-reaches n r prev k es lp lk et e =
      let f : Follows h.ledger n.log = subst (λ x. Follows h.ledger x) r.log (s.logs.of_logs i) in
      ap (λ z. take (prev + k) (accepted n.log prev z)) e ∙ (accepts h.ledger n.log (h.ledger n.term) prev k f (s.logs.of_ledgers n.term) lp lk et).reaches

  follows_leader : (n : Node) (c : ℕ) → Runs servers h i n → Came servers h i (quiet (follows n c))
  follows_leader n c r = record {
    after = rest i h;
    goes = goes_rest servers h s i;
    sound = sound_rest servers h s i;
    grew = inl refl;
    told = tt;
    runs = record {
      id = r.id;
      count = r.count;
      place = r.place;
      running = r.running;
      term = r.term;
      vote = r.vote;
      log = r.log;
      role = put_same h.roles i Follower;
      commit_within = r.commit_within;
      commit_agrees = r.commit_agrees;
      votes = λ e. cc e;
      matched = λ e. cc e;
      next = λ e. cc e;
      round = λ e. cc e;
      acked = λ e. cc e;
      own = λ e. cc e;
    };
  }

  -- the entries are accepted
  came_taken : (n : Node) (from prev : ℕ) (es : Log) (commit round : ℕ) (prev_term : ℕ) → Runs servers h i n → AppendIsTrue h from n.term prev prev_term es commit round → prev ≤ length n.log → term_at prev n.log ≡ prev_term →
      keeps_front n.commit n.log (accepted n.log prev es) ≡ true →
      Came servers h i (reply (record (follows n from) { log = accepted n.log prev es; commit = max n.commit (min commit (prev + length es)) }) from (Yes n.term (prev + length es) round))
  came_taken n from prev es commit round prev_term r a lp et kept = record {
    after = after;
    goes = goes;
    sound = sound;
    grew = inl refl;
    told = ((acked, was_heard), tt);
    runs = record {
      id = r.id;
      count = r.count;
      place = r.place;
      running = r.running;
      term = r.term;
      vote = r.vote;
      role = put_same h.roles i Follower;
      log = put_same h.logs i (accepted (h.logs i) prev es) ∙ ap (λ x. accepted x prev es) r.log;
      commit_within = let w = r.commit_within in let v = a.commit_within in omega arith;
      commit_agrees = go (cases_lt n.commit (min commit (prev + length es)));
      votes = λ e. cc e;
      matched = λ e. cc e;
      next = λ e. cc e;
      round = λ e. cc e;
      acked = λ e. cc e;
      own = λ e. cc e;
    };
  }
    where
      new : Log
      new = accepted n.log prev es

      taken : History
      taken = accept i prev es h

      lead : h.leaders (h.terms i) ≡ Some from
      lead = subst (λ z. h.leaders z ≡ Some from) (sym r.term) a.leads

      sound₁ : Sound servers taken
      sound₁ = sound_accept servers h s i from prev (length es) es lead
          (subst (λ (x : Log). prev ≤ length x) (sym r.log) lp)
          (subst (λ z. prev + length es ≤ length (h.ledger z)) (sym r.term) a.within)
          (ap (term_at prev) r.log ∙ et ∙ a.before ∙ ap (λ z. term_at prev (h.ledger z)) (sym r.term))
          (subst (λ z. es ≡ take (length es) (drop prev (h.ledger z))) (sym r.term) a.entries_are)

      after : History
      after = hear i round taken

      goes : GoesOn i h after
      goes = goes_further i h taken after (goes_accept servers h s i prev es) (goes_hear servers taken sound₁ i round)

      sound : Sound servers after
      sound = sound_hear servers taken sound₁ i round (subst (λ z. round ≤ h.probed z) (sym r.term) a.begun)

      was_heard : round ≤ after.heard i n.term
      was_heard = at_put₂ (λ z. round ≤ z) h.heard i (h.terms i) (max (h.heard i (h.terms i)) round) i n.term (λ _ _. omega arith) (λ ne. absurd (ne refl (sym r.term)))

      acked : prev + length es ≤ after.acks i n.term
      acked = at_put₂ (λ z. prev + length es ≤ z) h.acks i (h.terms i) (max (h.acks i (h.terms i)) (prev + length es)) i n.term (λ _ _. omega arith) (λ ne. absurd (ne refl (sym r.term)))

      -- the new log agrees with the leader's up to what it acknowledges
      reaches : take (prev + length es) new ≡ take (prev + length es) (h.ledger n.term)
      reaches = Accepts-reaches n r prev (length es) es lp a.within (et ∙ a.before) a.entries_are

      old_front : take n.commit new ≡ take n.commit h.agreed
      old_front =
          let l = commit_long servers h s i n r in
          let k = keeps_tells n.commit n.log new l kept in
          let f : Follows h.ledger n.log = subst (λ x. Follows h.ledger x) r.log (s.logs.of_logs i) in
          let f' : Follows h.ledger new = subst (λ x. Follows h.ledger x) (put_same h.logs i (accepted (h.logs i) prev es) ∙ ap (λ x. accepted x prev es) r.log) (sound.logs.of_logs i) in
          sym (match_logs h.ledger n.log new f f' n.commit l k.0 k.1) ∙ r.commit_agrees

      go : (n.commit < min commit (prev + length es)) ⊎ (min commit (prev + length es) ≤ n.commit) → take (max n.commit (min commit (prev + length es))) new ≡ take (max n.commit (min commit (prev + length es))) h.agreed
      go (inl l) =
          let e : min commit (prev + length es) ≡ max n.commit (min commit (prev + length es)) = omega arith in
          subst (λ z. take z new ≡ take z h.agreed) e
          (agree_below (min commit (prev + length es)) (prev + length es) new (h.ledger n.term) (omega arith) reaches ∙ agree_below (min commit (prev + length es)) commit (h.ledger n.term) h.agreed (omega arith) a.commit_agrees)
      go (inr l) = let e : n.commit ≡ max n.commit (min commit (prev + length es)) = omega arith in subst (λ z. take z new ≡ take z h.agreed) e old_front

  came_accepts : (n : Node) (from prev : ℕ) (es : Log) (commit round prev_term : ℕ) → Runs servers h i n → AppendIsTrue h from n.term prev prev_term es commit round → prev ≤ length n.log → term_at prev n.log ≡ prev_term → Came servers h i (node_accepts n from prev es commit round)
  unfolding node_accepts
  came_accepts n from prev es commit round prev_term r a lp et = at_bool (λ b. Came servers h i (cond b (quiet (follows n from))
      (reply (record (follows n from) { log = accepted n.log prev es; commit = max n.commit (min commit (prev + length es)) }) from (Yes n.term (prev + length es) round))))
      (is_refused n (accepted n.log prev es))
      (λ _. follows_leader n from r)
      (λ e. came_taken n from prev es commit round prev_term r a lp et (not_tells (keeps_front n.commit n.log (accepted n.log prev es)) (or_false (not (keeps_limits (accepted n.log prev es))) (not (keeps_front n.commit n.log (accepted n.log prev es))) e).1))

  pub came_offered : (n : Node) (from prev prev_term : ℕ) (es : Log) (commit round : ℕ) → Runs servers h i n → AppendIsTrue h from n.term prev prev_term es commit round → Came servers h i (offered n n.role from prev prev_term es commit round)
  unfolding offered node_accepts
  came_offered n from prev prev_term es commit round r a = go n.role
    where
      other : Came servers h i (cond (matches n prev prev_term) (node_accepts n from prev es commit round) (reply (follows n from) from (No n.term (last n))))
      other = at_bool (λ b. Came servers h i (cond b (node_accepts n from prev es commit round) (reply (follows n from) from (No n.term (last n)))))
          (matches n prev prev_term)
          (λ e. let q = and_tells (nat_le prev (last n)) (term_at prev n.log == prev_term) e in came_accepts n from prev es commit round prev_term r a (le_tells prev (last n) q.0) (eq_tells (term_at prev n.log) prev_term q.1))
          (λ _. let f = follows_leader n from r in record { after = f.after; goes = f.goes; sound = f.sound; runs = f.runs; grew = f.grew; told = (tt, tt) })

      go : (role : Role) → Came servers h i (offered n role from prev prev_term es commit round)
      go Leader = came_quiet servers h s i n r
      go Follower = other
      go Candidate = other

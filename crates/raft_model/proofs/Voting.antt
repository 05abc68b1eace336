-- Elections.
use Rattle.std.proofs.Common.{ℕ, Bool, None, Option, Some, [], ap, arith, cond, false, inl, inr, length, refl, subst, suc, sym, true, ◌*◌, ◌++◌, ◌+◌, ◌<◌, ◌∙◌, ◌∷◌, ◌≡◌, ◌≢◌, ◌≤◌, ◌⊎◌, List}
use Rattle.cat_model.specs.declared.command.Entry.{Entry}
use Rattle.cat_model.specs.declared.reply.Role.{Role}
use Rattle.cat_model.specs.declared.reply.Role.TheVariants.{Candidate, Follower, Leader}
use Rattle.raft_model.proofs.Came.{Came, all_others, came_append_all, came_quiet, came_reply, commit_long, then}
use Rattle.raft_model.proofs.Committing.{came_new}
use Rattle.raft_model.proofs.Election.{at_put₂, put_same}
use Rattle.raft_model.proofs.Going.{goes_further, goes_nowhere}
use Rattle.raft_model.proofs.History.{Has, History, IsCommitted, Sound, grant, put, put₂, rise, stand, win}
use Rattle.raft_model.proofs.Logs.{agree_term}
use Rattle.raft_model.proofs.Moved.{goes_grant, goes_rise, goes_stand, goes_win}
use Rattle.raft_model.proofs.Moves.{no_leader, sound_grant, sound_rise, sound_stand, sound_win}
use Rattle.raft_model.proofs.Sound.{AskIsTrue, IsTrueOf, Runs}
use Rattle.raft_model.proofs.Tests.{and_tells, at_all, at_bool, eq_tells, lt_tells, or_tells, up_tells, or_left}
use Rattle.raft_model.specs.Limits.{is_full}
use Rattle.raft_model.specs.Log.{IsUpToDate, last_term, term_at}
use Rattle.raft_model.specs.Node.{Node, last, quiet, reply}
use Rattle.raft_model.specs.Quorum.{IsMajority, Servers, count, is_majority, members}
use Rattle.raft_model.specs.Rules.{append_all, appended, ask_all, asked, counted, is_up_to_date, leading, leads, may_vote, noop, stands, voted, with_voter}
use Rattle.raft_model.specs.declared.message.Message.TheVariants.{AskVote, Vote}
use Rattle.std.specs.Prelude.{◌&&◌, ◌==◌, ◌||◌}
use Rattle.raft_model.proofs.Rising.{leads_up}

module _ (servers : ℕ) (h : History) (s : Sound servers h) (i : ℕ) where
  -- a candidate wins
  pub came_leading : (n : Node) → Runs servers h i n → n.role ≡ Candidate → IsMajority servers (members n.votes) → Came servers h i (quiet (leading n))
  came_leading n r stands most =
      let role : h.roles i ≡ Candidate = r.role ∙ stands in
      let for : (p : ℕ) → members n.votes p ≡ true → h.votes p (h.terms i) ≡ Some i = λ p v. ap (h.votes p) r.term ∙ r.votes stands p v in
      let none = no_leader servers h s i (members n.votes) role most for in
      record {
        after = win i (members n.votes) h;
        goes = goes_win servers h s i (members n.votes) none;
        sound = sound_win servers h s i (members n.votes) role most for;
        grew = inl refl;
        told = tt;
        runs = record {
          id = r.id;
          count = r.count;
          place = r.place;
          running = r.running;
          term = r.term;
          vote = r.vote;
          log = r.log;
          role = put_same h.roles i Leader;
          commit_within = r.commit_within;
          commit_agrees = r.commit_agrees;
          votes = λ e. cc e;
          matched = λ _ p. at_all (λ z. z ≤ put₂ h.acks i (h.terms i) (length (h.logs i)) p n.term) n.servers 0 p (omega arith) (omega arith);
          next = λ _ p. at_all (λ z. z ≤ suc (length n.log)) n.servers (last n + 1) p (omega arith) (omega arith);
          round = λ _. sym (s.rounds.unled n.term (ap h.leaders (sym r.term) ∙ none));
          acked = λ _ p. at_all (λ z. z ≤ h.heard p n.term) n.servers 0 p (omega arith) (omega arith);
          own = λ _ q. new_term (ap h.leaders (sym r.term) ∙ none) q s.agreed;
        };
      }
    where
      -- nothing is agreed yet in a term without a leader
      new_term : h.leaders n.term ≡ None → last_term h.agreed ≡ n.term → (h.agreed ≡ []) ⊎ ((t : ℕ) × IsCommitted servers h.first h.ledger h.acks t (length h.agreed) × Has h.ledger t (length h.agreed) h.agreed) → length h.agreed ≤ n.commit
      new_term none q (inl e) = let z = ap length e in omega arith
      new_term none q (inr (t, d, e)) =
          let u : last_term h.agreed ≡ t = agree_term (length h.agreed) (length h.agreed) h.agreed (h.ledger t) (omega arith) e ∙ s.ledgers.own t (length h.agreed) d.own d.there in
          let z = ap length (s.ledgers.none n.term none) in
          let k : h.ledger t ≡ h.ledger n.term = ap h.ledger (sym u ∙ q) in
          let k' = ap length k in absurd (omega (arith, d.own, d.there))

  -- a vote is asked for
  free_from : (v : Option ℕ) (c : ℕ) → may_vote v c ≡ true → (v ≡ None) ⊎ (v ≡ Some c)
  free_from None c e = inl refl
  free_from (Some d) c e = inr (ap Some (eq_tells d c e))

  pub came_asked : (n : Node) (from li lt : ℕ) → Runs servers h i n → AskIsTrue h from n.term li lt → Came servers h i (asked n from li lt)
  unfolding asked
  came_asked n from li lt r a = at_bool (λ b. Came servers h i (cond b (reply (record n { vote = Some from }) from (Vote n.term true)) (reply n from (Vote n.term false)))) (may_vote n.vote from && is_up_to_date lt li n.log)
      (λ e. let q = and_tells (may_vote n.vote from) (is_up_to_date lt li n.log) e in granted (free_from n.vote from q.0) (up_tells lt li n.log q.1))
      (λ _. came_reply servers h s i n r from (Vote n.term false) (λ e. cc e))
    where
      granted : (n.vote ≡ None) ⊎ (n.vote ≡ Some from) → IsUpToDate lt li n.log → Came servers h i (reply (record n { vote = Some from }) from (Vote n.term true))
      granted free up =
          let vote : h.votes i (h.terms i) ≡ n.vote = ap (h.votes i) r.term ∙ r.vote in
          let free' : (h.votes i (h.terms i) ≡ None) ⊎ (h.votes i (h.terms i) ≡ Some from) = elim free [ inl f ↦ inl (vote ∙ f) | inr f ↦ inr (vote ∙ f) ] in
          let up' : IsUpToDate (last_term (h.stood from (h.terms i))) (length (h.stood from (h.terms i))) (h.logs i) =
          subst (λ z. IsUpToDate (last_term (h.stood from z)) (length (h.stood from z)) (h.logs i)) (sym r.term)
          (subst (λ x. IsUpToDate (last_term (h.stood from n.term)) (length (h.stood from n.term)) x) (sym r.log)
          (subst (λ z. IsUpToDate z (length (h.stood from n.term)) n.log) a.last (subst (λ z. IsUpToDate lt z n.log) a.index up))) in
          let voted : put₂ h.votes i (h.terms i) (Some from) i n.term ≡ Some from = at_put₂ (λ v. v ≡ Some from) h.votes i (h.terms i) (Some from) i n.term (λ _ _. refl) (λ ne. absurd (ne refl (sym r.term))) in
          let g = goes_grant servers h s i from free' in
          record {
            after = grant i from h;
            goes = g;
            sound = sound_grant servers h s i from free' (subst (λ z. h.votes from z ≡ Some from) (sym r.term) a.stands) up';
            grew = inl refl;
            told = (λ _. voted, tt);
            runs = record {
              id = r.id;
              count = r.count;
              place = r.place;
              running = r.running;
              term = r.term;
              vote = voted;
              log = r.log;
              role = r.role;
              commit_within = r.commit_within;
              commit_agrees = r.commit_agrees;
              votes = λ e p v. g.votes p n.term i (r.votes e p v);
              matched = r.matched;
              next = r.next;
              round = r.round;
              acked = r.acked;
              own = r.own;
            };
          }

members_push : (vs : List ℕ) (from p : ℕ) → members (vs ++ from ∷ []) p ≡ true → (p ≡ from) ⊎ (members vs p ≡ true)
members_push [] from p e = go (or_tells (p == from) false e)
  where
    go : ((p == from) ≡ true) ⊎ (false ≡ true) → (p ≡ from) ⊎ (false ≡ true)
    go (inl q) = inl (eq_tells p from q)
    go (inr q) = inr q
members_push (v ∷ vs) from p e = go (members_push vs from p) (or_tells (p == v) (members (vs ++ from ∷ []) p) e)
  where
    or_right : (a b : Bool) → b ≡ true → (a || b) ≡ true
    or_right a b h = grind arith

    deep : (p ≡ from) ⊎ (members vs p ≡ true) → (p ≡ from) ⊎ ((p == v || members vs p) ≡ true)
    deep (inl q) = inl q
    deep (inr q) = inr (or_right (p == v) (members vs p) q)

    go : (members (vs ++ from ∷ []) p ≡ true → (p ≡ from) ⊎ (members vs p ≡ true)) → ((p == v) ≡ true) ⊎ (members (vs ++ from ∷ []) p ≡ true) → (p ≡ from) ⊎ ((p == v || members vs p) ≡ true)
    go f (inl q) = inr (or_left (p == v) (members vs p) q)
    go f (inr q) = deep (f q)

-- who voted once one more has
voter_tells : (vs : List ℕ) (from p : ℕ) → members (with_voter vs from) p ≡ true → (p ≡ from) ⊎ (members vs p ≡ true)
voter_tells vs from p = at_bool (λ b. members (cond b vs (vs ++ from ∷ [])) p ≡ true → (p ≡ from) ⊎ (members vs p ≡ true)) (members vs from) (λ _ e. inr e) (λ _ e. members_push vs from p e)

pub appended_role : (n : Node) (e : Entry) → (appended n e).role ≡ n.role
appended_role n e = at_bool (λ b. (cond b (record n { log = n.log ++ e ∷ []; commit = length (n.log ++ e ∷ []) }) (record n { log = n.log ++ e ∷ [] })).role ≡ n.role) (n.servers == 1) (λ _. refl) (λ _. refl)

module _ (servers : ℕ) (i : ℕ) where
  pub came_leads : (h : History) → Sound servers h → (n : Node) → Runs servers h i n → n.role ≡ Candidate → IsMajority servers (members n.votes) → Came servers h i (leads n)
  unfolding leads
  came_leads h s n r stands most =
      let a = came_leading servers h s i n r stands most in
      then servers h i (leading n) (leads n) a (leads_up n (commit_long servers h s i n r)) (at_bool (λ b. Came servers a.after i (append_all (cond b (leading n) (appended (leading n) (noop n.term)))))
      (is_full n.log)
      (λ _. came_append_all servers a.after a.sound i (leading n) a.runs refl)
      (λ _. appends (leading n) a.after a.sound a.runs refl))
    where
      appends : (m : Node) (k : History) (t : Sound servers k) → Runs servers k i m → m.role ≡ Leader → Came servers k i (append_all (appended m (noop m.term)))
      appends m k t r lead =
          let b = came_new servers k t i m (noop m.term) r lead refl (inl refl) (inr (refl, refl)) in
          then servers k i (appended m (noop m.term)) (append_all (appended m (noop m.term))) b (omega arith)
          (came_append_all servers b.after b.sound i (appended m (noop m.term)) b.runs (appended_role m (noop m.term) ∙ lead))

  pub came_counted : (h : History) → Sound servers h → (n : Node) → Runs servers h i n → n.role ≡ Candidate → Came servers h i (counted n)
  unfolding counted
  came_counted h s n r stands = at_bool (λ b. Came servers h i (cond b (leads n) (quiet n))) (is_majority n.servers (members n.votes))
      (λ e. came_leads h s n r stands (subst (λ z. z < 2 * count (members n.votes) z) r.count (lt_tells n.servers (2 * count (members n.votes) n.servers) e)))
      (λ _. came_quiet servers h s i n r)

  pub came_voted : (h : History) → Sound servers h → (n : Node) (from : ℕ) (granted : Bool) → Runs servers h i n → (granted ≡ true → h.votes from n.term ≡ Some i) → Came servers h i (voted n from granted n.role)
  unfolding voted
  came_voted h s n from granted r t = go granted n.role refl t
    where
      more : n.role ≡ Candidate → h.votes from n.term ≡ Some i → Runs servers h i (record n { votes = with_voter n.votes from })
      more e v = record {
        id = r.id;
        count = r.count;
        place = r.place;
        running = r.running;
        term = r.term;
        vote = r.vote;
        log = r.log;
        role = r.role;
        commit_within = r.commit_within;
        commit_agrees = r.commit_agrees;
        votes = λ e p k. elim (voter_tells n.votes from p k) [ inl q ↦ ap (λ z. h.votes z n.term) q ∙ v | inr q ↦ r.votes e p q ];
        matched = r.matched;
        next = r.next;
        round = r.round;
        acked = r.acked;
        own = r.own;
      }

      go : (b : Bool) (role : Role) → n.role ≡ role → (b ≡ true → h.votes from n.term ≡ Some i) → Came servers h i (voted n from b role)
      go true Candidate e t = came_counted h s (record n { votes = with_voter n.votes from }) (more e (t refl)) e
      go true Follower e t = came_quiet servers h s i n r
      go true Leader e t = came_quiet servers h s i n r
      go false Candidate e t = came_quiet servers h s i n r
      go false Follower e t = came_quiet servers h s i n r
      go false Leader e t = came_quiet servers h s i n r

-- a timeout
pub came_stands : (servers : ℕ) (h : History) → Sound servers h → (i : ℕ) (n : Node) → Runs servers h i n → Came servers h i (quiet (stands n))
came_stands servers h s i n r =
    let l : h.terms i < suc n.term = let q = r.term in omega arith in
    let up = rise i (suc n.term) h in
    let su = sound_rise servers h s i (suc n.term) l in
    let term : up.terms i ≡ suc n.term = put_same h.terms i (suc n.term) in
    let free : h.votes i (up.terms i) ≡ None = ap (h.votes i) term ∙ s.votes.later i (suc n.term) l in
    let un : h.leaders (up.terms i) ≢ Some i = subst (λ z. h.leaders z ≢ Some i) (sym term) (λ e. let q = s.roles.term (suc n.term) i e in omega arith) in
    let young : (k : ℕ) → 0 < k → k ≤ length (h.logs i) → term_at k (h.logs i) < up.terms i = λ k p q. let b = s.logs.bound i k p q in omega (arith, term) in
    let voted : put₂ h.votes i (up.terms i) (Some i) i (suc n.term) ≡ Some i = at_put₂ (λ v. v ≡ Some i) h.votes i (up.terms i) (Some i) i (suc n.term) (λ _ _. refl) (λ ne. absurd (ne refl (sym term))) in
    record {
      after = stand i up;
      goes = goes_further i h up (stand i up) (goes_rise servers h s i (suc n.term) l) (goes_stand servers up su i free);
      sound = sound_stand servers up su i free un young;
      grew = inl refl;
      told = tt;
      runs = record {
        id = r.id;
        count = r.count;
        place = r.place;
        running = r.running;
        term = term;
        log = r.log;
        vote = voted ∙ ap Some (sym r.id);
        role = put_same (put h.roles i Follower) i Candidate;
        commit_within = r.commit_within;
        commit_agrees = r.commit_agrees;
        votes = λ _ p e. elim (or_tells (p == n.id) false e) [ inl q ↦ ap (λ z. put₂ h.votes i (up.terms i) (Some i) z (suc n.term)) (eq_tells p n.id q ∙ r.id) ∙ voted | inr q ↦ cc q ];
        matched = λ e. cc e;
        next = λ e. cc e;
        round = λ e. cc e;
        acked = λ e. cc e;
        own = λ e. cc e;
      };
    }

pub one_leads : (votes : Servers) → votes 1 ≡ true → IsMajority 1 votes
one_leads votes e = rw e (omega arith)

-- a candidate's AskVote is true
ask_is_true : (servers : ℕ) (h : History) → Sound servers h → (i : ℕ) (n : Node) → Runs servers h i n → n.role ≡ Candidate → (p : ℕ) → IsTrueOf h i p (AskVote n.term (last n) (last_term n.log))
ask_is_true servers h s i n r stands p =
    let role : h.roles i ≡ Candidate = r.role ∙ stands in
    let log : h.stood i n.term ≡ n.log = ap (h.stood i) (sym r.term) ∙ s.roles.log i role ∙ r.log in
    record { stands = ap (h.votes i) (sym r.term) ∙ s.roles.vote i role; index = ap length (sym log); last = ap last_term (sym log) }

pub came_ask_all : (servers : ℕ) (h : History) → Sound servers h → (i : ℕ) (n : Node) → Runs servers h i n → n.role ≡ Candidate → Came servers h i (ask_all n)
came_ask_all servers h s i n r stands = record { after = h; goes = goes_nowhere i h; sound = s; runs = r; grew = inl refl; told = all_others h i n.id (λ _. AskVote n.term (last n) (last_term n.log)) (ask_is_true servers h s i n r stands) n.servers }

-- A leader appends entries and commits them.
use Rattle.std.proofs.Common.{◌≡◌, ℕ, zero, suc, ◌*◌, ◌<◌, ◌≤◌, true, cond, ◌⊎◌, inl, inr, [], ◌∷◌, ◌++◌, length, take, refl, sym, ◌∙◌, ap, subst, arith}
use Rattle.std.specs.Prelude.{◌==◌, nat_le, nat_lt, ◌&&◌}
use Rattle.std.proofs.lemmas.Bool.{cases_lt}
use Rattle.std.proofs.lemmas.List.{take-take, length-take, take-append-le, length_push}
use Rattle.raft_model.specs.Quorum.{Servers, count, is_majority}
use Rattle.cat_model.specs.declared.command.Entry.{Entry}
use Rattle.raft_model.specs.Log.{term_at}
use Rattle.raft_model.proofs.Logs.{agree_term, front_take}
use Rattle.raft_model.proofs.Election.{put_same}
use Rattle.raft_model.proofs.Agreement.{majority_more}
use Rattle.raft_model.proofs.Moves.{sound_append, sound_agree, committed_is_agreed}
use Rattle.raft_model.proofs.Going.{goes_nowhere}
use Rattle.raft_model.proofs.History.{History, IsCommitted, Sound, append, agree, IsNewNumber, MayFollow}
use Rattle.cat_model.specs.declared.reply.Role.TheVariants.{Leader}
use Rattle.raft_model.specs.Rules.{has_index, committed_upto, with_commit, appended}
use Rattle.raft_model.specs.Node.{Node, last, quiet, of_server}
use Rattle.raft_model.proofs.Sound.{Runs}
use Rattle.raft_model.proofs.Moved.{goes_append, goes_agree}
use Rattle.raft_model.proofs.Came.{Came, commit_long, then}
use Rattle.raft_model.proofs.Matching.{term_push}
use Rattle.raft_model.proofs.Tests.{and_tells, eq_is, eq_tells, le_is, le_tells, lt_is, lt_tells, or_left, or_tells, and_is, at_bool}

-- what an index above the commit must be to become it
record Commits (n : Node) (k r : ℕ) : Type 0 where
  above : n.commit < r
  upto : r ≤ k
  own : term_at r n.log ≡ n.term
  majority : is_majority n.servers (has_index n r) ≡ true

committed_tells : (n : Node) (k : ℕ) → (committed_upto n k ≡ n.commit) ⊎ Commits n k (committed_upto n k)
committed_tells n zero = inl refl
committed_tells n (suc k) = at_bool (λ b. (cond b (suc k) (committed_upto n k) ≡ n.commit) ⊎ Commits n (suc k) (cond b (suc k) (committed_upto n k)))
    (nat_lt n.commit (suc k) && (term_at (suc k) n.log == n.term && is_majority n.servers (has_index n (suc k))))
    (λ e.
    let a = and_tells (nat_lt n.commit (suc k)) (term_at (suc k) n.log == n.term && is_majority n.servers (has_index n (suc k))) e in
    let b = and_tells (term_at (suc k) n.log == n.term) (is_majority n.servers (has_index n (suc k))) a.1 in
    inr (record { above = lt_tells n.commit (suc k) a.0; upto = omega arith; own = eq_tells (term_at (suc k) n.log) n.term b.0; majority = b.1 }))
    (λ _. below (committed_tells n k))
  where
    below : (committed_upto n k ≡ n.commit) ⊎ Commits n k (committed_upto n k) → (committed_upto n k ≡ n.commit) ⊎ Commits n (suc k) (committed_upto n k)
    below (inl e) = inl e
    below (inr c) = inr (record { above = c.above; upto = let u = c.upto in omega arith; own = c.own; majority = c.majority })

module _ (servers : ℕ) (h : History) (s : Sound servers h) (i : ℕ) where
  -- what a majority has matched is committed
  commits : (n : Node) (r : Runs servers h i n) → n.role ≡ Leader → (m : ℕ) → Commits n (last n) m → IsCommitted servers h.first h.ledger h.acks n.term m
  commits n r lead m c = record {
    own = behind (cases_lt (length (h.first n.term)) m);
    there = let q = ap length same in let u = c.upto in omega arith;
    majority = majority_more servers (has_index n m) (λ p. nat_le m (h.acks p n.term)) has (subst (λ z. z < 2 * count (has_index n m) z) r.count (lt_tells n.servers (2 * count (has_index n m) n.servers) c.majority));
  }
    where
      role : h.roles i ≡ Leader
      role = r.role ∙ lead

      same : h.ledger n.term ≡ n.log
      same = ap h.ledger (sym r.term) ∙ s.roles.leading i role ∙ r.log

      behind : (length (h.first n.term) < m) ⊎ (m ≤ length (h.first n.term)) → length (h.first n.term) < m
      behind (inl l) = l
      behind (inr l) =
          let o = s.ledgers.older n.term m (let a = c.above in omega arith) l in
          let q = agree_term m m (h.ledger n.term) (h.first n.term) (omega arith) (front_take m (h.first n.term) (h.ledger n.term) (s.ledgers.begins n.term) l) in
          let p = ap (term_at m) same in
          let w = c.own in absurd (omega arith)

      has : (p : ℕ) → has_index n m p ≡ true → nat_le m (h.acks p n.term) ≡ true
      has p e = le_is m (h.acks p n.term) (from (or_tells (p == n.id) (nat_le m (of_server n.matched p)) e))
        where
          from : ((p == n.id) ≡ true) ⊎ (nat_le m (of_server n.matched p) ≡ true) → m ≤ h.acks p n.term
          from (inl e) =
              let q : h.acks p n.term ≡ h.acks i (h.terms i) = ap (λ z. h.acks z n.term) (eq_tells p n.id e ∙ r.id) ∙ ap (h.acks i) (sym r.term) in
              let w = s.acks.leader i role in let l = ap length r.log in let u = c.upto in omega arith
          from (inr e) = let k = le_tells m (of_server n.matched p) e in let w = r.matched lead p in omega arith

  pub came_with_commit : (n : Node) → Runs servers h i n → n.role ≡ Leader → Came servers h i (quiet (with_commit n))
  came_with_commit n r lead = go (committed_upto n (last n)) (committed_tells n (last n))
    where
      role : h.roles i ≡ Leader
      role = r.role ∙ lead

      same : h.ledger n.term ≡ n.log
      same = ap h.ledger (sym r.term) ∙ s.roles.leading i role ∙ r.log

      go : (m : ℕ) → (m ≡ n.commit) ⊎ Commits n (last n) m → Came servers h i (quiet (record n { commit = m }))
      go m (inl e) = record {
        after = h;
        goes = goes_nowhere i h;
        sound = s;
        grew = inl refl;
        told = tt;
        runs = record {
          id = r.id;
          count = r.count;
          place = r.place;
          running = r.running;
          term = r.term;
          vote = r.vote;
          log = r.log;
          role = r.role;
          commit_within = let w = r.commit_within in omega arith;
          commit_agrees = subst (λ z. take z n.log ≡ take z h.agreed) (sym e) r.commit_agrees;
          votes = r.votes;
          matched = r.matched;
          next = r.next;
          round = r.round;
          acked = r.acked;
          own = λ a q. let w = r.own a q in omega arith;
        };
      }
      go m (inr c) = raised m c.above (commits n r lead m c) (cases_lt m (length h.agreed))
        where
          raised : (m : ℕ) → n.commit < m → IsCommitted servers h.first h.ledger h.acks n.term m → (m < length h.agreed) ⊎ (length h.agreed ≤ m) → Came servers h i (quiet (record n { commit = m }))
          raised m above d (inl l) = record {
            after = h;
            goes = goes_nowhere i h;
            sound = s;
            grew = inl refl;
            told = tt;
            runs = record {
              id = r.id;
              count = r.count;
              place = r.place;
              running = r.running;
              term = r.term;
              vote = r.vote;
              log = r.log;
              role = r.role;
              commit_within = omega arith;
              commit_agrees = ap (take m) (sym same) ∙ committed_is_agreed servers h s n.term m d (omega arith);
              votes = r.votes;
              matched = r.matched;
              next = r.next;
              round = r.round;
              acked = r.acked;
              own = λ a q. let w = r.own a q in omega arith;
            };
          }
          raised m above d (inr l) = record {
            after = agree n.term m h;
            goes = goes_agree servers h s i n.term m d l (ap h.leaders (sym r.term) ∙ s.roles.elected i role);
            sound = sound_agree servers h s n.term m d;
            grew = inr (omega (arith, length-take m (h.ledger n.term)));
            told = tt;
            runs = record {
              id = r.id;
              count = r.count;
              place = r.place;
              running = r.running;
              term = r.term;
              vote = r.vote;
              log = r.log;
              role = r.role;
              commit_within = omega (arith, length-take m (h.ledger n.term), d.there);
              commit_agrees = ap (take m) (sym same) ∙ sym (take-take m m (h.ledger n.term) (omega arith));
              votes = r.votes;
              matched = r.matched;
              next = r.next;
              round = r.round;
              acked = r.acked;
              own = λ _ _. omega (arith, length-take m (h.ledger n.term));
            };
          }

  -- an entry is appended
  pub came_appended : (n : Node) (e : Entry) → Runs servers h i n → n.role ≡ Leader → e.term ≡ n.term → IsNewNumber h e.number → MayFollow n.log e → Came servers h i (quiet (record n { log = n.log ++ e ∷ [] }))
  came_appended n e r lead et fresh may = record {
    after = append i e h;
    goes = goes_append servers h s i e (r.role ∙ lead);
    sound = sound_append servers h s i e (r.role ∙ lead) (et ∙ sym r.term) fresh (subst (λ z. MayFollow z e) (sym r.log) may);
    grew = inl refl;
    told = tt;
    runs = record {
      id = r.id;
      count = r.count;
      place = r.place;
      running = r.running;
      term = r.term;
      vote = r.vote;
      role = r.role;
      log = put_same h.logs i (h.logs i ++ e ∷ []) ∙ ap (λ x. x ++ e ∷ []) r.log;
      commit_within = r.commit_within;
      commit_agrees = take-append-le n.commit n.log (e ∷ []) (commit_long servers h s i n r) ∙ r.commit_agrees;
      votes = r.votes;
      matched = λ q p. let k = (goes_append servers h s i e (r.role ∙ lead)).acks p n.term in let w = r.matched q p in omega arith;
      next = λ q p. let w = r.next q p in omega (arith, length_push n.log e);
      round = r.round;
      acked = r.acked;
      own = r.own;
    };
  }

-- no step lowers the commit
pub committed_up : (n : Node) → n.commit ≤ (with_commit n).commit
committed_up n = go (committed_upto n (last n)) (committed_tells n (last n))
  where
    go : (m : ℕ) → (m ≡ n.commit) ⊎ Commits n (last n) m → n.commit ≤ m
    go m (inl e) = omega arith
    go m (inr c) = let a = c.above in omega arith

-- a single server is a majority
one_is_majority : (p : Servers) → p 1 ≡ true → is_majority 1 p ≡ true
one_is_majority p e = rw e refl

single_commits : (n : Node) (k : ℕ) → n.servers ≡ 1 → n.id ≡ 1 → n.commit < k → term_at k n.log ≡ n.term → committed_upto n k ≡ k
single_commits n zero one id l e = absurd (omega arith)
single_commits n (suc k) one id l e =
    let has : has_index n (suc k) 1 ≡ true = or_left (1 == n.id) (nat_le (suc k) (of_server n.matched 1)) (eq_is 1 n.id (sym id)) in
    let most : is_majority n.servers (has_index n (suc k)) ≡ true = subst (λ z. is_majority z (has_index n (suc k)) ≡ true) (sym one) (one_is_majority (has_index n (suc k)) has) in
    let test : (nat_lt n.commit (suc k) && (term_at (suc k) n.log == n.term && is_majority n.servers (has_index n (suc k)))) ≡ true =
    and_is (nat_lt n.commit (suc k)) (term_at (suc k) n.log == n.term && is_majority n.servers (has_index n (suc k))) (lt_is n.commit (suc k) l)
    (and_is (term_at (suc k) n.log == n.term) (is_majority n.servers (has_index n (suc k))) (eq_is (term_at (suc k) n.log) n.term e) most) in
    rw test refl

module _ (servers : ℕ) (h : History) (s : Sound servers h) (i : ℕ) where
  -- a leader's new entry, which a single server commits at once
  pub came_new : (n : Node) (e : Entry) → Runs servers h i n → n.role ≡ Leader → e.term ≡ n.term → IsNewNumber h e.number → MayFollow n.log e → Came servers h i (quiet (appended n e))
  came_new n e r lead et fresh may =
      at_bool (λ b. Came servers h i (quiet (cond b (record new { commit = last new }) new))) (n.servers == 1) (λ q. single (eq_tells n.servers 1 q)) (λ _. whole)
    where
      new : Node
      new = record n { log = n.log ++ e ∷ [] }

      whole : Came servers h i (quiet (record n { log = n.log ++ e ∷ [] }))
      whole = came_appended servers h s i n e r lead et fresh may

      single : n.servers ≡ 1 → Came servers h i (quiet (record n { log = n.log ++ e ∷ []; commit = length (n.log ++ e ∷ []) }))
      single one =
          let long = commit_long servers h s i n r in
          let id : n.id ≡ 1 = let p = r.place in let q = r.count in let z = r.id in omega (arith, p.0, p.1) in
          let up : n.commit < length (n.log ++ e ∷ []) = omega (arith, length_push n.log e) in
          let own : term_at (length (n.log ++ e ∷ [])) (n.log ++ e ∷ []) ≡ n.term = let ln : length (n.log ++ e ∷ []) ≡ suc (length n.log) = omega (arith, length_push n.log e) in ap (λ k. term_at k (n.log ++ e ∷ [])) ln ∙ term_push n.log e ∙ et in
          let top : committed_upto (record n { log = n.log ++ e ∷ [] }) (length (n.log ++ e ∷ [])) ≡ length (n.log ++ e ∷ []) = single_commits (record n { log = n.log ++ e ∷ [] }) (length (n.log ++ e ∷ [])) one id up own in
          let c : Came servers whole.after i (quiet (record n { log = n.log ++ e ∷ []; commit = committed_upto (record n { log = n.log ++ e ∷ [] }) (length (n.log ++ e ∷ [])) })) = came_with_commit servers whole.after whole.sound i (record n { log = n.log ++ e ∷ [] }) whole.runs lead in
          then servers h i (record n { log = n.log ++ e ∷ [] }) (quiet (record n { log = n.log ++ e ∷ []; commit = length (n.log ++ e ∷ []) })) whole (omega arith)
          (subst (λ z. Came servers whole.after i (quiet (record n { log = n.log ++ e ∷ []; commit = z }))) top c)

pub appended_up : (n : Node) (e : Entry) → n.commit ≤ last n → n.commit ≤ (appended n e).commit
appended_up n e l = at_bool (λ b. n.commit ≤ (cond b (record n { log = n.log ++ e ∷ []; commit = length (n.log ++ e ∷ []) }) (record n { log = n.log ++ e ∷ [] })).commit) (n.servers == 1) (λ _. omega (arith, length_push n.log e)) (λ _. omega arith)

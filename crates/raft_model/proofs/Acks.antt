-- What a majority acknowledged lasts: the facts about acknowledgements, move by move.
use Rattle.std.proofs.Common.{◌≡◌, ◌≢◌, ℕ, suc, ◌<◌, ◌≤◌, max, true, cond, ◌⊎◌, inl, inr, Option, Some, None, [], ◌∷◌, ◌++◌, length, take, refl, sym, ◌∙◌, ap, subst, arith}
use Rattle.std.specs.Prelude.{◌==◌}
use Rattle.std.proofs.lemmas.Bool.{cases_lt}
use Rattle.std.proofs.lemmas.List.{length-take, take-append-le, length_push}
use Rattle.raft_model.specs.Quorum.{Servers}
use Rattle.cat_model.specs.declared.command.Entry.{Entry}
use Rattle.raft_model.specs.Log.{Log, term_at, last_term, IsUpToDate}
use Rattle.raft_model.proofs.Logs.{agree_below, agree_length, agree_term, front_take}
use Rattle.raft_model.proofs.Election.{at_eq, at_put, at_put₂, put_up, put_same, put_other}
use Rattle.raft_model.proofs.History.{History, put, put₂, Has, Follows, AllBegin, LedgersGrow, AcksLast, Sound}
use Rattle.cat_model.specs.declared.reply.Role.TheVariants.{Follower, Candidate, Leader}
use Rattle.raft_model.proofs.Matching.{grown, grows_append, ledger_bound}

agree_zero : (y z : Log) → take (length y) y ≡ take (length y) z → z ≡ [] → length y ≤ 0
agree_zero y z e nil =
    let h : length (take (length y) y) ≡ length (take (length y) []) = ap length (e ∙ ap (take (length y)) nil) in
    omega (arith, h, length-take (length y) y, length-take {A = Entry} (length y) [])

term_zero : (a : ℕ) (y : Log) → a < last_term y → length y ≤ 0 → ⊥
term_zero a [] l z = omega arith
term_zero a (e ∷ y) l z = omega arith

young_last : (a u : ℕ) (y : Log) → ((k : ℕ) → 0 < k → k ≤ length y → term_at k y < u) → a < last_term y → last_term y < u
young_last a u [] young l = absurd (omega arith)
young_last a u (e ∷ y) young l = young (length (e ∷ y)) (omega arith) (omega arith)

some_length : (a : ℕ) (y : Log) → a < last_term y → 0 < length y
some_length a [] l = absurd (omega arith)
some_length a (e ∷ y) l = omega arith

-- a log whose last term is v reaches behind what v's leader began with
behind : (leaders : ℕ → Option ℕ) (first ledger : ℕ → Log) → LedgersGrow leaders first ledger → (a : ℕ) (y : Log) → a < last_term y → take (length y) y ≡ take (length y) (ledger (last_term y)) → length (first (last_term y)) < length y
behind leaders first ledger g a y l e = go (cases_lt (length (first (last_term y))) (length y))
  where
    go : (length (first (last_term y)) < length y) ⊎ (length y ≤ length (first (last_term y))) → length (first (last_term y)) < length y
    go (inl h) = h
    go (inr h) =
        let p : 0 < length y = some_length a y l in
        let o = g.older (last_term y) (length y) p h in
        let q : term_at (length y) (first (last_term y)) ≡ term_at (length y) (ledger (last_term y)) = agree_term (length y) (length y) (first (last_term y)) (ledger (last_term y)) (omega arith) (sym (front_take (length y) (first (last_term y)) (ledger (last_term y)) (g.begins (last_term y)) h)) in
        let r : term_at (length y) y ≡ term_at (length y) (ledger (last_term y)) = agree_term (length y) (length y) y (ledger (last_term y)) (omega arith) e in
        absurd (omega (arith, o, q, r))

-- a log that is at least as up to date as one that has an own entry of t has it too
pub covers : (leaders : ℕ → Option ℕ) (first ledger : ℕ → Log) → LedgersGrow leaders first ledger →
    (x y : Log) → Follows ledger x → Follows ledger y →
    (t n u : ℕ) → length (first t) < n → n ≤ length (ledger t) → Has ledger t n x →
    IsUpToDate (last_term y) (length y) x →
    ((k : ℕ) → 0 < k → k ≤ length y → term_at k y < u) →
    AllBegin leaders first ledger t n u → Has ledger t n y
covers leaders first ledger g x y fx fy t n u own there has up young begin = go (cases_lt (last_term x) (last_term y))
  where
    long : n ≤ length x
    long = agree_length n x (ledger t) has there

    x_is : take (length x) x ≡ take (length x) (ledger (last_term x))
    x_is = fx (length x) (omega arith)

    y_is : take (length y) y ≡ take (length y) (ledger (last_term y))
    y_is = fy (length y) (omega arith)

    term_is : term_at n (ledger (last_term x)) ≡ t
    term_is = sym (agree_term n (length x) x (ledger (last_term x)) long x_is) ∙ agree_term n n x (ledger t) (omega arith) has ∙ g.own t n own there

    later : t ≤ last_term x
    later = let b = ledger_bound leaders first ledger g (last_term x) n (omega arith) (agree_length n (ledger (last_term x)) x (sym (agree_below n (length x) x (ledger (last_term x)) long x_is)) long) in omega (arith, term_is)

    same : last_term x ≡ last_term y → Has ledger t n y
    same e =
        let l : n ≤ length y = let k = up.1 e in omega (arith, long) in
        agree_below n (length y) y (ledger (last_term y)) l y_is ∙ ap (λ v. take n (ledger v)) (sym e) ∙ sym (agree_below n (length x) x (ledger (last_term x)) long x_is) ∙ has

    -- y has an entry of its own leader's term, so all with which that leader began
    newer : last_term x < last_term y → (o : Option ℕ) → leaders (last_term y) ≡ o → Has ledger t n y
    newer l None e = absurd (empty l (g.none (last_term y) e))
      where
        empty : last_term x < last_term y → ledger (last_term y) ≡ [] → ⊥
        empty l e =
            let z : length y ≤ 0 = agree_zero y (ledger (last_term y)) y_is e in
            term_zero (last_term x) y l z
    newer l (Some c) e =
        let h = begin (last_term y) c (omega (arith, later)) (young_last (last_term x) u y young l) e in
        let ln : n ≤ length (first (last_term y)) = agree_length n (first (last_term y)) (ledger t) h there in
        let ly : length (first (last_term y)) < length y = behind leaders first ledger g (last_term x) y l y_is in
        agree_below n (length y) y (ledger (last_term y)) (omega arith) y_is ∙ front_take n (first (last_term y)) (ledger (last_term y)) (g.begins (last_term y)) ln ∙ h

    go : (last_term x < last_term y) ⊎ (last_term y ≤ last_term x) → Has ledger t n y
    go (inl l) = newer l (leaders (last_term y)) refl
    go (inr l) = let a = up.0 in same (omega arith)

begin_below : (leaders : ℕ → Option ℕ) (first ledger : ℕ → Log) (t n u w : ℕ) → u ≤ w → AllBegin leaders first ledger t n w → AllBegin leaders first ledger t n u
begin_below leaders first ledger t n u w l b v c tv vu e = b v c tv (omega arith) e

begin_next : (leaders : ℕ → Option ℕ) (first ledger : ℕ → Log) (t n u : ℕ) → leaders u ≡ None → AllBegin leaders first ledger t n u → AllBegin leaders first ledger t n (suc u)
begin_next leaders first ledger t n u none b v c tv vu e = go (cases_lt v u)
  where
    go : (v < u) ⊎ (u ≤ v) → Has ledger t n (first v)
    go (inl l) = b v c tv l e
    go (inr l) = let q : v ≡ u = omega arith in let k = ap leaders q in absurd (cc (k, none, e))

module _ (servers : ℕ) (h : History) (s : Sound servers h) where
  pub acks_rise : (i t : ℕ) → h.terms i < t → AcksLast (put h.terms i t) h.votes h.logs (put h.roles i Follower) h.stood h.leaders h.first h.ledger h.electors h.acks
  acks_rise i t l = record {
    within = s.acks.within;
    reached = λ j u k. let up = put_up h.terms i t j (omega arith) in s.acks.reached j u (omega arith);
    kept = λ j u n a o b. let up = put_up h.terms i t j (omega arith) in s.acks.kept j u n a o (begin_below h.leaders h.first h.ledger u n (suc (h.terms j)) (suc (put h.terms i t j)) (omega arith) b);
    voted = s.acks.voted;
    elected = s.acks.elected;
    leader = λ c. at_eq (λ b. cond b Follower (h.roles c) ≡ Leader → h.acks c (cond b t (h.terms c)) ≡ length (h.logs c)) c i (λ _ e. cc e) (λ _ e. s.acks.leader c e);
  }

  pub acks_rest : (i : ℕ) → AcksLast h.terms h.votes h.logs (put h.roles i Follower) h.stood h.leaders h.first h.ledger h.electors h.acks
  acks_rest i = record {
    within = s.acks.within;
    reached = s.acks.reached;
    kept = s.acks.kept;
    voted = s.acks.voted;
    elected = s.acks.elected;
    leader = λ c. at_put (λ r. r ≡ Leader → h.acks c (h.terms c) ≡ length (h.logs c)) h.roles i Follower c (λ _ e. cc e) (λ _ e. s.acks.leader c e);
  }

  pub acks_stand : (i : ℕ) → h.votes i (h.terms i) ≡ None →
      AcksLast h.terms (put₂ h.votes i (h.terms i) (Some i)) h.logs (put h.roles i Candidate) (put₂ h.stood i (h.terms i) (h.logs i)) h.leaders h.first h.ledger h.electors h.acks
  acks_stand i free = record {
    within = s.acks.within;
    reached = s.acks.reached;
    kept = s.acks.kept;
    voted = λ j c u t n. at_put₂ (λ v. v ≡ Some c → t < u → n ≤ h.acks j t → length (h.first t) < n → AllBegin h.leaders h.first h.ledger t n (suc u) → Has h.ledger t n (put₂ h.stood i (h.terms i) (h.logs i) c u)) h.votes i (h.terms i) (Some i) j u
        (λ ej eu ec tu a o b. stood_self j c u t n ej eu (cc ec) a o b)
        (λ _ ec tu a o b. at_put₂ (λ x. Has h.ledger t n x) h.stood i (h.terms i) (h.logs i) c u
        (λ e d. absurd (not_stood j c u ec e d))
        (λ _. s.acks.voted j c u t n ec tu a o b));
    elected = s.acks.elected;
    leader = λ c. at_put (λ r. r ≡ Leader → h.acks c (h.terms c) ≡ length (h.logs c)) h.roles i Candidate c (λ _ e. cc e) (λ _ e. s.acks.leader c e);
  }
    where
      stood_self : (j c u t n : ℕ) → j ≡ i → u ≡ h.terms i → i ≡ c → n ≤ h.acks j t → length (h.first t) < n → AllBegin h.leaders h.first h.ledger t n (suc u) → Has h.ledger t n (put₂ h.stood i (h.terms i) (h.logs i) c u)
      stood_self j c u t n ej eu ec a o b =
          at_put₂ (λ x. Has h.ledger t n x) h.stood i (h.terms i) (h.logs i) c u
          (λ _ _. s.acks.kept i t n (subst (λ z. n ≤ h.acks z t) ej a) o (subst (λ z. AllBegin h.leaders h.first h.ledger t n (suc z)) eu b))
          (λ ne. absurd (ne (sym ec) eu))

      not_stood : (j c u : ℕ) → h.votes j u ≡ Some c → c ≡ i → u ≡ h.terms i → ⊥
      not_stood j c u ec e d =
          let k = s.votes.candidate j c u ec in
          let k' : h.votes i (h.terms i) ≡ Some c = subst (λ z. h.votes i z ≡ Some c) d (subst (λ z. h.votes z u ≡ Some c) e k) in
          cc (free, k')

  pub acks_grant : (i c : ℕ) → IsUpToDate (last_term (h.stood c (h.terms i))) (length (h.stood c (h.terms i))) (h.logs i) →
      AcksLast h.terms (put₂ h.votes i (h.terms i) (Some c)) h.logs h.roles h.stood h.leaders h.first h.ledger h.electors h.acks
  acks_grant i c up = record {
    within = s.acks.within;
    reached = s.acks.reached;
    kept = s.acks.kept;
    voted = λ j d u t n. at_put₂ (λ v. v ≡ Some d → t < u → n ≤ h.acks j t → length (h.first t) < n → AllBegin h.leaders h.first h.ledger t n (suc u) → Has h.ledger t n (h.stood d u)) h.votes i (h.terms i) (Some c) j u
        (λ ej eu ec tu a o b.
        subst (λ z. Has h.ledger t n (h.stood d z)) (sym eu) (subst (λ z. Has h.ledger t n (h.stood z (h.terms i))) (cc ec)
        (granted t n (subst (λ z. n ≤ h.acks z t) ej a) o (subst (λ z. AllBegin h.leaders h.first h.ledger t n (suc z)) eu b))))
        (λ _ ec. s.acks.voted j d u t n ec);
    elected = s.acks.elected;
    leader = s.acks.leader;
  }
    where
      granted : (t n : ℕ) → n ≤ h.acks i t → length (h.first t) < n → AllBegin h.leaders h.first h.ledger t n (suc (h.terms i)) → Has h.ledger t n (h.stood c (h.terms i))
      granted t n a o b =
          covers h.leaders h.first h.ledger s.ledgers (h.logs i) (h.stood c (h.terms i)) (s.logs.of_logs i) (s.logs.of_stood c (h.terms i)) t n (h.terms i) o
          (let w = s.acks.within i t in omega arith) (s.acks.kept i t n a o b) up (s.logs.stood_older c (h.terms i))
          (begin_below h.leaders h.first h.ledger t n (h.terms i) (suc (h.terms i)) (omega arith) b)

  -- no vote of a later term is kept
  no_vote : (j u c : ℕ) → h.terms j < u → h.votes j u ≡ Some c → ⊥
  no_vote j u c l e = let k = s.votes.later j u l in cc (k, e)

  -- what leaders began with, before another was elected
  begin_win : (c w : ℕ) → h.leaders w ≡ None → (t n u : ℕ) → t ≢ w →
      AllBegin (put h.leaders w (Some c)) (put h.first w (h.logs c)) (put h.ledger w (h.logs c)) t n u → AllBegin h.leaders h.first h.ledger t n u
  begin_win c w none t n u tw b v d tv vu e =
      at_eq (λ z. (cond z (Some c) (h.leaders v) ≡ Some d → take n (cond z (h.logs c) (h.first v)) ≡ take n (put h.ledger w (h.logs c) t)) → take n (h.first v) ≡ take n (h.ledger t)) v w
      (λ q _. absurd (let k = ap h.leaders q in cc (k, none, e)))
      (λ _ r. r e ∙ ap (take n) (put_other h.ledger w (h.logs c) t tw))
      (b v d tv vu)

  acks_none : (j w : ℕ) → h.leaders w ≡ None → h.acks j w ≡ 0
  acks_none j w none = let l = s.acks.within j w in let e = ap length (s.ledgers.none w none) in omega arith

  record Old (c j t n : ℕ) : Type 0 where
    apart : t ≢ h.terms c
    acked : n ≤ h.acks j t
    own : length (h.first t) < n
    same : (x : Log) → Has h.ledger t n x → Has (put h.ledger (h.terms c) (h.logs c)) t n x

  -- what is acknowledged behind a leader's first log was so before another is elected
  old : (c j t n : ℕ) → h.leaders (h.terms c) ≡ None → n ≤ put₂ h.acks c (h.terms c) (length (h.logs c)) j t → length (put h.first (h.terms c) (h.logs c) t) < n → Old c j t n
  old c j t n none a o = at_eq (λ z. z ≡ (t == h.terms c) → Old c j t n) t (h.terms c)
      (λ et _. absurd (old_same et))
      (λ ne _. old_apart ne)
      refl
    where
      old_same : t ≡ h.terms c → ⊥
      old_same et =
          let f = ap length (ap (put h.first (h.terms c) (h.logs c)) et ∙ put_same h.first (h.terms c) (h.logs c)) in
          let q : h.acks j t ≡ h.acks j (h.terms c) = ap (h.acks j) et in
          at_put₂ (λ z. n ≤ z → ⊥) h.acks c (h.terms c) (length (h.logs c)) j t (λ _ _ k. omega (arith, o, f)) (λ _ k. omega (arith, o, f, q, acks_none j (h.terms c) none)) a

      old_apart : t ≢ h.terms c → Old c j t n
      old_apart ne = record {
        apart = ne;
        acked = at_put₂ (λ z. n ≤ z → n ≤ h.acks j t) h.acks c (h.terms c) (length (h.logs c)) j t (λ _ e _. absurd (ne e)) (λ _ k. k) a;
        own = subst (λ (x : Log). length x < n) (put_other h.first (h.terms c) (h.logs c) t ne) o;
        same = λ x e. e ∙ ap (take n) (sym (put_other h.ledger (h.terms c) (h.logs c) t ne));
      }

  pub acks_win : (c : ℕ) (by : Servers) → h.leaders (h.terms c) ≡ None → h.stood c (h.terms c) ≡ h.logs c → ((i : ℕ) → by i ≡ true → h.votes i (h.terms c) ≡ Some c) →
      AcksLast h.terms h.votes h.logs (put h.roles c Leader) h.stood (put h.leaders (h.terms c) (Some c)) (put h.first (h.terms c) (h.logs c)) (put h.ledger (h.terms c) (h.logs c)) (put h.electors (h.terms c) by) (put₂ h.acks c (h.terms c) (length (h.logs c)))
  acks_win c by none stood for = record {
    within = λ j t. at_put₂ (λ a. a ≤ length (put h.ledger (h.terms c) (h.logs c) t)) h.acks c (h.terms c) (length (h.logs c)) j t
        (λ _ et. let q = ap length (ap (put h.ledger (h.terms c) (h.logs c)) et ∙ put_same h.ledger (h.terms c) (h.logs c)) in omega arith)
        (λ _. at_put (λ (x : Log). h.acks j t ≤ length x) h.ledger (h.terms c) (h.logs c) t (λ et. let z = acks_none j (h.terms c) none in let q : h.acks j t ≡ h.acks j (h.terms c) = ap (h.acks j) et in omega arith) (λ _. s.acks.within j t));
    reached = λ j t l. at_put₂ (λ a. a ≡ 0) h.acks c (h.terms c) (length (h.logs c)) j t
        (λ ej et. let q = ap h.terms ej in absurd (omega arith))
        (λ _. s.acks.reached j t l);
    kept = λ j t n a o b. let m = old c j t n none a o in m.same (h.logs j) (s.acks.kept j t n m.acked m.own (begin_win c (h.terms c) none t n (suc (h.terms j)) m.apart b));
    voted = λ j d u t n v tu a o b. let m = old c j t n none a o in m.same (h.stood d u) (s.acks.voted j d u t n v tu m.acked m.own (begin_win c (h.terms c) none t n (suc u) m.apart b));
    elected = λ i d u t n. at_eq (λ z. cond z (Some c) (h.leaders u) ≡ Some d → cond z by (h.electors u) i ≡ true → t < u → n ≤ put₂ h.acks c (h.terms c) (length (h.logs c)) i t → length (put h.first (h.terms c) (h.logs c) t) < n → AllBegin (put h.leaders (h.terms c) (Some c)) (put h.first (h.terms c) (h.logs c)) (put h.ledger (h.terms c) (h.logs c)) t n u → Has (put h.ledger (h.terms c) (h.logs c)) t n (cond z (h.logs c) (h.first u))) u (h.terms c)
        (λ eu _ v tu a o b. let m = old c i t n none a o in m.same (h.logs c) (subst (λ x. Has h.ledger t n x) stood
        (s.acks.voted i c (h.terms c) t n (for i v) (omega arith) m.acked m.own
        (begin_next h.leaders h.first h.ledger t n (h.terms c) none (begin_win c (h.terms c) none t n (h.terms c) m.apart (subst (λ z. AllBegin (put h.leaders (h.terms c) (Some c)) (put h.first (h.terms c) (h.logs c)) (put h.ledger (h.terms c) (h.logs c)) t n z) eu b))))))
        (λ _ l v tu a o b. let m = old c i t n none a o in m.same (h.first u) (s.acks.elected i d u t n l v tu m.acked m.own (begin_win c (h.terms c) none t n u m.apart b)));
    leader = λ d. at_put (λ r. r ≡ Leader → put₂ h.acks c (h.terms c) (length (h.logs c)) d (h.terms d) ≡ length (h.logs d)) h.roles c Leader d
        (λ e _. at_put₂ (λ a. a ≡ length (h.logs d)) h.acks c (h.terms c) (length (h.logs c)) d (h.terms d) (λ _ _. ap (λ z. length (h.logs z)) (sym e)) (λ ne. absurd (ne e (ap h.terms e))))
        (λ ne e. at_put₂ (λ a. a ≡ length (h.logs d)) h.acks c (h.terms c) (length (h.logs c)) d (h.terms d) (λ q _. absurd (ne q)) (λ _. s.acks.leader d e));
  }

  grown_length : (t : ℕ) (e : Entry) (u : ℕ) → length (h.ledger u) ≤ length (put h.ledger t (h.ledger t ++ e ∷ []) u)
  grown_length t e u = omega (arith, length-take (length (h.ledger u)) (put h.ledger t (h.ledger t ++ e ∷ []) u), ap length (grows_append h.ledger t e u))

  begin_append : (w : ℕ) (e : Entry) (t n u : ℕ) → n ≤ length (h.ledger t) →
      AllBegin h.leaders h.first (put h.ledger w (h.ledger w ++ e ∷ [])) t n u → AllBegin h.leaders h.first h.ledger t n u
  begin_append w e t n u l b v d tv vu k = b v d tv vu k ∙ grown h.ledger (put h.ledger w (h.ledger w ++ e ∷ [])) (grows_append h.ledger w e) t n l

  pub acks_append : (c : ℕ) (e : Entry) → h.roles c ≡ Leader →
      AcksLast h.terms h.votes (put h.logs c (h.logs c ++ e ∷ [])) h.roles h.stood h.leaders h.first (put h.ledger (h.terms c) (h.ledger (h.terms c) ++ e ∷ [])) h.electors (put₂ h.acks c (h.terms c) (suc (length (h.logs c))))
  acks_append c e lead = record {
    within = λ j t. at_put₂ (λ a. a ≤ length (new t)) h.acks c (h.terms c) (suc (length (h.logs c))) j t
        (λ _ et. let q = ap length (ap new et ∙ put_same h.ledger (h.terms c) (h.ledger (h.terms c) ++ e ∷ [])) in omega (arith, q, length_push (h.ledger (h.terms c)) e, ap length (s.roles.leading c lead)))
        (λ _. let w = s.acks.within j t in omega (arith, w, grown_length (h.terms c) e t));
    reached = λ j t l. at_put₂ (λ a. a ≡ 0) h.acks c (h.terms c) (suc (length (h.logs c))) j t
        (λ ej et. let q = ap h.terms ej in absurd (omega arith))
        (λ _. s.acks.reached j t l);
    kept = λ j t n. at_put₂ (λ a. n ≤ a → length (h.first t) < n → AllBegin h.leaders h.first new t n (suc (h.terms j)) → Has new t n (logs' j)) h.acks c (h.terms c) (suc (length (h.logs c))) j t
        (λ ej et _ _ _. ap (take n) (ap logs' ej ∙ put_same h.logs c (h.logs c ++ e ∷ []) ∙ ap (λ x. x ++ e ∷ []) (sym (s.roles.leading c lead)) ∙ sym (put_same h.ledger (h.terms c) (h.ledger (h.terms c) ++ e ∷ [])) ∙ sym (ap new et)))
        (λ _ a o b.
        let l = fits j t n a in
        let k = s.acks.kept j t n a o (begin_append (h.terms c) e t n (suc (h.terms j)) l b) in
        pushed j n (agree_length n (h.logs j) (h.ledger t) k l) ∙ onto t n (h.logs j) l k);
    voted = λ j d u t n v tu. at_put₂ (λ a. n ≤ a → length (h.first t) < n → AllBegin h.leaders h.first new t n (suc u) → Has new t n (h.stood d u)) h.acks c (h.terms c) (suc (length (h.logs c))) j t
        (λ ej et _ _ _. absurd (no_vote j u d (let q = ap h.terms ej in omega arith) v))
        (λ _ a o b. let l = fits j t n a in onto t n (h.stood d u) l (s.acks.voted j d u t n v tu a o (begin_append (h.terms c) e t n (suc u) l b)));
    elected = λ i d u t n l v tu. at_put₂ (λ a. n ≤ a → length (h.first t) < n → AllBegin h.leaders h.first new t n u → Has new t n (h.first u)) h.acks c (h.terms c) (suc (length (h.logs c))) i t
        (λ ej et _ _ _. absurd (no_vote i u d (let q = ap h.terms ej in omega arith) (s.votes.for_leader u d i l v)))
        (λ _ a o b. let f = fits i t n a in onto t n (h.first u) f (s.acks.elected i d u t n l v tu a o (begin_append (h.terms c) e t n u f b)));
    leader = λ d k. at_put (λ (x : Log). put₂ h.acks c (h.terms c) (suc (length (h.logs c))) d (h.terms d) ≡ length x) h.logs c (h.logs c ++ e ∷ []) d
        (λ q. at_put₂ (λ a. a ≡ length (h.logs c ++ e ∷ [])) h.acks c (h.terms c) (suc (length (h.logs c))) d (h.terms d) (λ _ _. omega (arith, length_push (h.logs c) e)) (λ ne. absurd (ne q (ap h.terms q))))
        (λ ne. at_put₂ (λ a. a ≡ length (h.logs d)) h.acks c (h.terms c) (suc (length (h.logs c))) d (h.terms d) (λ q _. absurd (ne q)) (λ _. s.acks.leader d k));
  }
    where
      new : ℕ → Log
      new = put h.ledger (h.terms c) (h.ledger (h.terms c) ++ e ∷ [])

      logs' : ℕ → Log
      logs' = put h.logs c (h.logs c ++ e ∷ [])

      fits : (j t n : ℕ) → n ≤ h.acks j t → n ≤ length (h.ledger t)
      fits j t n a = let w = s.acks.within j t in omega arith

      onto : (t n : ℕ) (x : Log) → n ≤ length (h.ledger t) → Has h.ledger t n x → Has new t n x
      onto t n x l k = k ∙ sym (grown h.ledger new (grows_append h.ledger (h.terms c) e) t n l)

      pushed : (j n : ℕ) → n ≤ length (h.logs j) → take n (logs' j) ≡ take n (h.logs j)
      pushed j n l = at_put (λ (x : Log). take n x ≡ take n (h.logs j)) h.logs c (h.logs c ++ e ∷ []) j
          (λ q. take-append-le n (h.logs c) (e ∷ []) (subst (λ z. n ≤ length (h.logs z)) q l) ∙ ap (λ z. take n (h.logs z)) (sym q))
          (λ _. refl)

  pub acks_accept : (i c m : ℕ) (x : Log) → h.leaders (h.terms i) ≡ Some c → m ≤ length (h.ledger (h.terms i)) →
      ((n : ℕ) → n ≤ length (h.ledger (h.terms i)) → Has h.ledger (h.terms i) n (h.logs i) → Has h.ledger (h.terms i) n x) →
      Has h.ledger (h.terms i) m x →
      AcksLast h.terms h.votes (put h.logs i x) (put h.roles i Follower) h.stood h.leaders h.first h.ledger h.electors (put₂ h.acks i (h.terms i) (max (h.acks i (h.terms i)) m))
  acks_accept i c m x lead fits keeps reaches = record {
    within = λ j t. at_put₂ (λ a. a ≤ length (h.ledger t)) h.acks i (h.terms i) (max (h.acks i (h.terms i)) m) j t
        (λ _ et. let q = ap (λ z. length (h.ledger z)) et in omega (arith, q, s.acks.within i (h.terms i)))
        (λ _. s.acks.within j t);
    reached = λ j t l. at_put₂ (λ a. a ≡ 0) h.acks i (h.terms i) (max (h.acks i (h.terms i)) m) j t
        (λ ej et. let q = ap h.terms ej in absurd (omega arith))
        (λ _. s.acks.reached j t l);
    kept = λ j t n a o b. at_put (λ (y : Log). Has h.ledger t n y) h.logs i x j
        (λ ej. mine t n (subst (λ z. n ≤ put₂ h.acks i (h.terms i) (max (h.acks i (h.terms i)) m) z t) ej a) o (subst (λ z. AllBegin h.leaders h.first h.ledger t n (suc (h.terms z))) ej b))
        (λ ne. s.acks.kept j t n (at_put₂ (λ z. n ≤ z → n ≤ h.acks j t) h.acks i (h.terms i) (max (h.acks i (h.terms i)) m) j t (λ ej _. absurd (ne ej)) (λ _ k. k) a) o b);
    voted = λ j d u t n v tu. at_put₂ (λ a. n ≤ a → length (h.first t) < n → AllBegin h.leaders h.first h.ledger t n (suc u) → Has h.ledger t n (h.stood d u)) h.acks i (h.terms i) (max (h.acks i (h.terms i)) m) j t
        (λ ej et _ _ _. absurd (no_vote j u d (let q = ap h.terms ej in omega arith) v))
        (λ _. s.acks.voted j d u t n v tu);
    elected = λ j d u t n l v tu. at_put₂ (λ a. n ≤ a → length (h.first t) < n → AllBegin h.leaders h.first h.ledger t n u → Has h.ledger t n (h.first u)) h.acks i (h.terms i) (max (h.acks i (h.terms i)) m) j t
        (λ ej et _ _ _. absurd (no_vote j u d (let q = ap h.terms ej in omega arith) (s.votes.for_leader u d j l v)))
        (λ _. s.acks.elected j d u t n l v tu);
    leader = λ d. at_put (λ r. r ≡ Leader → put₂ h.acks i (h.terms i) (max (h.acks i (h.terms i)) m) d (h.terms d) ≡ length (put h.logs i x d)) h.roles i Follower d
        (λ _ k. cc k)
        (λ ne k. at_put₂ (λ a. a ≡ length (put h.logs i x d)) h.acks i (h.terms i) (max (h.acks i (h.terms i)) m) d (h.terms d) (λ ej _. absurd (ne ej)) (λ _. s.acks.leader d k ∙ ap length (sym (put_other h.logs i x d ne))));
  }
    where
      -- what it had of term t, its leader has too
      shared : (t n : ℕ) → n ≤ h.acks i t → length (h.first t) < n → AllBegin h.leaders h.first h.ledger t n (suc (h.terms i)) → t < h.terms i → Has h.ledger t n x
      shared t n a o b l =
          let w = s.acks.within i t in
          let f = b (h.terms i) c l (omega arith) lead in
          let g = agree_length n (h.first (h.terms i)) (h.ledger t) f (omega arith) in
          let e = front_take n (h.first (h.terms i)) (h.ledger (h.terms i)) (s.ledgers.begins (h.terms i)) g ∙ f in
          keeps n (agree_length n (h.ledger (h.terms i)) (h.ledger t) e (omega arith)) (s.acks.kept i t n a o b ∙ sym e) ∙ e

      mine : (t n : ℕ) → n ≤ put₂ h.acks i (h.terms i) (max (h.acks i (h.terms i)) m) i t → length (h.first t) < n → AllBegin h.leaders h.first h.ledger t n (suc (h.terms i)) → Has h.ledger t n x
      mine t n a o b = at_put₂ (λ z. n ≤ z → Has h.ledger t n x) h.acks i (h.terms i) (max (h.acks i (h.terms i)) m) i t
          (λ _ et k. own t n et k o b)
          (λ ne k. other t n (λ et. ne refl et) k o b) a
        where
          other : (t n : ℕ) → (t ≡ h.terms i → ⊥) → n ≤ h.acks i t → length (h.first t) < n → AllBegin h.leaders h.first h.ledger t n (suc (h.terms i)) → Has h.ledger t n x
          other t n ne a o b = go (cases_lt t (h.terms i))
            where
              go : (t < h.terms i) ⊎ (h.terms i ≤ t) → Has h.ledger t n x
              go (inl l) = shared t n a o b l
              go (inr l) = go' (cases_lt (h.terms i) t)
                where
                  go' : (h.terms i < t) ⊎ (t ≤ h.terms i) → Has h.ledger t n x
                  go' (inl k) = let z = s.acks.reached i t k in absurd (omega arith)
                  go' (inr k) = absurd (ne (omega arith))

          own : (t n : ℕ) → t ≡ h.terms i → n ≤ max (h.acks i (h.terms i)) m → length (h.first t) < n → AllBegin h.leaders h.first h.ledger t n (suc (h.terms i)) → Has h.ledger t n x
          own t n et k o b = go (cases_lt m n)
            where
              go : (m < n) ⊎ (n ≤ m) → Has h.ledger t n x
              go (inl l) =
                  let a : n ≤ h.acks i (h.terms i) = omega arith in
                  let a' : n ≤ h.acks i t = subst (λ z. n ≤ h.acks i z) (sym et) a in
                  let w = s.acks.within i (h.terms i) in
                  subst (λ z. Has h.ledger z n x) (sym et) (keeps n (omega arith) (subst (λ z. Has h.ledger z n (h.logs i)) et (s.acks.kept i t n a' o b)))
              go (inr l) = subst (λ z. Has h.ledger z n x) (sym et) (agree_below n m x (h.ledger (h.terms i)) l reaches)

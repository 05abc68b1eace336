-- Logs match, as ledgers grow.
use Rattle.std.proofs.Common.{◌≡◌, ℕ, suc, ◌<◌, ◌≤◌, cond, ◌⊎◌, inl, inr, Option, Some, None, [], ◌∷◌, ◌++◌, length, take, refl, sym, ◌∙◌, ap, subst, arith}
use Rattle.std.proofs.lemmas.Bool.{cases_lt}
use Rattle.std.proofs.lemmas.List.{take-take, take_all, length-take, take-append-le, take_at, length_push}
use Rattle.cat_model.specs.declared.command.Entry.{Entry}
use Rattle.raft_model.specs.Log.{Log, term_at}
use Rattle.raft_model.proofs.Logs.{agree_length, term_take, agree_term, front_take}
use Rattle.raft_model.proofs.History.{put, put₂, Has, Follows, LedgersGrow, LogsMatch}
use Rattle.raft_model.proofs.Election.{at_eq, put_up, put_same}

-- each ledger goes on
abbrev pub Grows : (ℕ → Log) → (ℕ → Log) → Type 0
Grows old new = (t : ℕ) → take (length (old t)) (new t) ≡ old t

-- within a ledger, what comes behind it changes nothing
pub grown : (old new : ℕ → Log) → Grows old new → (t n : ℕ) → n ≤ length (old t) → take n (new t) ≡ take n (old t)
grown old new g t n l = front_take n (old t) (new t) (g t) l

pub has_length : (ledger : ℕ → Log) (t n : ℕ) (x : Log) → Has ledger t n x → n ≤ length x → n ≤ length (ledger t)
has_length ledger t n x h l = agree_length n (ledger t) x (sym h) l

pub has_grown : (old new : ℕ → Log) → Grows old new → (t n : ℕ) (x : Log) → Has old t n x → n ≤ length x → Has new t n x
has_grown old new g t n x h l = h ∙ sym (grown old new g t n (has_length old t n x h l))

pub follows_grown : (old new : ℕ → Log) → Grows old new → (x : Log) → Follows old x → Follows new x
follows_grown old new g x f n l = has_grown old new g (term_at n x) n x (f n l) l

pub follows_take : (ledger : ℕ → Log) (x : Log) (m : ℕ) → Follows ledger x → Follows ledger (take m x)
follows_take ledger x m f n l =
    let ln : n ≤ m = omega (arith, length-take m x) in
    let lx : n ≤ length x = omega (arith, length-take m x) in
    take-take n m x ln ∙ f n lx ∙ ap (λ t. take n (ledger t)) (sym (term_take n m x ln))

pub term_push : (x : Log) (e : Entry) → term_at (suc (length x)) (x ++ e ∷ []) ≡ e.term
term_push [] e = refl
term_push (a ∷ x) e = term_push x e

pub term_push_below : (x : Log) (e : Entry) (n : ℕ) → n ≤ length x → term_at n (x ++ e ∷ []) ≡ term_at n x
term_push_below x e n l = agree_term n n (x ++ e ∷ []) x (omega arith) (take-append-le n x (e ∷ []) l)

pub follows_push : (ledger : ℕ → Log) (x : Log) (e : Entry) → ledger e.term ≡ x ++ e ∷ [] → Follows ledger x → Follows ledger (x ++ e ∷ [])
follows_push ledger x e at f n l = go (cases_lt (length x) n)
  where
    go : (length x < n) ⊎ (n ≤ length x) → Has ledger (term_at n (x ++ e ∷ [])) n (x ++ e ∷ [])
    go (inl h) =
        let en : n ≡ suc (length x) = omega (arith, length_push x e) in
        let et : term_at n (x ++ e ∷ []) ≡ e.term = ap (λ k. term_at k (x ++ e ∷ [])) en ∙ term_push x e in
        ap (take n) (sym at) ∙ ap (λ t. take n (ledger t)) (sym et)
    go (inr h) = take-append-le n x (e ∷ []) h ∙ f n h ∙ ap (λ t. take n (ledger t)) (sym (term_push_below x e n h))

-- a ledger that is empty, and then a log
pub grows_win : (ledger : ℕ → Log) (t : ℕ) (x : Log) → ledger t ≡ [] → Grows ledger (put ledger t x)
grows_win ledger t x e u = at_eq (λ b. take (length (ledger u)) (cond b x (ledger u)) ≡ ledger u) u t (λ s. let h : ledger u ≡ [] = ap ledger s ∙ e in rw h refl) (λ _. take_all (length (ledger u)) (ledger u) (omega arith))

pub grows_append : (ledger : ℕ → Log) (t : ℕ) (e : Entry) → Grows ledger (put ledger t (ledger t ++ e ∷ []))
grows_append ledger t e u = at_eq (λ b. take (length (ledger u)) (cond b (ledger t ++ e ∷ []) (ledger u)) ≡ ledger u) u t (λ s. rw s (take_at (ledger t) (e ∷ []) (length (ledger t)) refl)) (λ _. take_all (length (ledger u)) (ledger u) (omega arith))

module _ (leaders : ℕ → Option ℕ) (first ledger : ℕ → Log) (s : LedgersGrow leaders first ledger) where
  pub ledgers_win : (t c : ℕ) (x : Log) → ((n : ℕ) → 0 < n → n ≤ length x → term_at n x < t) → LedgersGrow (put leaders t (Some c)) (put first t x) (put ledger t x)
  ledgers_win t c x old = record {
    begins = λ u. at_eq (λ b. take (length (cond b x (first u))) (cond b x (ledger u)) ≡ cond b x (first u)) u t (λ _. take_all (length x) x (omega arith)) (λ _. s.begins u);
    older = λ u n. at_eq (λ b. 0 < n → n ≤ length (cond b x (first u)) → term_at n (cond b x (first u)) < u) u t (λ e p l. let h = old n p l in omega arith) (λ _. s.older u n);
    own = λ u n. at_eq (λ b. length (cond b x (first u)) < n → n ≤ length (cond b x (ledger u)) → term_at n (cond b x (ledger u)) ≡ u) u t (λ _ p l. absurd (omega arith)) (λ _. s.own u n);
    none = λ u. at_eq (λ b. cond b (Some c) (leaders u) ≡ None → cond b x (ledger u) ≡ []) u t (λ _ e. cc e) (λ _. s.none u);
  }

  first_length : (t : ℕ) → length (first t) ≤ length (ledger t)
  first_length t = omega (arith, length-take (length (first t)) (ledger t), ap length (s.begins t))

  own_push : (t n : ℕ) (e : Entry) → e.term ≡ t → length (first t) < n → n ≤ length (ledger t ++ e ∷ []) → term_at n (ledger t ++ e ∷ []) ≡ t
  own_push t n e et p l = go (cases_lt (length (ledger t)) n)
    where
      go : (length (ledger t) < n) ⊎ (n ≤ length (ledger t)) → term_at n (ledger t ++ e ∷ []) ≡ t
      go (inl h) =
          let en : n ≡ suc (length (ledger t)) = omega (arith, length_push (ledger t) e) in
          ap (λ k. term_at k (ledger t ++ e ∷ [])) en ∙ term_push (ledger t) e ∙ et
      go (inr h) = term_push_below (ledger t) e n h ∙ s.own t n p h

  pub ledgers_append : (t c : ℕ) (e : Entry) → e.term ≡ t → leaders t ≡ Some c → LedgersGrow leaders first (put ledger t (ledger t ++ e ∷ []))
  ledgers_append t c e et lead = record {
    begins = λ u. at_eq (λ b. take (length (first u)) (cond b (ledger t ++ e ∷ []) (ledger u)) ≡ first u) u t (λ h. rw h (take-append-le (length (first t)) (ledger t) (e ∷ []) (first_length t) ∙ s.begins t)) (λ _. s.begins u);
    older = s.older;
    own = λ u n. at_eq (λ b. length (first u) < n → n ≤ length (cond b (ledger t ++ e ∷ []) (ledger u)) → term_at n (cond b (ledger t ++ e ∷ []) (ledger u)) ≡ u) u t (λ h. rw h (own_push t n e et)) (λ _. s.own u n);
    none = λ u. at_eq (λ b. leaders u ≡ None → cond b (ledger t ++ e ∷ []) (ledger u) ≡ []) u t (λ h g. let k = ap leaders h in cc (k, g, lead)) (λ _. s.none u);
  }

  -- no entry of a ledger has a later term
  pub ledger_bound : (t n : ℕ) → 0 < n → n ≤ length (ledger t) → term_at n (ledger t) ≤ t
  ledger_bound t n p l = go (cases_lt (length (first t)) n)
    where
      go : (length (first t) < n) ⊎ (n ≤ length (first t)) → term_at n (ledger t) ≤ t
      go (inl h) = omega (arith, s.own t n h l)
      go (inr h) = omega (arith, s.older t n p h, agree_term n (length (first t)) (first t) (ledger t) h (take_all (length (first t)) (first t) (omega arith) ∙ sym (s.begins t)))

module _ (terms : ℕ → ℕ) (logs : ℕ → Log) (stood : ℕ → ℕ → Log) (ledger : ℕ → Log) (m : LogsMatch terms logs stood ledger) where
  pub logs_rise : (i t : ℕ) → terms i ≤ t → LogsMatch (put terms i t) logs stood ledger
  logs_rise i t l = record {
    of_ledgers = m.of_ledgers;
    of_logs = m.of_logs;
    bound = λ j n p k. let a = m.bound j n p k in let b = put_up terms i t j l in omega arith;
    of_stood = m.of_stood;
    stood_older = m.stood_older;
  }

  pub logs_stand : (i t : ℕ) → ((n : ℕ) → 0 < n → n ≤ length (logs i) → term_at n (logs i) < t) → LogsMatch terms logs (put₂ stood i t (logs i)) ledger
  logs_stand i t young = record {
    of_ledgers = m.of_ledgers;
    of_logs = m.of_logs;
    bound = m.bound;
    of_stood = λ c u. at_eq (λ a. Follows ledger (cond a (put (stood i) t (logs i)) (stood c) u)) c i
        (λ _. at_eq (λ b. Follows ledger (cond b (logs i) (stood i u))) u t (λ _. m.of_logs i) (λ _. m.of_stood i u)) (λ _. m.of_stood c u);
    stood_older = λ c u n. at_eq (λ a. 0 < n → n ≤ length (cond a (put (stood i) t (logs i)) (stood c) u) → term_at n (cond a (put (stood i) t (logs i)) (stood c) u) < u) c i
        (λ _. at_eq (λ b. 0 < n → n ≤ length (cond b (logs i) (stood i u)) → term_at n (cond b (logs i) (stood i u)) < u) u t (λ e p k. let h = young n p k in omega arith) (λ _. m.stood_older i u n)) (λ _. m.stood_older c u n);
  }

  pub logs_set : (i : ℕ) (x : Log) → Follows ledger x → ((n : ℕ) → 0 < n → n ≤ length x → term_at n x ≤ terms i) → LogsMatch terms (put logs i x) stood ledger
  logs_set i x f b = record {
    of_ledgers = m.of_ledgers;
    of_logs = λ j. at_eq (λ a. Follows ledger (cond a x (logs j))) j i (λ _. f) (λ _. m.of_logs j);
    bound = λ j n. at_eq (λ a. 0 < n → n ≤ length (cond a x (logs j)) → term_at n (cond a x (logs j)) ≤ terms j) j i (λ e p k. rw e (b n p k)) (λ _. m.bound j n);
    of_stood = m.of_stood;
    stood_older = m.stood_older;
  }

  pub logs_ledger : (t : ℕ) (x : Log) → Grows ledger (put ledger t x) → Follows (put ledger t x) x → LogsMatch terms logs stood (put ledger t x)
  logs_ledger t x g f = record {
    of_ledgers = λ u. at_eq (λ b. Follows (put ledger t x) (cond b x (ledger u))) u t (λ _. f) (λ _. follows_grown ledger (put ledger t x) g (ledger u) (m.of_ledgers u));
    of_logs = λ i. follows_grown ledger (put ledger t x) g (logs i) (m.of_logs i);
    bound = m.bound;
    of_stood = λ c u. follows_grown ledger (put ledger t x) g (stood c u) (m.of_stood c u);
    stood_older = m.stood_older;
  }

  pub logs_win : (t c : ℕ) → ledger t ≡ [] → LogsMatch terms logs stood (put ledger t (logs c))
  logs_win t c e =
      let g = grows_win ledger t (logs c) e in
      logs_ledger t (logs c) g (follows_grown ledger (put ledger t (logs c)) g (logs c) (m.of_logs c))

  pub follows_append : (t : ℕ) (e : Entry) → e.term ≡ t → Follows (put ledger t (ledger t ++ e ∷ [])) (ledger t ++ e ∷ [])
  follows_append t e et =
      let new = put ledger t (ledger t ++ e ∷ []) in
      follows_push new (ledger t) e (ap new et ∙ put_same ledger t (ledger t ++ e ∷ [])) (follows_grown ledger new (grows_append ledger t e) (ledger t) (m.of_ledgers t))

pub logs_append : (terms : ℕ → ℕ) (logs : ℕ → Log) (stood : ℕ → ℕ → Log) (ledger : ℕ → Log) → LogsMatch terms logs stood ledger → (t c : ℕ) (e : Entry) → e.term ≡ t → terms c ≡ t → ledger t ≡ logs c → LogsMatch terms (put logs c (logs c ++ e ∷ [])) stood (put ledger t (ledger t ++ e ∷ []))
logs_append terms logs stood ledger m t c e et ct same =
    let new = put ledger t (ledger t ++ e ∷ []) in
    let f = follows_append terms logs stood ledger m t e et in
    let m' = logs_ledger terms logs stood ledger m t (ledger t ++ e ∷ []) (grows_append ledger t e) f in
    logs_set terms logs stood new m' c (logs c ++ e ∷ []) (subst (λ (x : Log). Follows new (x ++ e ∷ [])) same f) bounded
  where
    bounded : (n : ℕ) → 0 < n → n ≤ length (logs c ++ e ∷ []) → term_at n (logs c ++ e ∷ []) ≤ terms c
    bounded n p l = go (cases_lt (length (logs c)) n)
      where
        go : (length (logs c) < n) ⊎ (n ≤ length (logs c)) → term_at n (logs c ++ e ∷ []) ≤ terms c
        go (inl h) =
            let en : n ≡ suc (length (logs c)) = omega (arith, length_push (logs c) e) in
            let r = ap (λ k. term_at k (logs c ++ e ∷ [])) en ∙ term_push (logs c) e in omega arith
        go (inr h) = let a = m.bound c n p h in let b = term_push_below (logs c) e n h in omega arith

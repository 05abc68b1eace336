-- Numbers of entries, move by move.
use Rattle.std.proofs.Common.{◌≡◌, ◌≢◌, ℕ, zero, suc, ◌<◌, ◌≤◌, cond, ◌⊎◌, inl, inr, Bool, false, Option, Some, None, [], ◌∷◌, ◌++◌, length, take, refl, sym, ◌∙◌, ap, arith}
use Rattle.std.proofs.lemmas.Bool.{cases_lt}
use Rattle.std.proofs.lemmas.List.{take-append-le, length_push}
use Rattle.cat_model.specs.declared.command.Entry.{Entry}
use Rattle.raft_model.specs.Log.{Log, number_at}
use Rattle.raft_model.proofs.History.{History, put, NumbersApart, IsNewNumber, Sound}
use Rattle.cat_model.specs.declared.reply.Role.{Role}
use Rattle.cat_model.specs.declared.reply.Role.TheVariants.{Follower, Leader}
use Rattle.raft_model.proofs.Election.{at_eq, at_put, put_other}

pub number_take : (n m : ℕ) (x : Log) → n ≤ m → number_at n (take m x) ≡ number_at n x
number_take zero m x h = refl
number_take (suc n) zero x h = absurd (omega arith)
number_take (suc n) (suc m) [] h = refl
number_take (suc zero) (suc m) (e ∷ es) h = refl
number_take (suc (suc n)) (suc m) (e ∷ es) h = number_take (suc n) m es (omega arith)

pub agree_number : (k n : ℕ) (x y : Log) → k ≤ n → take n x ≡ take n y → number_at k x ≡ number_at k y
agree_number k n x y h e = sym (number_take k n x h) ∙ ap (number_at k) e ∙ number_take k n y h

number_push : (x : Log) (e : Entry) (n : ℕ) → n ≡ suc (length x) → number_at n (x ++ e ∷ []) ≡ e.number
number_push [] e n q = rw q refl
number_push (a ∷ x) e n q = ap (λ z. number_at z (a ∷ (x ++ e ∷ []))) q ∙ number_push x e (suc (length x)) refl

number_push_below : (x : Log) (e : Entry) (n : ℕ) → n ≤ length x → number_at n (x ++ e ∷ []) ≡ number_at n x
number_push_below x e n l = agree_number n n (x ++ e ∷ []) x (omega arith) (take-append-le n x (e ∷ []) l)

pub numbers_rise : (terms : ℕ → ℕ) (roles : ℕ → Role) (leaders : ℕ → Option ℕ) (first ledger : ℕ → Log) (spent : ℕ → Bool) (g : ℕ) → NumbersApart terms roles leaders first ledger spent g → (i t : ℕ) → NumbersApart (put terms i t) (put roles i Follower) leaders first ledger spent g
numbers_rise terms roles leaders first ledger spent g s i t = record {
  apart = s.apart;
  known = s.known;
  across = s.across;
  leading = λ c. at_eq (λ b. cond b Follower (roles c) ≡ Leader → spent (cond b t (terms c)) ≡ false) c i (λ _ e. cc e) (λ _. s.leading c);
  unled = s.unled;
}

pub numbers_role : (terms : ℕ → ℕ) (roles : ℕ → Role) (leaders : ℕ → Option ℕ) (first ledger : ℕ → Log) (spent : ℕ → Bool) (g : ℕ) → NumbersApart terms roles leaders first ledger spent g → (i : ℕ) (r : Role) → r ≢ Leader → NumbersApart terms (put roles i r) leaders first ledger spent g
numbers_role terms roles leaders first ledger spent g s i r ne = record {
  apart = s.apart;
  known = s.known;
  across = s.across;
  leading = λ c. at_put (λ z. z ≡ Leader → spent (terms c) ≡ false) roles i r c (λ _ e. absurd (ne e)) (λ _. s.leading c);
  unled = s.unled;
}

pub numbers_win : (servers : ℕ) (h : History) → Sound servers h → (c : ℕ) → h.leaders (h.terms c) ≡ None → NumbersApart h.terms (put h.roles c Leader) (put h.leaders (h.terms c) (Some c)) (put h.first (h.terms c) (h.logs c)) (put h.ledger (h.terms c) (h.logs c)) h.spent h.greatest
numbers_win servers h s c none = record {
  apart = λ t m k. at_eq (λ b. length (cond b (h.logs c) (h.first t)) < m → m < k → k ≤ length (cond b (h.logs c) (h.ledger t)) → number_at m (cond b (h.logs c) (h.ledger t)) ≡ number_at k (cond b (h.logs c) (h.ledger t)) → number_at m (cond b (h.logs c) (h.ledger t)) ≡ 0) t (h.terms c)
      (λ _ p q r _. absurd (omega arith)) (λ _. s.numbers.apart t m k);
  known = λ t m e. at_eq (λ b. length (cond b (h.logs c) (h.first t)) < m → m ≤ length (cond b (h.logs c) (h.ledger t)) → number_at m (cond b (h.logs c) (h.ledger t)) ≤ h.greatest) t (h.terms c)
      (λ _ p q. absurd (omega arith)) (λ _. s.numbers.known t m e);
  across = λ t u m k ne e f. at_eq (λ b. length (cond b (h.logs c) (h.first t)) < m → m ≤ length (cond b (h.logs c) (h.ledger t)) → length (put h.first (h.terms c) (h.logs c) u) < k → k ≤ length (put h.ledger (h.terms c) (h.logs c) u) → number_at m (cond b (h.logs c) (h.ledger t)) ≡ number_at k (put h.ledger (h.terms c) (h.logs c) u) → number_at m (cond b (h.logs c) (h.ledger t)) ≡ 0) t (h.terms c)
      (λ _ p q. absurd (omega arith))
      (λ _ p q. at_eq (λ b. length (cond b (h.logs c) (h.first u)) < k → k ≤ length (cond b (h.logs c) (h.ledger u)) → number_at m (h.ledger t) ≡ number_at k (cond b (h.logs c) (h.ledger u)) → number_at m (h.ledger t) ≡ 0) u (h.terms c)
      (λ _ p' q'. absurd (omega arith)) (λ _ p' q'. s.numbers.across t u m k ne e f p q p' q'));
  leading = λ d. at_put (λ z. z ≡ Leader → h.spent (h.terms d) ≡ false) h.roles c Leader d (λ q _. ap (λ z. h.spent (h.terms z)) q ∙ s.numbers.unled (h.terms c) none) (λ _. s.numbers.leading d);
  unled = λ t. at_put (λ z. z ≡ None → h.spent t ≡ false) h.leaders (h.terms c) (Some c) t (λ _ e. cc e) (λ _. s.numbers.unled t);
}

pub numbers_append : (servers : ℕ) (h : History) → Sound servers h → (c : ℕ) (e : Entry) → h.roles c ≡ Leader → IsNewNumber h e.number → NumbersApart h.terms h.roles h.leaders h.first (put h.ledger (h.terms c) (h.ledger (h.terms c) ++ e ∷ [])) h.spent h.greatest
numbers_append servers h s c e lead fresh = record {
  apart = λ t m k. at_eq (λ b. length (h.first t) < m → m < k → k ≤ length (cond b new (h.ledger t)) → number_at m (cond b new (h.ledger t)) ≡ number_at k (cond b new (h.ledger t)) → number_at m (cond b new (h.ledger t)) ≡ 0) t (h.terms c)
      (λ q p r l. own m k (let z = ap (λ z. length (h.first z)) q in omega arith) r l fresh (cases_lt (length (h.ledger (h.terms c))) k)) (λ _. s.numbers.apart t m k);
  known = λ t m f. at_eq (λ b. length (h.first t) < m → m ≤ length (cond b new (h.ledger t)) → number_at m (cond b new (h.ledger t)) ≤ h.greatest) t (h.terms c)
      (λ q p l. mine m (let z = ap (λ z. length (h.first z)) q in omega arith) l fresh (cases_lt (length (h.ledger (h.terms c))) m)) (λ _. s.numbers.known t m f);
  across = λ t u m k ne f g. at_eq (λ b. length (h.first t) < m → m ≤ length (cond b new (h.ledger t)) → length (h.first u) < k → k ≤ length (put h.ledger (h.terms c) new u) → number_at m (cond b new (h.ledger t)) ≡ number_at k (put h.ledger (h.terms c) new u) → number_at m (cond b new (h.ledger t)) ≡ 0) t (h.terms c)
      (λ q p l p' l' en.
      let other : put h.ledger (h.terms c) new u ≡ h.ledger u = put_other h.ledger (h.terms c) new u (λ z. ne (q ∙ sym z)) in
      apart_from m u k (let z = ap (λ z. length (h.first z)) q in omega arith) l (λ z. ne (q ∙ z)) g p' (let z = ap length other in omega arith) (en ∙ ap (number_at k) other) fresh (cases_lt (length (h.ledger (h.terms c))) m))
      (λ nt p l p' l' en. back t u m k ne f g nt p l p' l' en);
  leading = s.numbers.leading;
  unled = s.numbers.unled;
}
  where
    new : Log
    new = h.ledger (h.terms c) ++ e ∷ []

    fits : h.spent (h.terms c) ≡ false
    fits = s.numbers.leading c lead

    own : (m k : ℕ) → length (h.first (h.terms c)) < m → m < k → k ≤ length new → IsNewNumber h e.number → (length (h.ledger (h.terms c)) < k) ⊎ (k ≤ length (h.ledger (h.terms c))) → number_at m new ≡ number_at k new → number_at m new ≡ 0
    own m k p r l f (inr z) q =
        let a = number_push_below (h.ledger (h.terms c)) e m (omega arith) in
        let b = number_push_below (h.ledger (h.terms c)) e k z in
        a ∙ s.numbers.apart (h.terms c) m k p r z (sym a ∙ q ∙ b)
    own m k p r l (inl f) (inl z) q = q ∙ number_push (h.ledger (h.terms c)) e k (omega (arith, length_push (h.ledger (h.terms c)) e)) ∙ f
    own m k p r l (inr f) (inl z) q =
        let u = number_push (h.ledger (h.terms c)) e k (omega (arith, length_push (h.ledger (h.terms c)) e)) in
        let lm : m ≤ length (h.ledger (h.terms c)) = omega (arith, length_push (h.ledger (h.terms c)) e) in
        let a = number_push_below (h.ledger (h.terms c)) e m lm in
        let b = f.0 (h.terms c) m fits p lm in absurd (omega (arith, q, u, a, b))

    mine : (m : ℕ) → length (h.first (h.terms c)) < m → m ≤ length new → IsNewNumber h e.number → (length (h.ledger (h.terms c)) < m) ⊎ (m ≤ length (h.ledger (h.terms c))) → number_at m new ≤ h.greatest
    mine m p l f (inr z) =
        let a = number_push_below (h.ledger (h.terms c)) e m z in
        let w = s.numbers.known (h.terms c) m fits p z in omega (arith, a, w)
    mine m p l (inl f) (inl z) = let u = number_push (h.ledger (h.terms c)) e m (omega (arith, length_push (h.ledger (h.terms c)) e)) in omega (arith, u, f)
    mine m p l (inr f) (inl z) = let u = number_push (h.ledger (h.terms c)) e m (omega (arith, length_push (h.ledger (h.terms c)) e)) in omega (arith, u, f.1)

    -- the new entry's number is that of no entry of another term
    apart_from : (m u k : ℕ) → length (h.first (h.terms c)) < m → m ≤ length new → h.terms c ≢ u → h.spent u ≡ false → length (h.first u) < k → k ≤ length (h.ledger u) → number_at m new ≡ number_at k (h.ledger u) → IsNewNumber h e.number → (length (h.ledger (h.terms c)) < m) ⊎ (m ≤ length (h.ledger (h.terms c))) → number_at m new ≡ 0
    apart_from m u k p l ne g p' l' en f (inr z) =
        let a = number_push_below (h.ledger (h.terms c)) e m z in
        a ∙ s.numbers.across (h.terms c) u m k ne fits g p z p' l' (sym a ∙ en)
    apart_from m u k p l ne g p' l' en (inl f) (inl z) = number_push (h.ledger (h.terms c)) e m (omega (arith, length_push (h.ledger (h.terms c)) e)) ∙ f
    apart_from m u k p l ne g p' l' en (inr f) (inl z) =
        let v = number_push (h.ledger (h.terms c)) e m (omega (arith, length_push (h.ledger (h.terms c)) e)) in
        let b = f.0 u k g p' l' in absurd (omega (arith, en, v, b))

    back : (t u m k : ℕ) → t ≢ u → h.spent t ≡ false → h.spent u ≡ false → t ≢ h.terms c → length (h.first t) < m → m ≤ length (h.ledger t) → length (h.first u) < k → k ≤ length (put h.ledger (h.terms c) new u) → number_at m (h.ledger t) ≡ number_at k (put h.ledger (h.terms c) new u) → number_at m (h.ledger t) ≡ 0
    back t u m k ne f g nt p l p' = at_eq (λ b. k ≤ length (cond b new (h.ledger u)) → number_at m (h.ledger t) ≡ number_at k (cond b new (h.ledger u)) → number_at m (h.ledger t) ≡ 0) u (h.terms c)
        (λ q l' en. en ∙ apart_from k t m (let z = ap (λ z. length (h.first z)) q in omega arith) l' (λ z. nt (sym z)) f p l (sym en) fresh (cases_lt (length (h.ledger (h.terms c))) k))
        (λ _ l' en. s.numbers.across t u m k ne f g p l p' l' en)

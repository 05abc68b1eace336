-- What a log is after it accepts a part of a ledger that it matches.
use Rattle.std.proofs.Common.{◌≡◌, ◌≢◌, ℕ, zero, suc, ◌+◌, ◌-◌, ◌<◌, ◌≤◌, true, false, cond, ◌⊎◌, inl, inr, [], ◌∷◌, ◌++◌, length, take, drop, refl, sym, ◌∙◌, ap, subst, arith}
use Rattle.std.specs.Prelude.{◌==◌}
use Rattle.std.proofs.lemmas.Bool.Decides.{eqb_tells}
use Rattle.std.proofs.lemmas.List.{take-take, length-drop, take-append-drop, drop-take}
use Rattle.cat_model.specs.declared.command.Entry.{Entry}
use Rattle.raft_model.specs.Log.{Log, term_at, merged, accepted}
use Rattle.std.proofs.Math.Seq.{take-add}
use Rattle.std.proofs.lemmas.Bool.{cases_lt}
use Rattle.raft_model.proofs.History.{Follows}
use Rattle.raft_model.proofs.Election.{at_eq}

-- same term at the same index, same front
abbrev pub Match : Log → Log → Type 0
Match x y = (n : ℕ) → n ≤ length x → n ≤ length y → term_at n x ≡ term_at n y → take n x ≡ take n y

Match-tail : (a b : Entry) (x y : Log) → Match (a ∷ x) (b ∷ y) → Match x y
Match-tail a b x y m zero hx hy e = refl
Match-tail a b x y m (suc n) hx hy e = let h : a ∷ take (suc n) x ≡ b ∷ take (suc n) y = m (suc (suc n)) (omega arith) (omega arith) e in cc h

abbrev Merged : Log → Log → ℕ → Type 0
Merged x y k = ((merged x (take k y) ≡ x) × (take k x ≡ take k y)) ⊎ ((merged x (take k y) ≡ take k y) × ((n : ℕ) → n ≤ length y → take n x ≡ take n y → n < k))

merged_same : (a b : Entry) (x y : Log) (k : ℕ) → a ≡ b → Merged x y k → Merged (a ∷ x) (b ∷ y) (suc k)
merged_same a b x y k e (inl h) = inl (at_eq (λ t. cond t (a ∷ merged x (take k y)) (b ∷ take k y) ≡ a ∷ x) a.term b.term (λ _. ap (λ z. a ∷ z) h.0) (λ ne. absurd (ne (ap (λ (z : Entry). z.term) e))), cc (h.1))
merged_same a b x y k e (inr h) = inr (at_eq (λ t. cond t (a ∷ merged x (take k y)) (b ∷ take k y) ≡ b ∷ take k y) a.term b.term (λ _. cc (h.0)) (λ ne. refl), less)
  where
    less : (n : ℕ) → n ≤ suc (length y) → take n (a ∷ x) ≡ take n (b ∷ y) → n < suc k
    less zero l g = omega arith
    less (suc n) l g = let r = h.1 n (omega arith) (cc g) in omega arith

merged_apart : (a b : Entry) (x y : Log) (k : ℕ) → a.term ≢ b.term → Merged (a ∷ x) (b ∷ y) (suc k)
merged_apart a b x y k ne = inr (at_eq (λ t. cond t (a ∷ merged x (take k y)) (b ∷ take k y) ≡ b ∷ take k y) a.term b.term (λ e. absurd (ne e)) (λ _. refl), less)
  where
    less : (n : ℕ) → n ≤ suc (length y) → take n (a ∷ x) ≡ take n (b ∷ y) → n < suc k
    less zero l g = omega arith
    less (suc n) l g = let h : a ≡ b = cc g in absurd (ne (ap (λ (z : Entry). z.term) h))

merged_nil : (b : Entry) (y : Log) (k n : ℕ) → take n [] ≡ take n (b ∷ y) → n < suc k
merged_nil b y k zero g = omega arith
merged_nil b y k (suc n) g = cc g

merged_step : (a b : Entry) (x y : Log) (k : ℕ) → Match (a ∷ x) (b ∷ y) → ((a.term == b.term ≡ true) × (a.term ≡ b.term)) ⊎ ((a.term == b.term ≡ false) × (a.term ≢ b.term)) → Merged x y k → Merged (a ∷ x) (b ∷ y) (suc k)
merged_step a b x y k m (inl e) r = let h : a ∷ [] ≡ b ∷ [] = m 1 (omega arith) (omega arith) e.1 in merged_same a b x y k (cc h) r
merged_step a b x y k m (inr e) r = merged_apart a b x y k e.1

merged_is : (x y : Log) (k : ℕ) → k ≤ length y → Match x y → Merged x y k
merged_is x y zero l m = inl (refl, refl)
merged_is x [] (suc k) l m = absurd (omega arith)
merged_is [] (b ∷ y) (suc k) l m = inr (refl, λ n _ g. merged_nil b y k n g)
merged_is (a ∷ x) (b ∷ y) (suc k) l m = merged_step a b x y k m (eqb_tells a.term b.term) (merged_is x y k (omega arith) (Match-tail a b x y m))

term_nil : (n : ℕ) → term_at n [] ≡ 0
term_nil zero = refl
term_nil (suc n) = refl

term_cons : (a : Entry) (x : Log) (n m : ℕ) → n ≡ suc (suc m) → term_at n (a ∷ x) ≡ term_at (suc m) x
term_cons a x n m e = rw e refl

term_drop : (p n k : ℕ) (x : Log) → k ≡ p + suc n → term_at (suc n) (drop p x) ≡ term_at k x
term_drop zero n k x e = let h : k ≡ suc n = omega arith in rw h refl
term_drop (suc p) n k [] e = sym (term_nil k)
term_drop (suc p) n k (a ∷ x) e = term_drop p n (suc (p + n)) x (omega arith) ∙ sym (term_cons a x k (p + n) (omega arith))

pub match_logs : (ledger : ℕ → Log) (x y : Log) → Follows ledger x → Follows ledger y → Match x y
match_logs ledger x y fx fy n hx hy e = fx n hx ∙ ap (λ t. take n (ledger t)) e ∙ sym (fy n hy)

match_drop : (x y : Log) (p : ℕ) → Match x y → Match (drop p x) (drop p y)
match_drop x y p m zero hx hy e = refl
match_drop x y p m (suc n) hx hy e =
    let h = m (p + suc n) (omega (arith, length-drop p x)) (omega (arith, length-drop p y)) (sym (term_drop p n (p + suc n) x refl) ∙ e ∙ term_drop p n (p + suc n) y refl) in
    sym (drop-take p (suc n) x) ∙ ap (drop p) h ∙ drop-take p (suc n) y

pub record Accepts (x y : Log) (prev k : ℕ) : Type 0 where
  pub front : (accepted x prev (take k (drop prev y)) ≡ x) ⊎ (accepted x prev (take k (drop prev y)) ≡ take (prev + k) y)
  pub keeps : (n : ℕ) → n ≤ length y → take n x ≡ take n y → take n (accepted x prev (take k (drop prev y))) ≡ take n y
  pub reaches : take (prev + k) (accepted x prev (take k (drop prev y))) ≡ take (prev + k) y

short_from : (x y : Log) (prev k n : ℕ) → n ≤ length y → take n x ≡ take n y → (take (n - prev) (drop prev x) ≡ take (n - prev) (drop prev y) → n - prev < k) → n ≤ prev + k
short_from x y prev k n ln a h = go (cases_lt prev n)
  where
    go : (prev < n) ⊎ (n ≤ prev) → n ≤ prev + k
    go (inr l) = omega arith
    go (inl l) =
        let e : n ≡ prev + (n - prev) = omega arith in
        let b : take (prev + (n - prev)) x ≡ take (prev + (n - prev)) y = subst (λ z. take z x ≡ take z y) e a in
        let r = h (sym (drop-take prev (n - prev) x) ∙ ap (drop prev) b ∙ drop-take prev (n - prev) y) in
        omega arith

accepts_from : (x y : Log) (prev k : ℕ) → prev + k ≤ length y → take prev x ≡ take prev y → Merged (drop prev x) (drop prev y) k → Accepts x y prev k
accepts_from x y prev k l f (inl h) =
    let e : accepted x prev (take k (drop prev y)) ≡ x = ap (λ z. take prev x ++ z) h.0 ∙ take-append-drop prev x in
    let g : take (prev + k) x ≡ take (prev + k) y = take-add prev k x ∙ ap (λ z. take prev x ++ z) h.1 ∙ ap (λ z. z ++ take k (drop prev y)) f ∙ sym (take-add prev k y) in
    record { front = inl e; keeps = λ n _ a. ap (take n) e ∙ a; reaches = ap (take (prev + k)) e ∙ g }
accepts_from x y prev k l f (inr h) =
    let e : accepted x prev (take k (drop prev y)) ≡ take (prev + k) y = ap (λ z. take prev x ++ z) h.0 ∙ ap (λ z. z ++ take k (drop prev y)) f ∙ sym (take-add prev k y) in
    record {
      front = inr e;
      keeps = λ n ln a. ap (take n) e ∙ take-take n (prev + k) y (short n ln a);
      reaches = ap (take (prev + k)) e ∙ take-take (prev + k) (prev + k) y (omega arith);
    }
  where
    short : (n : ℕ) → n ≤ length y → take n x ≡ take n y → n ≤ prev + k
    short n ln a = short_from x y prev k n ln a (h.1 (n - prev) (omega (arith, length-drop prev y)))

pub accepts : (ledger : ℕ → Log) (x y : Log) (prev k : ℕ) → Follows ledger x → Follows ledger y → prev ≤ length x → prev + k ≤ length y → term_at prev x ≡ term_at prev y → Accepts x y prev k
accepts ledger x y prev k fx fy lx ly e =
    let m = match_logs ledger x y fx fy in
    accepts_from x y prev k ly (m prev lx (omega arith) e) (merged_is (drop prev x) (drop prev y) k (omega (arith, length-drop prev y)) (match_drop x y prev m))

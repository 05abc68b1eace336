-- Elements of lists, and processes of which one has made its next step.
use Rattle.std.proofs.Common.{ℕ, List, [], ap, arith, get_or, inl, inr, length, refl, set, subst, suc, sym, zero, ◌<◌, ◌∙◌, ◌∷◌, ◌≡◌, ◌≢◌, ◌⊎◌}
use Rattle.std.specs.Prelude.{Contains}
use Rattle.std.proofs.lemmas.Bool.Decides.{eqb_tells}
use Rattle.std.proofs.lemmas.List.{get_or-set_same, get_or-set_other, length-set}
use Rattle.node_journals.specs.Journals.{IsProcess, Made, Process, Step}

pub first_or : {A : Type 0} (x z : A) (xs : List A) → Contains (x ∷ xs) z → (x ≡ z) ⊎ Contains xs z
first_or x z xs (k, l, e) = go k l e
  where
    go : (k : ℕ) → k < length (x ∷ xs) → get_or (x ∷ xs) k z ≡ z → (x ≡ z) ⊎ Contains xs z
    go zero l e = inl e
    go (suc k) l e = inr (k, omega arith, e)

pub at_first : {A : Type 0} (x : A) (xs : List A) → Contains (x ∷ xs) x
at_first x xs = (zero, omega arith, refl)

pub behind : {A : Type 0} (x z : A) (xs : List A) → Contains xs z → Contains (x ∷ xs) z
behind x z xs (k, l, e) = (suc k, omega arith, e)

pub in_none : {A : Type 0} (z : A) → Contains [] z → ⊥
in_none z (k, l, e) = absurd (omega arith)

pub same_or_not : (a b : ℕ) → (a ≡ b) ⊎ (a ≢ b)
same_or_not a b = elim (eqb_tells a b) [ inl h ↦ inl (h.1) | inr h ↦ inr (h.1) ]

-- an element after a write is the new one or an old one
pub at_set : {A : Type 0} (P : ℕ → A → Type 0) (xs : List A) (i : ℕ) (x : A) (j : ℕ) (d : A) → j < length xs → (j ≡ i → P j x) → (j ≢ i → P j (get_or xs j d)) → P j (get_or (set xs i x) j d)
at_set P xs i x j d l same apart = go (same_or_not j i)
  where
    go : (j ≡ i) ⊎ (j ≢ i) → P j (get_or (set xs i x) j d)
    go (inl e) = subst (P j) (sym (subst (λ z. get_or (set xs i x) z d ≡ x) (sym e) (get_or-set_same xs i x d (subst (λ z. z < length xs) e l)))) (same e)
    go (inr ne) = subst (P j) (sym (get_or-set_other xs i j x d ne)) (apart ne)

-- process `at` + 1 has made its first step
abbrev pub stepped : List Process → ℕ → Step → List Step → List Process
stepped ps at s rest = set ps at (record { start = s.node; steps = rest })

-- that step was the next one
pub record IsNext (ps : List Process) (at : ℕ) (s : Step) (rest : List Step) : Type 0 where
  pub within : at < length ps
  pub steps : (d : Process) → (get_or ps at d).steps ≡ s ∷ rest

pub is_stepped : (ps : List Process) (at : ℕ) (s : Step) (rest : List Step) → IsNext ps at s rest → IsProcess (stepped ps at s rest) (suc at) (record { start = s.node; steps = rest })
is_stepped ps at s rest n =
    let q : Process = record { start = s.node; steps = rest } in
    (subst (λ z. at < z) (sym (length-set ps at q)) n.within, get_or-set_same ps at q q n.within)

pub is_other : (ps : List Process) (at : ℕ) (s : Step) (rest : List Step) (j : ℕ) (p : Process) → j ≢ at → IsProcess ps (suc j) p → IsProcess (stepped ps at s rest) (suc j) p
is_other ps at s rest j p ne (l, e) =
    let q : Process = record { start = s.node; steps = rest } in
    (subst (λ z. j < z) (sym (length-set ps at q)) l, get_or-set_other ps at j q p ne ∙ e)

-- what a process made it makes from now on, or it is this step
pub made_or : (ps : List Process) (at : ℕ) (s : Step) (rest : List Step) → IsNext ps at s rest → (i : ℕ) (e : Step) → Made ps i e → Made (stepped ps at s rest) i e ⊎ ((suc at ≡ i) × (s ≡ e))
made_or ps at s rest n zero e (p, is, c) = absurd is
made_or ps at s rest n (suc j) e (p, is, c) = go (same_or_not j at)
  where
    go : (j ≡ at) ⊎ (j ≢ at) → Made (stepped ps at s rest) (suc j) e ⊎ ((suc at ≡ suc j) × (s ≡ e))
    go (inr ne) = inl (p, is_other ps at s rest j p ne is, c)
    go (inl same) =
        let own : p.steps ≡ s ∷ rest = ap (λ (z : Process). z.steps) (sym (is.1)) ∙ subst (λ z. (get_or ps z p).steps ≡ s ∷ rest) (sym same) (n.steps p) in
        elim (first_or s e rest (subst (λ z. Contains z e) own c)) [
          | inl q ↦ inr (ap suc (sym same), q)
          | inr q ↦ inl (record { start = s.node; steps = rest }, subst (λ z. IsProcess (stepped ps at s rest) (suc z) (record { start = s.node; steps = rest })) (sym same) (is_stepped ps at s rest n), q)
        ]

-- a process's steps from now on are among its steps
pub among : (ps : List Process) (at : ℕ) (s : Step) (rest : List Step) → IsNext ps at s rest → (j : ℕ) (d : Process) (e : Step) → j < length ps → Contains (get_or (stepped ps at s rest) j d).steps e → Contains (get_or ps j d).steps e
among ps at s rest n j d e l = at_set (λ j (z : Process). Contains z.steps e → Contains (get_or ps j d).steps e) ps at (record { start = s.node; steps = rest }) j d l
    (λ same c. subst (λ z. Contains z e) (sym (subst (λ z. (get_or ps z d).steps ≡ s ∷ rest) (sym same) (n.steps d))) (behind s e rest c))
    (λ ne c. c)

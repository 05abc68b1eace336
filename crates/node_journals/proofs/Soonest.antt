-- Of the next steps of all processes the one at the earliest time.
use Rattle.std.proofs.Common.{ℕ, List, [], arith, get_or, inl, inr, length, refl, subst, suc, zero, ◌<◌, ◌∷◌, ◌≡◌, ◌≤◌, ◌⊎◌}
use Rattle.std.specs.Prelude.{Contains}
use Rattle.std.proofs.lemmas.Bool.Decides.{leb_tells}
use Rattle.node_journals.proofs.Lists.{first_or, in_none, IsNext}
use Rattle.node_journals.specs.Causal.{Rises}
use Rattle.node_journals.specs.Journals.{Process, Step}

in_order : (a b : ℕ) → (a ≤ b) ⊎ (b < a)
in_order a b = elim (leb_tells a b) [ inl h ↦ inl (h.1) | inr h ↦ inr (h.1) ]

pub rises_from : (low from : ℕ) (steps : List Step) → low ≤ from → Rises from steps → Rises low steps
rises_from low from [] l r = tt
rises_from low from (s ∷ steps) l r = (let q = r.0 in omega arith, r.1)

pub rises_all : (from : ℕ) (steps : List Step) (e : Step) → Rises from steps → Contains steps e → from ≤ e.time
rises_all from [] e r c = absurd (in_none e c)
rises_all from (s ∷ steps) e r c = elim (first_or s e steps c) [
  | inl q ↦ subst (λ (z : Step). from ≤ z.time) q r.0
  | inr q ↦ let x = r.0 in let y = rises_all (suc s.time) steps e r.1 q in omega arith
]

abbrev pub AllRise : List Process → Type 0
AllRise ps = (j : ℕ) (d : Process) → j < length ps → Rises 0 (get_or ps j d).steps

abbrev pub AllDone : List Process → Type 0
AllDone ps = (j : ℕ) (d : Process) → j < length ps → (get_or ps j d).steps ≡ []

-- none is before this time
abbrev pub AllFrom : ℕ → List Process → Type 0
AllFrom time ps = (j : ℕ) (d : Process) (e : Step) → j < length ps → Contains (get_or ps j d).steps e → time ≤ e.time

pub record Soonest (ps : List Process) : Type 0 where
  pub at : ℕ
  pub step : Step
  pub rest : List Step
  pub next : IsNext ps at step rest
  pub least : AllFrom step.time ps

-- the first process is the soonest
here : (p : Process) (ps : List Process) (s : Step) (rest : List Step) → p.steps ≡ s ∷ rest → Rises 0 p.steps → AllFrom s.time ps → Soonest (p ∷ ps)
here p ps s rest e r a = record {
  at = zero;
  step = s;
  rest = rest;
  next = record { within = omega arith; steps = λ d. e };
  least = λ j d t l c. from j d t l c;
}
  where
    own : Rises 0 (s ∷ rest)
    own = subst (Rises 0) e r

    from : (j : ℕ) (d : Process) (t : Step) → j < length (p ∷ ps) → Contains (get_or (p ∷ ps) j d).steps t → s.time ≤ t.time
    from zero d t l c = rises_all s.time (s ∷ rest) t (omega arith, own.1) (subst (λ z. Contains z t) e c)
    from (suc j) d t l c = a j d t (omega arith) c

-- one of the others is
there : (p : Process) (ps : List Process) (r : Soonest ps) → ((t : Step) → Contains p.steps t → r.step.time ≤ t.time) → Soonest (p ∷ ps)
there p ps r a = record {
  at = suc r.at;
  step = r.step;
  rest = r.rest;
  next = record { within = let l = r.next.within in omega arith; steps = r.next.steps };
  least = λ j d t l c. from j d t l c;
}
  where
    from : (j : ℕ) (d : Process) (t : Step) → j < length (p ∷ ps) → Contains (get_or (p ∷ ps) j d).steps t → r.step.time ≤ t.time
    from zero d t l c = a t c
    from (suc j) d t l c = r.least j d t (omega arith) c

done_from : (time : ℕ) (ps : List Process) → AllDone ps → AllFrom time ps
done_from time ps done j d t l c = absurd (in_none t (subst (λ z. Contains z t) (done j d l) c))

choose : (p : Process) (ps : List Process) (steps : List Step) → p.steps ≡ steps → Rises 0 p.steps → AllDone ps ⊎ Soonest ps → AllDone (p ∷ ps) ⊎ Soonest (p ∷ ps)
choose p ps [] e r (inl done) = inl (λ j d l. all j d l)
  where
    all : (j : ℕ) (d : Process) → j < length (p ∷ ps) → (get_or (p ∷ ps) j d).steps ≡ []
    all zero d l = e
    all (suc j) d l = done j d (omega arith)
choose p ps [] e r (inr s) = inr (there p ps s (λ t c. absurd (in_none t (subst (λ z. Contains z t) e c))))
choose p ps (t ∷ rest) e r (inl done) = inr (here p ps t rest e r (done_from t.time ps done))
choose p ps (t ∷ rest) e r (inr s) = inr (earlier (in_order t.time s.step.time))
  where
    own : Rises 0 (t ∷ rest)
    own = subst (Rises 0) e r

    earlier : (t.time ≤ s.step.time) ⊎ (s.step.time < t.time) → Soonest (p ∷ ps)
    earlier (inl l) = here p ps t rest e r (λ j d u lj c. let q = s.least j d u lj c in omega arith)
    earlier (inr l) = there p ps s (λ u c. let q = rises_all t.time (t ∷ rest) u (omega arith, own.1) (subst (λ z. Contains z u) e c) in omega arith)

pub soonest : (ps : List Process) → AllRise ps → AllDone ps ⊎ Soonest ps
soonest [] r = inl (λ j d l. absurd (omega arith))
soonest (p ∷ ps) r = choose p ps p.steps refl (r zero p (omega arith)) (soonest ps (λ j d l. r (suc j) d (omega arith)))

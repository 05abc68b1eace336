-- The messages of a bag, of which one is taken out or another one comes.
use Rattle.std.proofs.Common.{◌≡◌, ℕ, ◌⊎◌, inl, inr, cond, List, [], ◌∷◌, ◌++◌, Some, refl, ◌∙◌, ap, subst}
use Rattle.std.specs.Prelude.{◌==◌}
use Rattle.std.specs.List.{AllByRecursion as Each}
use Rattle.raft_model.specs.World.{Packet, numbered, without}
use Rattle.raft_model.proofs.Tests.{at_bool}
use Rattle.cluster_rules.specs.Sound.{IsAmong}

same_packet : (p q : Packet) → Some p ≡ Some q → p ≡ q
same_packet p q e = cc e

pub each_without : (P : Packet → Type 0) (k : ℕ) (ps : List Packet) → Each P ps → Each P (without k ps)
each_without P k [] a = tt
each_without P k (p ∷ ps) a = at_bool (λ b. Each P (cond b ps (p ∷ without k ps))) (p.number == k) (λ _. a.1) (λ _. (a.0, each_without P k ps a.1))

pub each_numbered : (P : Packet → Type 0) (k : ℕ) (ps : List Packet) (p : Packet) → numbered k ps ≡ Some p → Each P ps → P p
each_numbered P k [] p e a = cc e
each_numbered P k (q ∷ ps) p e a = at_bool (λ b. cond b (Some q) (numbered k ps) ≡ Some p → P p) (q.number == k)
    (λ _ e. subst P (same_packet q p e) a.0) (λ _ e. each_numbered P k ps p e a.1) e

-- each message is the one taken out, or it stays
pub among_without : (k : ℕ) (ps : List Packet) (p q : Packet) → numbered k ps ≡ Some p → IsAmong q ps → (q ≡ p) ⊎ IsAmong q (without k ps)
among_without k [] p q e m = absurd m
among_without k (x ∷ ps) p q e m = at_bool (λ b. cond b (Some x) (numbered k ps) ≡ Some p → (q ≡ x) ⊎ IsAmong q ps → (q ≡ p) ⊎ IsAmong q (cond b ps (x ∷ without k ps))) (x.number == k)
    (λ _ e m. elim m [ inl z ↦ inl (z ∙ same_packet x p e) | inr z ↦ inr z ])
    (λ _ e m. elim m [ inl z ↦ inr (inl z) | inr z ↦ elim (among_without k ps p q e z) [ inl y ↦ inl y | inr y ↦ inr (inr y) ] ]) e m

-- with others behind it
pub without_then : (k : ℕ) (ps qs : List Packet) (p : Packet) → numbered k ps ≡ Some p → without k (ps ++ qs) ≡ without k ps ++ qs
without_then k [] qs p e = cc e
without_then k (x ∷ ps) qs p e = at_bool (λ b. cond b (Some x) (numbered k ps) ≡ Some p → cond b (ps ++ qs) (x ∷ without k (ps ++ qs)) ≡ cond b ps (x ∷ without k ps) ++ qs) (x.number == k)
    (λ _ _. refl) (λ _ e. ap (λ (z : List Packet). x ∷ z) (without_then k ps qs p e)) e

pub among_left : {A : Type 0} (x : A) (xs ys : List A) → IsAmong x xs → IsAmong x (xs ++ ys)
among_left x [] ys m = absurd m
among_left x (y ∷ xs) ys (inl e) = inl e
among_left x (y ∷ xs) ys (inr m) = inr (among_left x xs ys m)

pub among_last : {A : Type 0} (xs : List A) (x : A) → IsAmong x (xs ++ x ∷ [])
among_last [] x = inl refl
among_last (y ∷ xs) x = inr (among_last xs x)

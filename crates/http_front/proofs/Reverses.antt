-- Lists the other way round.
use Rattle.std.proofs.Common.{◌≡◌, ℕ, ◌⊎◌, inl, inr, List, [], ◌∷◌, ◌++◌, ◌==◌, reverse, refl, sym, ap, ◌∙◌, subst, append-nil, Option, Some, None}
use Rattle.std.proofs.lemmas.List.{reverse-append, reverse-reverse}
use Rattle.raft_model.proofs.Tests.{at_bool, eq_tells}
use Rattle.cluster_rules.proofs.Tools.{eq_tells_not}
use Rattle.cluster_rules.specs.Sound.{IsAmong}
use Rattle.turn_lock.specs.Lists.{Among, EachOnce, ahead, numbers}
use Rattle.turn_lock.proofs.Lists.{among_append, among_left, among_right, numbers_append}
use Rattle.http_exchanges.proofs.MarkLists.{in_left, in_right}

pub reverse_cons : {A : Type 0} → (x : A) (xs : List A) → reverse (x ∷ xs) ≡ reverse xs ++ x ∷ []
reverse_cons x xs = reverse-append (x ∷ []) xs

pub numbers_reverse : {I : Type 0} → (f : I → Option ℕ) (xs : List I) → numbers f (reverse xs) ≡ reverse (numbers f xs)
numbers_reverse f [] = refl
numbers_reverse f (x ∷ xs) =
    ap (numbers f) (reverse_cons x xs) ∙ (numbers_append f (reverse xs) (x ∷ []) ∙ (ap (λ (l : List ℕ). l ++ ahead (f x) []) (numbers_reverse f xs) ∙ last (f x) (numbers f xs)))
  where
    last : (o : Option ℕ) (ns : List ℕ) → reverse ns ++ ahead o [] ≡ reverse (ahead o ns)
    last None ns = append-nil (reverse ns)
    last (Some n) ns = sym (reverse_cons n ns)

pub none_reverse : {I : Type 0} → (f : I → Option ℕ) (xs : List I) → numbers f xs ≡ [] → numbers f (reverse xs) ≡ []
none_reverse f xs e = numbers_reverse f xs ∙ ap (λ (l : List ℕ). reverse l) e

pub among_reverse : (n : ℕ) (xs : List ℕ) → Among n xs → Among n (reverse xs)
among_reverse n [] a = a
among_reverse n (x ∷ xs) (inl e) = subst (Among n) (sym (reverse_cons x xs)) (among_right n (reverse xs) (x ∷ []) (inl e))
among_reverse n (x ∷ xs) (inr a) = subst (Among n) (sym (reverse_cons x xs)) (among_left n (reverse xs) (x ∷ []) (among_reverse n xs a))

pub among_back : (n : ℕ) (xs : List ℕ) → Among n (reverse xs) → Among n xs
among_back n xs a = subst (Among n) (reverse-reverse xs) (among_reverse n (reverse xs) a)

pub once_last : (xs : List ℕ) (x : ℕ) → EachOnce xs → (Among x xs → ⊥) → EachOnce (xs ++ x ∷ [])
once_last [] x o new = (λ a. a, o)
once_last (y ∷ xs) x o new = (λ a. apart (among_append y xs (x ∷ []) a), once_last xs x o.1 (λ a. new (inr a)))
  where
    apart : Among y xs ⊎ Among y (x ∷ []) → ⊥
    apart (inl a) = o.0 a
    apart (inr (inl e)) = new (inl (sym e))
    apart (inr (inr a)) = a

pub once_reverse : (xs : List ℕ) → EachOnce xs → EachOnce (reverse xs)
once_reverse [] o = o
once_reverse (x ∷ xs) o = subst EachOnce (sym (reverse_cons x xs)) (once_last (reverse xs) x (once_reverse xs o.1) (λ a. o.0 (among_back x xs a)))

pub in_reverse : {A : Type 0} → (x : A) (xs : List A) → IsAmong x xs → IsAmong x (reverse xs)
in_reverse x [] a = a
in_reverse x (y ∷ xs) (inl e) = subst (IsAmong x) (sym (reverse_cons y xs)) (in_right x (reverse xs) (y ∷ []) (inl e))
in_reverse x (y ∷ xs) (inr a) = subst (IsAmong x) (sym (reverse_cons y xs)) (in_left x (reverse xs) (y ∷ []) (in_reverse x xs a))

pub in_back : {A : Type 0} → (x : A) (xs : List A) → IsAmong x (reverse xs) → IsAmong x xs
in_back x xs a = subst (IsAmong x) (reverse-reverse xs) (in_reverse x (reverse xs) a)

pub among_or_not : (n : ℕ) (xs : List ℕ) → Among n xs ⊎ (Among n xs → ⊥)
among_or_not n [] = inr (λ a. a)
among_or_not n (x ∷ xs) = at_bool (λ b. Among n (x ∷ xs) ⊎ (Among n (x ∷ xs) → ⊥)) (x == n)
    (λ e. inl (inl (eq_tells x n e))) (λ e. more (eq_tells_not x n e) (among_or_not n xs))
  where
    more : (x ≡ n → ⊥) → Among n xs ⊎ (Among n xs → ⊥) → Among n (x ∷ xs) ⊎ (Among n (x ∷ xs) → ⊥)
    more d (inl a) = inl (inr a)
    more d (inr b) = inr (neither d b)
      where
        neither : (x ≡ n → ⊥) → (Among n xs → ⊥) → Among n (x ∷ xs) → ⊥
        neither d b (inl e) = d e
        neither d b (inr a) = b a

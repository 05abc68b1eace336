-- Which requests may have something due, as a watch goes on.
use Rattle.std.proofs.Common.{◌≡◌, ◌≢◌, inl, inr, ℕ, ◌+◌, ◌<◌, false, List, [], ◌∷◌, ◌++◌, get_or, length, take, refl, sym, ap, ◌∙◌, subst, arith}
use Rattle.std.proofs.lemmas.List.{take_more}
use Rattle.std.specs.Prelude.{◌==◌}
use Rattle.raft_model.proofs.Tests.{at_bool, eq_tells}
use Rattle.std.proofs.lemmas.Bool.Decides.{nat_tests}
use Rattle.read_watch.specs.Watch as plain
use Rattle.read_watch.specs.Watch.{Watch}
use Rattle.cluster_requests.specs.declared.slot.HeldSlot.{HeldSlot}
use Rattle.cluster_requests.specs.Held.{held_in}
use Rattle.cluster_requests.proofs.Slots.{held_more}
use Rattle.cluster_works.specs.Watching.{MayBeDue, StayAwake, Watching}

-- who is awake stays so, of one number
pub one_awake : (old new : Watching) (n : ℕ) → new.seen ≡ old.seen → (plain.IsAwake n old.watch → plain.IsAwake n new.watch) → MayBeDue n old → MayBeDue n new
one_awake old new n seen kept (inl later) = inl (subst (λ k. k < n) (sym seen) later)
one_awake old new n seen kept (inr awake) = inr (kept awake)

-- who is awake stays so, and no more are taken in
pub stay_by : (now old new : Watching) → old ≡ now → new.seen ≡ old.seen → ((n : ℕ) → plain.IsAwake n old.watch → plain.IsAwake n new.watch) → StayAwake now new
stay_by now old new is seen kept = subst (λ (w : Watching). StayAwake w new) is (λ n. one_awake old new n seen (kept n))

-- the same of all but one
pub others_stay_by : (now old new : Watching) (number : ℕ) → old ≡ now → new.seen ≡ old.seen → ((n : ℕ) → n ≢ number → plain.IsAwake n old.watch → plain.IsAwake n new.watch) → (n : ℕ) → n ≢ number → MayBeDue n now → MayBeDue n new
others_stay_by now old new number is seen kept = subst (λ (w : Watching). (n : ℕ) → n ≢ number → MayBeDue n w → MayBeDue n new) is (λ n other. one_awake old new n seen (kept n other))

past : (seen n : ℕ) → seen < n → (n == seen + 1) ≡ false → seen + 1 < n
past seen n l e = grind (arith, nat_tests)

-- the next request is taken in
pub take_next : (old : Watching) (next : Watch) → plain.IsAwake (old.seen + 1) next → ((n : ℕ) → plain.IsAwake n old.watch → plain.IsAwake n next) → StayAwake old (record { watch = next; seen = old.seen + 1 })
take_next old next new kept n (inr awake) = inr (kept n awake)
take_next old next new kept n (inl later) = at_bool (λ b. (n == old.seen + 1) ≡ b → MayBeDue n (record { watch = next; seen = old.seen + 1 })) (n == old.seen + 1)
    (λ _ e. inr (subst (λ k. plain.IsAwake k next) (sym (eq_tells n (old.seen + 1) e)) new))
    (λ _ e. inl (past old.seen n later e)) refl

pub then_stay : (a b c : Watching) → StayAwake a b → StayAwake b c → StayAwake a c
then_stay a b c f g n x = g n (f n x)

-- the requests of one slot more
pub held_next : (slots : List HeldSlot) (k : ℕ) (x : HeldSlot) → k < length slots → x ≡ get_or slots k x → held_in (take (k + 1) slots) ≡ held_in (take k slots) ++ held_in (x ∷ [])
held_next slots k x l is = ap held_in (take_more slots k x l ∙ ap (λ (y : HeldSlot). take k slots ++ y ∷ []) (sym is)) ∙ held_more (take k slots) (x ∷ [])

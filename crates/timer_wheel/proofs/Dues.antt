-- What is due is among the keys.
use Rattle.std.proofs.Common.{◌≡◌, ℕ, Bool, true, ◌||◌, false, List, [], ◌∷◌, refl, sym, ◌∙◌, ap, map}
use Rattle.std.specs.Ordering.{nat_cmp}
use Rattle.std.specs.List.{list_any}
use Rattle.std.specs.BTreeMap.{is_at}
use Rattle.std.proofs.lemmas.Bool.{true≢false}
use Rattle.std.proofs.lemmas.Cmp.{eq_by_cmp_equiv}
use Rattle.std.proofs.lemmas.Map.Views.{list_any-from_Contains}
use Rattle.timer_wheel.specs.Dues.{due_cmp, IsDue, AreDue}
use Rattle.timer_wheel.specs.Finds.{IsFound}
use Rattle.timer_wheel.proofs.Keeps.{at_itself}
use Rattle.timer_wheel.proofs.Leaves.{due_same, due_total}

-- the key of what is found is among the keys
found_key : (d : ℕ × ℕ) (found : List (ℕ × ℕ)) → IsFound found d → list_any (is_at (nat_cmp d.1)) (map (λ x. x.1) found) ≡ true
found_key d [] h = absurd (true≢false (sym h))
found_key d (x ∷ found) h = go (found_key d found) (is_at (due_cmp d) x) refl h
  where
    either : (a b : Bool) → b ≡ true → (a || b) ≡ true
    either true b e = refl
    either false b e = e

    go : (IsFound found d → list_any (is_at (nat_cmp d.1)) (map (λ x. x.1) found) ≡ true) → (b : Bool) → is_at (due_cmp d) x ≡ b → (b || list_any (is_at (due_cmp d)) found) ≡ true → (is_at (nat_cmp d.1) x.1 || list_any (is_at (nat_cmp d.1)) (map (λ x. x.1) found)) ≡ true
    go more true e k = ap (λ b. b || list_any (is_at (nat_cmp d.1)) (map (λ x. x.1) found)) (ap (λ (y : ℕ × ℕ). is_at (nat_cmp d.1) y.1) (sym (due_same d x e)) ∙ at_itself d.1)
    go more false e k = either (is_at (nat_cmp d.1) x.1) (list_any (is_at (nat_cmp d.1)) (map (λ x. x.1) found)) (more k)

-- a timer that is due has its key among those of the timers that are
pub due_has : (timers : List (ℕ × ℕ)) (now : ℕ) (keys : List ℕ) → AreDue timers now keys → (d : ℕ × ℕ) → IsDue timers now d → list_any (is_at (nat_cmp d.1)) keys ≡ true
due_has timers now keys a d h =
    ap (list_any (is_at (nat_cmp d.1))) a.keys_are ∙ found_key d a.dues (list_any-from_Contains (eq_by_cmp_equiv due_total) d a.dues ((a.exact d).1 h))

-- The numbers of requests among the keys of timers.
use Rattle.std.proofs.Common.{◌≡◌, ◌≢◌, ℕ, ◌<◌, ◌^◌, Bool, true, false, cond, List, [], ◌∷◌, length, filter, refl, subst, Some, None, arith}
use Rattle.std.specs.Ordering.{nat_cmp, match_ordering}
use Rattle.std.specs.declared.cmp.Ordering.{Ordering}
use Rattle.std.specs.declared.cmp.Ordering.TheVariants.{Less, Equal, Greater}
use Rattle.std.specs.Map.{lookup, remove_entry}
use Rattle.std.specs.BTreeMap.{is_at, insert_entry}
use Rattle.cat_model.specs.declared.query.Chan.{Chan}
use Rattle.read_watch.proofs.Holds.{key_same}
use Rattle.read_watch.specs.Watch.{AreNumbers}

-- the timers' keys stay numbers of requests
pub numbers_new : (k v : ℕ) (es : List (ℕ × ℕ)) → k < 2 ^ 64 → AreNumbers es → AreNumbers (insert_entry nat_cmp es k v)
numbers_new k v [] f h = (f, tt)
numbers_new k v (e ∷ es) f h = go (numbers_new k v es f h.1) (nat_cmp k e.0)
  where
    go : AreNumbers (insert_entry nat_cmp es k v) → (o : Ordering) → AreNumbers (match_ordering o ((k, v) ∷ e ∷ es) ((e.0, v) ∷ es) (e ∷ insert_entry nat_cmp es k v))
    go more Less = (f, h)
    go more Equal = (h.0, h.1)
    go more Greater = (h.0, more)

pub numbers_without : (t : ℕ → Bool) (es : List (ℕ × ℕ)) → AreNumbers es → AreNumbers (remove_entry t es)
numbers_without t [] h = tt
numbers_without t (e ∷ es) h = go (numbers_without t es h.1) (t e.0)
  where
    go : AreNumbers (remove_entry t es) → (b : Bool) → AreNumbers (cond b es (e ∷ remove_entry t es))
    go more true = h.1
    go more false = (h.0, more)

pub numbers_passing : (p : ℕ × ℕ → Bool) (es : List (ℕ × ℕ)) → AreNumbers es → AreNumbers (filter p es)
numbers_passing p [] h = tt
numbers_passing p (e ∷ es) h = go (numbers_passing p es h.1) (p e)
  where
    go : AreNumbers (filter p es) → (b : Bool) → AreNumbers (cond b (e ∷ filter p es) (filter p es))
    go more true = (h.0, more)
    go more false = more

pub number_found : (k v : ℕ) (es : List (ℕ × ℕ)) → AreNumbers es → lookup (is_at (nat_cmp k)) es ≡ Some v → k < 2 ^ 64
number_found k v [] h f = cc
number_found k v (e ∷ es) h f = go (number_found k v es h.1) (is_at (nat_cmp k) e.0) refl f
  where
    go : (lookup (is_at (nat_cmp k)) es ≡ Some v → k < 2 ^ 64) → (b : Bool) → is_at (nat_cmp k) e.0 ≡ b → cond b (Some e.1) (lookup (is_at (nat_cmp k)) es) ≡ Some v → k < 2 ^ 64
    go more true a g = subst (λ n. n < 2 ^ 64) (key_same k e.0 a) h.0
    go more false a g = more g

-- where one is found, fewer are left without it
pub shorter : (t : ℕ → Bool) (es : List (ℕ × List Chan)) → lookup t es ≢ None → length (remove_entry t es) < length es
shorter t [] d = absurd (d refl)
shorter t (e ∷ es) d = go (shorter t es) (t e.0) d
  where
    go : (lookup t es ≢ None → length (remove_entry t es) < length es) → (b : Bool) → cond b (Some e.1) (lookup t es) ≢ None → length (cond b es (e ∷ remove_entry t es)) < length (e ∷ es)
    go more true d = omega arith
    go more false d = omega (arith, more d)

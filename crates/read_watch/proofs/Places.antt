-- The sleepers of a server, when those of one server change.
use Rattle.std.proofs.Common.{◌≡◌, ◌≢◌, ℕ, zero, suc, ◌+◌, ◌<◌, ◌≤◌, ◌⊎◌, inl, inr, Bool, true, false, List, refl, sym, ◌∙◌, ap, subst, length, get_or, slice_set, arith, add-one, Contains, nat_eq}
use Rattle.std.proofs.lemmas.Bool.{eqb-true, eqb-false}
use Rattle.std.proofs.lemmas.List.{get_or_default, get_or-set_same, get_or-set_other}
use Rattle.cat_model.specs.declared.query.Chan.{Chan}
use Rattle.read_watch.specs.Watch.{Sleepers, SleepsAmong, Leave, OthersStay, no_sleeper, sleepers_of}

-- the sleepers at a place, among those of all servers
module _ (us xs : List Sleepers) (at s : ℕ) (v w : Sleepers) (e : xs ≡ us) (h : at + 1 ≡ s) (last : s ≤ length us) (read : v ≡ get_or xs at v) where
  place : suc at ≡ s
  place = sym (add-one at) ∙ h

  within : at < length xs
  within = omega (arith, h, last, ap length e)

  pub was : sleepers_of us s ≡ v
  was = ap (λ l. sleepers_of l s) (sym e) ∙ ap (sleepers_of xs) (sym place) ∙ get_or_default xs at no_sleeper v within ∙ sym read

  pub is : sleepers_of (slice_set xs at w) s ≡ w
  is = ap (sleepers_of (slice_set xs at w)) (sym place) ∙ get_or-set_same xs at w no_sleeper within

  others_are : (i : ℕ) → i ≢ s → sleepers_of (slice_set xs at w) i ≡ sleepers_of us i
  others_are zero d = refl
  others_are (suc i) d = get_or-set_other xs at i w no_sleeper (λ q. d (ap suc q ∙ place)) ∙ ap (λ l. get_or l i no_sleeper) e

  pub others_stay : (number : ℕ) → OthersStay number v w → (i n : ℕ) (chans : List Chan) (deadline : ℕ) → n ≢ number → SleepsAmong n chans deadline (sleepers_of us i) → SleepsAmong n chans deadline (sleepers_of (slice_set xs at w) i)
  others_stay number o i n chans deadline d sleeps = go (nat_eq i s) refl
    where
      go : (b : Bool) → nat_eq i s ≡ b → SleepsAmong n chans deadline (sleepers_of (slice_set xs at w) i)
      go true q =
          let there : i ≡ s = eqb-true i s q in
          subst (SleepsAmong n chans deadline) (sym (ap (sleepers_of (slice_set xs at w)) there ∙ is)) (o.each n chans deadline d (subst (SleepsAmong n chans deadline) (ap (sleepers_of us) there ∙ was) sleeps))
      go false q = subst (SleepsAmong n chans deadline) (sym (others_are i (eqb-false i s q))) sleeps

  pub leave_stay : (stays : List Chan → ℕ → Type 0) (numbers : List ℕ) → Leave stays numbers v w → (i n : ℕ) (chans : List Chan) (deadline : ℕ) → SleepsAmong n chans deadline (sleepers_of us i)
      → Contains numbers n ⊎ (SleepsAmong n chans deadline (sleepers_of (slice_set xs at w) i) × (i ≡ s → stays chans deadline))
  leave_stay stays numbers l i n chans deadline sleeps = go (nat_eq i s) refl
    where
      here : i ≡ s → Contains numbers n ⊎ (SleepsAmong n chans deadline w × stays chans deadline) → Contains numbers n ⊎ (SleepsAmong n chans deadline (sleepers_of (slice_set xs at w) i) × (i ≡ s → stays chans deadline))
      here there (inl c) = inl c
      here there (inr p) = inr (subst (SleepsAmong n chans deadline) (sym (ap (sleepers_of (slice_set xs at w)) there ∙ is)) p.0, λ _. p.1)

      go : (b : Bool) → nat_eq i s ≡ b → Contains numbers n ⊎ (SleepsAmong n chans deadline (sleepers_of (slice_set xs at w) i) × (i ≡ s → stays chans deadline))
      go true q = let there : i ≡ s = eqb-true i s q in here there (l.each n chans deadline (subst (SleepsAmong n chans deadline) (ap (sleepers_of us) there ∙ was) sleeps))
      go false q = let d : i ≢ s = eqb-false i s q in inr (subst (SleepsAmong n chans deadline) (sym (others_are i d)) sleeps, λ there. absurd (d there))

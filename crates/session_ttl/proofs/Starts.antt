-- Where each session has one renewal at most, it decides when the session began to live.
use Rattle.std.proofs.Common.{◌≡◌, ℕ, Bool, true, false, cond, max, List, [], ◌∷◌, refl, sym, ◌∙◌, ap, subst, arith, Option, Some, None}
use Rattle.std.specs.Prelude.{nat_eq}
use Rattle.std.specs.List.{AllByRecursion}
use Rattle.std.specs.Ordering.{is_eq, nat_cmp}
use Rattle.std.specs.declared.cmp.Ordering.TheVariants.{Less}
use Rattle.std.proofs.lemmas.Bool.Decides.{nat_tests}
use Rattle.cat_model.specs.Delays.{Start as Renewal, ttl_start}
use Rattle.cat_model.specs.Tables.{row_at, Ascends}
use Rattle.cluster_rules.specs.Offices.{renewal_id}

-- from a renewal, or an earlier clock
abbrev pub latest : Option Renewal → ℕ → ℕ
latest None office = office
latest (Some r) office = max r.clock office

less_not : (a b : ℕ) → nat_cmp a b ≡ Less → nat_eq b a ≡ false
less_not a b e = grind (arith, nat_tests)

eq_same : (a b : ℕ) → is_eq (nat_cmp a b) ≡ nat_eq b a
eq_same a b = grind (arith, nat_tests)

eq_is : (a b : ℕ) → nat_eq a b ≡ true → a ≡ b
eq_is a b e = grind (arith, nat_tests)

start_behind : (id office : ℕ) (rs : List Renewal) → AllByRecursion (λ s. nat_cmp id (renewal_id s) ≡ Less) rs → ttl_start id office rs ≡ office
unfolding ttl_start
start_behind id office [] h = refl
start_behind id office (r ∷ rs) h = ap (λ b. cond b (max r.clock (ttl_start id office rs)) (ttl_start id office rs)) (less_not id r.session h.0) ∙ start_behind id office rs h.1

pub start_is : (id office : ℕ) (rs : List Renewal) → Ascends nat_cmp renewal_id rs → ttl_start id office rs ≡ latest (row_at nat_cmp renewal_id id rs) office
unfolding ttl_start
start_is id office [] asc = refl
start_is id office (r ∷ rs) asc = go (start_is id office rs asc.1) (nat_eq r.session id) refl
  where
    go : ttl_start id office rs ≡ latest (row_at nat_cmp renewal_id id rs) office → (b : Bool) → nat_eq r.session id ≡ b → cond (nat_eq r.session id) (max r.clock (ttl_start id office rs)) (ttl_start id office rs) ≡ latest (cond (is_eq (nat_cmp id r.session)) (Some r) (row_at nat_cmp renewal_id id rs)) office
    go less true e =
        let none : ttl_start id office rs ≡ office = start_behind id office rs (subst (λ n. AllByRecursion (λ s. nat_cmp n (renewal_id s) ≡ Less) rs) (eq_is r.session id e) asc.0) in
        ap (λ b. cond b (max r.clock (ttl_start id office rs)) (ttl_start id office rs)) e ∙ ap (max r.clock) none ∙ ap (λ b. latest (cond b (Some r) (row_at nat_cmp renewal_id id rs)) office) (sym (eq_same id r.session ∙ e))
    go less false e =
        ap (λ b. cond b (max r.clock (ttl_start id office rs)) (ttl_start id office rs)) e ∙ less ∙ ap (λ b. latest (cond b (Some r) (row_at nat_cmp renewal_id id rs)) office) (sym (eq_same id r.session ∙ e))

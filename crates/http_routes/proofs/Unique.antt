-- One row of a good table fits a path, and it is the one that is found.
use Rattle.std.proofs.Common.{◌≡◌, ◌⊎◌, ℕ, ◌==◌, ◌&&◌, ◌||◌, not, Bool, true, false, List, [], ◌∷◌, length, Option, Some, None, refl, sym, ap, subst, inl, inr, true≢false}
use Rattle.std.proofs.lemmas.Bool.{and_parts}
use Rattle.std.proofs.lemmas.Bool.Decides.{Decides-eqb}
use Rattle.std.proofs.lemmas.Option.{none-some}
use Rattle.matchit.specs.Rows.{param_token, catch_all_token}
use Rattle.matchit.specs.Seek.{slash}
use Rattle.http_routes.proofs.Fits.{Ends, Whole, overlaps}
use Rattle.http_routes.specs.Paths.{Row, takes, or_later, found_in}
use Rattle.http_routes.proofs.Good.{tokens, ends, is_whole, is_apart, is_row, are_good}
use Rattle.http_routes.specs.declared.table.Route.{Route}
use Rattle.http_routes.proofs.Disjoint.{Small, overlap}
use Rattle.http_routes.proofs.Patterns.{Split, never, nil_of, row_tests, split_fits, some_of, taken, takes_it}

-- the row is one of these
abbrev pub In : Row → List Row → Type 0
In row [] = ⊥
In row (x ∷ rest) = (row ≡ x) ⊎ In row rest

-- ---- the tests of a table

or_true : (a b : Bool) → (not a || b) ≡ true → a ≡ true → b ≡ true
or_true true b e is = e
or_true false b e is = absurd (true≢false (sym is))

ends_of : (t : List ℕ) → ends t ≡ true → Ends t
ends_of [] e = tt
ends_of (y ∷ t) e = (Decides-eqb y slash).0 e

pub whole_of : (t : List ℕ) → is_whole t ≡ true → Whole t
whole_of [] e = tt
whole_of (x ∷ t) e =
    let last = and_parts ((not (x == param_token) || ends t) && (not (x == catch_all_token) || length t == 0))
    (is_whole t) e in
    let tests = and_parts (not (x == param_token) || ends t) (not (x == catch_all_token) || length t == 0) last.0 in (
      λ is. ends_of t (or_true (x == param_token) (ends t) tests.0 ((Decides-eqb x param_token).1 is)),
      λ is. nil_of t (or_true (x == catch_all_token) (length t == 0) tests.1 ((Decides-eqb x catch_all_token).1 is)),
      whole_of t last.1,
    )

good_tests : (row : Row) (rows : List Row) → are_good (row ∷ rows) ≡ true
    → (is_row row.0 ≡ true) × ((is_apart row.0 rows ≡ true) × (are_good rows ≡ true))
good_tests row rows e =
    let last = and_parts (is_row row.0 && is_apart row.0 rows) (are_good rows) e in
    let tests = and_parts (is_row row.0) (is_apart row.0 rows) last.0 in
    (tests.0, (tests.1, last.1))

pub row_of : (rows : List Row) (row : Row) → are_good rows ≡ true → In row rows → is_row row.0 ≡ true
row_of [] row good i = absurd i
row_of (r ∷ rows) row good (inl e) = subst (λ (x : Row). is_row x.0 ≡ true) (sym e) (good_tests r rows good).0
row_of (r ∷ rows) row good (inr i) = row_of rows row (good_tests r rows good).1.1 i

apart_from : (pattern : List ℕ) (rows : List Row) (row : Row) → is_apart pattern rows ≡ true → In row rows
    → not (overlaps (tokens pattern) (tokens row.0)) ≡ true
apart_from pattern [] row e i = absurd i
apart_from pattern (r ∷ rows) row e (inl same) =
    subst (λ (x : Row). not (overlaps (tokens pattern) (tokens x.0)) ≡ true) (sym same)
    (and_parts (not (overlaps (tokens pattern) (tokens r.0))) (is_apart pattern rows) e).0
apart_from pattern (r ∷ rows) row e (inr i) =
    apart_from pattern rows row (and_parts (not (overlaps (tokens pattern) (tokens r.0))) (is_apart pattern rows) e).1 i

-- ---- the row that is found

later : (route : Route) (path part : List ℕ) (wanted : Option (Route × List ℕ)) (rest : Option (Route × List ℕ))
    (o : Option (List ℕ))
    → ((q : List ℕ) → o ≡ Some q → ⊥) → rest ≡ wanted → or_later route o rest ≡ wanted
later route path part wanted rest None never e = e
later route path part wanted rest (Some q) never e = absurd (never q refl)

pub first_found : (rows : List Row) (row : Row) (path part : List ℕ) → Small path → are_good rows ≡ true → In row rows
    → Split row.0 path part
    → found_in rows path ≡ Some (row.1, part)
unfolding found_in
first_found [] row path part small good i split = absurd i
first_found (r ∷ rows) row path part small good (inl e) split =
    rw (takes_it r.0 path part (subst (λ (x : Row). Split x.0 path part) e split))
    (ap (λ (x : Row). Some (x.1, part)) (sym e))
first_found (r ∷ rows) row path part small good (inr i) split =
    let tests = good_tests r rows good in
    let whole : (pattern : List ℕ) → is_row pattern ≡ true → Whole (tokens pattern) =
    λ pattern e. whole_of (tokens pattern) (row_tests pattern e).0 in
    let other : (q : List ℕ) → takes r.0 path ≡ Some q → ⊥ =
    (λ q e. never (overlaps (tokens r.0) (tokens row.0)) (apart_from r.0 rows row tests.1.0 i)
    (overlap (tokens r.0) (tokens row.0) path (whole r.0 tests.0) (whole row.0 (row_of rows row tests.1.1 i)) small
    (split_fits r.0 path q (taken r.0 path q e)) (split_fits row.0 path part split))) in
    later r.1 path part _ (found_in rows path) (takes r.0 path) other
    (first_found rows row path part small tests.1.1 i split)

found_by : (r : Row) (rows : List Row) (path : List ℕ) (o : Option (List ℕ)) (x : Route × List ℕ) → takes r.0 path ≡ o
    → or_later r.1 o (found_in rows path) ≡ Some x
    → ((row : Row) × In row rows × Split row.0 path x.1 → (row : Row) × In row (r ∷ rows) × Split row.0 path x.1)
    → (found_in rows path ≡ Some x → (row : Row) × In row rows × Split row.0 path x.1)
    → (row : Row) × In row (r ∷ rows) × Split row.0 path x.1
found_by r rows path None x is e lift more = lift (more e)
found_by r rows path (Some part) x is e lift more = (
  r,
  inl refl,
  subst (λ (q : List ℕ). Split r.0 path q)
      (ap (λ (y : Route × List ℕ). y.1) (some_of (r.1, part) x e)) (taken r.0 path part is),
)

pub found_row : (rows : List Row) (path : List ℕ) (x : Route × List ℕ) → found_in rows path ≡ Some x
    → (row : Row) × In row rows × Split row.0 path x.1
unfolding found_in
found_row [] path x e = absurd (none-some _ e)
found_row (r ∷ rows) path x e =
    found_by r rows path (takes r.0 path) x refl e (λ h. (h.0, inr h.1, h.2)) (λ h. found_row rows path x h)

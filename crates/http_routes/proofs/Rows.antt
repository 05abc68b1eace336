-- The rows of a router that is made of a table are the table's.
use Rattle.std.proofs.Common.{◌≡◌, ◌⊎◌, ℕ, Bool, true, false, cond, List, [], ◌∷◌, Result, Ok, Err, refl, sym, ap, ◌∙◌, subst, inl, inr, ⊎_elim, true≢false}
use Rattle.std.proofs.lemmas.Bool.{and_parts}
use Rattle.std.proofs.lemmas.Slice.Eq.{bytes_eq-Decides}
use Rattle.matchit.specs.Rows.{RowsOf, comes_before}
use Rattle.matchit.specs.Order.{placed}
use Rattle.matchit.specs.Route.{Scan, parse_route}
use Rattle.matchit.specs.Router.{RouteOf, route_from}
use Rattle.matchit.specs.declared.error.InsertError.{InsertError}
use Rattle.http_routes.proofs.Fits.{HasRow, AllWhole}
use Rattle.http_routes.specs.Paths.{Row}
use Rattle.http_routes.specs.Routers.{Routed, entry_of, with_scan, with_route, with_rows}
use Rattle.http_routes.specs.declared.router.Entry.{Entry}
use Rattle.http_routes.proofs.Good.{tokens, reads_as, are_read, is_whole, are_whole}
use Rattle.http_routes.proofs.Unique.{In, whole_of}

-- ---- one more row

placed_by : {K : Type 0} (t u : List ℕ) (l m : K) (rows more : RowsOf K) (p : List ℕ) (k : K) (b : Bool)
    → (HasRow p k more → ((p ≡ t) × (k ≡ l)) ⊎ HasRow p k rows)
    → HasRow p k (cond b ((t, l) ∷ (u, m) ∷ rows) ((u, m) ∷ more)) → ((p ≡ t) × (k ≡ l)) ⊎ HasRow p k ((u, m) ∷ rows)
placed_by t u l m rows more p k true go h = h
placed_by t u l m rows more p k false go (inl h) = inr (inl h)
placed_by t u l m rows more p k false go (inr h) = ⊎_elim (λ a. inl a) (λ b. inr (inr b)) (go h)

placed_row : {K : Type 0} (t : List ℕ) (l : K) (rows : RowsOf K) (p : List ℕ) (k : K)
    → HasRow p k (placed (t, l) rows) → ((p ≡ t) × (k ≡ l)) ⊎ HasRow p k rows
placed_row t l [] p k h = h
placed_row t l ((u, m) ∷ rows) p k h =
    placed_by t u l m rows (placed (t, l) rows) p k (comes_before t u) (λ g. placed_row t l rows p k g) h

new_by : {K : Type 0} (t u : List ℕ) (l m : K) (rows more : RowsOf K) (b : Bool) → HasRow t l more
    → HasRow t l (cond b ((t, l) ∷ (u, m) ∷ rows) ((u, m) ∷ more))
new_by t u l m rows more true h = inl (refl, refl)
new_by t u l m rows more false h = inr h

new_row : {K : Type 0} (t : List ℕ) (l : K) (rows : RowsOf K) → HasRow t l (placed (t, l) rows)
new_row t l [] = inl (refl, refl)
new_row t l ((u, m) ∷ rows) = new_by t u l m rows (placed (t, l) rows) (comes_before t u) (new_row t l rows)

old_by : {K : Type 0} (t u : List ℕ) (l m : K) (rows more : RowsOf K) (p : List ℕ) (k : K) (b : Bool)
    → (HasRow p k rows → HasRow p k more)
    → HasRow p k ((u, m) ∷ rows) → HasRow p k (cond b ((t, l) ∷ (u, m) ∷ rows) ((u, m) ∷ more))
old_by t u l m rows more p k true go h = inr h
old_by t u l m rows more p k false go (inl h) = inl h
old_by t u l m rows more p k false go (inr h) = inr (go h)

old_row : {K : Type 0} (t : List ℕ) (l : K) (rows : RowsOf K) (p : List ℕ) (k : K) → HasRow p k rows
    → HasRow p k (placed (t, l) rows)
old_row t l [] p k h = inr h
old_row t l ((u, m) ∷ rows) p k h =
    old_by t u l m rows (placed (t, l) rows) p k (comes_before t u) (λ g. old_row t l rows p k g) h

-- ---- one more route

read_scan : (wanted : List ℕ) (read : Result Scan InsertError) → reads_as wanted read ≡ true
    → (s : Scan) × (read ≡ Ok s) × (s.pattern ≡ wanted)
read_scan wanted (Ok s) e = (s, refl, (bytes_eq-Decides s.pattern wanted).0 e)
read_scan wanted (Err why) e = absurd (true≢false (sym e))

kept_row : (read : Result Scan InsertError) (entry : Entry) (routed : Routed) (p : List ℕ) (r : RouteOf Entry)
    → HasRow p r routed → HasRow p r (with_scan read entry routed)
kept_row (Ok s) entry routed p r h = old_row s.pattern (route_from s entry) routed p r h
kept_row (Err why) entry routed p r h = h

-- ---- a table

abbrev OfTable : List Row → List ℕ → RouteOf Entry → Type 0
OfTable rows p r = (row : Row) × In row rows × (p ≡ tokens row.0) × (r.value ≡ entry_of row)

routed_row : (rows : List Row) (routed : Routed) (p : List ℕ) (r : RouteOf Entry) → are_read rows ≡ true
    → HasRow p r (with_rows rows routed)
    → OfTable rows p r ⊎ HasRow p r routed
routed_row [] routed p r read h = inr h
routed_row (row ∷ rows) routed p r read h =
    let tests = and_parts (reads_as (tokens row.0) (parse_route row.0)) (are_read rows) read in
    let s = read_scan (tokens row.0) (parse_route row.0) tests.0 in
    ⊎_elim (λ of. inl (of.0, inr of.1, of.2, of.3))
    (λ old. ⊎_elim
    (λ is. inl (row, inl refl, is.0 ∙ s.2, ap (λ (x : RouteOf Entry). x.value) is.1))
    (λ older. inr older)
    (placed_row s.0.pattern (route_from s.0 (entry_of row)) routed p r
    (subst (λ (scan : Result Scan InsertError). HasRow p r (with_scan scan (entry_of row) routed)) s.1 old)))
    (routed_row rows (with_route row.0 (entry_of row) routed) p r tests.1 h)

pub table_row : (rows : List Row) (p : List ℕ) (r : RouteOf Entry) → are_read rows ≡ true
    → HasRow p r (with_rows rows [])
    → (row : Row) × In row rows × (p ≡ tokens row.0) × (r.value ≡ entry_of row)
table_row rows p r read h = ⊎_elim (λ of. of) (λ none. absurd none) (routed_row rows [] p r read h)

stays : (rows : List Row) (routed : Routed) (p : List ℕ) (r : RouteOf Entry) → HasRow p r routed
    → HasRow p r (with_rows rows routed)
stays [] routed p r h = h
stays (row ∷ rows) routed p r h =
    stays rows (with_route row.0 (entry_of row) routed) p r (kept_row (parse_route row.0) (entry_of row) routed p r h)

pub row_routed : (rows : List Row) (routed : Routed) (row : Row) → are_read rows ≡ true → In row rows
    → (r : RouteOf Entry) × HasRow (tokens row.0) r (with_rows rows routed)
row_routed [] routed row read i = absurd i
row_routed (x ∷ rows) routed row read (inl e) =
    let tests = and_parts (reads_as (tokens x.0) (parse_route x.0)) (are_read rows) read in
    let s = read_scan (tokens x.0) (parse_route x.0) tests.0 in
    let r = route_from s.0 (entry_of x) in
    let here : HasRow s.0.pattern r (with_scan (parse_route x.0) (entry_of x) routed) =
    subst (λ (scan : Result Scan InsertError). HasRow s.0.pattern r (with_scan scan (entry_of x) routed)) (sym s.1)
    (new_row s.0.pattern r routed) in
    let same : s.0.pattern ≡ tokens row.0 = s.2 ∙ ap (λ (y : Row). tokens y.0) (sym e) in (
      r,
      stays rows (with_route x.0 (entry_of x) routed) (tokens row.0) r
          (subst (λ (t : List ℕ). HasRow t r (with_route x.0 (entry_of x) routed)) same here),
    )
row_routed (x ∷ rows) routed row read (inr i) =
    row_routed rows (with_route x.0 (entry_of x) routed) row
    (and_parts (reads_as (tokens x.0) (parse_route x.0)) (are_read rows) read).1 i

pub all_whole : (routed : Routed) → are_whole routed ≡ true → AllWhole routed
all_whole [] e = tt
all_whole ((t, r) ∷ rest) e =
    let tests = and_parts (is_whole t) (are_whole rest) e in (whole_of t tests.0, all_whole rest tests.1)

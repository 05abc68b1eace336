-- What the router of the table finds for a path is the path's route.
use Rattle.std.proofs.Common.{◌≡◌, ℕ, ◌+◌, ◌-◌, ◌≤◌, List, [], ◌++◌, length, take, drop, map, Option, Some, None, is_some, refl, sym, ap, ◌∙◌, subst, arith, true≢false, length-append, get_or, w8, ◌<◌, Fits as BitsFit}
use Rattle.std.proofs.lemmas.List.Elements.{All-from_get_or}
use Rattle.std.proofs.Math.Seq.{drop-append_seam, take-append_seam}
use Rattle.matchit.specs.Router.{RouteOf}
use Rattle.matchit.specs.Seek.{first}
use Rattle.http_routes.proofs.Fits.{Fits, HasRow}
use Rattle.http_routes.proofs.Good.{tokens}
use Rattle.http_routes.specs.Paths.{Row, table, found, front_of, back_of}
use Rattle.http_routes.specs.Routers.{entry_of, shown, the_router}
use Rattle.http_routes.specs.declared.router.Entry.{Entry}
use Rattle.http_routes.specs.declared.table.Route.{Route}
use Rattle.http_routes.proofs.Sound.{sound}
use Rattle.http_routes.proofs.Complete.{complete}
use Rattle.http_routes.proofs.Disjoint.{Small}
use Rattle.http_routes.proofs.Patterns.{Split, fits_split, split_fits}
use Rattle.http_routes.proofs.Unique.{In, row_of, first_found, found_row}
use Rattle.http_routes.proofs.Rows.{table_row, row_routed, all_whole}
use Rattle.http_routes.proofs.Shown.{split_shown, shown_split, small_shown}
use Rattle.http_routes.proofs.Tables.{table_read, table_good, table_whole}

-- a row of the router, and the table's row that it is of
of_table : (p : List ℕ) (r : RouteOf Entry) → (HasRow p r the_router)
    → (row : Row) × In row table × (p ≡ tokens row.0) × (r.value ≡ entry_of row)
unfolding the_router
of_table p r h = table_row table p r table_read h

in_router : (row : Row) → In row table → (r : RouteOf Entry) × HasRow (tokens row.0) r the_router
unfolding the_router
in_router row i = row_routed table [] row table_read i

-- where the part stands
part_at : (path front part back : List ℕ) → path ≡ front ++ (part ++ back)
    → (length front + length back ≤ length path) ×
    (take (length path - length back - length front) (drop (length front) path) ≡ part)
part_at path front part back e =
    let size : length path ≡ length front + (length part + length back) =
    (ap (λ (u : List ℕ). length u) e
    ∙ (length-append front (part ++ back) ∙ ap (λ (n : ℕ). length front + n) (length-append part back))) in
    let middle : length path - length back - length front ≡ length part = omega (arith, size) in
    let rest : drop (length front) path ≡ part ++ back =
    ap (λ (u : List ℕ). drop (length front) u) e ∙ drop-append_seam front (part ++ back) in (
      omega (arith, size),
      ap (λ (n : ℕ). take n (drop (length front) path)) middle
          ∙ (ap (λ (u : List ℕ). take (length part) u) rest ∙ take-append_seam part back),
    )

-- what an entry says of the path
Tells : List ℕ → Entry → Type 0
Tells path x =
    (x.front + x.back ≤ length path)
    × (found path ≡ Some (x.route, take (length path - x.back - x.front) (drop x.front path)))

row_tells : (path : List ℕ) (row : Row) (part : List ℕ) → Split row.0 path part → found path ≡ Some (row.1, part)
    → Tells path (entry_of row)
unfolding Tells
row_tells path row part split is =
    let place = part_at path (front_of row.0) part (back_of row.0) split.whole in
    (place.0, subst (λ (u : List ℕ). found path ≡ Some (row.1, u)) (sym place.1) is)

finds_row : (path : List ℕ) (row : Row) → Small path → In row table → Fits (tokens row.0) (map shown path)
    → Tells path (entry_of row)
finds_row path row small i fits =
    let good = row_of table row table_good i in
    let seen = fits_split row.0 (map shown path) good (small_shown path) fits in
    let part = shown_split row.0 path seen.0 good seen.1 in
    row_tells path row part.0 part.1 (first_found table row path part.0 small table_good i part.1)

pub are_bytes : (path : List ℕ) → ((i : ℕ) → BitsFit w8 (get_or path i 0)) → Small path
are_bytes path bytes = All-from_get_or (λ b. b < 256) path 0 (λ i _. omega (arith, bytes i))

pub router_finds : (path : List ℕ) (r : RouteOf Entry) → Small path → first the_router (map shown path) ≡ Some r
    → (r.value.front + r.value.back ≤ length path)
    × (found path ≡ Some (r.value.route, take (length path - r.value.back - r.value.front) (drop r.value.front path)))
unfolding Tells
router_finds path r small e =
    let f = sound (map shown path) 0 the_router r e in
    let row = of_table f.0 r f.1 in
    let fits : Fits (tokens row.0.0) (map shown path) = subst (λ (t : List ℕ). Fits t (map shown path)) row.2 f.2 in
    subst (λ (x : Entry). Tells path x) (sym row.3) (finds_row path row.0 small row.1 fits)

none_by : (path : List ℕ) (o : Option (Route × List ℕ)) → found path ≡ o → first the_router (map shown path) ≡ None
    → found path ≡ None
none_by path None is e = is
none_by path (Some x) is e =
    let row = found_row table path x is in
    let good = row_of table row.0 table_good row.1 in
    let fits = split_fits row.0.0 (map shown path) (map shown x.1) (split_shown row.0.0 path x.1 good row.2) in
    let r = in_router row.0 row.1 in
    absurd (true≢false (sym (complete (map shown path) 0 the_router (tokens row.0.0) r.0
    (all_whole the_router table_whole) r.1 fits) ∙ ap (λ (o : Option (RouteOf Entry)). is_some o) e))

pub router_finds_none : (path : List ℕ) → first the_router (map shown path) ≡ None → found path ≡ None
router_finds_none path e = none_by path (found path) refl e

-- The names of services, and the statuses and the services of checks, as places in an index.
use Rattle.std.proofs.Common.{◌≡◌, ℕ, Bool, not, ◌&&◌, List, [], refl, sym, ◌∙◌, ap, Option, Some, None, filter}
use Rattle.std.specs.List.{list_any}
use Rattle.std.specs.Ordering.{is_eq, nat_cmp, ordering_then}
use Rattle.std.proofs.lemmas.Cmp.{nat_cmp_total, nat_list_cmp_total, tied_itself}
use Rattle.std.proofs.lemmas.Map.Lookups.{exact_bytes, exact_unsigned}
use Rattle.cat_model.specs.Keys.{text_cmp, pair_cmp, same_text}
use Rattle.cat_model.specs.Catalog.{check_at, service_key, check_key}
use Rattle.cat_model.specs.Same.{same_status}
use Rattle.cat_model.specs.Tables.{Ascends}
use Rattle.cat_model.specs.declared.row.ServiceRow.{ServiceRow}
use Rattle.cat_model.specs.declared.row.CheckRow.{CheckRow}
use Rattle.cat_model.specs.declared.row.Status.{Status}
use Rattle.cat_model.specs.declared.row.Status.TheVariants.{Passing, Warning, Critical}
use Rattle.cat_model.proofs.InOrder.{key_of_found}
use Rattle.cat_model.proofs.Pairs.{pair_cmp_total, exact_pair}
use Rattle.row_table.specs.Filing.{filed_cmp, filed_key, is_place, place_of}
use Rattle.row_table.proofs.Spans.{leading}
use Rattle.row_table.proofs.FiledUnder.{is_mine, onward, same_test}
use Rattle.row_table.proofs.Places.{text_place}
use Rattle.catalog_table.specs.Filings.{Pair, FilesNames, FilesServices, FilesStatuses, home, home_of, homed, rank, service_of}
use Rattle.catalog_table.proofs.Indexes.{any_keyed, any_labelled, is_some_row, rows_from, walked}
use Rattle.catalog_table.proofs.Ranges.{pair_place}

pub status_place : (a b : Status) → same_status a b ≡ is_eq (nat_cmp (rank b) (rank a))
status_place Passing Passing = refl
status_place Passing Warning = refl
status_place Passing Critical = refl
status_place Warning Passing = refl
status_place Warning Warning = refl
status_place Warning Critical = refl
status_place Critical Passing = refl
status_place Critical Warning = refl
status_place Critical Critical = refl

abbrev pub label_name : ServiceRow → List ℕ
label_name s = s.name

abbrev pub label_rank : CheckRow → ℕ
label_rank c = rank c.status

pub names_walked : (name : List ℕ) (rows : List ServiceRow) (pairs : List (List ℕ × Pair)) → Ascends pair_cmp service_key rows → Ascends (filed_cmp text_cmp pair_cmp) filed_key pairs → FilesNames rows pairs → rows_from text_cmp service_key name rows pairs ≡ filter (λ r. same_text r.name name) rows
names_walked name rows pairs asc ordered files =
    walked text_cmp nat_list_cmp_total exact_bytes service_key label_name name rows pairs asc ordered files
    ∙ same_test (λ r. is_eq (text_cmp name r.name)) (λ r. same_text r.name name) rows (λ r. sym (text_place r.name name))

pub any_named : (name : List ℕ) (rows : List ServiceRow) (pairs : List (List ℕ × Pair)) → Ascends pair_cmp service_key rows → Ascends (filed_cmp text_cmp pair_cmp) filed_key pairs → FilesNames rows pairs → is_some_row (leading (is_mine text_cmp name) (onward text_cmp pair_cmp name ([], []) pairs)) ≡ list_any (λ r. same_text r.name name) rows
any_named name rows pairs asc ordered files =
    any_labelled text_cmp nat_list_cmp_total exact_bytes service_key label_name name rows pairs asc ordered files
    ∙ λ i. list_any (λ r. sym (text_place r.name name) i) rows

-- a pair of another node
abbrev pub is_off : List ℕ → Pair → Bool
is_off node k = not (same_text k.0 node)

pub any_elsewhere : (name node : List ℕ) (rows : List ServiceRow) (pairs : List (List ℕ × Pair)) → Ascends pair_cmp service_key rows → Ascends (filed_cmp text_cmp pair_cmp) filed_key pairs → FilesNames rows pairs
    → list_any (λ h. is_off node h.1) (leading (is_mine text_cmp name) (onward text_cmp pair_cmp name ([], []) pairs)) ≡ list_any (λ r. same_text r.name name && not (same_text r.node node)) rows
any_elsewhere name node rows pairs asc ordered files =
    any_keyed text_cmp nat_list_cmp_total exact_bytes service_key label_name name rows pairs asc ordered files (is_off node)
    ∙ λ i. list_any (λ r. sym (text_place r.name name) i && not (same_text r.node node)) rows

pub statuses_walked : (status : Status) (rows : List CheckRow) (pairs : List (ℕ × Pair)) → Ascends pair_cmp check_key rows → Ascends (filed_cmp nat_cmp pair_cmp) filed_key pairs → FilesStatuses rows pairs → rows_from nat_cmp check_key (rank status) rows pairs ≡ filter (λ r. same_status r.status status) rows
statuses_walked status rows pairs asc ordered files =
    walked nat_cmp nat_cmp_total exact_unsigned check_key label_rank (rank status) rows pairs asc ordered files
    ∙ same_test (λ r. is_eq (nat_cmp (rank status) (rank r.status))) (λ r. same_status r.status status) rows (λ r. sym (status_place r.status status))

pub checks_walked : (node service : List ℕ) (rows : List CheckRow) (pairs : List (Pair × Pair)) → Ascends pair_cmp check_key rows → Ascends (filed_cmp pair_cmp pair_cmp) filed_key pairs → FilesServices rows pairs → rows_from pair_cmp check_key (node, service) rows pairs ≡ filter (λ r. same_text r.node node && same_text r.service service) rows
checks_walked node service rows pairs asc ordered files =
    walked pair_cmp pair_cmp_total exact_pair check_key home (node, service) rows pairs asc ordered files
    ∙ same_test (λ r. is_eq (pair_cmp (node, service) (home r))) (λ r. same_text r.node node && same_text r.service service) rows (λ r. sym (pair_place node service (home r)))

-- the service of a key's row is on the key's node
pub home_is : (k : Pair) (rows : List CheckRow) → homed k.0 (place_of service_of (check_at k rows)) ≡ place_of home_of (check_at k rows)
home_is k rows = go (check_at k rows) refl
  where
    go : (o : Option CheckRow) → check_at k rows ≡ o → homed k.0 (place_of service_of o) ≡ place_of home_of o
    go None e = refl
    go (Some old) e = ap (λ j. Some (j.0, old.service)) (key_of_found pair_cmp check_key pair_cmp_total exact_pair k rows old e)

same_home : (node service : List ℕ) (o : Option (List ℕ)) → is_place text_cmp service o ≡ is_place pair_cmp (node, service) (homed node o)
same_home node service None = refl
same_home node service (Some t) = ap (λ o. is_eq (ordering_then o (text_cmp service t))) (sym (tied_itself nat_list_cmp_total node))

-- a row is of the service of its key's row where it is at the same place
pub service_place : (row : CheckRow) (rows : List CheckRow) → is_place text_cmp row.service (place_of service_of (check_at (check_key row) rows)) ≡ is_place pair_cmp (home row) (place_of home_of (check_at (check_key row) rows))
service_place row rows = same_home row.node row.service (place_of service_of (check_at (check_key row) rows)) ∙ ap (is_place pair_cmp (home row)) (home_is (check_key row) rows)

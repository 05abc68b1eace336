-- What the index of names holds after a row was put or removed.
use Rattle.std.proofs.Common.{◌≡◌, ℕ, true, false, List, ◌∙◌, sym, ap, subst, Option, Some, None, Result, Ok, Err}
use Rattle.std.specs.Prelude.{OnOk, OnErr}
use Rattle.std.specs.Ordering.{is_eq, nat_cmp}
use Rattle.std.proofs.lemmas.Cmp.{nat_cmp_total, nat_list_cmp_total}
use Rattle.std.proofs.lemmas.Map.Lookups.{exact_bytes, exact_unsigned}
use Rattle.cat_model.specs.Catalog.{query_key, query_at}
use Rattle.cat_model.specs.Keys.{text_cmp}
use Rattle.cat_model.specs.Tables.{put, without}
use Rattle.cat_model.specs.declared.row.QueryRow.{QueryRow}
use Rattle.row_table.specs.Filing.{filed, unfiled, is_place, place_of}
use Rattle.row_table.proofs.Filed.{files_same, files_moved, files_back, files_gone, place_is}
use Rattle.query_table.specs.Places.{name_of, FilesNames}

-- what holds after a call that was done and after one that was not
pub either : {A E : Type 0} (r : Result A E) (P Q G : Type 0) → OnOk r P → OnErr r Q → (P → G) → (Q → G) → G
either (Ok x) P Q G done undone f g = f done
either (Err e) P Q G done undone f g = g undone

abbrev old_name : ℕ → List QueryRow → Option (List ℕ)
old_name id rows = place_of name_of (query_at id rows)

apart : (old : Option (List ℕ)) (name : List ℕ) → is_place text_cmp name old ≡ false → (s : List ℕ) → Some name ≡ Some s → is_place text_cmp s old ≡ false
apart old name fails s is = ap (λ t. is_place text_cmp t old) (sym (some_is is)) ∙ fails
  where
    some_is : Some name ≡ Some s → name ≡ s
    some_is e = ap held e
      where
        held : Option (List ℕ) → List ℕ
        held None = name
        held (Some t) = t

-- the name stays
pub kept : (rows new : List QueryRow) (pairs : List (List ℕ × ℕ)) (row : QueryRow) (old : Option (List ℕ)) → FilesNames rows pairs → old ≡ old_name row.id rows → is_place text_cmp row.name old ≡ true → new ≡ put nat_cmp query_key row rows → FilesNames new pairs
kept rows new pairs row old files is same made =
    subst (λ l. FilesNames l pairs) (sym made)
    (files_same text_cmp nat_cmp nat_list_cmp_total nat_cmp_total exact_bytes exact_unsigned query_key name_of rows pairs row files (sym is ∙ place_is text_cmp nat_cmp nat_list_cmp_total nat_cmp_total exact_bytes exact_unsigned row.name old same))

-- the row has a new name
pub moved : (rows new : List QueryRow) (pairs after : List (List ℕ × ℕ)) (row : QueryRow) (old : Option (List ℕ)) → FilesNames rows pairs → old ≡ old_name row.id rows → is_place text_cmp row.name old ≡ false → new ≡ put nat_cmp query_key row rows → after ≡ unfiled text_cmp nat_cmp old row.id (filed text_cmp nat_cmp (Some row.name) row.id pairs) → FilesNames new after
moved rows new pairs after row old files is fails made filed =
    subst (λ l. FilesNames l after) (sym made)
    (subst (FilesNames (put nat_cmp query_key row rows)) (sym filed) (files_moved text_cmp nat_cmp nat_list_cmp_total nat_cmp_total exact_bytes exact_unsigned query_key name_of rows pairs row old files is (apart old row.name fails)))

-- the name was filed, and taken out again
pub back : (rows new : List QueryRow) (pairs after : List (List ℕ × ℕ)) (id : ℕ) (name : List ℕ) (old : Option (List ℕ)) → FilesNames rows pairs → old ≡ old_name id rows → is_place text_cmp name old ≡ false → new ≡ rows → after ≡ unfiled text_cmp nat_cmp (Some name) id (filed text_cmp nat_cmp (Some name) id pairs) → FilesNames new after
back rows new pairs after id name old files is fails made filed =
    subst (λ l. FilesNames l after) (sym made)
    (subst (FilesNames rows) (sym filed) (files_back text_cmp nat_cmp nat_list_cmp_total nat_cmp_total exact_bytes exact_unsigned query_key name_of rows pairs id old (Some name) files is (apart old name fails)))

-- the row is gone
pub gone : (rows new : List QueryRow) (pairs after : List (List ℕ × ℕ)) (id : ℕ) → FilesNames rows pairs → new ≡ without (λ r. is_eq (nat_cmp id (query_key r))) rows → after ≡ unfiled text_cmp nat_cmp (old_name id rows) id pairs → FilesNames new after
gone rows new pairs after id files made filed =
    subst (λ l. FilesNames l after) (sym made)
    (subst (FilesNames (without (λ r. is_eq (nat_cmp id (query_key r))) rows)) (sym filed) (files_gone text_cmp nat_cmp nat_list_cmp_total nat_cmp_total exact_bytes exact_unsigned query_key name_of rows pairs id (old_name id rows) files (λ i. old_name id rows)))

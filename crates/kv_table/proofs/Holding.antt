-- What the index of the keys that sessions hold tells of the rows, and what it holds after a row was put or removed.
use Rattle.std.proofs.Common.{◌≡◌, ℕ, ◌≢◌, true, List, ◌∙◌, refl, sym, ap, subst, filter, map, Option, Some, None, Result, Ok, Err}
use Rattle.std.specs.Prelude.{nat_eq, OnOk, OnErr}
use Rattle.std.specs.Option.{option_eq}
use Rattle.cat_model.specs.Keys.{same_option}
use Rattle.cat_model.proofs.SameLemmas.{option_decides}
use Rattle.std.specs.Ordering.{is_eq, nat_cmp}
use Rattle.std.proofs.lemmas.Cmp.{nat_cmp_total, nat_list_cmp_total}
use Rattle.std.proofs.lemmas.Map.Lookups.{exact_bytes, exact_unsigned}
use Rattle.cat_model.specs.Catalog.{kv_at, kv_key}
use Rattle.cat_model.specs.Keys.{text_cmp}
use Rattle.cat_model.specs.Tables.{put, without, Ascends}
use Rattle.cat_model.specs.declared.row.KvRow.{KvRow}
use Rattle.row_table.specs.Filing.{filed, filed_cmp, filed_key, keys_under, place_of, unfiled}
use Rattle.row_table.proofs.Filed.{apart_differ, files_same, files_moved, files_back, files_gone}
use Rattle.row_table.proofs.FiledUnder.{is_here, keys_are, same_test}
use Rattle.row_table.proofs.Places.{option_place}
use Rattle.kv_table.specs.States.{is_held_by}
use Rattle.kv_table.specs.Holders.{holder_of, FilesHolders}

-- the keys of the index that a session holds are those of the rows
pub held_keys : (id : ℕ) (rows : List KvRow) (pairs : List (ℕ × List ℕ)) → Ascends text_cmp kv_key rows → Ascends (filed_cmp nat_cmp text_cmp) filed_key pairs → FilesHolders rows pairs → keys_under nat_cmp text_cmp id pairs ≡ map kv_key (filter (is_held_by id) rows)
held_keys id rows pairs asc ordered files =
    keys_are nat_cmp text_cmp nat_cmp_total nat_list_cmp_total exact_unsigned exact_bytes id kv_key holder_of rows pairs asc ordered files
    ∙ ap (map kv_key) (same_test (is_here nat_cmp holder_of id) (is_held_by id) rows (λ r. sym (option_place r.session id)))

abbrev holder_at : List ℕ → List KvRow → Option ℕ
holder_at key rows = place_of holder_of (kv_at key rows)

-- the holder stays
pub kept : (rows new : List KvRow) (pairs : List (ℕ × List ℕ)) (row : KvRow) → FilesHolders rows pairs → holder_at row.key rows ≡ row.session → new ≡ put text_cmp kv_key row rows → FilesHolders new pairs
kept rows new pairs row files same made =
    subst (λ l. FilesHolders l pairs) (sym made) (files_same nat_cmp text_cmp nat_cmp_total nat_list_cmp_total exact_unsigned exact_bytes kv_key holder_of rows pairs row files same)

-- the row has another holder
pub moved : (rows new : List KvRow) (pairs after : List (ℕ × List ℕ)) (row : KvRow) (old : Option ℕ) → FilesHolders rows pairs → old ≡ holder_at row.key rows → old ≢ row.session → new ≡ put text_cmp kv_key row rows → after ≡ unfiled nat_cmp text_cmp old row.key (filed nat_cmp text_cmp row.session row.key pairs) → FilesHolders new after
moved rows new pairs after row old files is differ made filed =
    subst (λ l. FilesHolders l after) (sym made)
    (subst (FilesHolders (put text_cmp kv_key row rows)) (sym filed)
    (files_moved nat_cmp text_cmp nat_cmp_total nat_list_cmp_total exact_unsigned exact_bytes kv_key holder_of rows pairs row old files is (apart_differ nat_cmp text_cmp nat_cmp_total nat_list_cmp_total exact_unsigned exact_bytes old row.session differ)))

-- the new holder was marked, and taken out again
pub back : (rows new : List KvRow) (pairs after : List (ℕ × List ℕ)) (key : List ℕ) (old session : Option ℕ) → FilesHolders rows pairs → old ≡ holder_at key rows → old ≢ session → new ≡ rows → after ≡ unfiled nat_cmp text_cmp session key (filed nat_cmp text_cmp session key pairs) → FilesHolders new after
back rows new pairs after key old session files is differ made filed =
    subst (λ l. FilesHolders l after) (sym made)
    (subst (FilesHolders rows) (sym filed)
    (files_back nat_cmp text_cmp nat_cmp_total nat_list_cmp_total exact_unsigned exact_bytes kv_key holder_of rows pairs key old session files is (apart_differ nat_cmp text_cmp nat_cmp_total nat_list_cmp_total exact_unsigned exact_bytes old session differ)))

-- the row is gone
pub gone : (rows new : List KvRow) (pairs after : List (ℕ × List ℕ)) (key : List ℕ) (old : Option ℕ) → FilesHolders rows pairs → old ≡ holder_at key rows → new ≡ without (λ r. is_eq (text_cmp key (kv_key r))) rows → after ≡ unfiled nat_cmp text_cmp old key pairs → FilesHolders new after
gone rows new pairs after key old files is made filed =
    subst (λ l. FilesHolders l after) (sym made)
    (subst (FilesHolders (without (λ r. is_eq (text_cmp key (kv_key r))) rows)) (sym filed) (files_gone nat_cmp text_cmp nat_cmp_total nat_list_cmp_total exact_unsigned exact_bytes kv_key holder_of rows pairs key old files is))

option_eq_same : (a b : Option ℕ) → option_eq nat_eq a b ≡ same_option a b
option_eq_same None None = refl
option_eq_same None (Some b) = refl
option_eq_same (Some a) None = refl
option_eq_same (Some a) (Some b) = refl

pub holders_same : (a b : Option ℕ) → option_eq nat_eq a b ≡ true → a ≡ b
holders_same a b e = (option_decides a b).0 (sym (option_eq_same a b) ∙ e)

-- what holds after a call that was done and after one that was not
pub either : {A E : Type 0} (r : Result A E) (P Q G : Type 0) → OnOk r P → OnErr r Q → (P → G) → (Q → G) → G
either (Ok x) P Q G done undone f g = f done
either (Err e) P Q G done undone f g = g undone

-- What the indexes of names and of sessions tell of the rows.
use Rattle.std.proofs.Common.{◌≡◌, ℕ, true, false, List, [], ◌∷◌, refl, ◌∙◌, cond, sym, ap, filter, map, Some, None}
use Rattle.std.specs.Prelude.{find}
use Rattle.std.specs.Ordering.{nat_cmp}
use Rattle.std.proofs.lemmas.Cmp.{nat_cmp_total, nat_list_cmp_total}
use Rattle.std.proofs.lemmas.Map.Lookups.{exact_bytes, exact_unsigned}
use Rattle.cat_model.specs.Catalog.{query_key}
use Rattle.cat_model.specs.Keys.{text_cmp}
use Rattle.cat_model.specs.Tables.{Ascends}
use Rattle.cat_model.specs.declared.row.QueryRow.{QueryRow}
use Rattle.row_table.specs.Filing.{filed_cmp, filed_key, keys_under}
use Rattle.row_table.specs.Walks.{first_row}
use Rattle.row_table.proofs.Spans.{leading}
use Rattle.row_table.proofs.FiledUnder.{is_here, is_mine, keys_are, onward, same_test, found_by_key, row_of, walk_is}
use Rattle.row_table.proofs.Places.{text_place, option_place, least_number}
use Rattle.query_table.specs.States.{is_named, is_bound_to}
use Rattle.query_table.specs.Places.{name_of, session_of, FilesNames, FilesSessions}

pub session_ids : (id : ℕ) (rows : List QueryRow) (pairs : List (ℕ × ℕ)) → Ascends nat_cmp query_key rows → Ascends (filed_cmp nat_cmp nat_cmp) filed_key pairs → FilesSessions rows pairs → keys_under nat_cmp nat_cmp id pairs ≡ map query_key (filter (is_bound_to id) rows)
session_ids id rows pairs asc ordered files =
    keys_are nat_cmp nat_cmp nat_cmp_total nat_cmp_total exact_unsigned exact_unsigned id query_key session_of rows pairs asc ordered files
    ∙ ap (map query_key) (same_test (is_here nat_cmp session_of id) (is_bound_to id) rows (λ r. sym (option_place r.session id)))

name_ids : (name : List ℕ) (rows : List QueryRow) (pairs : List (List ℕ × ℕ)) → Ascends nat_cmp query_key rows → Ascends (filed_cmp text_cmp nat_cmp) filed_key pairs → FilesNames rows pairs → keys_under text_cmp nat_cmp name pairs ≡ map query_key (filter (is_named name) rows)
name_ids name rows pairs asc ordered files =
    keys_are text_cmp nat_cmp nat_list_cmp_total nat_cmp_total exact_bytes exact_unsigned name query_key name_of rows pairs asc ordered files
    ∙ ap (map query_key) (same_test (is_here text_cmp name_of name) (is_named name) rows (λ r. sym (text_place r.name name)))

-- the first query of a name is that of the first identifier that is filed under it
pub found_named : (name : List ℕ) (rows : List QueryRow) (pairs : List (List ℕ × ℕ)) → Ascends nat_cmp query_key rows → Ascends (filed_cmp text_cmp nat_cmp) filed_key pairs → FilesNames rows pairs → row_of nat_cmp query_key rows (first_row (keys_under text_cmp nat_cmp name pairs)) ≡ find (is_named name) rows
found_named name rows pairs asc ordered files =
    ap (λ l. row_of nat_cmp query_key rows (first_row l)) (name_ids name rows pairs asc ordered files) ∙ sym (found_by_key nat_cmp query_key nat_cmp_total (is_named name) rows asc)

-- the first identifier that is filed under a name is that of the first pair from the name on, if that is of the name
module _ (name : List ℕ) (pairs : List (List ℕ × ℕ)) (ordered : Ascends (filed_cmp text_cmp nat_cmp) filed_key pairs) where
  walked : (from : List (List ℕ × ℕ)) → onward text_cmp nat_cmp name 0 pairs ≡ from → first_row (map (λ h. h.1) (leading (is_mine text_cmp name) from)) ≡ first_row (keys_under text_cmp nat_cmp name pairs)
  walked from is = ap (λ l. first_row (map (λ h. h.1) (leading (is_mine text_cmp name) l))) (sym is) ∙ ap (λ l. first_row (map (λ h. h.1) l)) (walk_is text_cmp nat_cmp nat_list_cmp_total nat_cmp_total exact_bytes exact_unsigned name 0 least_number pairs ordered)

  pub first_none : onward text_cmp nat_cmp name 0 pairs ≡ [] → None ≡ first_row (keys_under text_cmp nat_cmp name pairs)
  first_none is = walked [] is

  pub first_mine : (h : List ℕ × ℕ) (rest : List (List ℕ × ℕ)) → onward text_cmp nat_cmp name 0 pairs ≡ h ∷ rest → is_mine text_cmp name h ≡ true → Some h.1 ≡ first_row (keys_under text_cmp nat_cmp name pairs)
  first_mine h rest is mine = sym (ap (λ b. first_row (map (λ g. g.1) (cond b (h ∷ leading (is_mine text_cmp name) rest) []))) mine) ∙ walked (h ∷ rest) is

  pub first_other : (h : List ℕ × ℕ) (rest : List (List ℕ × ℕ)) → onward text_cmp nat_cmp name 0 pairs ≡ h ∷ rest → is_mine text_cmp name h ≡ false → None ≡ first_row (keys_under text_cmp nat_cmp name pairs)
  first_other h rest is other = sym (ap (λ b. first_row (map (λ g. g.1) (cond b (h ∷ leading (is_mine text_cmp name) rest) []))) other) ∙ walked (h ∷ rest) is

pub each_passes : (rows : List QueryRow) → filter (λ s. true) rows ≡ rows
each_passes [] = refl
each_passes (s ∷ rows) = ap (λ l. s ∷ l) (each_passes rows)

-- What the index of sessions holds after a row was put or removed.
use Rattle.std.proofs.Common.{◌≡◌, ◌≢◌, ℕ, List, ◌∙◌, sym, subst, Option, Some, None, refl, true, false}
use Rattle.std.specs.Prelude.{nat_eq}
use Rattle.std.specs.Option.{option_eq}
use Rattle.std.proofs.lemmas.Bool.{true≢false}
use Rattle.cat_model.specs.Keys.{same_option}
use Rattle.cat_model.proofs.SameLemmas.{option_decides}
use Rattle.std.specs.Ordering.{is_eq, nat_cmp}
use Rattle.std.proofs.lemmas.Cmp.{nat_cmp_total}
use Rattle.std.proofs.lemmas.Map.Lookups.{exact_unsigned}
use Rattle.cat_model.specs.Catalog.{query_key, query_at}
use Rattle.cat_model.specs.Tables.{put, without}
use Rattle.cat_model.specs.declared.row.QueryRow.{QueryRow}
use Rattle.row_table.specs.Filing.{filed, unfiled, place_of}
use Rattle.row_table.proofs.Filed.{apart_differ, files_same, files_moved, files_back, files_gone}
use Rattle.query_table.specs.Places.{session_of, FilesSessions}

abbrev old_session : ℕ → List QueryRow → Option ℕ
old_session id rows = place_of session_of (query_at id rows)

-- the session stays
pub kept : (rows new : List QueryRow) (pairs : List (ℕ × ℕ)) (row : QueryRow) → FilesSessions rows pairs → old_session row.id rows ≡ row.session → new ≡ put nat_cmp query_key row rows → FilesSessions new pairs
kept rows new pairs row files same made =
    subst (λ l. FilesSessions l pairs) (sym made) (files_same nat_cmp nat_cmp nat_cmp_total nat_cmp_total exact_unsigned exact_unsigned query_key session_of rows pairs row files same)

-- the row is bound to another session
pub moved : (rows new : List QueryRow) (pairs after : List (ℕ × ℕ)) (row : QueryRow) (old : Option ℕ) → FilesSessions rows pairs → old ≡ old_session row.id rows → old ≢ row.session → new ≡ put nat_cmp query_key row rows → after ≡ unfiled nat_cmp nat_cmp old row.id (filed nat_cmp nat_cmp row.session row.id pairs) → FilesSessions new after
moved rows new pairs after row old files is differ made bound =
    subst (λ l. FilesSessions l after) (sym made)
    (subst (FilesSessions (put nat_cmp query_key row rows)) (sym bound)
    (files_moved nat_cmp nat_cmp nat_cmp_total nat_cmp_total exact_unsigned exact_unsigned query_key session_of rows pairs row old files is (apart_differ nat_cmp nat_cmp nat_cmp_total nat_cmp_total exact_unsigned exact_unsigned old row.session differ)))

-- the new session was marked, and taken out again
pub back : (rows new : List QueryRow) (pairs after : List (ℕ × ℕ)) (id : ℕ) (old session : Option ℕ) → FilesSessions rows pairs → old ≡ old_session id rows → old ≢ session → new ≡ rows → after ≡ unfiled nat_cmp nat_cmp session id (filed nat_cmp nat_cmp session id pairs) → FilesSessions new after
back rows new pairs after id old session files is differ made bound =
    subst (λ l. FilesSessions l after) (sym made)
    (subst (FilesSessions rows) (sym bound)
    (files_back nat_cmp nat_cmp nat_cmp_total nat_cmp_total exact_unsigned exact_unsigned query_key session_of rows pairs id old session files is (apart_differ nat_cmp nat_cmp nat_cmp_total nat_cmp_total exact_unsigned exact_unsigned old session differ)))

-- the row is gone
pub gone : (rows new : List QueryRow) (pairs after : List (ℕ × ℕ)) (id : ℕ) (old : Option ℕ) → FilesSessions rows pairs → old ≡ old_session id rows → new ≡ without (λ r. is_eq (nat_cmp id (query_key r))) rows → after ≡ unfiled nat_cmp nat_cmp old id pairs → FilesSessions new after
gone rows new pairs after id old files is made bound =
    subst (λ l. FilesSessions l after) (sym made)
    (subst (FilesSessions (without (λ r. is_eq (nat_cmp id (query_key r))) rows)) (sym bound) (files_gone nat_cmp nat_cmp nat_cmp_total nat_cmp_total exact_unsigned exact_unsigned query_key session_of rows pairs id old files is))

option_eq_same : (a b : Option ℕ) → option_eq nat_eq a b ≡ same_option a b
option_eq_same None None = refl
option_eq_same None (Some b) = refl
option_eq_same (Some a) None = refl
option_eq_same (Some a) (Some b) = refl

pub sessions_same : (a b : Option ℕ) → option_eq nat_eq a b ≡ true → a ≡ b
sessions_same a b e = (option_decides a b).0 (sym (option_eq_same a b) ∙ e)

pub sessions_differ : (a b : Option ℕ) → option_eq nat_eq a b ≡ false → a ≢ b
sessions_differ a b e is = true≢false (sym ((option_decides a b).1 is) ∙ sym (option_eq_same a b) ∙ e)

-- neither the rows nor the index of the last `keep` changed
pub both_stay : (rows new : List QueryRow) (pairs after : List (ℕ × ℕ)) → FilesSessions rows pairs → new ≡ rows → after ≡ pairs → FilesSessions new after
both_stay rows new pairs after files made bound = subst (λ l. FilesSessions l after) (sym made) (subst (FilesSessions rows) (sym bound) files)

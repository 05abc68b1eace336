-- The own position of a name is that of its row.
use Rattle.std.proofs.Common.{◌≡◌, ℕ, Bool, true, false, cond, List, [], ◌∷◌, refl, sym, ◌∙◌, ap, Option, Some, None}
use Rattle.std.specs.Ordering.{is_eq}
use Rattle.std.proofs.lemmas.Cmp.{tied_itself, nat_list_cmp_total}
use Rattle.std.proofs.lemmas.Map.Lookups.{exact_bytes}
use Rattle.cat_model.specs.Keys.{text_cmp, same_text}
use Rattle.cat_model.specs.Tables.{row_at, put, without}
use Rattle.cat_model.proofs.Lookups.{row_at-put}
use Rattle.row_table.proofs.Filed.{row_at-without}
use Rattle.row_table.proofs.Places.{text_place}
use Rattle.touch_positions.specs.NameVersions.{own_position, OthersStay}

abbrev Positions : Type 0
Positions = List (List ℕ × ℕ)

abbrev name_of : List ℕ × ℕ → List ℕ
name_of e = e.0

abbrev pub position_in : Option (List ℕ × ℕ) → Option ℕ
position_in None = None
position_in (Some e) = Some e.1

pub own_is : (name : List ℕ) (entries : Positions) → own_position name entries ≡ position_in (row_at text_cmp name_of name entries)
own_is name [] = refl
own_is name (e ∷ entries) = go (same_text e.0 name) (is_eq (text_cmp name e.0)) (text_place e.0 name) (own_is name entries)
  where
    rest_row : Option (List ℕ × ℕ)
    rest_row = row_at text_cmp name_of name entries

    go : (a b : Bool) → a ≡ b → own_position name entries ≡ position_in rest_row → cond a (Some e.1) (own_position name entries) ≡ position_in (cond b (Some e) rest_row)
    go true b same rest = ap (λ x. position_in (cond x (Some e) rest_row)) same
    go false b same rest = rest ∙ ap (λ x. position_in (cond x (Some e) rest_row)) same

itself : (name : List ℕ) → is_eq (text_cmp name name) ≡ true
itself name = ap is_eq (tied_itself nat_list_cmp_total name)

-- a name that is given a position
pub touched : (name : List ℕ) (position : ℕ) (old : Positions) → own_position name (put text_cmp name_of (name, position) old) ≡ Some position
touched name position old =
    own_is name (put text_cmp name_of (name, position) old) ∙ ap position_in (row_at-put text_cmp name_of nat_list_cmp_total exact_bytes name (name, position) old)
    ∙ ap (λ b. position_in (cond b (Some (name, position)) (row_at text_cmp name_of name old))) (itself name)

pub touched_others : (name : List ℕ) (position : ℕ) (old : Positions) → OthersStay name old (put text_cmp name_of (name, position) old)
touched_others name position old other differ =
    own_is other (put text_cmp name_of (name, position) old) ∙ ap position_in (row_at-put text_cmp name_of nat_list_cmp_total exact_bytes other (name, position) old)
    ∙ ap (λ b. position_in (cond b (Some (name, position)) (row_at text_cmp name_of other old))) (sym (text_place name other) ∙ differ) ∙ sym (own_is other old)

-- a name whose position is taken away
abbrev left : List ℕ → Positions → Positions
left name old = without (λ e. is_eq (text_cmp name (name_of e))) old

pub vanished : (name : List ℕ) (old : Positions) → own_position name (left name old) ≡ None
vanished name old =
    own_is name (left name old) ∙ ap position_in (row_at-without text_cmp name_of nat_list_cmp_total exact_bytes name name old) ∙ ap (λ b. position_in (cond b None (row_at text_cmp name_of name old))) (itself name)

pub vanished_others : (name : List ℕ) (old : Positions) → OthersStay name old (left name old)
vanished_others name old other differ =
    own_is other (left name old) ∙ ap position_in (row_at-without text_cmp name_of nat_list_cmp_total exact_bytes other name old)
    ∙ ap (λ b. position_in (cond b None (row_at text_cmp name_of other old))) (sym (text_place name other) ∙ differ) ∙ sym (own_is other old)

-- Where sessions are filed: under each of their checks on their node, and under the empty check there.
use Rattle.std.specs.Prelude.{◌≡◌, ℕ, Bool, false, not, ◌&&◌, ◌||◌, List, Option, is_some}
use Rattle.std.specs.Ordering.{is_eq, nat_cmp}
use Rattle.cat_model.specs.Keys.{pair_cmp, same_text}
use Rattle.cat_model.specs.Tables.{row_at}
use Rattle.cat_model.specs.Catalog.{session_at}
use Rattle.cat_model.specs.declared.row.SessionRow.{SessionRow}
use Rattle.row_table.specs.Filing.{filed_cmp, filed_key}
use Rattle.row_table.specs.Tests.{passes}
use Rattle.session_table.specs.Nodes.{has_check, is_on}

-- a node and a check there
abbrev pub Place : Type 0
Place = List ℕ × List ℕ

-- places with the identifiers of the sessions that stand there
abbrev pub Entries : Type 0
Entries = List (Place × ℕ)

abbrev pub has_entry : Place → ℕ → Entries → Bool
has_entry p id entries = is_some (row_at (filed_cmp pair_cmp nat_cmp) filed_key (p, id) entries)

abbrev pub is_at : Place → Place → Bool
is_at place p = same_text place.0 p.0 && same_text place.1 p.1

-- the place is one of these checks of the node
abbrev pub is_one_of : List ℕ → List (List ℕ) → Place → Bool
is_one_of node checks p = same_text node p.0 && has_check p.1 checks

-- the session, where there is one, stands at the place
abbrev pub stands_at : Place → Option SessionRow → Bool
stands_at p session = passes (is_on p.0 p.1) session

-- an entry is there exactly where the session of its identifier stands at its place
abbrev pub FilesPlaces : List SessionRow → Entries → Type 0
FilesPlaces rows entries = (p : Place) (id : ℕ) → has_entry p id entries ≡ stands_at p (session_at id rows)

module _ (here : Place → Bool) (id : ℕ) (old new : Entries) where
  -- the entry is one of this session at one of these places
  abbrev is_own : Place → ℕ → Bool
  is_own p k = here p && is_eq (nat_cmp k id)

  -- the session is filed at these places too, or no more
  abbrev pub Adds : Type 0
  Adds = (p : Place) (k : ℕ) → has_entry p k new ≡ (is_own p k || has_entry p k old)

  abbrev pub Takes : Type 0
  Takes = (p : Place) (k : ℕ) → has_entry p k new ≡ (not (is_own p k) && has_entry p k old)

  -- all other entries are as they were
  abbrev pub Spares : Type 0
  Spares = (p : Place) (k : ℕ) → is_own p k ≡ false → has_entry p k new ≡ has_entry p k old

abbrev pub has_id : ℕ → List ℕ → Bool
has_id k ids = is_some (row_at nat_cmp (λ (j : ℕ). j) k ids)

-- What becomes of the keys that ended sessions held.
use Rattle.std.specs.Prelude.{◌≡◌, ℕ, Bool, true, false, not, ◌&&◌, if◌then◌else◌, List, Option, Some, None}
use Rattle.std.proofs.Common.{max}
use Rattle.std.specs.List.{list_any, filter_map}
use Rattle.std.specs.Ordering.{is_eq}
use Rattle.cat_model.specs.Keys.{text_cmp}
use Rattle.cat_model.specs.Tables.{row_at, Ascends}
use Rattle.cat_model.specs.Catalog.{kv_at, kv_key}
use Rattle.cat_model.specs.Kv.{put_kv}
use Rattle.cat_model.specs.KvIndexes.{last_tomb}
use Rattle.cat_model.specs.Machine.{freed_row, freed_key, ended_holder}
use Rattle.cat_model.specs.declared.fired.Freed.{Freed}
use Rattle.cat_model.specs.declared.row.KvRow.{KvRow}
use Rattle.cat_model.specs.declared.row.SessionRow.{SessionRow}
use Rattle.cat_model.specs.declared.row.Behavior.{Behavior}
use Rattle.cat_model.specs.declared.row.Behavior.TheVariants.{Release, Delete}
use Rattle.kv_table.specs.States.{KvVersions, TombsUnder}
use Rattle.catalog_store.specs.declared.key_commands.freed_keys.Holding.{Holding}

-- the rows after these sessions ended
abbrev pub freed_rows : ℕ → List SessionRow → List KvRow → List KvRow
freed_rows i gone rows = filter_map (λ r. freed_row i r (ended_holder gone r.session)) rows

-- the keys that they held, each with its session's delay
abbrev pub freed_keys : List SessionRow → List KvRow → List (List ℕ × ℕ)
freed_keys gone rows = filter_map (λ r. freed_key r (ended_holder gone r.session)) rows

-- a key as the session holds it
abbrev pub holding_key : Holding → List ℕ
holding_key h = h.key

abbrev pub holding : SessionRow → List ℕ → Holding
holding s key = record { key = key; delay_ms = s.delay_ms; behavior = s.behavior }

abbrev pub holding_at : List ℕ → List Holding → Option Holding
holding_at = row_at text_cmp holding_key

-- what these sessions hold
abbrev pub row_holding : KvRow → Option SessionRow → Option Holding
row_holding r None = None
row_holding r (Some s) = Some (holding s r.key)

abbrev pub holdings : List SessionRow → List KvRow → List Holding
holdings gone rows = filter_map (λ r. row_holding r (ended_holder gone r.session)) rows

-- the key with its delay, as a caller gets it
abbrev pub freed_holding : Holding → Freed
freed_holding h = record { key = h.key; delay_ms = h.delay_ms }

-- the key is one of these
abbrev pub is_among : List (List ℕ) → List ℕ → Bool
is_among keys q = list_any (λ key. is_eq (text_cmp q key)) keys

-- the holdings of these keys are put to the others
pub record Notes (s : SessionRow) (keys : List (List ℕ)) (old new : List Holding) : Type 0 where
  pub found : (q : List ℕ) → holding_at q new ≡ (if is_among keys q then Some (holding s q) else holding_at q old)

-- the holdings are those of these sessions
abbrev pub found_holding : List SessionRow → Option KvRow → Option Holding
found_holding gone None = None
found_holding gone (Some r) = row_holding r (ended_holder gone r.session)

pub record NotesOf (gone : List SessionRow) (rows : List KvRow) (new : List Holding) : Type 0 where
  pub found : (q : List ℕ) → holding_at q new ≡ found_holding gone (kv_at q rows)

-- the row without its session
abbrev pub released : ℕ → Option KvRow → Option KvRow
released i None = None
released i (Some r) = Some (record r { session = None; modify = i })

abbrev pub put_released : Option KvRow → List KvRow → List KvRow
put_released None rows = rows
put_released (Some r) rows = put_kv r rows

-- the key has no session, and its row was written at the position
pub record Releases (key : List ℕ) (i : ℕ) (old new : KvVersions) : Type 0 where
  pub rows : new.now.rows ≡ put_released (released i (kv_at key old.now.rows)) old.now.rows
  pub tombs : TombsUnder key i old.now.tombs new.now.tombs
  pub floor : new.now.floor ≡ old.now.floor
  pub before : new.before ≡ old.before

-- the row of a key after its session's end
abbrev pub left : ℕ → Behavior → Option KvRow → Option KvRow
left i Release row = released i row
left i Delete row = None

abbrev pub left_of : ℕ → Option Holding → Option KvRow → Option KvRow
left_of i None row = row
left_of i (Some h) row = left i h.behavior row

abbrev pub deletes : Behavior → Bool
deletes Release = false
deletes Delete = true

-- whether a key that passes the test is deleted, and whether one is released
abbrev pub any_deleted : (List ℕ → Bool) → List Holding → Bool
any_deleted test hs = list_any (λ h. test h.key && deletes h.behavior) hs

abbrev pub any_released : (List ℕ → Bool) → List Holding → Bool
any_released test hs = list_any (λ h. test h.key && not (deletes h.behavior)) hs

-- The keys of these holdings are freed: each is released or deleted, and a deleted one has a tombstone. The tombstones
-- of a released key may be gone.
pub record Frees (hs : List Holding) (i : ℕ) (old new : KvVersions) : Type 0 where
  pub rows : (q : List ℕ) → kv_at q new.now.rows ≡ left_of i (holding_at q hs) (kv_at q old.now.rows)
  pub order : Ascends text_cmp kv_key old.now.rows → Ascends text_cmp kv_key new.now.rows
  pub tombs : (test : List ℕ → Bool) (floor : ℕ) → any_released test hs ≡ false → last_tomb test floor new.now.tombs ≡ (if any_deleted test hs then max i (last_tomb test floor old.now.tombs) else last_tomb test floor old.now.tombs)
  pub under : (test : List ℕ → Bool) (floor : ℕ) → max i (last_tomb test floor new.now.tombs) ≡ max i (last_tomb test floor old.now.tombs)
  pub floor : new.now.floor ≡ old.now.floor
  pub before : new.before ≡ old.before

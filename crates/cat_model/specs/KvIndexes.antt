-- What a table of keys keeps in place of the log: tombstones of removed keys, and a floor that a reap sets.
use Rattle.std.specs.Prelude.{◌≡◌, ℕ, Bool, if◌then◌else◌, List, [], ◌∷◌, Option, Some, None, is_some}
use Rattle.std.proofs.Common.{max}
use Rattle.cat_model.specs.Keys.{same_text, has_prefix}
use Rattle.cat_model.specs.Catalog.{kv_at}
use Rattle.cat_model.specs.Machine.{at_past}
use Rattle.cat_model.specs.Indexes.{past_index, is_reap}
use Rattle.cat_model.specs.declared.row.KvRow.{KvRow}
use Rattle.cat_model.specs.declared.query.Query.TheVariants as q
use Rattle.cat_model.specs.declared.command.Command.{Command}

-- the last of the tombstones whose key passes the test, or the floor
abbrev pub last_tomb : (List ℕ → Bool) → ℕ → List (List ℕ × ℕ) → ℕ
last_tomb test floor [] = floor
last_tomb test floor (t ∷ tombs) = if test t.0 then max t.1 (last_tomb test floor tombs) else last_tomb test floor tombs

-- the last modify of the rows whose key passes the test, or the least
abbrev pub last_modify : (List ℕ → Bool) → ℕ → List KvRow → ℕ
last_modify test least [] = least
last_modify test least (r ∷ rows) = if test r.key then max r.modify (last_modify test least rows) else last_modify test least rows

abbrev pub row_index : Option KvRow → ℕ → ℕ
row_index None absent = absent
row_index (Some r) absent = r.modify

-- the index of a key, and of a prefix
abbrev pub key_index : List ℕ → List KvRow → List (List ℕ × ℕ) → ℕ → ℕ
key_index key rows tombs floor = row_index (kv_at key rows) (last_tomb (λ k. same_text k key) floor tombs)

abbrev pub prefix_index : List ℕ → List KvRow → List (List ℕ × ℕ) → ℕ → ℕ
prefix_index prefix rows tombs floor = last_modify (has_prefix prefix) (last_tomb (has_prefix prefix) floor tombs) rows

-- a tombstone at position i for each row that is gone
abbrev pub buried : ℕ → List KvRow → List KvRow → List (List ℕ × ℕ) → List (List ℕ × ℕ)
buried i after [] tombs = tombs
buried i after (r ∷ rows) tombs = if is_some (kv_at r.key after) then buried i after rows tombs else (r.key, i) ∷ buried i after rows tombs

-- the tombstones and the floor after a command
abbrev pub tombs_after : ℕ → Command → List KvRow → List KvRow → List (List ℕ × ℕ) → List (List ℕ × ℕ)
tombs_after i c before after tombs = if is_reap c then [] else buried i after before tombs

abbrev pub floor_after : ℕ → Command → ℕ → ℕ
floor_after i c floor = if is_reap c then i else floor

-- these tombstones and this floor give the indexes of a log
pub record GivesIndexes (past : List Command) (tombs : List (List ℕ × ℕ)) (floor : ℕ) : Type 0 where
  pub keys : (key : List ℕ) → key_index key (at_past past).kv tombs floor ≡ past_index (q.Key key) past
  pub prefixes : (prefix : List ℕ) → prefix_index prefix (at_past past).kv tombs floor ≡ past_index (q.Prefix prefix) past

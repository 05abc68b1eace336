-- Where the waiters of a registry stand.
use Rattle.std.specs.Prelude.{◌≡◌, ℕ, ◌≤◌, Bool, true, not, List, [], length, Some, slice_index_or}
use Rattle.std.specs.Ordering.{nat_cmp}
use Rattle.std.specs.List.Sorted.{IsStrictlySortedBy}
use Rattle.std.specs.Map.{lookup, keys_of}
use Rattle.std.specs.BTreeMap.{is_at}
use Rattle.cat_model.specs.declared.query.Chan.{Chan}
use Rattle.index_list.specs.Nodes.{Nodes, item_at, live}
use Rattle.index_list.specs.Places.{has}
use Rattle.read_watch.specs.declared.waiters.Waiting.{Waiting}
use Rattle.read_watch.specs.Buckets.{first_list, second_list}

-- a waiter with its channels
abbrev pub shown : ℕ × Waiting → ℕ × List Chan
shown e = (e.0, e.1.chans)

-- a waiter is the item of a live node on the lists of its channels, of which it has two at most
pub record Stands (s : Nodes ℕ) (waiter : ℕ) (w : Waiting) : Type 0 where
  pub item : item_at s.items w.node ≡ Some waiter
  pub first : has w.node (slice_index_or s.first (first_list w.chans) []) ≡ true
  pub second : has w.node (slice_index_or s.second (second_list w.chans) []) ≡ true
  pub two : length w.chans ≤ 2

pub record Held (entries : List (ℕ × Waiting)) (s : Nodes ℕ) : Type 0 where
  pub firsts : length s.first ≡ 65537
  pub seconds : length s.second ≡ 65537
  pub count : live s.items ≡ length entries
  pub order : IsStrictlySortedBy nat_cmp (keys_of entries)
  pub all : (k : ℕ) (w : Waiting) → lookup (is_at (nat_cmp k)) entries ≡ Some w → Stands s k w

-- whether a waiter is none of these
abbrev pub is_off : List ℕ → ℕ × Waiting → Bool
is_off gone e = not (has e.0 gone)

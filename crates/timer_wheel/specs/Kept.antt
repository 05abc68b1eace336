-- Where the timers of a wheel stand.
use Rattle.std.specs.Prelude.{◌≡◌, ℕ, ◌≤◌, ◌%◌, true, List, [], length, Some, slice_index_or}
use Rattle.std.specs.Ordering.{nat_cmp}
use Rattle.std.specs.Map.{lookup, keys_of}
use Rattle.std.specs.List.Sorted.{IsStrictlySortedBy}
use Rattle.std.specs.BTreeMap.{is_at}
use Rattle.index_list.specs.Nodes.{Nodes, item_at, live}
use Rattle.index_list.specs.Places.{has}
use Rattle.timer_wheel.specs.declared.place.Place.{Place}

-- a key with the time of its timer
abbrev pub timed : ℕ × Place → ℕ × ℕ
timed e = (e.0, e.1.at)

-- a timer's key is the item of a live node of the list of its slot, and its time is not before the lowest one
pub record Stands (s : Nodes ℕ) (low k : ℕ) (p : Place) : Type 0 where
  pub item : item_at s.items p.node ≡ Some k
  pub there : has p.node (slice_index_or s.first (p.at % 65536) []) ≡ true
  pub late : low ≤ p.at

pub record Kept (entries : List (ℕ × Place)) (s : Nodes ℕ) (low : ℕ) : Type 0 where
  pub slots : length s.first ≡ 65536
  pub one : length s.second ≡ 1
  pub count : live s.items ≡ length entries
  pub order : IsStrictlySortedBy nat_cmp (keys_of entries)
  pub all : (k : ℕ) (p : Place) → lookup (is_at (nat_cmp k)) entries ≡ Some p → Stands s low k p

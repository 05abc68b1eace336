-- What a search for the waiters on fired channels has found.
use Rattle.std.specs.Prelude.{◌≡◌, ℕ, true, List, [], Some, slice_index_or}
use Rattle.std.specs.Ordering.{nat_cmp}
use Rattle.std.specs.Map.{lookup}
use Rattle.std.specs.List.{list_any}
use Rattle.std.specs.BTreeMap.{is_at}
use Rattle.cat_model.specs.Reach.{reaches, is_on}
use Rattle.cat_model.specs.declared.query.Chan.{Chan}
use Rattle.index_list.specs.declared.family.Family.{Family}
use Rattle.index_list.specs.declared.family.Family.TheVariants.{First, Second}
use Rattle.index_list.specs.Nodes.{Nodes, item_at, family_of}
use Rattle.index_list.specs.Places.{has}
use Rattle.read_watch.specs.declared.waiters.Waiting.{Waiting}
use Rattle.read_watch.specs.Buckets.{bucket_of}

abbrev pub IsFound : List ℕ → ℕ → Type 0
IsFound found waiter = list_any (is_at (nat_cmp waiter)) found ≡ true

-- a waiter on a channel that a fired one reaches
pub record IsHit (entries : List (ℕ × Waiting)) (fired : List Chan) (waiter : ℕ) : Type 0 where
  pub waiting : Waiting
  pub here : lookup (is_at (nat_cmp waiter)) entries ≡ Some waiting
  pub on : is_on fired waiting.chans ≡ true

-- all that were found are hit
pub record AllHit (entries : List (ℕ × Waiting)) (fired : List Chan) (found : List ℕ) : Type 0 where
  pub each : (waiter : ℕ) → IsFound found waiter → IsHit entries fired waiter

-- what was found stays so
pub record AllKept (before after : List ℕ) : Type 0 where
  pub still : (waiter : ℕ) → IsFound before waiter → IsFound after waiter

-- a waiter is found, if it is hit
pub record IsNoted (entries : List (ℕ × Waiting)) (fired : List Chan) (found : List ℕ) (waiter : ℕ) : Type 0 where
  pub noted : (w : Waiting) → lookup (is_at (nat_cmp waiter)) entries ≡ Some w → is_on fired w.chans ≡ true → IsFound found waiter

-- all on a list of a family are found, if they are hit
pub record FamilyNoted (family : Family) (s : Nodes ℕ) (entries : List (ℕ × Waiting)) (fired : List Chan) (number : ℕ) (found : List ℕ) : Type 0 where
  pub noted : (node waiter : ℕ) → has node (slice_index_or (family_of family s) number []) ≡ true → item_at s.items node ≡ Some waiter → IsNoted entries fired found waiter

-- the same of a list of each family
pub record ListNoted (s : Nodes ℕ) (entries : List (ℕ × Waiting)) (fired : List Chan) (number : ℕ) (found : List ℕ) : Type 0 where
  pub first : FamilyNoted First s entries fired number found
  pub second : FamilyNoted Second s entries fired number found

-- all on the lists of the channels that a channel reaches are found, if they are hit
pub record ChanNoted (s : Nodes ℕ) (entries : List (ℕ × Waiting)) (fired : List Chan) (found : List ℕ) (chan : Chan) : Type 0 where
  pub noted : (c : Chan) → reaches chan c ≡ true → ListNoted s entries fired (bucket_of c) found

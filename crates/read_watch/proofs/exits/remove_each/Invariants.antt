use Rattle.std.proofs.Common.{◌≡◌, ℕ, true, false, None, take}
use Rattle.std.specs.Ordering.{nat_cmp}
use Rattle.std.specs.Map.{lookup}
use Rattle.std.specs.BTreeMap.{is_at}
use Rattle.read_watch.specs.Watch.{is_among}
use Rattle.read_watch.proofs.exits.remove_each.Given as goal

abbrev pub invariant-loop-number : goal.invariant-loop-number
invariant-loop-number l = record {
  others : (n : ℕ) → is_among n (take l.number-index l.numbers) ≡ false → lookup (is_at (nat_cmp n)) l.registry ≡ lookup (is_at (nat_cmp n)) l.fn.registry;
  gone : (n : ℕ) → is_among n (take l.number-index l.numbers) ≡ true → lookup (is_at (nat_cmp n)) l.registry ≡ None;
}

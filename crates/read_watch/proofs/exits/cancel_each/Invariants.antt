use Rattle.std.proofs.Common.{◌≡◌, ℕ, false, take}
use Rattle.std.specs.Ordering.{nat_cmp}
use Rattle.std.specs.Map.{lookup}
use Rattle.std.specs.BTreeMap.{is_at}
use Rattle.read_watch.specs.Watch.{AreNumbers, is_among}
use Rattle.read_watch.proofs.exits.cancel_each.Given as goal

abbrev pub invariant-loop-number : goal.invariant-loop-number
invariant-loop-number l = record {
  others : (n : ℕ) → is_among n (take l.number-index l.numbers) ≡ false → lookup (is_at (nat_cmp n)) l.timers ≡ lookup (is_at (nat_cmp n)) l.fn.timers;
  numbers : AreNumbers l.fn.timers → AreNumbers l.timers;
}

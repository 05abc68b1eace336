use Rattle.std.proofs.Common.{sym, ◌∙◌, ap, subst}
use Rattle.std.specs.Ordering.{nat_cmp}
use Rattle.std.specs.Map.{lookup}
use Rattle.std.specs.BTreeMap.{is_at}
use Rattle.read_watch.specs.Watch.{AreNumbers}
use Rattle.timer_wheel.proofs.Lookups.{found_without}
use Rattle.read_watch.proofs.Lookups.{numbers_without}
use Rattle.read_watch.proofs.Members.{not_before}
use Rattle.read_watch.proofs.exits.cancel_each.Goals as goal

pub loop-number-preserved : goal.loop-number-preserved
loop-number-preserved c = record {
  others = λ n h.
      let b = not_before n c.loop-number.number-index c.args.numbers.now c.loop-number-test.true h in
      ap (lookup (is_at (nat_cmp n))) c.cancel.ensures.left ∙ found_without n c.from.result c.loop-number.timers (λ q. b.1 (q ∙ c.from.ensures)) ∙ c.loop-number.invariant.others n b.0;
  numbers = λ h. subst AreNumbers (sym c.cancel.ensures.left) (numbers_without _ c.loop-number.timers (c.loop-number.invariant.numbers h));
}

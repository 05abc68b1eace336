use Rattle.std.proofs.Common.{List, ℕ, sym, ◌∙◌, ap, take, filter, get_or}
use Rattle.std.specs.Ordering.{nat_cmp}
use Rattle.std.specs.Map.{remove_entry}
use Rattle.std.specs.BTreeMap.{is_at}
use Rattle.std.proofs.lemmas.List.{take_more}
use Rattle.timer_wheel.specs.Finds.{is_off}
use Rattle.timer_wheel.proofs.Leaves.{off_none, off_more}
use Rattle.timer_wheel.proofs.slots.unset_timers.Goals as goal

pub loop-key-init : goal.loop-key-init
loop-key-init c = (c.requires.kept, sym (off_none c.args.places.now.entries))

pub loop-key-preserved : goal.loop-key-preserved
loop-key-preserved c =
    let key : ℕ = get_or c.args.keys.now c.loop-key.key-index 0 in (
      c.unset_timer.ensures.kept,
      c.unset_timer.ensures.left ∙ ap (remove_entry (is_at (nat_cmp key))) c.loop-key.invariant.1 ∙ off_more (take c.loop-key.key-index c.args.keys.now) key c.args.places.now.entries c.requires.kept.order
          ∙ ap (λ (l : List ℕ). filter (is_off l) c.args.places.now.entries) (sym (take_more c.args.keys.now c.loop-key.key-index 0 c.loop-key-test.true)),
    )

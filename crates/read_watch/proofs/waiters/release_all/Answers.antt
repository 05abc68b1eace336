use Rattle.std.proofs.Common.{ℕ, List, sym, ◌∙◌, ap, take, filter, get_or}
use Rattle.std.specs.Ordering.{nat_cmp}
use Rattle.std.specs.Map.{remove_entry}
use Rattle.std.specs.BTreeMap.{is_at}
use Rattle.std.proofs.lemmas.List.{take_more}
use Rattle.read_watch.specs.Held.{is_off}
use Rattle.read_watch.proofs.Leaves.{off_none, off_more}
use Rattle.read_watch.proofs.waiters.release_all.Goals as goal

pub loop-waiter-init : goal.loop-waiter-init
loop-waiter-init c = (c.requires.held, sym (off_none c.args.waiters.now.entries))

pub loop-waiter-preserved : goal.loop-waiter-preserved
loop-waiter-preserved c =
    let key : ℕ = get_or c.args.gone.now c.loop-waiter.waiter-index 0 in (
      c.release.ensures.held,
      c.release.ensures.left ∙ ap (remove_entry (is_at (nat_cmp key))) c.loop-waiter.invariant.1 ∙ off_more (take c.loop-waiter.waiter-index c.args.gone.now) key c.args.waiters.now.entries c.requires.held.order
          ∙ ap (λ (l : List ℕ). filter (is_off l) c.args.waiters.now.entries) (sym (take_more c.args.gone.now c.loop-waiter.waiter-index 0 c.loop-waiter-test.true)),
    )

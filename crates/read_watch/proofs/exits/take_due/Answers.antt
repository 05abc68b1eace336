use Rattle.std.proofs.Common.{◌<◌, ◌^◌, sym, subst, not, nat_le}
use Rattle.std.specs.List.{AllByRecursion}
use Rattle.read_watch.specs.Watch.{AreNumbers}
use Rattle.read_watch.proofs.Lookups.{numbers_passing}
use Rattle.read_watch.proofs.Leavers.{keys_fit}
use Rattle.read_watch.proofs.exits.take_due.Goals as goal

pub numbers_of-requires : goal.numbers_of-requires
numbers_of-requires c = subst (AllByRecursion (λ k. k < 2 ^ 64)) (sym c.as_slice.ensures.value) (keys_fit c.args.timers.now c.args.clock c.in_ok-keys.keys.items c.requires c.in_ok-keys.ensures.due)

pub returns-clause-numbers : goal.returns-clause-numbers
returns-clause-numbers c = subst AreNumbers (sym c.in_ok-keys.ensures.left) (numbers_passing (λ t. not (nat_le t.1 c.args.clock)) c.args.timers.now c.requires)

use Rattle.std.proofs.Common.{◌≡◌, subst}
use Rattle.std.specs.Ordering.{nat_cmp}
use Rattle.std.specs.BTreeMap.{insert_entry}
use Rattle.read_watch.proofs.Leavers.{set_until, set_beside, set_numbers}
use Rattle.read_watch.proofs.entries.enter.Goals as goal

pub returns-in-Ok-clause-until : goal.returns-in-Ok-clause-until
returns-in-Ok-clause-until c = set_until c.hang.result c.args.number c.args.deadline c.args.timers.now c.set.new.self c.hang.new.timers (subst (λ k. c.set.new.self ≡ insert_entry nat_cmp c.args.timers.now k c.args.deadline) c.from.ensures c.in-Ok.ensures.ok) c.hang.ensures.timers

pub returns-in-Ok-clause-others : goal.returns-in-Ok-clause-others
returns-in-Ok-clause-others c = set_beside c.hang.result c.args.number c.args.deadline c.args.timers.now c.set.new.self c.hang.new.timers (subst (λ k. c.set.new.self ≡ insert_entry nat_cmp c.args.timers.now k c.args.deadline) c.from.ensures c.in-Ok.ensures.ok) c.hang.ensures.timers

pub returns-in-Ok-clause-numbers : goal.returns-in-Ok-clause-numbers
returns-in-Ok-clause-numbers c = set_numbers c.hang.result c.args.number c.args.deadline c.args.timers.now c.set.new.self c.hang.new.timers (subst (λ k. c.set.new.self ≡ insert_entry nat_cmp c.args.timers.now k c.args.deadline) c.from.ensures c.in-Ok.ensures.ok) c.hang.ensures.timers c.ranges.number.fits c.requires.numbers

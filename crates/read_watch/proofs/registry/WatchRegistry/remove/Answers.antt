use Rattle.std.proofs.Common.{ℕ, List, ◌∙◌, ap, map}
use Rattle.std.specs.Ordering.{nat_cmp}
use Rattle.std.specs.Map.{lookup, remove_entry}
use Rattle.std.specs.BTreeMap.{is_at}
use Rattle.cat_model.specs.declared.query.Chan.{Chan}
use Rattle.read_watch.specs.Held.{shown}
use Rattle.read_watch.proofs.Holds.{shown_without, shown_gone}
use Rattle.read_watch.proofs.registry.WatchRegistry.remove.Goals as goal

pub returns-clause-left : goal.returns-clause-left
returns-clause-left c = ap (map shown) c.release.ensures.left ∙ shown_without (is_at (nat_cmp c.args.waiter)) c.self.inside.waiters.entries ∙ ap (λ (l : List (ℕ × List Chan)). remove_entry (is_at (nat_cmp c.args.waiter)) l) c.self.view_is

pub returns-clause-gone : goal.returns-clause-gone
returns-clause-gone c = ap (λ l. lookup (is_at (nat_cmp c.args.waiter)) (map shown l)) c.release.ensures.left ∙ shown_gone c.args.waiter c.self.inside.waiters.entries c.self.invariant.order

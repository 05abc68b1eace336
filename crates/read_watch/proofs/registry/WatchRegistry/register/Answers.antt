use Rattle.std.proofs.Common.{ℕ, List, ◌∙◌, ap}
use Rattle.std.specs.Ordering.{nat_cmp}
use Rattle.std.specs.Map.{lookup}
use Rattle.std.specs.BTreeMap.{is_at}
use Rattle.cat_model.specs.declared.query.Chan.{Chan}
use Rattle.read_watch.proofs.Holds.{shown_none}
use Rattle.read_watch.proofs.registry.WatchRegistry.register.Goals as goal

pub hold-requires-clause-fresh : goal.hold-requires-clause-fresh
hold-requires-clause-fresh c = shown_none (is_at (nat_cmp c.args.waiter)) c.self.inside.waiters.entries (ap (λ (l : List (ℕ × List Chan)). lookup (is_at (nat_cmp c.args.waiter)) l) c.self.view_is ∙ c.requires.fresh)

use Rattle.std.proofs.Common.{ℕ, List, ◌∙◌, ap, is_some}
use Rattle.std.specs.Ordering.{nat_cmp}
use Rattle.std.specs.Map.{lookup}
use Rattle.std.specs.BTreeMap.{is_at}
use Rattle.cat_model.specs.declared.query.Chan.{Chan}
use Rattle.read_watch.proofs.Holds.{shown_lookup}
use Rattle.read_watch.proofs.registry.WatchRegistry.contains.Goals as goal

pub returns : goal.returns
returns c = c.contains_key.ensures ∙ shown_lookup (is_at (nat_cmp c.args.waiter)) c.self.inside.waiters.entries ∙ ap (λ (l : List (ℕ × List Chan)). is_some (lookup (is_at (nat_cmp c.args.waiter)) l)) c.self.view_is

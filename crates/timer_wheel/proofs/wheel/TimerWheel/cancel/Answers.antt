use Rattle.std.proofs.Common.{ℕ, List, ◌∙◌, ap, map, is_some}
use Rattle.std.specs.Ordering.{nat_cmp}
use Rattle.std.specs.Map.{lookup, remove_entry}
use Rattle.std.specs.BTreeMap.{is_at}
use Rattle.timer_wheel.specs.Kept.{timed}
use Rattle.timer_wheel.proofs.Keeps.{timed_without, timed_lookup}
use Rattle.timer_wheel.proofs.wheel.TimerWheel.cancel.Goals as goal

pub returns-clause-was : goal.returns-clause-was
returns-clause-was c = c.unset_timer.ensures.was ∙ timed_lookup (is_at (nat_cmp c.args.key)) c.self.inside.places.entries ∙ ap (λ (l : List (ℕ × ℕ)). is_some (lookup (is_at (nat_cmp c.args.key)) l)) c.self.view_is

pub returns-clause-left : goal.returns-clause-left
returns-clause-left c = ap (map timed) c.unset_timer.ensures.left ∙ timed_without (is_at (nat_cmp c.args.key)) c.self.inside.places.entries ∙ ap (λ (l : List (ℕ × ℕ)). remove_entry (is_at (nat_cmp c.args.key)) l) c.self.view_is

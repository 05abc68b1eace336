use Rattle.std.proofs.Common.{◌≡◌}
use Rattle.std.specs.Vec.Iter.{into_iter_items}
use Rattle.agent_state.specs.Replacing.{all_replaced}
use Rattle.agent_state.proofs.replacements.replace_all.Given as goal

abbrev pub invariant-loop-at : goal.invariant-loop-at
invariant-loop-at g l = all_replaced (into_iter_items l.at-iterator) l.items.items ≡ all_replaced l.fn.new.items l.initial.items.items

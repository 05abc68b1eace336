use Rattle.std.proofs.Common.{◌≡◌, ◌+◌, ◌≤◌, length}
use Rattle.std.specs.Vec.{vec_capacity, vec_len}
use Rattle.std.specs.Vec.Iter.{into_iter_items}
use Rattle.agent_state.specs.Order.{ChecksAscend, all_put}
use Rattle.agent_state.proofs.checks.place_checks.Given as goal

abbrev pub invariant-loop-one : goal.invariant-loop-one
invariant-loop-one l =
    (all_put (into_iter_items l.one-iterator) l.checks.items ≡ all_put l.fn.new.items l.initial.checks.items) × ChecksAscend l.checks.items
    × (vec_len l.checks + length (into_iter_items l.one-iterator) ≤ vec_capacity l.checks)

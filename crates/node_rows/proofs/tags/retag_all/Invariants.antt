use Rattle.std.proofs.Common.{◌≡◌}
use Rattle.std.specs.Vec.Iter.{into_iter_items}
use Rattle.node_rows.specs.Tags.{all_tagged}
use Rattle.node_rows.proofs.tags.retag_all.Given as goal

abbrev pub invariant-loop-one : goal.invariant-loop-one
invariant-loop-one l = all_tagged (into_iter_items l.one-iterator) l.services.items ≡ all_tagged l.fn.new.items l.initial.services.items

use Rattle.std.proofs.Common.{◌≡◌, take}
use Rattle.session_table.specs.Places.{is_one_of, Takes}
use Rattle.session_table.proofs.places.unfile_each.Given as goal

abbrev pub invariant-loop-check : goal.invariant-loop-check
invariant-loop-check l = Takes (is_one_of l.node (take l.check-index l.checks)) l.id l.initial.places.now l.places.now × (l.places.before ≡ l.initial.places.before)

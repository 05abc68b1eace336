use Rattle.std.proofs.Common.{◌≡◌, take}
use Rattle.session_table.specs.Places.{is_one_of, Adds}
use Rattle.session_table.proofs.places.file_each.Given as goal

abbrev pub invariant-loop-check : goal.invariant-loop-check
invariant-loop-check l = Adds (is_one_of l.node (take l.check-index l.checks)) l.id l.initial.places.now l.places.now × (l.places.before ≡ l.initial.places.before)

use Rattle.std.proofs.Common.{◌≡◌, take}
use Rattle.std.specs.List.{filter_map}
use Rattle.anti_entropy.specs.Parts.{old_check}
use Rattle.anti_entropy.proofs.checks.old_checks.Given as goal

abbrev pub invariant-loop-stray : goal.invariant-loop-stray
invariant-loop-stray l = l.all.items ≡ filter_map (old_check l.node l.own.services.items l.there.services.items) (take l.stray-index l.strays)

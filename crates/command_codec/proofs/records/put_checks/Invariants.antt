use Rattle.std.proofs.Common.{◌≡◌, ◌++◌, length, take}
use Rattle.std.specs.List.{flat_map, fold}
use Rattle.cat_model.specs.Spelling.{number_bytes, check_bytes}
use Rattle.command_codec.proofs.records.put_checks.Given as goal

abbrev pub invariant-loop-check : goal.invariant-loop-check
invariant-loop-check g l =
    g.O.Out.seen l.out ≡ fold g.O.Out.after (g.O.Out.seen l.fn.out) (number_bytes (length l.checks) ++ flat_map check_bytes (take l.check-index l.checks))

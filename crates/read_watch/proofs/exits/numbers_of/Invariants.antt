use Rattle.std.proofs.Common.{◌≡◌, take}
use Rattle.read_watch.proofs.exits.numbers_of.Given as goal

abbrev pub invariant-loop-key : goal.invariant-loop-key
invariant-loop-key l = l.numbers ≡ take l.key-index l.keys

use Rattle.std.proofs.Common.{◌≡◌, map, take}
use Rattle.std.specs.String.{string_bytes}
use Rattle.catalogd.proofs.texts.Given as goal

-- the words so far are the first arguments
abbrev pub invariant-loop-argument : goal.invariant-loop-argument
invariant-loop-argument l = map (λ w. w.now) l.words.items ≡ map string_bytes (take l.argument-index l.arguments)

use Rattle.std.proofs.Common.{◌≡◌, ◌∷◌, [], ◌++◌, take}
use Rattle.std.specs.List.{flat_map}
use Rattle.script_lang.specs.Text.{escaped}
use Rattle.script_lang.proofs.text.push_body.Given as goal

abbrev pub invariant-loop-byte : goal.invariant-loop-byte
invariant-loop-byte l = l.text.items ≡ (l.fn.text.items ++ 32 ∷ []) ++ flat_map escaped (take l.byte-index l.body)

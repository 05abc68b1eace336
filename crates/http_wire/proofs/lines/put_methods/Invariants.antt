use Rattle.std.proofs.Common.{◌≡◌, ◌++◌, take}
use Rattle.std.specs.Prelude.{flat_map, codes}
use Rattle.http_wire.proofs.lines.put_methods.Given as goal

abbrev pub invariant-methods : goal.invariant-methods
invariant-methods l = l.out.items ≡ l.initial.out.items ++ flat_map (λ method. codes ", " ++ method) (take l.method-index l.rest)

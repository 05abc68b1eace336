-- What reading takes.
use Rattle.std.proofs.Common.{List, ℕ, ◌++◌, Option}
use Rattle.std.specs.Io.KnownBytes.{Consumes}
use Rattle.std.proofs.KnownBytes.{Consumes-trans}
use Rattle.catalog_top.specs.Input.{TakesSome}

pub takes_more : (a b c : Option (List ℕ)) (bytes : List ℕ) → Consumes a b bytes → TakesSome b c → TakesSome a c
takes_more a b c bytes took some = record { bytes = bytes ++ some.bytes; consumed = Consumes-trans a b c bytes some.bytes took some.consumed }

use Rattle.std.proofs.Common.{take, map}
use Rattle.std.specs.Prelude.{flat_map}
use Rattle.http_wire.specs.State.{given, Told}
use Rattle.http_wire.proofs.stream.decode.Given as goal

abbrev pub invariant-pieces : goal.invariant-pieces
invariant-pieces l = Told (flat_map (λ piece. piece.items) (take l.piece-index l.pieces)) (map given l.items.items) l.reader.held l.reader.stop

-- What a dialer tells, and what its calls do to that.
use Rattle.std.specs.Prelude.{ℕ, List, [], ◌∷◌, ◌++◌, Option, Result, Ok, Err}
use Rattle.std.specs.Option.{option_map}
use Rattle.outside.specs.Causes.{counted}
use Rattle.outside.specs.declared.faults.KeepFail.{KeepFail}
use Rattle.outside.specs.declared.faults.KeepFail.TheVariants.{Failed, Memory}
use Rattle.node_service.specs.declared.dialer.Piece.{Piece}

-- how many calls failed, and, where the dialer tells them, the pieces that it took, in order
pub record DialerState : Type 0 where
  pub faults : ℕ
  pub took : Option (List Piece)

-- these pieces behind those that are told, where they are told
abbrev pub append_took : Option (List Piece) → List Piece → Option (List Piece)
append_took told more = option_map (λ before. before ++ more) told

-- A call took the piece whole, or failed and is counted, or found no memory and did nothing.
abbrev pub brought : Piece → Result Unit KeepFail → DialerState → DialerState
brought piece (Ok done) dialer = record dialer { took = append_took dialer.took (piece ∷ []) }
brought piece (Err Failed) dialer = record dialer { faults = counted dialer.faults }
brought piece (Err Memory) dialer = dialer

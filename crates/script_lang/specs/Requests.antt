-- What an `http` line asks for, by its words behind the agent's number: a method, a target and maybe a body.
use Rattle.std.specs.Prelude.{ℕ, ◌==◌, nat_lt, nat_le, Bool, ◌&&◌, if◌then◌else◌, List, [], ◌∷◌, length, Option, None, Some, Result, Ok, Err}
use Rattle.std.specs.List.{list_all}
use Rattle.hex.specs.Hex.{decode_of}
use Rattle.hex.specs.declared.error.FromHexError.{FromHexError}
use Rattle.cat_model.specs.declared.request.Asked.{Asked}
use Rattle.http_routes.specs.Routes.{route_of}
use Rattle.script_lang.specs.declared.bad_line.BadLine.{BadLine}
use Rattle.script_lang.specs.declared.bad_line.BadLine.TheVariants.{BadRequestLine}
use Rattle.script_lang.specs.Answers.{◌>>=◌}

-- A method or a target: one byte or more, each from 0x21 to 0x7E.
abbrev pub is_token_byte : ℕ → Bool
is_token_byte b = nat_le 33 b && nat_le b 126

abbrev pub is_token : List ℕ → Bool
is_token word = nat_lt 0 (length word) && list_all is_token_byte word

-- A body, by what follows the target: empty where nothing does, `=` and the bytes as they stand, or `#` and an even
-- number of hexadecimal digits, in either case.
abbrev pub decoded : Result (List ℕ) FromHexError → Result (List ℕ) BadLine
decoded (Ok bytes) = Ok bytes
decoded (Err why) = Err BadRequestLine

abbrev pub marked : ℕ → List ℕ → Result (List ℕ) BadLine
marked mark bytes =
    if mark == 61 then Ok bytes
    else if mark == 35 then decoded (decode_of bytes)
    else Err BadRequestLine

abbrev pub body_of : Option (List ℕ) → Result (List ℕ) BadLine
body_of None = Ok []
body_of (Some []) = Err BadRequestLine
body_of (Some (mark ∷ bytes)) = marked mark bytes

-- What a method, a target, and what follows it ask for, which may be a refusal.
abbrev pub asked_of : List ℕ → List ℕ → Option (List ℕ) → Result Asked BadLine
asked_of method target rest =
    if is_token method && is_token target then (do
      body ← body_of rest
      Ok (route_of method target body))
    else Err BadRequestLine

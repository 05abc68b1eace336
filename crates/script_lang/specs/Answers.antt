-- Answers of the reading of a line: one step after another, and lack of memory.
use Rattle.std.specs.Prelude.{◌≡◌, ◌⊎◌, Result, Ok, Err}
use Rattle.script_lang.specs.declared.bad_line.BadLine.{BadLine}
use Rattle.script_lang.specs.declared.bad_line.BadLine.TheVariants.{Memory}
use Rattle.script_lang.specs.declared.line.Line.{Line}
use Rattle.script_lang.specs.declared.line.ReadLine.{ReadLine}
use Rattle.cat_model.specs.declared.request.Asked.{Asked}
use Rattle.http_routes.specs.declared.route_requests.Routed.{Routed}

-- the next step, where there is a value, and else the reason
infixl 10 ◌>>=◌
abbrev pub ◌>>=◌ : {A B : Type 0} → Result A BadLine → (A → Result B BadLine) → Result B BadLine
Ok a >>= f = f a
Err why >>= f = Err why

-- the answer, or lack of memory
abbrev pub UnlessMemory : {A : Type 0} → Result A BadLine → Result A BadLine → Type 0
UnlessMemory result answer = (result ≡ answer) ⊎ (result ≡ Err Memory)

-- what was read, without its filter
abbrev pub line_in : Result ReadLine BadLine → Result Line BadLine
line_in (Ok read) = Ok read.line
line_in (Err why) = Err why

abbrev pub asked_in : Result Routed BadLine → Result Asked BadLine
asked_in (Ok routed) = Ok routed.asked
asked_in (Err why) = Err why

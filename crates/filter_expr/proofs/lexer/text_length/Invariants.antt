use Rattle.std.proofs.Common.{◌≡◌, ℕ, ◌++◌, List, take, drop}
use Rattle.filter_expr.specs.Tokens.{read, in_quotes}
use Rattle.filter_expr.proofs.lexer.text_length.Given as goal

abbrev pub invariant-loop-i : goal.invariant-loop-i
invariant-loop-i l = (q : List ℕ) → read (in_quotes q) l.bytes ≡ read (in_quotes (q ++ take l.i l.bytes)) (drop l.i l.bytes)

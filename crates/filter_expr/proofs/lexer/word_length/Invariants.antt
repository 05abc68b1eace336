use Rattle.std.proofs.Common.{◌≡◌, ℕ, ◌++◌, List, take, drop}
use Rattle.filter_expr.specs.Tokens.{read, in_word}
use Rattle.filter_expr.proofs.lexer.word_length.Given as goal

abbrev pub invariant-loop-i : goal.invariant-loop-i
invariant-loop-i l = (w : List ℕ) → read (in_word w) l.bytes ≡ read (in_word (w ++ take l.i l.bytes)) (drop l.i l.bytes)

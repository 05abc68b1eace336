use Rattle.std.proofs.Common.{◌≡◌, length}
use Rattle.filter_expr.specs.Tokens.{read, between, with_front}
use Rattle.filter_expr.proofs.lexer.tokens.Given as goal

abbrev pub invariant-loop-rest : goal.invariant-loop-rest
invariant-loop-rest l = with_front l.found.items (read between l.rest) ≡ read between l.fn.text

abbrev pub decreases-loop-rest : goal.decreases-loop-rest
decreases-loop-rest l = length l.rest

use Rattle.std.proofs.Common.{◌≡◌, ◌≤◌, take, drop}
use Rattle.filter_expr.specs.Grammar.{pieces, put_front}
use Rattle.filter_expr.proofs.parser.piece_length.Given as goal

abbrev pub invariant-loop-i : goal.invariant-loop-i
invariant-loop-i l = record {
  told : put_front (take l.i l.tokens) (pieces l.joint l.depth (drop l.i l.tokens)) ≡ pieces l.joint 0 l.tokens;
  bound : l.depth ≤ l.i;
}

use Rattle.std.proofs.Common.{◌≡◌, ℕ, ◌+◌, ◌*◌, length, map}
use Rattle.filter_expr.specs.declared.parser.Joint.{Joint}
use Rattle.filter_expr.specs.declared.parser.Joint.TheVariants.{And, Or}
use Rattle.filter_expr.specs.Expressions.{expression_of}
use Rattle.filter_expr.specs.Grammar.{with_more, pieces_behind, piece_of, parted_of}
use Rattle.filter_expr.proofs.parser.+parsing.Given as goal

abbrev rank : Joint → ℕ
rank And = 0
rank Or = 2

abbrev pub decreases-part : goal.decreases-part
decreases-part l = 5 * l.levels

abbrev pub decreases-piece : goal.decreases-piece
decreases-piece l = 5 * l.levels + rank l.joint + 1

abbrev pub decreases-parted : goal.decreases-parted
decreases-parted l = 5 * l.levels + rank l.joint + 2

abbrev pub invariant-parted-loop-more : goal.invariant-parted-loop-more
invariant-parted-loop-more l =
    with_more l.joint (expression_of l.found) (map (piece_of l.joint l.shape l.levels) (pieces_behind l.joint l.rest))
    ≡ parted_of l.joint l.shape l.levels l.tokens

abbrev pub decreases-parted-loop-more : goal.decreases-parted-loop-more
decreases-parted-loop-more l = length l.rest

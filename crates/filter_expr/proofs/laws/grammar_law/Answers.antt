use Rattle.filter_expr.proofs.Table.{grammar_law}
use Rattle.filter_expr.proofs.laws.grammar_law.Goals as goal

pub returns : goal.returns
returns c = grammar_law

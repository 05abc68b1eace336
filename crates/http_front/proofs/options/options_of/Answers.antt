use Rattle.std.proofs.Common.{arith}
use Rattle.http_front.proofs.Asking.{asks_long, front_asks_none, rest_adds_none}
use Rattle.http_front.proofs.options.options_of.Goals as goal

pub returns-then-words-lt7-clause-asked : goal.returns-then-words-lt7-clause-asked
returns-then-words-lt7-clause-asked c = λ o x. asks_long c.args.words.now o x (omega (arith, c.if-words-lt7.true))

pub returns-in_default-clause-asked : goal.returns-in_default-clause-asked
returns-in_default-clause-asked c =
    front_asks_none c.args.words.now c.split_at.result.0.now c.split_at.result.1.now c.split_at.ensures.front c.split_at.ensures.back c.in_default.ensures.numbers

pub returns-in-None-clause-asked : goal.returns-in-None-clause-asked
returns-in-None-clause-asked c =
    rest_adds_none c.args.words.now c.split_at.result.0.now c.split_at.result.1.now c.split_at.ensures.front c.split_at.ensures.back c.in-None.ensures.added

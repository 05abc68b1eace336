use Rattle.std.proofs.Common.{arith}
use Rattle.load_player.proofs.Asking.{asks_from, words_count}
use Rattle.load_player.proofs.load.load_of.Goals as goal

pub returns-in-load-clause-asked : goal.returns-in-load-clause-asked
returns-in-load-clause-asked c =
    asks_from c.args.words.now c.numbered.result c.in-load.len_below c.in-load.len_at_least c.in-load.is-load c.numbered.ensures.written

pub returns-in_default-clause-asked : goal.returns-in_default-clause-asked
returns-in_default-clause-asked c = λ l x. let e = words_count c.args.words.now l x in omega (arith, e, c.in_default.len_below)

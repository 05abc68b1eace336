use Rattle.script_lang.proofs.Cuts.{words_of-some, words_of-none}
use Rattle.script_lang.proofs.words.cut.Goals as goal

pub returns-in-Some : goal.returns-in-Some
returns-in-Some c = words_of-some c.args.bytes.now c.in-Some.end c.in-Some.ensures

pub returns-in-None : goal.returns-in-None
returns-in-None c = words_of-none c.args.bytes.now c.in-None.ensures

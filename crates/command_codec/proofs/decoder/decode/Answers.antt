use Rattle.command_codec.proofs.Answering.{whenever_ok, whenever_cut, whenever_bad, if_ok, says_cut, says_bad}
use Rattle.command_codec.proofs.decoder.decode.Goals as goal

pub returns-clause-ok : goal.returns-clause-ok
returns-clause-ok c = if_ok c.answer.result c.args.input.now c.answer.ensures

pub returns-clause-cut : goal.returns-clause-cut
returns-clause-cut c = says_cut c.answer.result c.args.input.now c.answer.ensures

pub returns-clause-bad : goal.returns-clause-bad
returns-clause-bad c = says_bad c.answer.result c.args.input.now c.answer.ensures

pub returns-clause-whenever_ok : goal.returns-clause-whenever_ok
returns-clause-whenever_ok c = whenever_ok c.answer.result c.args.input.now c.answer.ensures

pub returns-clause-whenever_cut : goal.returns-clause-whenever_cut
returns-clause-whenever_cut c = whenever_cut c.answer.result c.args.input.now c.answer.ensures

pub returns-clause-whenever_bad : goal.returns-clause-whenever_bad
returns-clause-whenever_bad c = whenever_bad c.answer.result c.args.input.now c.answer.ensures

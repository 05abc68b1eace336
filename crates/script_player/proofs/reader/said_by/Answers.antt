use Rattle.script_player.proofs.Fine.{filter_as, said_as}
use Rattle.script_player.proofs.reader.said_by.Goals as goal

pub returns-in-Ok-clause-says : goal.returns-in-Ok-clause-says
returns-in-Ok-clause-says g c =
    said_as _ c.args.seed c.in_ok-number.number c.args.line.now c.in-Ok.field-0.says c.fitted.result c.in_ok-number.ensures c.fitted.ensures c.in-Ok.ensures.says

pub returns-in-Ok-clause-filter : goal.returns-in-Ok-clause-filter
returns-in-Ok-clause-filter g c = filter_as _ c.args.seed c.in_ok-number.number c.args.line.now _ c.in_ok-number.ensures c.in-Ok.ensures.filter

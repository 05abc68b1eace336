use Rattle.std.proofs.Common.{◌≡◌, ◌∙◌, ap}
use Rattle.touch_positions.specs.NameVersions.{own_position}
use Rattle.touch_positions.proofs.Own.{vanished, vanished_others}
use Rattle.touch_positions.proofs.names.vanish.Goals as goal

pub returns-clause-own : goal.returns-clause-own
returns-clause-own c = ap (own_position c.args.name.now) c.remove.ensures.rows ∙ vanished c.args.name.now c.args.table.now.now

pub returns-clause-others : goal.returns-clause-others
returns-clause-others c = λ other differ. ap (own_position other) c.remove.ensures.rows ∙ vanished_others c.args.name.now c.args.table.now.now other differ

use Rattle.std.proofs.Common.{rules}
use Rattle.outside_tests.proofs.Pages.{may_end}
use Rattle.outside_tests.proofs.turns.Player.take_turn.Goals as goal

pub give-requires-clause-may : goal.give-requires-clause-may
give-requires-clause-may g c = may_end _ _ _ (c.write-found.ensures.0, search rules)

use Rattle.std.proofs.Common.{◌≡◌, ◌++◌, map}
use Rattle.cat_model.specs.Catalog.{session_key}
use Rattle.session_ttl.proofs.timers.all_ids.Given as goal

abbrev pub invariant-loop-row : goal.invariant-loop-row
invariant-loop-row l = l.ids.items ++ map session_key l.row-iterator ≡ map session_key l.sessions.now

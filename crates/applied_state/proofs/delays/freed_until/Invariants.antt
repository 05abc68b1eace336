use Rattle.std.proofs.Common.{◌≡◌, drop, map, max}
use Rattle.cat_model.specs.Delays.{freed_until}
use Rattle.applied_state.specs.Delays.{freed_pair}
use Rattle.applied_state.proofs.delays.freed_until.Given as goal

abbrev pub invariant-freed : goal.invariant-freed
invariant-freed l = max l.end (freed_until l.key l.clock (map freed_pair (drop l.one-index l.freed))) ≡ freed_until l.key l.clock (map freed_pair l.freed)

use Rattle.std.proofs.Common.{◌≡◌, ℕ, take}
use Rattle.session_ttl.specs.Timed.{is_one_of}
use Rattle.session_ttl.proofs.timers.ascending.Given as goal

abbrev pub invariant-loop-id : goal.invariant-loop-id
invariant-loop-id l = (id : ℕ) → is_one_of id l.set.keys ≡ is_one_of id (take l.id-index l.ids)

use Rattle.std.proofs.Common.{◌≡◌, vec_len}
use Rattle.turn_lock.proofs.rooms.WaitingRooms.new.Given as goal

-- as many rooms as were counted
abbrev pub invariant-loop : goal.invariant-loop
invariant-loop l = vec_len l.rooms ≡ l.counter

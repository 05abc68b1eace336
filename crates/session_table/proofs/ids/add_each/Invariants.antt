use Rattle.std.proofs.Common.{◌≡◌, ℕ, ◌||◌, take}
use Rattle.session_table.specs.Places.{has_id}
use Rattle.session_table.proofs.ids.add_each.Given as goal

abbrev pub invariant-loop-id : goal.invariant-loop-id
invariant-loop-id l = (k : ℕ) → has_id k l.ids.now ≡ (has_id k (take l.id-index l.more) || has_id k l.initial.ids.now)

use Rattle.std.proofs.Common.{◌≡◌, filter}
use Rattle.cat_model.specs.Keys.{has_prefix}
use Rattle.txn_engine.specs.Changes.{change_key, changed}
use Rattle.txn_engine.proofs.overlay.make_under.Given as goal

abbrev pub invariant-loop-change : goal.invariant-loop-change
invariant-loop-change l = changed (filter (λ c. has_prefix l.prefix (change_key c)) l.change-iterator) l.table.now ≡ changed (filter (λ c. has_prefix l.prefix (change_key c)) l.changes.now) l.initial.table.now

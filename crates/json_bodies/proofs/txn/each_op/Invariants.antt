use Rattle.std.proofs.Common.{◌≡◌, drop}
use Rattle.serde_json.specs.View.{items_view}
use Rattle.json_bodies.specs.Members.{each, with_front}
use Rattle.json_bodies.specs.Txns.{an_op}
use Rattle.json_bodies.proofs.txn.each_op.Given as goal

abbrev pub invariant-list : goal.invariant-list
invariant-list l = with_front l.ops (each an_op (items_view (drop l.value-index l.list))) ≡ each an_op (items_view l.list)

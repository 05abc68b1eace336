use Rattle.std.proofs.Common.{◌≡◌, drop}
use Rattle.serde_json.specs.View.{items_view}
use Rattle.json_bodies.specs.Members.{each, with_front}
use Rattle.json_bodies.specs.Registers.{a_check}
use Rattle.json_bodies.proofs.register.checks_in.Given as goal

abbrev pub invariant-list : goal.invariant-list
invariant-list l = with_front l.checks (each a_check (items_view (drop l.value-index l.list))) ≡ each a_check (items_view l.list)

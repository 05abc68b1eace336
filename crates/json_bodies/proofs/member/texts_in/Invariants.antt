use Rattle.std.proofs.Common.{◌≡◌, drop}
use Rattle.serde_json.specs.View.{items_view}
use Rattle.json_bodies.specs.Members.{each, a_text, with_front}
use Rattle.json_bodies.proofs.member.texts_in.Given as goal

abbrev pub invariant-list : goal.invariant-list
invariant-list l = with_front l.texts (each (a_text l.field) (items_view (drop l.value-index l.list))) ≡ each (a_text l.field) (items_view l.list)

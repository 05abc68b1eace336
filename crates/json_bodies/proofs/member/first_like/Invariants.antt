use Rattle.std.proofs.Common.{◌≡◌}
use Rattle.serde_json.specs.View.{members_view}
use Rattle.json_bodies.specs.Members.{like}
use Rattle.json_bodies.proofs.member.first_like.Given as goal

abbrev pub invariant-members : goal.invariant-members
invariant-members l = like l.name (members_view l.key-iterator) ≡ like l.name (members_view l.map.entries)

use Rattle.std.proofs.Common.{ℕ, subst}
use Rattle.httparse.specs.Spans.{RequestExceeds}
use Rattle.http_wire.proofs.Heads.{room_is_enough}
use Rattle.http_wire.proofs.head.parse_all.Goals as goal

pub returns-in-Crowded-clause-parsed : goal.returns-in-Crowded-clause-parsed
returns-in-Crowded-clause-parsed c = λ more h rest reads.
    absurd (room_is_enough c.args.bytes.now c.requires.short (subst (λ (n : ℕ). RequestExceeds n c.args.bytes.now) c.requires.room (c.parse_in.ensures.crowded c.in-Crowded.is)))

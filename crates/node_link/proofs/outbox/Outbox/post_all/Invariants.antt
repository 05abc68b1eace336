use Rattle.std.proofs.Common.{◌≡◌}
use Rattle.node_link.specs.Outboxes.{posted_all}
use Rattle.node_link.proofs.outbox.Outbox.post_all.Given as goal

abbrev pub invariant-loop-one : goal.invariant-loop-one
invariant-loop-one l = l.self ≡ posted_all l.yielded l.fn.self

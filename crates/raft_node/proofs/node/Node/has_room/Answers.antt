use Rattle.std.proofs.Common.{[], ap, take, ◌++◌, ◌∙◌, ◌∷◌}
use Rattle.cat_model.specs.LogLimits.{keeps_limits}
use Rattle.cat_model.specs.declared.command.Entry.{Entry}
use Rattle.std.specs.Prelude.{nat_le, nat_lt, ◌&&◌}
use Rattle.std.proofs.Common.{◌+◌}
use Rattle.raft_node.specs.Counts.{bytes_of}
use Rattle.raft_node.specs.declared.counted.Counted.{Counted}
use Rattle.raft_node.proofs.Bytes.{room_is}
use Rattle.raft_node.proofs.node.Node.has_room.Goals as goal

pub returns-clause-room : goal.returns-clause-room
returns-clause-room g c = λ term number.
    let e : Entry = record { term = term; number = number; command = c.args.command.now } in
    c.fits.ensures ∙ ap (λ k. nat_lt k 262144 && nat_le (c.counted_at-counted.result.bytes + c.bytes_in_log.result) 67108864) c.len-last.ensures
    ∙ room_is c.self.inside.log c.counted_at-counted.result.bytes c.bytes_in_log.result e (ap (λ (z : Counted). z.bytes) c.counted_at-counted.ensures.same ∙ (λ i. bytes_of (take (c.len-last.ensures i) (c.as_slice.ensures i)))) c.bytes_in_log.ensures
    ∙ ap (λ z. keeps_limits (z.log ++ e ∷ [])) c.self.view_is

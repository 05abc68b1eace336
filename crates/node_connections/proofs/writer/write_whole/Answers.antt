use Rattle.std.proofs.Common.{arith, take, drop}
use Rattle.std.proofs.Math.Seq.{take-add}
use Rattle.std.proofs.lemmas.List.{take_rest}
use Rattle.node_connections.proofs.Written.{after_after, known_on, wrote_part}
use Rattle.node_connections.proofs.writer.write_whole.Goals as goal

pub loop-done-preserved : goal.loop-done-preserved
loop-done-preserved g c =
    let state = g.L.Link.state in let piece = c.args.piece.now in let done = c.loop-done.done in let i = c.loop-done.invariant in
    let said = rw (take_rest piece done) at c.in-Ok.ensures.said in (
      omega (arith, c.in-Ok.ensures.most),
      rw (take-add done c.in-Ok.count piece) (known_on (state c.args.link.now).said (state c.loop-done.link).said (state c.write_some.new.link).said (take done piece) (take c.in-Ok.count (drop done piece)) i.1 said),
      after_after (state c.args.link.now) (state c.loop-done.link) (state c.write_some.new.link) i.2 c.in-Ok.ensures.after,
    )

pub returns-in-Err : goal.returns-in-Err
returns-in-Err g c =
    let state = g.L.Link.state in let i = c.loop-done.invariant in
    wrote_part (state c.args.link.now) (state c.loop-done.link) (state c.write_some.new.link) c.args.piece.now c.loop-done.done c.in-Err.why i.1 i.2 c.in-Err.ensures.said c.in-Err.ensures.after c.in-Err.ensures.stopped

use Rattle.std.proofs.Common.{◌∙◌, arith}
use Rattle.std.proofs.KnownBytes.{Appends-trans}
use Rattle.std.proofs.Math.Seq.{take-add}
use Rattle.std.proofs.lemmas.List.{take_rest}
use Rattle.script_player.proofs.output.write_all.Goals as goal

pub loop-done-preserved : goal.loop-done-preserved
loop-done-preserved g c =
    let bytes = rw (take_rest c.args.piece.now c.loop-done.done) at c.in-Ok.ensures.bytes in (
      omega (arith, c.in-Ok.ensures.most),
      rw (take-add c.loop-done.done c.in-Ok.count c.args.piece.now) (Appends-trans _ _ _ _ _ c.loop-done.invariant.1 bytes),
      c.in-Ok.ensures.cause ∙ c.loop-done.invariant.2,
    )

use Rattle.std.proofs.Common.{◌∙◌, subst}
use Rattle.script_player.specs.Run.{IsRefused}
use Rattle.script_player.specs.Script.{script_of}
use Rattle.load_player.proofs.Refusals.{never_refused}
use Rattle.load_player.proofs.player.play_drawn.Goals as goal

pub unreachable-requires : goal.unreachable-requires
unreachable-requires g c =
    never_refused c.args.seed c.args.size c.ranges.seed.fits c.ranges.size.fits
    (subst (λ b. IsRefused (script_of b)) (c.deref.ensures.value ∙ c.in_ok-script.ensures.script) (rw c.in-None.is at c.in_ok-ran.ensures))

use Rattle.script_player.specs.Stage.{kept_in}
use Rattle.script_player.proofs.Turning.{made_all, made_part}
use Rattle.script_player.proofs.stage.make.Goals as goal

pub returns-in-Ok-clause-made : goal.returns-in-Ok-clause-made
returns-in-Ok-clause-made g c =
    made_all g.T.Taker.adds (kept_in c.args.filters.now) c.take_outs.result _ _ _ c.args.event _ _ c.requires.fits c.in-Ok.ensures.whole c.take_outs.ensures.state c.take_outs.ensures.adds

pub returns-in-Ok-clause-part : goal.returns-in-Ok-clause-part
returns-in-Ok-clause-part g c =
    made_part g.T.Taker.adds (kept_in c.args.filters.now) c.take_outs.result _ _ c.args.event _ _ c.requires.fits c.in-Ok.ensures.whole c.take_outs.ensures.part

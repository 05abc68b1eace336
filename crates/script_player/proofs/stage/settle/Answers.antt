use Rattle.script_player.specs.Stage.{kept_in}
use Rattle.script_player.proofs.Turning.{settled_all, settled_part}
use Rattle.script_player.proofs.stage.settle.Goals as goal

pub returns-in-Ok-take_outs-clause-made : goal.returns-in-Ok-take_outs-clause-made
returns-in-Ok-take_outs-clause-made g c =
    settled_all g.T.Taker.adds (kept_in c.args.filters.now) _ _ _ c.args.most c.in-Ok.pairs _ _ c.in-Ok.ensures.whole c.in-Ok-take_outs.ensures.state c.in-Ok-take_outs.ensures.adds

pub returns-in-Err-take_outs-clause-part : goal.returns-in-Err-take_outs-clause-part
returns-in-Err-take_outs-clause-part g c =
    settled_part g.T.Taker.adds (kept_in c.args.filters.now) _ _ c.args.most c.in-Ok.pairs _ _ c.in-Ok.ensures.whole c.in-Err-take_outs.ensures.part

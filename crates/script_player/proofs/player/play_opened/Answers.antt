use Rattle.script_player.proofs.Endings.{run_ended, run_broke, play_broke}
use Rattle.script_player.proofs.player.play_opened.Goals as goal

pub returns-in-Ok-play-clause-run : goal.returns-in-Ok-play-clause-run
returns-in-Ok-play-clause-run g c =
    run_ended c.finish.result c.args.opened.now.opening _ _ _ _ _ _ _ _ c.in-Ok-play.played.refused c.in-Ok.ensures.first c.in-Ok.ensures.servers c.in-Ok.ensures.agents
    c.in-Ok-play.ensures.plays c.finish.ensures.text c.finish.ensures.reports c.finish.ensures.refused

pub returns-in-Ok-play-clause-part : goal.returns-in-Ok-play-clause-part
returns-in-Ok-play-clause-part g c =
    run_broke c.finish.result c.args.opened.now.opening _ _ _ _ _ _ _ _ c.in-Ok-play.played.refused c.in-Ok.ensures.first c.in-Ok.ensures.servers c.in-Ok.ensures.agents
    c.in-Ok-play.ensures.plays c.finish.ensures.part

pub returns-in-Err-clause-part : goal.returns-in-Err-clause-part
returns-in-Err-clause-part g c =
    play_broke c.args.opened.now.opening _ _ _ _ _ c.in-Ok.ensures.first c.in-Ok.ensures.servers c.in-Ok.ensures.agents c.in-Err.ensures.part

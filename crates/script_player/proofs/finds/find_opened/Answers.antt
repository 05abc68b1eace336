use Rattle.script_player.proofs.Endings.{finding_ended}
use Rattle.script_player.proofs.finds.find_opened.Goals as goal

pub returns-in-Ok-play : goal.returns-in-Ok-play
returns-in-Ok-play g c = record {
  run = finding_ended c.finish_finding.result c.args.opened.now.opening _ _ _ _ _ _ c.play.new.taker c.in-Ok-play.played.refused c.in-Ok.ensures.first c.in-Ok.ensures.servers c.in-Ok.ensures.agents
      c.new.ensures c.in-Ok-play.ensures.plays c.finish_finding.ensures.reports c.finish_finding.ensures.refused;
}

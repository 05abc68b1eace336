use Rattle.cluster_rules.specs.Sound.{OutIsSound}
use Rattle.cluster_rules.proofs.Tools.{each_among}
use Rattle.cluster_rules.proofs.laws.outs_are_sound.Goals as goal

pub returns : goal.returns
returns x = λ c s o m. each_among (OutIsSound c.world c.past) c.tray o s.parts.tray m

use Rattle.std.proofs.Common.{suc}
use Rattle.script_player.specs.Script.{said}
use Rattle.script_player.specs.Stage.{GoesOn, TakesFirst, filter_said, kept_in, put_for, through}
use Rattle.script_player.proofs.Turning.{part_same}
use Rattle.script_player.proofs.stage.play_line.Goals as goal

pub returns-in-Ok-keep-clause-part : goal.returns-in-Ok-keep-clause-part
returns-in-Ok-keep-clause-part g c =
    let state = g.S.ClusterInterface.state c.args.servers.now in
    let number = suc state.asked in
    let says = said c.args.seed number c.args.line.now in
    part_same c.play_said.result (kept_in c.keep.new.filters) (put_for number (filter_said says c.args.line.now) (kept_in c.args.filters.now)) state says c.in-Ok.field-0.says
    (λ s f. TakesFirst (through g.T.Taker.adds f) (GoesOn state s) (g.T.Taker.held c.args.taker.now) (g.T.Taker.held c.play_said.new.taker))
    (rw c.in-Ok.ensures.filter at c.in-Ok-keep.ensures) c.in-Ok.ensures.says c.play_said.ensures.part

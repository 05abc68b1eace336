use Rattle.cluster_works.proofs.Lining.{lined_stands}
use Rattle.cluster_works.proofs.rests.rest_held.Goals as goal

pub returns-in-AtPlace : goal.returns-in-AtPlace
returns-in-AtPlace g c =
    lined_stands c.args.watch.now c.await_position.new.self c.args.servers.now.world c.args.servers.now.servers c.args.requests.now c.args.server c.number.result c.args.held.now _
    c.requires.stands c.requires.held c.requires.here c.number.ensures c.in-AtPlace.ensures c.await_position.ensures.kept c.await_position.ensures.rests c.await_position.ensures.lines c.await_position.ensures.servers c.await_position.ensures.seen

pub returns-in-InRound : goal.returns-in-InRound
returns-in-InRound g c =
    lined_stands c.args.watch.now c.await_round.new.self c.args.servers.now.world c.args.servers.now.servers c.args.requests.now c.args.server c.number-in-InRound.result c.args.held.now _
    c.requires.stands c.requires.held c.requires.here c.number-in-InRound.ensures c.in-InRound.ensures c.await_round.ensures.kept c.await_round.ensures.rests c.await_round.ensures.lines c.await_round.ensures.servers c.await_round.ensures.seen

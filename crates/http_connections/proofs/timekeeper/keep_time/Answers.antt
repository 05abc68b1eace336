use Rattle.std.proofs.Common.{◌≡◌, List, ◌++◌, length, drop, sym, ap, ◌∙◌, subst}
use Rattle.cat_model.specs.declared.reply.Mark.{Mark}
use Rattle.turn_lock.specs.Lists.{numbers}
use Rattle.http_exchanges.specs.Boards.{known}
use Rattle.http_exchanges.specs.Marks.{opens}
use Rattle.http_exchanges.proofs.OwnTurns.{mine_still}
use Rattle.http_connections.proofs.timekeeper.keep_time.Goals as goal

pub returns-clause-asks_none : goal.returns-clause-asks_none
returns-clause-asks_none g c =
    let old = g.C.SharedCluster.marks c.state.result.now.cluster in
    let new = g.C.SharedCluster.marks c.keep_time.new.self.cluster in
    let taken = (known c.take-turn.new.pass).mine in
    let same : (known c.take-turn.new.pass).seen ≡ old = c.take-turn.ensures.seen ∙ ap (λ (s : _). g.C.SharedCluster.marks s.cluster) (sym c.state.ensures.value) in
    let step : (known c.give.new.pass).mine ≡ taken ++ numbers opens (drop (length old) new) =
    subst (λ (l : List Mark). (known c.give.new.pass).mine ≡ taken ++ numbers opens (drop (length l) new)) same c.give.ensures.mine in
    (step ∙ (mine_still taken old new c.keep_time.ensures.quiet ∙ c.take-turn.ensures.mine.0), c.give.ensures.own.1 ∙ c.take-turn.ensures.own.1)

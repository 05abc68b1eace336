use Rattle.std.proofs.Common.{◌≡◌, ◌∙◌, ℕ, List, [], ◌++◌, append-nil, sym, ap, subst}
use Rattle.turn_lock.specs.Rule.{pooled}
use Rattle.serve_outside.specs.Links.{IsNew}
use Rattle.http_exchanges.specs.Boards.{known}
use Rattle.http_connections.proofs.Runs.{pooled_all, told_before, turned_none, turned_one}
use Rattle.http_connections.proofs.start.launch.Goals as goal

pub returns-in-Ok-clause-turned : goal.returns-in-Ok-clause-turned
returns-in-Ok-clause-turned g c = turned_none (g.L.Listener.closed c.args.listener.now) (g.Sp.Spawner.faults c.args.spawner.now) (g.Sp.Spawner.faults c.start_job.new.spawner) c.in-Ok.ensures.counted.0

pub returns-in-Err-clause-turned : goal.returns-in-Err-clause-turned
returns-in-Err-clause-turned g c =
    let state = g.L.Link.Link.state in
    turned_one (g.L.Listener.closed c.args.listener.now) (g.L.Listener.closed c.close.new.self) (g.Sp.Spawner.faults c.args.spawner.now) (g.Sp.Spawner.faults c.start_job.new.spawner) (state c.in-Err.job.link).number (state c.in-Err.job.link) (state c.turn_away.new.link)
    (subst (λ (j : _). IsNew (state j.link).number (state j.link)) (sym c.in-Err.ensures.refused) c.requires.new)
    c.turn_away.ensures c.close.ensures.closed c.in-Err.ensures.cause

pub returns-in-Err-clause-told : goal.returns-in-Err-clause-told
returns-in-Err-clause-told g c =
    let own = known c.in-Err.job.pass in
    told_before c.args.pass.now.seat.me.0.told own.told c.give_back.new.pass.seat.me.0.told own.seen c.give_back.ensures.told

pub returns-in-Err-clause-unasked : goal.returns-in-Err-clause-unasked
returns-in-Err-clause-unasked g c =
    let mine = (known c.args.pass.now).mine in
    let none = subst (λ (j : _). (known j.pass).mine ≡ []) (sym c.in-Err.ensures.refused) c.requires.theirs.1 in
    c.give_back.ensures.mine ∙ (ap (λ (l : List ℕ). mine ++ l) none ∙ append-nil mine)

pub returns-in-Err-clause-shares : goal.returns-in-Err-clause-shares
returns-in-Err-clause-shares g c =
    let p = c.args.pass.now.shares in
    c.give_back.ensures.shares ∙ (ap (λ (j : _). pooled p j.pass.shares) c.in-Err.ensures.refused ∙ pooled_all p c.args.job.pass.shares c.requires.few)

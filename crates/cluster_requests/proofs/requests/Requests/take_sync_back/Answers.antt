use Rattle.std.proofs.Common.{None, ap, ◌∙◌, arith}
use Rattle.cluster_rules.specs.Replies.{Synced}
use Rattle.cluster_requests.specs.Requests.{Requests}
use Rattle.cluster_requests.proofs.LastOut.{some_told, told_last, with_outs}
use Rattle.cluster_requests.proofs.requests.Requests.take_sync_back.Goals as goal

pub take_back-requires : goal.take_back-requires
take_back-requires c =
    let some = some_told c.args.agent c.requires.0.fresh _ (ap (λ (r : Requests). r.fresh) (c.self.view_is ∙ c.requires.1)) in
    record { some = omega (arith, some, c.self.inside.fresh.ok.0); ordered = c.self.invariant.2 }

pub returns : goal.returns
returns c = λ r e.
    with_outs c.args.agent _ r c.take_back.new.fresh.items r.fresh (c.self.view_is ∙ e)
    (c.take_back.ensures.items r.fresh (Synced c.args.agent None) (told_last c.args.agent r _ (c.self.view_is ∙ e)))

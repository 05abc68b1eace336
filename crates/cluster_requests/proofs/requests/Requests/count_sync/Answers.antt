use Rattle.std.proofs.Common.{List, None, Some, ap, ◌∙◌, arith}
use Rattle.cluster_rules.specs.Due.{put_out}
use Rattle.cluster_rules.specs.Replies.{Out, Synced}
use Rattle.cluster_requests.specs.Requests.{Requests}
use Rattle.cluster_requests.proofs.LastOut.{some_told, told_last, with_outs}
use Rattle.cluster_requests.proofs.requests.Requests.count_sync.Goals as goal

pub take_back-requires : goal.take_back-requires
take_back-requires c =
    let some = some_told c.args.agent c.requires.0.fresh _ (ap (λ (r : Requests). r.fresh) (c.self.view_is ∙ c.requires.1)) in
    record { some = omega (arith, some, c.self.inside.fresh.ok.0); ordered = c.self.invariant.2 }

pub returns : goal.returns
returns c = λ r e.
    let out = Synced c.args.agent (Some c.args.count) in
    let before = c.take_back.ensures.items r.fresh (Synced c.args.agent None) (told_last c.args.agent r _ (c.self.view_is ∙ e)) in
    let told = c.put.ensures.items ∙ ap (λ (o : Out). put_out o c.take_back.new.fresh.items) c.new.ensures ∙ ap (λ (l : List Out). put_out out l) before in
    with_outs c.args.agent _ r c.put.new.fresh.items (put_out out r.fresh) (c.self.view_is ∙ e) told

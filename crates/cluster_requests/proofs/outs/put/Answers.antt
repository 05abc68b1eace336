use Rattle.std.proofs.Common.{◌∙◌, ap, subst, sym}
use Rattle.std.specs.List.{insert}
use Rattle.cluster_requests.specs.Ordered.{IsOrdered}
use Rattle.cluster_requests.proofs.Ordering.{put_ordered}
use Rattle.cluster_requests.proofs.Placing.{put_at}
use Rattle.cluster_requests.proofs.outs.put.Goals as goal

pub returns-clause-items : goal.returns-clause-items
returns-clause-items c =
    let at = rw (c.number.ensures, c.deref.ensures.value) at c.place-at.ensures.place in
    c.insert_at.ensures.items ∙ ap (λ k. insert c.args.fresh.now.items k c.args.out) at ∙ put_at c.args.out c.args.fresh.now.items

pub returns-clause-ordered : goal.returns-clause-ordered
returns-clause-ordered c = subst IsOrdered (sym (returns-clause-items c)) (put_ordered c.args.out c.args.fresh.now.items c.requires.ordered)

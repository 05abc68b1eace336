use Rattle.std.proofs.Common.{◌≡◌, ◌++◌, drop, sym, ◌∙◌, ap, subst}
use Rattle.stale_view.specs.declared.side.Side.{Side}
use Rattle.stale_view.specs.Sides.{Stands, applied_by}
use Rattle.stale_view.proofs.Rising.{shows}
use Rattle.stale_view.proofs.Folding.{fold_store}
use Rattle.stale_view.proofs.publisher.show.Goals as goal

pub publish_as-writer-requires : goal.publish_as-writer-requires
publish_as-writer-requires g c next is =
    let now = c.args.writer.desk.shown.value in
    let ops = drop c.args.writer.behind c.args.writer.log.items in
    let store : next.store ≡ now.store ++ applied_by ops = ap (λ (s : Side). s.store) is ∙ fold_store now ops in
    shows g.J.PairName.book _ _ now next (applied_by ops, sym store) (subst (Stands g.J.PairName.book) (sym is) c.requires.stamped)

pub returns-in-Ok-clause-shown : goal.returns-in-Ok-clause-shown
returns-in-Ok-clause-shown g c =
    let values = rw c.in-Ok.is at c.publish_as-writer.ensures.values in
    (ap (λ (s : Side). s.store) values.0 ∙ fold_store c.args.writer.desk.shown.value (drop c.args.writer.behind c.args.writer.log.items), values.1)

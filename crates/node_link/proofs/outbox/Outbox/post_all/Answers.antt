use Rattle.std.proofs.Common.{◌∙◌, sym, ap}
use Rattle.node_link.specs.Outboxes.{posted}
use Rattle.node_link.proofs.Lists.{posted_more}
use Rattle.node_link.proofs.outbox.Outbox.post_all.Goals as goal

pub loop-one-preserved : goal.loop-one-preserved
loop-one-preserved c = c.post.ensures ∙ ap (posted c.in-Some.one) c.loop-one.invariant ∙ sym (posted_more c.loop-one.yielded c.in-Some.one c.args.self.now)

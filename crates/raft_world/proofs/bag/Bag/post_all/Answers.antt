use Rattle.std.proofs.Common.{◌∙◌, sym, ap}
use Rattle.raft_model.specs.World.{posted}
use Rattle.raft_world.proofs.Numbering.{posted_more}
use Rattle.raft_world.proofs.bag.Bag.post_all.Goals as goal

pub loop-one-preserved : goal.loop-one-preserved
loop-one-preserved c = c.post.ensures ∙ ap (posted c.args.from c.in-Some.one) c.loop-one.invariant ∙ sym (posted_more c.args.from c.loop-one.yielded c.in-Some.one c.args.self.now)

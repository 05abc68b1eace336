use Rattle.std.proofs.Common.{◌++◌, drop, take, sym, ◌∙◌, ap}
use Rattle.raft_model.specs.Limits.{batch}
use Rattle.raft_node.proofs.Windows.{batch_front}
use Rattle.raft_node.proofs.outbox.carried.Goals as goal

pub returns : goal.returns
returns c =
    let e = c.args.log.now ++ c.args.more.now in
    let counted = c.batch_length-count.ensures.same in
    c.from.ensures ∙ c.truncate.ensures.items ∙ ap (λ xs. take c.batch_length-count.result xs) (sym c.deref.ensures.value) ∙ counted ∙ ap batch (c.deref.ensures.value ∙ c.in_ok-entries.ensures)
    ∙ batch_front (drop c.args.prev e)

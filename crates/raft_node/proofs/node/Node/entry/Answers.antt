use Rattle.std.proofs.Common.{arith, length, ap, Some, ◌∙◌}
use Rattle.raft_model.specs.Log.{entry_at}
use Rattle.raft_node.proofs.Terms.{entry_is, entry_none, entry_past}
use Rattle.raft_node.proofs.node.Node.entry.Goals as goal

pub returns-then-index-eq0 : goal.returns-then-index-eq0
returns-then-index-eq0 g c = entry_none c.args.index c.args.self.now.log (omega arith)

pub returns-then-index-len : goal.returns-then-index-len
returns-then-index-len g c = entry_past c.args.index c.args.self.now.log (omega (arith, c.len.ensures, c.if-index-len.true, ap (λ n. length n.log) c.self.view_is))

pub returns : goal.returns
returns g c =
    let l = ap length c.as_slice.ensures in
    ap Some c.index-as_slice-index.is ∙ entry_is c.as_slice.result.now c.args.index _ (omega arith) (omega (arith, l, c.len.ensures, c.if-index-len.false))
    ∙ ap (entry_at c.args.index) (c.as_slice.ensures ∙ ap (λ n. n.log) c.self.view_is)

use Rattle.std.proofs.Common.{arith, length, min, ◌≡◌, ◌++◌, ◌-◌, ◌∙◌, ap}
use Rattle.raft_node.proofs.Windows.{first_short, window_of}
use Rattle.raft_node.proofs.outbox.window.Goals as goal

pub overflow_sub-left : goal.overflow_sub-left
overflow_sub-left c = first_short 0 _ _ _ c.in_ok-first.ensures c.len-left.ensures

pub returns : goal.returns
returns c =
    let start : c.min-start.result ≡ min c.args.prev (length c.args.log.now) = omega (arith, c.min-start.ensures) in
    let skipped : c.min-skipped.result ≡ min (c.args.prev - c.min-start.result) (length c.args.more.now) = omega (arith, c.min-skipped.ensures) in
    c.in_ok-append.ensures.items ∙ (λ i. c.into_vec-window.ensures i ++ c.into_vec.ensures i)
    ∙ window_of c.args.log.now c.args.more.now c.args.prev c.min-start.result c.min-skipped.result _ _ _ start skipped c.in_ok-first.ensures (ap (λ n. 64 - n) c.len-left.ensures) c.in_ok-rest.ensures

use Rattle.std.proofs.Common.{arith, length, subst, ◌≡◌, sym, ◌+◌, ◌∙◌}
use Rattle.raft_model.specs.Node.{Store}
use Rattle.raft_model.specs.Step.{Starts}
use Rattle.std.specs.Prelude.{All}
use Rattle.std.specs.Option.{ForSome}
use Rattle.raft_node.specs.Nodes.{KeepsLimits}
use Rattle.raft_node.specs.Steps.{stored}
use Rattle.raft_world.proofs.Beginning.{Begun, all_rest, begun_length, begun_more, taken_first}
use Rattle.raft_world.proofs.start.begin.Goals as goal

pub overflow_cast-id : goal.overflow_cast-id
overflow_cast-id g c =
    let whole = begun_length (λ k. stored (g.K.Keeper.held k) (g.K.Keeper.armed k) (g.K.Keeper.faults k) (g.K.Keeper.sure k)) c.args.servers _ _ _ c.loop-alloc.invariant.0 in
    omega (arith, whole, c.requires.few, c.len.ensures, c.loop-alloc.nodes.ok.0)

pub overflow_add-id : goal.overflow_add-id
overflow_add-id g c =
    let whole = begun_length (λ k. stored (g.K.Keeper.held k) (g.K.Keeper.armed k) (g.K.Keeper.faults k) (g.K.Keeper.sure k)) c.args.servers _ _ _ c.loop-alloc.invariant.0 in
    omega (arith, whole, c.requires.few, c.len.ensures, c.loop-alloc.nodes.ok.0, c.remove-keeper.ensures.len, c.loop-alloc.waiting.ok.0)

pub push_reserved-requires : goal.push_reserved-requires
push_reserved-requires g c =
    let whole = begun_length (λ k. stored (g.K.Keeper.held k) (g.K.Keeper.armed k) (g.K.Keeper.faults k) (g.K.Keeper.sure k)) c.args.servers _ _ _ c.loop-alloc.invariant.0 in
    omega (arith, whole, c.requires.room, c.loop-alloc.invariant.1, c.loop-alloc.nodes.ok.0, c.remove-keeper.ensures.len, c.loop-alloc.waiting.ok.0)

pub loop-alloc-preserved : goal.loop-alloc-preserved
loop-alloc-preserved g c =
    let st : g.row.K.Denot → Store = λ k. stored (g.K.Keeper.held k) (g.K.Keeper.armed k) (g.K.Keeper.faults k) (g.K.Keeper.sure k) in
    let nodes = c.loop-alloc.nodes.items in let x = c.remove-keeper.result in let rest = c.remove-keeper.new.self.items in
    let first = taken_first c.loop-alloc.waiting.items rest x (omega (arith, c.remove-keeper.ensures.len, c.loop-alloc.waiting.ok.0)) c.remove-keeper.ensures.value c.remove-keeper.ensures.items in
    let id : c.len.result + 1 ≡ length nodes + 1 = omega (arith, c.len.ensures, c.loop-alloc.nodes.ok.0) in
    let more = begun_more st c.args.servers _ c.loop-alloc.waiting.items rest x nodes c.in-Ok.node first c.loop-alloc.invariant.0 (subst (λ k. Starts k c.args.servers (st x) c.in-Ok.node) id c.in-Ok.ensures.ok) in (
      subst (λ z. Begun st c.args.servers c.args.waiting.now.items rest z) (sym c.push_reserved.ensures.items) more,
      c.push_reserved.ensures.capacity ∙ c.loop-alloc.invariant.1,
      all_rest (λ k. ForSome (g.K.Keeper.held k) KeepsLimits) x rest (subst (All (λ k. ForSome (g.K.Keeper.held k) KeepsLimits)) first c.loop-alloc.invariant.2),
    )

use Rattle.std.proofs.Common.{◌≤◌, length, [], ap, subst, sym, ◌∙◌, Err}
use Rattle.raft_node.specs.Nodes.{IsKept, seen}
use Rattle.raft_node.specs.Steps.{Makes, stored}
use Rattle.raft_node.proofs.Made.{halted_of, vote_halts, vote_halts_kept, vote_keeps, vote_made}
use Rattle.raft_node.proofs.node.Node.make_state.Goals as goal

pub invariant_of-self : goal.invariant_of-self
invariant_of-self g c =
    let old = c.self.inside.keeper in let new = c.keep_vote.new.keeper in
    vote_keeps (stored (g.K.Keeper.held old) (g.K.Keeper.armed old) (g.K.Keeper.faults old) (g.K.Keeper.sure old)) (stored (g.K.Keeper.held new) (g.K.Keeper.armed new) (g.K.Keeper.faults new) (g.K.Keeper.sure new))
    c.self.inside.state c.args.state c.self.inside.log c.self.inside.counted c.in-Ok.field-0 (ap (λ n. n.halted) c.self.view_is ∙ c.requires.running) c.requires.still
    (subst (λ n. c.args.state.commit ≤ length n.log) (sym c.self.view_is) c.requires.commit) c.self.invariant c.in-Ok.ensures.ok

pub returns-in-Ok-clause-ok : goal.returns-in-Ok-clause-ok
returns-in-Ok-clause-ok g c =
    let old = c.self.inside.keeper in let new = c.keep_vote.new.keeper in
    subst (λ n. Makes n (record { node = seen n.store c.args.state n.log; sent = c.args.sent }) (seen (stored (g.K.Keeper.held new) (g.K.Keeper.armed new) (g.K.Keeper.faults new) (g.K.Keeper.sure new)) c.args.state c.self.inside.log) c.args.sent)
    c.self.view_is
    (vote_made (stored (g.K.Keeper.held old) (g.K.Keeper.armed old) (g.K.Keeper.faults old) (g.K.Keeper.sure old)) (stored (g.K.Keeper.held new) (g.K.Keeper.armed new) (g.K.Keeper.faults new) (g.K.Keeper.sure new))
    c.self.inside.state c.args.state c.self.inside.log c.args.sent c.in-Ok.field-0 c.in-Ok.ensures.ok)

pub invariant_of-self-in-Err-Failed : goal.invariant_of-self-in-Err-Failed
invariant_of-self-in-Err-Failed g c =
    let old = c.self.inside.keeper in let new = c.keep_vote.new.keeper in
    subst (λ st. IsKept (g.K.Keeper.held new) st c.self.inside.log c.self.inside.counted) (sym c.halt.ensures)
    (vote_halts_kept (stored (g.K.Keeper.held old) (g.K.Keeper.armed old) (g.K.Keeper.faults old) (g.K.Keeper.sure old)) (stored (g.K.Keeper.held new) (g.K.Keeper.armed new) (g.K.Keeper.faults new) (g.K.Keeper.sure new))
    c.self.inside.state c.args.state c.self.inside.log c.self.inside.counted c.self.invariant (c.keep_vote.ensures.failed (c.in-Err-Failed.is ∙ ap (λ e. Err e) c.in-Err-Failed.field-0-is)))

pub returns-in-Err-Failed-clause-ok : goal.returns-in-Err-Failed-clause-ok
returns-in-Err-Failed-clause-ok g c =
    let old = c.self.inside.keeper in let new = c.keep_vote.new.keeper in
    subst (λ st. Makes c.args.self.now (record { node = seen c.args.self.now.store c.args.state c.args.self.now.log; sent = c.args.sent })
    (seen (stored (g.K.Keeper.held new) (g.K.Keeper.armed new) (g.K.Keeper.faults new) (g.K.Keeper.sure new)) st c.self.inside.log) c.new.result) (sym c.halt.ensures)
    (subst (λ out. Makes c.args.self.now (record { node = seen c.args.self.now.store c.args.state c.args.self.now.log; sent = c.args.sent })
    (seen (stored (g.K.Keeper.held new) (g.K.Keeper.armed new) (g.K.Keeper.faults new) (g.K.Keeper.sure new)) (halted_of c.self.inside.state) c.self.inside.log) out) (sym c.new.ensures)
    (subst (λ n. Makes n (record { node = seen n.store c.args.state n.log; sent = c.args.sent })
    (seen (stored (g.K.Keeper.held new) (g.K.Keeper.armed new) (g.K.Keeper.faults new) (g.K.Keeper.sure new)) (halted_of c.self.inside.state) c.self.inside.log) []) c.self.view_is
    (vote_halts (stored (g.K.Keeper.held old) (g.K.Keeper.armed old) (g.K.Keeper.faults old) (g.K.Keeper.sure old)) (stored (g.K.Keeper.held new) (g.K.Keeper.armed new) (g.K.Keeper.faults new) (g.K.Keeper.sure new))
    c.self.inside.state c.args.state c.self.inside.log c.args.sent (c.keep_vote.ensures.failed (c.in-Err-Failed.is ∙ ap (λ e. Err e) c.in-Err-Failed.field-0-is)))))

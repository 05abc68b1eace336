use Rattle.std.proofs.Common.{◌≤◌, ◌++◌, take, length, ap, subst, sym, ◌∙◌, Err}
use Rattle.raft_node.specs.Nodes.{IsKept, MayReplace}
use Rattle.raft_node.specs.Steps.{stored}
use Rattle.raft_node.proofs.Made.{forgets_kept, log_fails, log_halts_kept, log_keeps, log_makes, may_store}
use Rattle.raft_node.proofs.node.Node.make_log.Goals as goal

pub store_log-requires-clause-may : goal.store_log-requires-clause-may
store_log-requires-clause-may g c =
    let inside = c.self.inside in
    may_store (g.K.Keeper.held inside.keeper) inside.state inside.log c.args.tail (ap (λ n. n.halted) c.self.view_is ∙ c.requires.running) c.self.invariant.store
    (subst (λ n. MayReplace n.log c.args.tail) (sym c.self.view_is) c.requires.fits)

pub invariant_of-self : goal.invariant_of-self
invariant_of-self g c =
    let inside = c.self.inside in let new = c.store_log.new.keeper in
    let fits = subst (λ n. MayReplace n.log c.args.tail) (sym c.self.view_is) c.requires.fits in
    let log = c.in-Ok.ensures.log in
    subst (λ z. IsKept (g.K.Keeper.held new) c.args.state z c.cut.new.self) (sym log)
    (log_keeps (stored (g.K.Keeper.held inside.keeper) (g.K.Keeper.armed inside.keeper) (g.K.Keeper.faults inside.keeper) (g.K.Keeper.sure inside.keeper)) (stored (g.K.Keeper.held new) (g.K.Keeper.armed new) (g.K.Keeper.faults new) (g.K.Keeper.sure new))
    inside.state c.args.state inside.log c.args.tail inside.counted c.cut.new.self (ap (λ n. n.halted) c.self.view_is ∙ c.requires.running) c.requires.still
    (subst (λ n. c.args.state.commit ≤ length (take c.args.tail.keep n.log ++ c.args.tail.entries)) (sym c.self.view_is) c.requires.commit) fits c.self.invariant
    (c.cut.ensures inside.log c.args.tail.entries fits.within c.self.invariant.counted) c.in-Ok.ensures.ok)

pub returns-in-Ok-clause-ok : goal.returns-in-Ok-clause-ok
returns-in-Ok-clause-ok g c =
    let inside = c.self.inside in let new = c.store_log.new.keeper in
    log_makes c.args.self.now (stored (g.K.Keeper.held inside.keeper) (g.K.Keeper.armed inside.keeper) (g.K.Keeper.faults inside.keeper) (g.K.Keeper.sure inside.keeper)) (stored (g.K.Keeper.held new) (g.K.Keeper.armed new) (g.K.Keeper.faults new) (g.K.Keeper.sure new))
    inside.state c.args.state inside.log c.store_log.new.log c.args.tail c.args.sent c.self.view_is (ap (λ n. n.halted) c.self.view_is ∙ c.requires.running) c.self.invariant.store
    c.requires.fits c.in-Ok.ensures.log c.in-Ok.ensures.ok

pub invariant_of-self-in-Err-Failed : goal.invariant_of-self-in-Err-Failed
invariant_of-self-in-Err-Failed g c =
    let inside = c.self.inside in let new = c.store_log.new.keeper in
    let fits = subst (λ n. MayReplace n.log c.args.tail) (sym c.self.view_is) c.requires.fits in
    subst (λ z. IsKept (g.K.Keeper.held new) c.halt.new.self z inside.counted) (sym c.in-Err-Failed.ensures.unchanged)
    (subst (λ st. IsKept (g.K.Keeper.held new) st inside.log inside.counted) (sym c.halt.ensures)
    (log_halts_kept (stored (g.K.Keeper.held inside.keeper) (g.K.Keeper.armed inside.keeper) (g.K.Keeper.faults inside.keeper) (g.K.Keeper.sure inside.keeper)) (stored (g.K.Keeper.held new) (g.K.Keeper.armed new) (g.K.Keeper.faults new) (g.K.Keeper.sure new))
    inside.state c.args.state inside.log c.args.tail inside.counted (ap (λ n. n.halted) c.self.view_is ∙ c.requires.running) fits c.self.invariant
    (c.store_log.ensures.failed (c.in-Err-Failed.is ∙ ap (λ e. Err e) c.in-Err-Failed.field-0-is))))

pub returns-in-Err-Failed-clause-ok : goal.returns-in-Err-Failed-clause-ok
returns-in-Err-Failed-clause-ok g c =
    let inside = c.self.inside in let new = c.store_log.new.keeper in
    log_fails c.args.self.now (stored (g.K.Keeper.held inside.keeper) (g.K.Keeper.armed inside.keeper) (g.K.Keeper.faults inside.keeper) (g.K.Keeper.sure inside.keeper)) (stored (g.K.Keeper.held new) (g.K.Keeper.armed new) (g.K.Keeper.faults new) (g.K.Keeper.sure new))
    inside.state c.args.state c.halt.new.self inside.log c.store_log.new.log c.args.tail c.args.sent c.new.result c.self.view_is (ap (λ n. n.halted) c.self.view_is ∙ c.requires.running) c.self.invariant.store
    c.requires.fits c.in-Err-Failed.ensures.unchanged c.halt.ensures c.new.ensures (c.store_log.ensures.failed (c.in-Err-Failed.is ∙ ap (λ e. Err e) c.in-Err-Failed.field-0-is))

pub invariant_of-self-in-Err-Forgets : goal.invariant_of-self-in-Err-Forgets
invariant_of-self-in-Err-Forgets g c =
    let inside = c.self.inside in let new = c.store_log.new.keeper in
    subst (λ z. IsKept (g.K.Keeper.held new) c.forget.new.self z inside.counted) (sym c.in-Err-Forgets.ensures.unchanged)
    (subst (λ st. IsKept (g.K.Keeper.held new) st inside.log inside.counted) (sym c.forget.ensures)
    (forgets_kept (stored (g.K.Keeper.held inside.keeper) (g.K.Keeper.armed inside.keeper) (g.K.Keeper.faults inside.keeper) (g.K.Keeper.sure inside.keeper)) (stored (g.K.Keeper.held new) (g.K.Keeper.armed new) (g.K.Keeper.faults new) (g.K.Keeper.sure new))
    inside.state c.args.state inside.log inside.counted (ap (λ n. n.halted) c.self.view_is ∙ c.requires.running) c.self.invariant
    (c.store_log.ensures.forgets (c.in-Err-Forgets.is ∙ ap (λ e. Err e) c.in-Err-Forgets.field-0-is))))

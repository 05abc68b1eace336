use Rattle.std.proofs.Common.{ℕ, subst, sym, ◌∙◌, arith}
use Rattle.index_list.specs.Nodes.{Nodes}
use Rattle.read_watch.specs.declared.waiters.Waiting.{Waiting}
use Rattle.read_watch.specs.Held.{Held}
use Rattle.read_watch.proofs.Holds.{held_left, less_one}
use Rattle.read_watch.proofs.waiters.release.Goals as goal

pub returns-in-Some-clause-held : goal.returns-in-Some-clause-held
returns-in-Some-clause-held c =
    subst (λ (s : Nodes ℕ). Held c.remove.new.self.entries s) (sym c.unlink.ensures.left)
    (held_left c.args.waiters.now.entries c.remove.new.self.entries c.args.list.now c.args.waiter c.in-Some.waiting c.requires.held (sym c.remove.ensures.value ∙ c.in-Some.is)
    (λ (k : ℕ) (p : Waiting) h. less_one c.args.waiters.now.entries c.remove.new.self.entries c.args.waiter k p (c.remove.ensures.updates.0 k) h)
    (omega (arith, c.in-Some.ensures.len)) c.remove.ensures.ordered)

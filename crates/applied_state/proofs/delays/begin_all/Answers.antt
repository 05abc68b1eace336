use Rattle.std.proofs.Common.{◌≡◌, ℕ, List, drop, sym, subst}
use Rattle.applied_state.specs.Delays.{end_with}
use Rattle.applied_state.proofs.Delaying.{begun_some}
use Rattle.applied_state.proofs.delays.begin_all.Goals as goal

pub returns-in_err-clone-clause-same : goal.returns-in_err-clone-clause-same
returns-in_err-clone-clause-same c = begun_some c.args.clock c.args.freed.now c.freed.one-index c.args.begun.now c.freed.begun c.freed.invariant

pub returns-in_err-started-clause-same : goal.returns-in_err-started-clause-same
returns-in_err-started-clause-same c =
    let Keeps : List (List ℕ × ℕ) → Type 0 = λ b. (key : List ℕ) → end_with (drop c.freed.one-index c.args.freed.now) c.args.clock b key ≡ end_with c.args.freed.now c.args.clock c.args.begun.now key in
    begun_some c.args.clock c.args.freed.now c.freed.one-index c.args.begun.now c.started.new.self (subst Keeps (sym c.in_err-started.ensures.err) c.freed.invariant)

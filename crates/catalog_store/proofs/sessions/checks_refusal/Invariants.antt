use Rattle.std.proofs.Common.{◌≡◌, length}
use Rattle.cat_model.specs.Machine.{checks_refusal}
use Rattle.catalog_store.proofs.sessions.checks_refusal.Given as goal

abbrev pub invariant-loop-id : goal.invariant-loop-id
invariant-loop-id l = checks_refusal l.fn.node l.left l.fn.catalog.now.checks ≡ checks_refusal l.fn.node l.fn.checks l.fn.catalog.now.checks

abbrev pub decreases-loop-id : goal.decreases-loop-id
decreases-loop-id l = length l.left

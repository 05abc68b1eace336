use Rattle.std.proofs.Common.{◌≡◌, ◌++◌, length}
use Rattle.cat_model.specs.Machine.{put_checks}
use Rattle.catalog_table.specs.Puts.{checks_edits}
use Rattle.catalog_table.specs.Touching.{check_services}
use Rattle.catalog_table.proofs.set.set_checks.Given as goal

abbrev pub invariant-loop-check : goal.invariant-loop-check
invariant-loop-check l = record {
  put : put_checks l.position l.node l.left l.rows.now ≡ put_checks l.position l.node l.fn.checks l.fn.rows.now;
  told : l.served ++ check_services (checks_edits l.position l.node l.left l.rows.now) ≡ check_services (checks_edits l.position l.node l.fn.checks l.fn.rows.now);
  before : l.rows.before ≡ l.fn.rows.before;
}

abbrev pub decreases-loop-check : goal.decreases-loop-check
decreases-loop-check l = length l.left

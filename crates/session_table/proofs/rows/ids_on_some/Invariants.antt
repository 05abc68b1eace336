use Rattle.std.proofs.Common.{◌≡◌, ℕ, take}
use Rattle.cat_model.specs.Catalog.{session_at}
use Rattle.row_table.specs.Tests.{passes}
use Rattle.session_table.specs.Nodes.{is_on_some}
use Rattle.session_table.specs.Places.{has_id}
use Rattle.session_table.proofs.rows.ids_on_some.Given as goal

abbrev pub invariant-loop-check : goal.invariant-loop-check
invariant-loop-check l = (k : ℕ) → has_id k l.ids.now ≡ passes (is_on_some l.node (take l.check-index l.checks)) (session_at k l.rows.now)

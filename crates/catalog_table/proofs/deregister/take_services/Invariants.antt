use Rattle.std.proofs.Common.{◌≡◌, length}
use Rattle.cat_model.specs.Catalog.{service_key}
use Rattle.cat_model.specs.Keys.{pair_cmp}
use Rattle.catalog_table.specs.Takes.{without_each}
use Rattle.catalog_table.proofs.deregister.take_services.Given as goal

abbrev pub invariant-loop-row : goal.invariant-loop-row
invariant-loop-row l = record {
  now : without_each pair_cmp service_key l.left l.services.now ≡ without_each pair_cmp service_key l.fn.gone l.fn.services.now;
  before : l.services.before ≡ l.fn.services.before;
}

abbrev pub decreases-loop-row : goal.decreases-loop-row
decreases-loop-row l = length l.left

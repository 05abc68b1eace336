-- The services and checks of one side of a sync, each in the order of its keys.
use Rattle.cat_model.specs.Catalog.{check_key, service_key}
use Rattle.cat_model.specs.Keys.{pair_cmp}
use Rattle.cat_model.specs.Tables.{Ascends}
use Rattle.anti_entropy.specs.declared.ordered.Ordered.{Ordered}

pub record IsOrdered (o : Ordered) : Type 0 where
  pub services : Ascends pair_cmp service_key o.services.items
  pub checks : Ascends pair_cmp check_key o.checks.items

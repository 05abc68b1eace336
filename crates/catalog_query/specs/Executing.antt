-- What an execution may come to.
use Rattle.std.specs.Prelude.{◌≡◌, Option, Some, None, Result, Err, IfOk}
use Rattle.cat_model.specs.declared.query.Ran.{Ran}
use Rattle.catalog_query.specs.declared.fault.ExecuteFault.{ExecuteFault}
use Rattle.catalog_query.specs.declared.fault.ExecuteFault.TheVariants.{Unknown}

-- It gives what the named query does, or finds no memory. It is unknown just where there is no such query.
pub record Executes (execution : Option Ran) (result : Result Ran ExecuteFault) : Type 0 where
  pub gives : IfOk result (λ ran. execution ≡ Some ran)
  pub unknown : execution ≡ None → result ≡ Err Unknown
  pub known : result ≡ Err Unknown → execution ≡ None

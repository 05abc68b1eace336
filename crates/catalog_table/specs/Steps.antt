-- What a Register and a Deregister do to the rows, in the words of the catalog machine.
use Rattle.std.specs.Prelude.{◌≡◌, ℕ, Bool, false, not, List, Option, Some, None, ◌||◌, is_some}
use Rattle.std.specs.List.{list_any}
use Rattle.cat_model.specs.Keys.{same_text, is_empty}
use Rattle.cat_model.specs.Catalog.{Catalog, service_at}
use Rattle.cat_model.specs.declared.row.ServiceRow.{ServiceRow}
use Rattle.cat_model.specs.Machine.{Step, act, put_node, put_given, put_checks, has_service, deregister_service, deregister_check, deregister_node}
use Rattle.cat_model.specs.declared.command.NewService.{NewService}
use Rattle.cat_model.specs.declared.command.NewCheck.{NewCheck}
use Rattle.cat_model.specs.declared.command.Command.{Command}
use Rattle.cat_model.specs.declared.command.Command.TheVariants.{Register, Deregister}
use Rattle.cat_model.specs.declared.applied.Refuse.TheVariants as refusals
use Rattle.cat_model.specs.declared.applied.Applied.TheVariants.{Refused}
use Rattle.catalog_table.specs.Rows.{Rows, RowsVersions, rows_of, catalog_of}
use Rattle.catalog_table.specs.declared.fault.RegisterFault.{RegisterFault}
use Rattle.catalog_table.specs.declared.fault.RegisterFault.TheVariants.{MissingService, Memory}

abbrev pub IsRegister : Command → Type 0
IsRegister (Register node address service checks) = Unit {0}
IsRegister other = ⊥

-- the step of a command on the catalog with these rows
abbrev pub step_of : ℕ → Command → Rows → Step
step_of position command rows = act position command (catalog_of rows)

-- the rows are again those of the last `keep`
abbrev pub IsUndone : RowsVersions → RowsVersions → Type 0
IsUndone old new = new ≡ record { now = old.before; before = old.before }

-- a Register that is not done: the machine's step refuses it and nothing changes, or memory is wanting
abbrev pub IsNotDone : Step → RowsVersions → RowsVersions → RegisterFault → Type 0
IsNotDone step old new MissingService = (step ≡ (catalog_of old.now, Refused refusals.MissingService)) × (new ≡ old)
IsNotDone step old new Memory = IsUndone old new

-- the same, before the table goes back to the last `keep`
abbrev pub IsStopped : Step → RowsVersions → RowsVersions → RegisterFault → Type 0
IsStopped step old new MissingService = (step ≡ (catalog_of old.now, Refused refusals.MissingService)) × (new ≡ old)
IsStopped step old new Memory = Unit {0}

-- the parts of these steps
abbrev pub put_rows : ℕ → List ℕ → List ℕ → Option NewService → List NewCheck → Rows → Rows
put_rows position node address service checks r =
    record { nodes = put_node position node address r.nodes; services = put_given position node service r.services; checks = put_checks position node checks r.checks }

-- the ID is that of the registered service
abbrev pub gives : Option NewService → List ℕ → Bool
gives None id = false
gives (Some s) id = same_text s.id id

-- the check's service is empty, the registered one or one of the node
abbrev pub is_served : List ℕ → Option NewService → List ServiceRow → NewCheck → Bool
is_served node service rows c = is_empty c.service || gives service c.service || is_some (service_at (node, c.service) rows)

-- some check is of a service that the node does not have, not even then
abbrev pub lacks_service : ℕ → List ℕ → Option NewService → List NewCheck → Rows → Bool
lacks_service position node service checks r = list_any (λ c. not (has_service node (put_given position node service r.services) c)) checks

abbrev pub take_service : List ℕ → List ℕ → Rows → Rows
take_service node id r = rows_of (deregister_service node id (catalog_of r))

abbrev pub take_check : List ℕ → List ℕ → Rows → Rows
take_check node id r = rows_of (deregister_check node id (catalog_of r))

abbrev pub take_node : List ℕ → Rows → Rows
take_node node r = rows_of (deregister_node node (catalog_of r))

-- a Register or a Deregister
abbrev pub IsRegistration : Command → Type 0
IsRegistration (Register node address service checks) = Unit {0}
IsRegistration (Deregister node service check) = Unit {0}
IsRegistration other = ⊥

-- the catalog with these rows in the place of its own
abbrev pub with_rows : Catalog → Rows → Catalog
with_rows k r = record k { nodes = r.nodes; services = r.services; checks = r.checks }

-- the step on a whole catalog is that on its nodes, services and checks
abbrev pub StepsOnRows : ℕ → Command → Catalog → Type 0
StepsOnRows position command k =
    let step = step_of position command (rows_of k) in
    act position command k ≡ (with_rows k (rows_of step.0), step.1)

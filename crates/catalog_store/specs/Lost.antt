-- The checks that a command makes critical or takes away, which are those that can break a session.
use Rattle.std.specs.Prelude.{◌≡◌, ℕ, Bool, true, false, if◌then◌else◌, List, [], ◌∷◌, Option, Some, None, filter, map, ◌&&◌}
use Rattle.std.specs.List.{AllByRecursion, filter_map}
use Rattle.cat_model.specs.Keys.{is_empty, same_text}
use Rattle.cat_model.specs.Machine.{broken}
use Rattle.cat_model.specs.Same.{same_status}
use Rattle.cat_model.specs.declared.row.CheckRow.{CheckRow}
use Rattle.cat_model.specs.declared.row.SessionRow.{SessionRow}
use Rattle.cat_model.specs.declared.row.Status.TheVariants.{Critical}
use Rattle.cat_model.specs.declared.command.NewCheck.{NewCheck}
use Rattle.cat_model.specs.declared.command.Command.{Command}
use Rattle.cat_model.specs.declared.command.Command.TheVariants.{Register, Deregister}
use Rattle.catalog_table.specs.Rows.{Rows, catalog_of}
use Rattle.session_table.specs.Nodes.{is_of_node, is_on_some}

abbrev pub is_critical : NewCheck → Bool
is_critical c = same_status c.status Critical

-- the ID of the check, where it is critical
abbrev pub critical_id : NewCheck → Option (List ℕ)
critical_id c = if is_critical c then Some c.id else None

-- the checks of the node's service
abbrev pub ids_in_service : List ℕ → List ℕ → List CheckRow → List (List ℕ)
ids_in_service node service rows = map (λ r. r.id) (filter (λ r. same_text r.node node && same_text r.service service) rows)

-- the checks of its node that a command makes critical or takes away; an empty one stands for all
abbrev pub lost_checks : Command → List CheckRow → List (List ℕ)
lost_checks (Register node address service checks) rows = filter_map critical_id checks
lost_checks (Deregister node service check) rows = if is_empty service then check ∷ [] else ids_in_service node service rows
lost_checks other rows = []

-- each session of the node that stands on none of the checks is whole
abbrev pub OthersWhole : List ℕ → List (List ℕ) → Rows → List SessionRow → Type 0
OthersWhole node lost rows sessions = AllByRecursion (λ s. is_of_node node s ≡ true → is_on_some node lost s ≡ false → broken (catalog_of rows) s ≡ false) sessions

-- What services and checks are filed under: services under their name, checks under how well they are and under their service.
use Rattle.std.specs.Prelude.{ℕ, List, Option, Some, None}
use Rattle.std.specs.Ordering.{nat_cmp}
use Rattle.cat_model.specs.Keys.{text_cmp, pair_cmp}
use Rattle.cat_model.specs.Catalog.{service_key, check_key}
use Rattle.cat_model.specs.declared.row.ServiceRow.{ServiceRow}
use Rattle.cat_model.specs.declared.row.CheckRow.{CheckRow}
use Rattle.cat_model.specs.declared.row.Status.{Status}
use Rattle.cat_model.specs.declared.row.Status.TheVariants.{Passing, Warning, Critical}
use Rattle.row_table.specs.Filing.{Files}
use Rattle.row_table.specs.Versions.{Versions}

-- a node and an ID there
abbrev pub Pair : Type 0
Pair = List ℕ × List ℕ

abbrev pub name_of : ServiceRow → Option (List ℕ)
name_of s = Some s.name

-- the statuses in their order
abbrev pub rank : Status → ℕ
rank Passing = 0
rank Warning = 1
rank Critical = 2

abbrev pub rank_of : CheckRow → Option ℕ
rank_of c = Some (rank c.status)

abbrev pub FilesNames : List ServiceRow → List (List ℕ × Pair) → Type 0
FilesNames = Files text_cmp pair_cmp service_key name_of

abbrev pub FilesStatuses : List CheckRow → List (ℕ × Pair) → Type 0
FilesStatuses = Files nat_cmp pair_cmp check_key rank_of

-- the rows of one table, as they are and as they stood at the last `keep`
abbrev pub ServiceVersions : Type 0
ServiceVersions = Versions ServiceRow

abbrev pub CheckVersions : Type 0
CheckVersions = Versions CheckRow

-- the key of the check's service, and the service alone
abbrev pub home : CheckRow → Pair
home c = (c.node, c.service)

abbrev pub home_of : CheckRow → Option Pair
home_of c = Some (home c)

abbrev pub service_of : CheckRow → Option (List ℕ)
service_of c = Some c.service

abbrev pub FilesServices : List CheckRow → List (Pair × Pair) → Type 0
FilesServices = Files pair_cmp pair_cmp check_key home_of

abbrev pub FilesChecks : List CheckRow → List (ℕ × Pair) → List (Pair × Pair) → Type 0
FilesChecks rows statuses services = FilesStatuses rows statuses × FilesServices rows services

-- the key of the service on the node, if there is a service
abbrev pub homed : List ℕ → Option (List ℕ) → Option Pair
homed node None = None
homed node (Some service) = Some (node, service)

abbrev pub ranked : Option Status → Option ℕ
ranked None = None
ranked (Some s) = Some (rank s)

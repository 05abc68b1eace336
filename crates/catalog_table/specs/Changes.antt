-- What a change of the rows changes: which tables, and which service names' reads.
use Rattle.std.specs.Prelude.{◌≡◌, ℕ, Bool, not, List, ◌&&◌, Option, Some, None, filter}
use Rattle.std.specs.List.{IsDistinct}
use Rattle.std.specs.Cmp.Lexicographic.{pointwise}
use Rattle.cat_model.specs.Keys.{same_text}
use Rattle.cat_model.specs.Same.{same_node, same_service, same_check}
use Rattle.cat_model.specs.Catalog.{same_catalog}
use Rattle.cat_model.specs.Queries.{service_rows}
use Rattle.cat_model.specs.Indexes.{has_name}
use Rattle.catalog_table.specs.Rows.{Rows, catalog_of}
use Rattle.catalog_table.specs.Names.{is_among}
use Rattle.catalog_table.specs.declared.changed.Changed.{Changed}

-- some service has this name
abbrev pub is_named : List ℕ → Rows → Bool
is_named name r = has_name name (catalog_of r)

-- what a read of the service name takes differs
abbrev pub reads_differ : Rows → Rows → List ℕ → Bool
reads_differ old new name = not (same_catalog (service_rows name (catalog_of old)) (service_rows name (catalog_of new)))

-- the name has service rows before and none after
abbrev pub vanishes : Rows → Rows → List ℕ → Bool
vanishes old new name = is_named name old && not (is_named name new)

-- these are the names that vanish, each once
pub record AreGone (old new : Rows) (names : List (List ℕ)) : Type 0 where
  pub each : (name : List ℕ) → is_among names name ≡ vanishes old new name
  pub once : IsDistinct same_text names

-- the same of names that may be known
abbrev pub MayBeGone : Rows → Rows → Option (List (List ℕ)) → Type 0
MayBeGone old new None = Unit {0}
MayBeGone old new (Some names) = AreGone old new names

-- the names that vanished: those that are known, or those of the names that no service has now
abbrev pub gone_of : Rows → List (List ℕ) → Option (List (List ℕ)) → List (List ℕ)
gone_of new names None = filter (λ name. not (is_named name new)) names
gone_of new names (Some known) = known

-- the change from old to new: the tables that differ, the names whose reads differ and those that vanish, each once
pub record Tells (old new : Rows) (c : Changed) : Type 0 where
  pub nodes : c.nodes ≡ not (pointwise same_node old.nodes new.nodes)
  pub services : c.services ≡ not (pointwise same_service old.services new.services)
  pub checks : c.checks ≡ not (pointwise same_check old.checks new.checks)
  pub names : (name : List ℕ) → is_among c.names name ≡ reads_differ old new name
  pub names_once : IsDistinct same_text c.names
  pub vanished : (name : List ℕ) → is_among c.vanished name ≡ vanishes old new name
  pub vanished_once : IsDistinct same_text c.vanished

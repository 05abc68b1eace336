-- What the execution of a prepared query gives.
-- Consul, Prepared Queries HTTP endpoint: "Create Prepared Query" (Tags, OnlyPassing) and "Execute Prepared Query" (the id or name, limit).
use Rattle.std.specs.Prelude.{ℕ, Bool, not, if◌then◌else◌, List, [], ◌∷◌, Option, Some, None, nat_eq, ◌&&◌, filter, find, take}
use Rattle.std.specs.List.{list_all}
use Rattle.std.specs.Option.{option_map}
use Rattle.cat_model.specs.Keys.{same_text, is_empty}
use Rattle.cat_model.specs.Same.{same_status}
use Rattle.cat_model.specs.Catalog.{Catalog, query_at}
use Rattle.cat_model.specs.Queries.{service_rows, instances, has_tag, all_pass}
use Rattle.cat_model.specs.declared.row.Status.TheVariants.{Critical}
use Rattle.cat_model.specs.declared.row.QueryRow.{QueryRow}
use Rattle.cat_model.specs.declared.query.Instance.{Instance}
use Rattle.cat_model.specs.declared.query.Ran.{Ran}

-- a wanted tag: `!t`, which begins with the byte 33, wants that t is absent
abbrev pub meets_tag : List (List ℕ) → List ℕ → Bool
meets_tag tags [] = has_tag tags []
meets_tag tags (x ∷ tag) = if nat_eq x 33 then not (has_tag tags tag) else has_tag tags (x ∷ tag)

abbrev pub meets_all_tags : List (List ℕ) → Instance → Bool
meets_all_tags wanted x = list_all (meets_tag x.service.tags) wanted

abbrev pub none_critical : Instance → Bool
none_critical x = list_all (λ c. not (same_status c.row.status Critical)) x.checks

-- an instance that the query wants
abbrev pub is_wanted : QueryRow → Instance → Bool
is_wanted row x = (if row.only_passing then all_pass x else none_critical x) && meets_all_tags row.tags x

-- the first ones, or all for a limit of 0
abbrev pub cut_at : {A : Type 0} → ℕ → List A → List A
cut_at limit xs = if nat_eq limit 0 then xs else take limit xs

unfoldable pub execute_row : Catalog → ℕ → QueryRow → Ran
execute_row k limit row =
    record { service = row.service; dns_ttl_ms = row.dns_ttl_ms; nodes = cut_at limit (filter (is_wanted row) (instances (service_rows row.service k))) }

-- the query with this name; an empty name is none
abbrev pub query_named : List ℕ → List QueryRow → Option QueryRow
query_named name rows = find (λ r. not (is_empty name) && same_text r.name name) rows

abbrev pub or_named : Option QueryRow → Option QueryRow → Option QueryRow
or_named None named = named
or_named (Some row) named = Some row

-- the query that a text names: by the identifier that it spells, if it spells one and there is such a query, else by name
unfoldable pub query_of : Option ℕ → List ℕ → List QueryRow → Option QueryRow
query_of None name rows = query_named name rows
query_of (Some id) name rows = or_named (query_at id rows) (query_named name rows)

-- The execution of the query that this text names, where `id` is the identifier that the text spells. None where there is no such query.
abbrev pub execution : Catalog → Option ℕ → List ℕ → ℕ → Option Ran
execution k id name limit = option_map (execute_row k limit) (query_of id name k.queries)

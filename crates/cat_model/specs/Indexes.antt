-- The index of a query: the last position that touched it, looking back over the whole log.
use Rattle.std.specs.Prelude.{◌≡◌, ◌≢◌, ℕ, ◌+◌, ◌<◌, ◌≤◌, Bool, true, false, not, if◌then◌else◌, List, [], ◌∷◌, ◌++◌, ◌&&◌, ◌||◌, is_some, length, reverse}
use Rattle.std.specs.List.{list_any}
use Rattle.cat_model.specs.Keys.{same_text}
use Rattle.cat_model.specs.Catalog.{Catalog, same_catalog, kv_at}
use Rattle.cat_model.specs.Queries.{reads, answer}
use Rattle.cat_model.specs.Machine.{at_past, catalog_at}
use Rattle.cat_model.specs.declared.query.Query.{Query}
use Rattle.cat_model.specs.declared.query.Query.TheVariants as q
use Rattle.cat_model.specs.declared.command.Command.{Command}
use Rattle.cat_model.specs.declared.command.Command.TheVariants.{Noop, Reap}

-- some service has this name
abbrev pub has_name : List ℕ → Catalog → Bool
has_name name k = list_any (λ s. same_text s.name name) k.services

-- some service name has rows before and none after
unfoldable pub some_vanishes : Catalog → Catalog → Bool
some_vanishes before after = list_any (λ s. not (has_name s.name after)) before.services

-- a reap touches prefixes, and keys that are absent after it
abbrev pub is_reaped : Query → Catalog → Bool
is_reaped (q.Prefix prefix) after = true
is_reaped (q.Keys prefix separator) after = true
is_reaped (q.Key key) after = not (is_some (kv_at key after.kv))
is_reaped other after = false

abbrev pub is_reap : Command → Bool
is_reap Reap = true
is_reap other = false

-- a vanished name touches the service queries of a name with no rows after it
abbrev pub lacks_service : Query → Catalog → Bool
lacks_service (q.Service name tags) after = not (has_name name after)
lacks_service (q.HealthService name tags passing) after = not (has_name name after)
lacks_service other after = false

-- some node has this name
abbrev pub has_node : List ℕ → Catalog → Bool
has_node node k = list_any (λ r. same_text r.node node) k.nodes

-- some node has a row before and none after
unfoldable pub some_node_goes : Catalog → Catalog → Bool
some_node_goes before after = list_any (λ r. not (has_node r.node after)) before.nodes

-- a node that goes touches the queries of a node with no row after it
abbrev pub lacks_node : Query → Catalog → Bool
lacks_node (q.NodeServices node) after = not (has_node node after)
lacks_node (q.HealthNode node) after = not (has_node node after)
lacks_node other after = false

-- whether the step by this command, from before to after, touches the query
unfoldable pub touches : Query → Catalog → Command → Catalog → Bool
touches q before c after =
    (lacks_node q after && some_node_goes before after)
    || not (same_catalog (reads q before) (reads q after))
    || (is_reap c && is_reaped q after)
    || (some_vanishes before after && lacks_service q after)

unfoldable pub past_index : Query → List Command → ℕ
past_index q [] = 1
past_index q (c ∷ past) = if touches q (at_past past) c (at_past (c ∷ past)) then length past + 1 else past_index q past

-- the index of a query after a log
abbrev pub index_of : Query → List Command → ℕ
index_of q log = past_index q (reverse log)

-- a log of commands is empty or begins with a Noop
abbrev pub BeginsWithNoop : List Command → Type 0
BeginsWithNoop [] = Unit {0}
BeginsWithNoop (c ∷ log) = c ≡ Noop

-- The index law. The longer log has no smaller index, and where the answers differ a greater one, which is above the shorter log's length.
abbrev pub IndexLaw : Query → List Command → List Command → Type 0
IndexLaw q log more =
    (index_of q log ≤ index_of q (log ++ more))
    × (answer q (catalog_at log) ≢ answer q (catalog_at (log ++ more)) → (length log < index_of q (log ++ more)) × (index_of q log < index_of q (log ++ more)))

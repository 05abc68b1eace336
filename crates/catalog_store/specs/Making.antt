-- Sessions and prepared queries as commands make them.
use Rattle.std.specs.Prelude.{ℕ, Bool, true, false, not, List, [], ◌∷◌, ◌&&◌, Option, Some, None, is_some}
use Rattle.cat_model.specs.Catalog.{node_at, session_at, query_at}
use Rattle.cat_model.specs.Machine.{checks_refusal, create_of, or_else, other_has_name, refusal_of}
use Rattle.cat_model.specs.declared.row.SessionRow.{SessionRow}
use Rattle.cat_model.specs.declared.row.QueryRow.{QueryRow}
use Rattle.cat_model.specs.declared.applied.Refuse.{Refuse}
use Rattle.cat_model.specs.declared.applied.Refuse.TheVariants as refusals
use Rattle.cat_model.specs.declared.row.Behavior.TheVariants as behaviors
use Rattle.cat_model.specs.declared.command.Command.{Command}
use Rattle.cat_model.specs.declared.command.Command.TheVariants.{Register, Deregister, SessionCreate, SessionDestroy, QuerySet}
use Rattle.catalog_table.specs.Rows.{Rows}

-- a command after which no session ends
abbrev pub ends_none : Command → Bool
ends_none (Register node address service checks) = false
ends_none (Deregister node service check) = false
ends_none (SessionDestroy id) = false
ends_none other = true

abbrev pub IsCreate : Command → Type 0
IsCreate (SessionCreate id name node checks behavior delay_ms ttl_ms) = Unit {0}
IsCreate other = ⊥

abbrev pub IsSet : Command → Type 0
IsSet (QuerySet id create name session service only_passing tags dns_ttl_ms) = Unit {0}
IsSet other = ⊥

-- the rows that these commands make at a position
abbrev pub made_session : ℕ → Command → SessionRow
made_session i (SessionCreate id name node checks behavior delay_ms ttl_ms) = record { id = id; name = name; node = node; checks = checks; behavior = behavior; delay_ms = delay_ms; ttl_ms = ttl_ms; create = i; modify = i }
made_session i other = record { id = 0; name = []; node = []; checks = []; behavior = behaviors.Release; delay_ms = 0; ttl_ms = 0; create = 0; modify = 0 }

abbrev pub made_query : ℕ → Command → QueryRow
made_query i (QuerySet id create name session service only_passing tags dns_ttl_ms) = record { id = id; name = name; session = session; service = service; only_passing = only_passing; tags = tags; dns_ttl_ms = dns_ttl_ms; create = i; modify = i }
made_query i other = record { id = 0; name = []; session = None; service = []; only_passing = false; tags = []; dns_ttl_ms = 0; create = 0; modify = 0 }

abbrev pub makes_anew : Command → Bool
makes_anew (QuerySet id create name session service only_passing tags dns_ttl_ms) = create
makes_anew other = false

-- why the session is not made, and why the query is not written
abbrev pub create_refused : SessionRow → List SessionRow → Rows → Option Refuse
create_refused s sessions rows =
    or_else (refusal_of ((is_some (session_at s.id sessions), refusals.IdTaken) ∷ (not (is_some (node_at s.node rows.nodes)), refusals.MissingNode) ∷ [])) (checks_refusal s.node s.checks rows.checks)

abbrev pub known_in : List SessionRow → Option ℕ → Bool
known_in sessions None = true
known_in sessions (Some id) = is_some (session_at id sessions)

abbrev pub set_refused : Bool → QueryRow → List SessionRow → List QueryRow → Option Refuse
set_refused create q sessions queries =
    refusal_of (
    (create && is_some (query_at q.id queries), refusals.IdTaken)
    ∷ (not create && not (is_some (query_at q.id queries)), refusals.UnknownQuery)
    ∷ (not (known_in sessions q.session), refusals.UnknownSession)
    ∷ (other_has_name q queries, refusals.NameTaken)
    ∷ [])

-- the query keeps the position at which it was made
abbrev pub kept_create : QueryRow → List QueryRow → QueryRow
kept_create q queries = record q { create = create_of q.create (query_at q.id queries) }

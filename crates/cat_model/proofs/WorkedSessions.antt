-- Worked rows on lock delays, prepared queries and syncs, each by refl.
use Rattle.std.specs.Prelude.{◌≡◌, ℕ, List, [], ◌∷◌, Some, None, refl, codes, false, true}
use Rattle.cat_model.specs.Tables.{put}
use Rattle.cat_model.specs.Same.{same_kv, same_node, same_service, same_check, same_session, same_query}
use Rattle.cat_model.specs.Catalog.{same_catalog}
use Rattle.cat_model.specs.Kv.{write_kv, kv_lock}
use Rattle.cat_model.specs.Machine.{register, create_session, set_query, broken, act, unless, end_sessions, apply, freed, at_past, catalog_at, reply_to}
use Rattle.cat_model.specs.Queries.{reads, answer_from, answer}
use Rattle.cat_model.specs.Indexes.{some_vanishes, touches, past_index, index_of}
use Rattle.cat_model.specs.Identifiers.{identifier}
use Rattle.cat_model.specs.Delays.{Timed, past_delay, delay_until}
use Rattle.cat_model.specs.Executions.{execute_row, query_of, execution}
use Rattle.cat_model.specs.Syncs.{plan, plan_of}
use Rattle.cat_model.specs.declared.query.Query.TheVariants as q
use Rattle.cat_model.specs.declared.query.Answer.TheVariants as a
use Rattle.cat_model.specs.declared.query.Ran.{Ran}
use Rattle.cat_model.specs.declared.command.Command.{Command}
use Rattle.cat_model.specs.declared.command.Command.TheVariants.{Noop, Register, Deregister, KvLock, SessionCreate, SessionDestroy, QuerySet}
use Rattle.cat_model.specs.declared.row.CheckRow.{CheckRow}
use Rattle.cat_model.specs.declared.row.ServiceRow.{ServiceRow}
use Rattle.cat_model.specs.declared.row.Status as st
use Rattle.cat_model.specs.declared.row.Status.TheVariants as status
use Rattle.cat_model.specs.declared.row.Behavior.TheVariants as behavior
use Rattle.cat_model.specs.declared.applied.Applied.TheVariants.{Done, Refused}
use Rattle.cat_model.specs.declared.applied.Refuse.TheVariants.{NameTaken}
use Rattle.cat_model.specs.declared.fired.Local.{Local}
use Rattle.cat_model.specs.declared.fired.Remote.{Remote}

-- the words 7 and 1 make 00000000-0000-4007-8000-000000000001
drawn : identifier 7 1 ≡ 302369805484210115313665
unfolding identifier
drawn = refl

-- A lock is released by its session's end at clock 0, and its delay of 15 seconds is over at 15,000; then another session takes it.
abbrev serf : Command
serf = Register (codes "agent-1") (codes "127.0.0.1") None (record { id = codes "serfHealth"; name = codes "Serf Health Status"; status = status.Passing; notes = []; output = []; service = [] } ∷ [])

abbrev session : ℕ → Command
session id = SessionCreate id [] (codes "agent-1") (codes "serfHealth" ∷ []) behavior.Release 15000 0

abbrev destroyed : List Command
destroyed = Noop ∷ serf ∷ session 1 ∷ KvLock (codes "k") 0 (codes "a") 1 ∷ SessionDestroy 1 ∷ []

abbrev taken : List Command
taken = Noop ∷ serf ∷ session 1 ∷ KvLock (codes "k") 0 (codes "a") 1 ∷ SessionDestroy 1 ∷ session 4 ∷ KvLock (codes "k") 0 (codes "b") 4 ∷ []

abbrev at_zero : Command → Timed
at_zero c = record { command = c; clock = 0 }

lock_delay :
    (delay_until (codes "k") (at_zero Noop ∷ at_zero serf ∷ at_zero (session 1) ∷ at_zero (KvLock (codes "k") 0 (codes "a") 1) ∷ at_zero (SessionDestroy 1) ∷ []) ≡ 15000)
    × (answer (q.Key (codes "k")) (catalog_at destroyed) ≡ a.Rows (record { key = codes "k"; value = codes "a"; flags = 0; session = None; lock_index = 1; create = 4; modify = 5 } ∷ []))
    × (answer (q.Key (codes "k")) (catalog_at taken) ≡ a.Rows (record { key = codes "k"; value = codes "b"; flags = 0; session = Some 4; lock_index = 2; create = 4; modify = 7 } ∷ []))
    × (index_of (q.Key (codes "k")) taken ≡ 7)
unfolding put same_node same_service same_check same_kv same_session same_query same_catalog register create_session write_kv kv_lock act unless broken end_sessions apply freed at_past reads answer_from touches some_vanishes past_index past_delay
lock_delay = (refl, refl, refl, refl)

-- a prepared query of a service whose only instance is critical, and a second one with its name
abbrev web : List ℕ → st.Status → Command
web tag state = Register (codes "n1") (codes "10.0.0.1") (Some (record { id = codes "web"; name = codes "web"; tags = tag ∷ []; address = []; port = 80; tag_override = false })) (record { id = codes "c"; name = codes "c"; status = state; notes = []; output = []; service = codes "web" } ∷ [])

abbrev query : ℕ → List (List ℕ) → Command
query id tags = QuerySet id true (codes "q") None (codes "web") false tags 0

abbrev ran_none : Ran
ran_none = record { service = codes "web"; dns_ttl_ms = 0; nodes = [] }

prepared_query :
    (reply_to (Noop ∷ web (codes "v1") status.Critical ∷ []) (query 2 []) ≡ Done)
    × (execution (catalog_at (Noop ∷ web (codes "v1") status.Critical ∷ query 2 [] ∷ [])) None (codes "q") 0 ≡ Some ran_none)
    × (reply_to (Noop ∷ web (codes "v1") status.Critical ∷ query 2 [] ∷ []) (query 3 []) ≡ Refused NameTaken)
    × (execution (catalog_at (Noop ∷ web (codes "v1") status.Critical ∷ query 2 [] ∷ [])) None (codes "r") 0 ≡ None)
    × (execution (catalog_at (Noop ∷ web (codes "v1") status.Passing ∷ query 2 (codes "!v1" ∷ []) ∷ [])) (Some 2) [] 0 ≡ Some ran_none)
unfolding put same_node same_service same_check same_session same_query register set_query act unless broken end_sessions apply at_past execute_row query_of
prepared_query = (refl, refl, refl, refl, refl)

-- An agent has db and web; the catalog lost web, and has a stray service. The sync makes two commands, and a second one none.
abbrev service : List ℕ → ℕ → ServiceRow
service name port = record { node = codes "agent-1"; id = name; name = name; tags = []; address = []; port = port; tag_override = false; create = 0; modify = 0 }

abbrev own_check : CheckRow
own_check = record { node = codes "agent-1"; id = codes "serfHealth"; name = codes "Serf Health Status"; status = status.Passing; notes = []; output = []; service = []; create = 0; modify = 0 }

abbrev agent : Local
agent = record { node = Some (record { node = codes "agent-1"; address = codes "127.0.0.1"; create = 0; modify = 0 }); services = service (codes "web") 80 ∷ service (codes "db") 5432 ∷ []; checks = own_check ∷ [] }

abbrev there : List ServiceRow → Remote
there services = record { node = Some (record { node = codes "agent-1"; address = codes "127.0.0.1"; create = 2; modify = 2 }); services = services; checks = record own_check { create = 2; modify = 2 } ∷ [] }

syncs :
    (plan agent (there (service (codes "db") 5432 ∷ service (codes "stray") 0 ∷ []))
    ≡ Register (codes "agent-1") (codes "127.0.0.1") (Some (record { id = codes "web"; name = codes "web"; tags = []; address = []; port = 80; tag_override = false })) []
    ∷ Deregister (codes "agent-1") (codes "stray") [] ∷ [])
    × (plan agent (there (service (codes "db") 5432 ∷ service (codes "web") 80 ∷ [])) ≡ [])
    × (plan agent (record { node = None; services = []; checks = [] })
    ≡ serf
    ∷ Register (codes "agent-1") (codes "127.0.0.1") (Some (record { id = codes "db"; name = codes "db"; tags = []; address = []; port = 5432; tag_override = false })) []
    ∷ Register (codes "agent-1") (codes "127.0.0.1") (Some (record { id = codes "web"; name = codes "web"; tags = []; address = []; port = 80; tag_override = false })) [] ∷ [])
unfolding put plan_of
syncs = (refl, refl, refl)

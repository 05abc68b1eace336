-- The definitions compute: worked rows, each by refl.
use Rattle.std.specs.Prelude.{◌≡◌, ℕ, List, [], ◌∷◌, Some, None, refl, codes, false}
use Rattle.cat_model.specs.Tables.{put}
use Rattle.cat_model.specs.Same.{same_kv, same_node, same_service, same_check, same_session, same_query}
use Rattle.cat_model.specs.Catalog.{same_catalog}
use Rattle.cat_model.specs.Kv.{write_kv, kv_set, kv_cas, kv_lock, kv_delete, run_ops}
use Rattle.cat_model.specs.Machine.{register, deregister, create_session, broken, act, unless, end_sessions, apply, freed, at_past, catalog_at, reply_to}
use Rattle.cat_model.specs.Queries.{reads, answer_from, answer}
use Rattle.cat_model.specs.Indexes.{some_vanishes, touches, past_index, index_of}
use Rattle.cat_model.specs.declared.query.Query.TheVariants as q
use Rattle.cat_model.specs.declared.query.Answer.{Answer}
use Rattle.cat_model.specs.declared.query.Answer.TheVariants as a
use Rattle.cat_model.specs.declared.command.Command.{Command}
use Rattle.cat_model.specs.declared.command.Command.TheVariants.{Noop, Register, Deregister, KvSet, KvCas, KvLock, KvDelete, Txn, SessionCreate, Reap, Upgrade}
use Rattle.cat_model.specs.declared.row.Status as st
use Rattle.cat_model.specs.declared.row.Status.TheVariants as status
use Rattle.cat_model.specs.declared.row.Behavior.TheVariants as behavior
use Rattle.cat_model.specs.declared.command.Verb as v
use Rattle.cat_model.specs.declared.command.Verb.TheVariants as verb
use Rattle.cat_model.specs.declared.command.TxnOp as o
use Rattle.cat_model.specs.declared.applied.TxnResult as r
use Rattle.cat_model.specs.declared.applied.Applied.TheVariants.{Yes, No, Results, RolledBack}

-- a key is set, deleted and reaped
abbrev set_and_reaped : List Command
set_and_reaped = Noop ∷ KvSet (codes "a/b") 0 (codes "x") ∷ KvDelete (codes "a/b") ∷ Reap ∷ []

abbrev set_and_deleted : List Command
set_and_deleted = Noop ∷ KvSet (codes "a/b") 0 (codes "x") ∷ KvDelete (codes "a/b") ∷ []

abbrev only_set : List Command
only_set = Noop ∷ KvSet (codes "a/b") 0 (codes "x") ∷ []

prefix_indexes : (index_of (q.Prefix (codes "a/")) only_set ≡ 2) × (index_of (q.Prefix (codes "a/")) set_and_deleted ≡ 3) × (index_of (q.Prefix (codes "a/")) set_and_reaped ≡ 4)
unfolding put same_kv same_catalog write_kv kv_set kv_delete act unless broken end_sessions apply at_past reads touches some_vanishes past_index
prefix_indexes = (refl, refl, refl)

key_indexes : (index_of (q.Key (codes "a/b")) only_set ≡ 2) × (index_of (q.Key (codes "a/b")) set_and_deleted ≡ 3) × (index_of (q.Key (codes "a/b")) set_and_reaped ≡ 4)
unfolding put same_kv same_catalog write_kv kv_set kv_delete act unless broken end_sessions apply at_past reads touches some_vanishes past_index
key_indexes = (refl, refl, refl)

absent_key_indexes : (index_of (q.Key (codes "c")) only_set ≡ 1) × (index_of (q.Key (codes "c")) set_and_deleted ≡ 1) × (index_of (q.Key (codes "c")) set_and_reaped ≡ 4)
unfolding put same_kv same_catalog write_kv kv_set kv_delete act unless broken end_sessions apply at_past reads touches some_vanishes past_index
absent_key_indexes = (refl, refl, refl)

-- the last instance of a service goes
abbrev web : Command
web = Register (codes "n1") (codes "10.0.0.1") (Some (record { id = codes "web"; name = codes "web"; tags = []; address = []; port = 80; tag_override = false })) []

abbrev registered : List Command
registered = Noop ∷ web ∷ []

abbrev twice : List Command
twice = Noop ∷ web ∷ web ∷ []

abbrev gone : List Command
gone = Noop ∷ web ∷ web ∷ Deregister (codes "n1") [] [] ∷ []

service_indexes : (index_of (q.HealthService (codes "web") [] false) registered ≡ 2) × (index_of (q.HealthService (codes "web") [] false) twice ≡ 2) × (index_of (q.HealthService (codes "web") [] false) gone ≡ 4)
unfolding put same_node same_service same_check same_catalog register deregister act unless broken end_sessions apply at_past reads touches some_vanishes past_index
service_indexes = (refl, refl, refl)

other_service_indexes : (index_of (q.HealthService (codes "x") [] false) registered ≡ 1) × (index_of (q.HealthService (codes "x") [] false) twice ≡ 1) × (index_of (q.HealthService (codes "x") [] false) gone ≡ 4)
unfolding put same_node same_service same_check same_catalog register deregister act unless broken end_sessions apply at_past reads touches some_vanishes past_index
other_service_indexes = (refl, refl, refl)

node_indexes : (index_of q.Nodes registered ≡ 2) × (index_of q.Nodes twice ≡ 2) × (index_of q.Nodes gone ≡ 4)
unfolding put same_node same_service same_check same_catalog register deregister act unless broken end_sessions apply at_past reads touches some_vanishes past_index
node_indexes = (refl, refl, refl)

-- a check that turns critical ends a session, which removes its key
abbrev with_check : List ℕ → st.Status → Command
with_check name status = Register (codes "n1") (codes "10.0.0.1") None (record { id = name; name = name; status = status; notes = []; output = []; service = [] } ∷ [])

abbrev held : List Command
held = Noop ∷ with_check (codes "c") status.Passing ∷ SessionCreate 7 [] (codes "n1") (codes "c" ∷ []) behavior.Delete 15000 0 ∷ KvLock (codes "k") 0 (codes "v") 7 ∷ []

abbrev ended : List Command
ended = Noop ∷ with_check (codes "c") status.Passing ∷ SessionCreate 7 [] (codes "n1") (codes "c" ∷ []) behavior.Delete 15000 0 ∷ KvLock (codes "k") 0 (codes "v") 7 ∷ with_check (codes "c") status.Critical ∷ []

session_ends :
    (answer (q.Key (codes "k")) (catalog_at held) ≡ a.Rows (record { key = codes "k"; value = codes "v"; flags = 0; session = Some 7; lock_index = 1; create = 4; modify = 4 } ∷ []))
    × (index_of (q.Key (codes "k")) held ≡ 4)
    × (answer (q.Key (codes "k")) (catalog_at ended) ≡ a.Absent)
    × (index_of (q.Key (codes "k")) ended ≡ 5)
    × (index_of (q.Prefix []) ended ≡ 5)
    × (freed 5 (with_check (codes "c") status.Critical) (catalog_at held) ≡ (codes "k", 15000) ∷ [])
unfolding put same_node same_service same_check same_kv same_session same_query same_catalog register create_session write_kv kv_lock act unless broken end_sessions apply freed at_past reads answer_from touches some_vanishes past_index
session_ends = (refl, refl, refl, refl, refl, refl)

-- a transaction that fails at its second operation, and one that goes through
abbrev op : v.Verb → List ℕ → List ℕ → ℕ → o.TxnOp
op verb key value index = record { verb = verb; key = key; value = value; flags = 0; index = index; session = None }

abbrev two : ℕ → Command
two index = Txn (op verb.Set (codes "a") (codes "x") 0 ∷ op verb.CheckIndex (codes "a") [] index ∷ [])

abbrev row_a : r.TxnResult
row_a = record { row = record { key = codes "a"; value = codes "x"; flags = 0; session = None; lock_index = 0; create = 2; modify = 2 }; with_value = false }

transactions :
    (reply_to (Noop ∷ []) (two 9) ≡ RolledBack 1 verb.CheckIndex)
    × (answer (q.Key (codes "a")) (catalog_at (Noop ∷ two 9 ∷ [])) ≡ a.Absent)
    × (index_of (q.Key (codes "a")) (Noop ∷ two 9 ∷ []) ≡ 1)
    × (reply_to (Noop ∷ []) (two 2) ≡ Results (row_a ∷ row_a ∷ []))
unfolding put same_kv same_catalog write_kv kv_set run_ops act unless broken end_sessions apply at_past reads answer_from touches some_vanishes past_index
transactions = (refl, refl, refl, refl)

-- check-and-set
abbrev cas : ℕ → Command
cas index = KvCas (codes "b") 0 (codes "x") index

check_and_set :
    (reply_to (Noop ∷ []) (cas 0) ≡ Yes)
    × (reply_to (Noop ∷ cas 0 ∷ []) (cas 0) ≡ No)
    × (reply_to (Noop ∷ cas 0 ∷ cas 0 ∷ []) (cas 2) ≡ Yes)
    × (answer (q.Key (codes "b")) (catalog_at (Noop ∷ cas 0 ∷ cas 0 ∷ cas 2 ∷ [])) ≡ a.Rows (record { key = codes "b"; value = codes "x"; flags = 0; session = None; lock_index = 0; create = 2; modify = 4 } ∷ []))
unfolding put same_kv same_catalog write_kv kv_set kv_cas act unless broken end_sessions apply at_past reads answer_from
check_and_set = (refl, refl, refl, refl)

-- the instance of a service with its node, and none after it went; keys up to a separator
answers :
    (answer (q.HealthService (codes "web") [] false) (catalog_at (Noop ∷ web ∷ []))
    ≡ a.Instances (record {
      node = record { node = codes "n1"; address = codes "10.0.0.1"; create = 2; modify = 2 };
      service = record { node = codes "n1"; id = codes "web"; name = codes "web"; tags = []; address = []; port = 80; tag_override = false; create = 2; modify = 2 };
      checks = [];
    } ∷ []))
    × (answer (q.HealthService (codes "web") [] false) (catalog_at (Noop ∷ web ∷ Deregister (codes "n1") [] [] ∷ [])) ≡ a.Instances [])
    × (answer (q.Keys [] (codes "/")) (catalog_at (Noop ∷ KvSet (codes "a/x") 0 [] ∷ KvSet (codes "a/y/z") 0 [] ∷ KvSet (codes "b") 0 [] ∷ [])) ≡ a.Names (codes "a/" ∷ codes "b" ∷ []))
    × (answer (q.Keys (codes "a/") (codes "/")) (catalog_at (Noop ∷ KvSet (codes "a/x") 0 [] ∷ KvSet (codes "a/y/z") 0 [] ∷ KvSet (codes "b") 0 [] ∷ [])) ≡ a.Names (codes "a/x" ∷ codes "a/y/" ∷ []))
unfolding put same_node same_service same_check same_kv same_catalog register deregister write_kv kv_set act unless broken end_sessions apply at_past reads answer_from
answers = (refl, refl, refl, refl)

-- a write that changes nothing moves the key up to version 2, and leaves it from there on
abbrev set_twice : List Command
set_twice = Noop ∷ KvSet (codes "a") 0 (codes "x") ∷ KvSet (codes "a") 0 (codes "x") ∷ []

abbrev upgraded : List Command
upgraded = Noop ∷ KvSet (codes "a") 0 (codes "x") ∷ KvSet (codes "a") 0 (codes "x") ∷ Upgrade ∷ KvSet (codes "a") 0 (codes "x") ∷ []

abbrev row_at_3 : Answer
row_at_3 = a.Rows (record { key = codes "a"; value = codes "x"; flags = 0; session = None; lock_index = 0; create = 2; modify = 3 } ∷ [])

changes_nothing_from_2 :
    (answer (q.Key (codes "a")) (catalog_at set_twice) ≡ row_at_3)
    × (index_of (q.Key (codes "a")) set_twice ≡ 3)
    × (reply_to set_twice Upgrade ≡ Yes)
    × (answer (q.Key (codes "a")) (catalog_at upgraded) ≡ row_at_3)
    × (index_of (q.Key (codes "a")) upgraded ≡ 3)
unfolding put same_kv same_catalog write_kv kv_set act unless broken end_sessions apply at_past reads answer_from touches some_vanishes past_index
changes_nothing_from_2 = (refl, refl, refl, refl, refl)

-- Small runs with sessions and removed keys that compute: TTLs, lock delays and reaps by one server's clock.
use Rattle.std.specs.Prelude.{◌≡◌, ℕ, true, false, List, [], ◌∷◌, length, Some, None, codes}
use Rattle.cat_model.specs.Identifiers.{identifier}
use Rattle.cat_model.specs.Log.{commands_of}
use Rattle.cat_model.specs.declared.query.Query.TheVariants as query
use Rattle.cat_model.specs.declared.query.Answer.TheVariants as answer
use Rattle.cat_model.specs.declared.command.Command.{Command}
use Rattle.cat_model.specs.declared.command.Command.TheVariants.{Noop, Register, KvSet, KvDelete, KvLock, Txn, SessionCreate, SessionDestroy, Reap}
use Rattle.cat_model.specs.declared.command.Verb.TheVariants.{Lock}
use Rattle.cat_model.specs.declared.row.SessionRow.{SessionRow}
use Rattle.cat_model.specs.declared.row.Status.TheVariants.{Passing}
use Rattle.cat_model.specs.declared.row.Behavior.TheVariants.{Release}
use Rattle.cat_model.specs.declared.applied.Applied.TheVariants as applied
use Rattle.cat_model.specs.declared.request.Mode.TheVariants.{Default}
use Rattle.cat_model.specs.declared.request.Request.TheVariants.{Read, Write, Renew}
use Rattle.cat_model.specs.declared.request.Asked.{Asked}
use Rattle.cat_model.specs.declared.request.Asked.TheVariants.{Good}
use Rattle.cat_model.specs.declared.request.Draw.{Draw}
use Rattle.cat_model.specs.declared.request.Event.TheVariants as event
use Rattle.cat_model.specs.declared.reply.Kind.TheVariants.{Acked, At, Seen, Delayed}
use Rattle.cat_model.specs.Syncs.{serf_id}
use Rattle.raft_model.specs.Runs.{fresh}
use Rattle.cluster_rules.specs.Agents.{agent_node}
use Rattle.cluster_rules.specs.Replies.{Out, Replied, Shows, Tells, Renews, Defers}
use Rattle.cluster_rules.specs.Cluster.{Cluster, started}
use Rattle.cluster_rules.specs.Reached.{Move, Makes, Reached}

-- the words that are drawn for request n, and the identifier that they make
abbrev pub draw_of : ℕ → Draw
draw_of n = record { hi = 7; lo = n }

abbrev pub id_of : ℕ → ℕ
id_of n = identifier 7 n

-- the agent's node with its check, and a session on it
abbrev pub register : Command
register = Register (agent_node 1) (codes "127.0.0.1") None (record { id = serf_id; name = codes "Serf Health Status"; status = Passing; notes = []; output = []; service = [] } ∷ [])

abbrev pub session_with : ℕ → ℕ → Command
session_with id ttl = SessionCreate id [] (agent_node 1) (serf_id ∷ []) Release 15000 ttl

-- asked without an identifier and a node
abbrev pub session_asked : ℕ → Command
session_asked ttl = SessionCreate 0 [] [] (serf_id ∷ []) Release 15000 ttl

abbrev pub sessions : Asked
sessions = Good (Read query.Sessions Default 0 0 false)

-- replies
abbrev pub told : ℕ → ℕ → Command → Out
told number position command = Replied (record { number = number; index = None; content = Tells command applied.Yes; known = false; contact = 0; kind = Acked position })

abbrev pub made : ℕ → ℕ → Command → Out
made number position command = Replied (record { number = number; index = None; content = Tells command applied.Done; known = false; contact = 0; kind = Acked position })

-- A session with a TTL of ten seconds is renewed at 19,999 ms and ended at 39,999, not at 20,000.
abbrev pub row_of : SessionRow
row_of = record { id = id_of 2; name = []; node = agent_node 1; checks = serf_id ∷ []; behavior = Release; delay_ms = 15000; ttl_ms = 10000; create = 3; modify = 3 }

abbrev pub renewed : List Move
renewed =
    Makes (event.Ask 1 sessions (draw_of 5)) ∷ Makes (event.Tick 1 1) ∷ Makes (event.Tick 1 19998) ∷ Makes (event.Tick 1 1)
    ∷ Makes (event.Ask 1 (Good (Renew (id_of 2))) (draw_of 4)) ∷ Makes (event.Ask 1 sessions (draw_of 3)) ∷ Makes (event.Tick 1 19999)
    ∷ Makes (event.Ask 1 (Good (Write (session_asked 10000))) (draw_of 2)) ∷ Makes (event.Ask 1 (Good (Write register)) (draw_of 1)) ∷ Makes (event.Timeout 1) ∷ []

pub record TtlRun : Type 0 where
  pub cluster : Cluster
  pub reached : Reached (started (fresh 1) 1) true renewed cluster
  pub outs : cluster.tray ≡
      told 1 2 register ∷ made 2 3 (session_with (id_of 2) 10000)
      ∷ Replied (record { number = 3; index = Some 3; content = Shows query.Sessions false (answer.Sessions (row_of ∷ [])); known = true; contact = 0; kind = At Default 3 3 19999 319999 })
      ∷ Replied (record { number = 4; index = None; content = Renews (Some row_of); known = false; contact = 0; kind = Seen Default 3 })
      ∷ Replied (record { number = 5; index = Some 4; content = Shows query.Sessions false (answer.Sessions []); known = true; contact = 0; kind = At Default 4 4 39999 339999 })
      ∷ []
  pub agreed : commands_of cluster.world.agreed ≡ Noop ∷ register ∷ session_with (id_of 2) 10000 ∷ SessionDestroy (id_of 2) ∷ []

-- A key is locked by one session, whose end begins a lock delay of fifteen seconds: a transaction and a write that lock
-- it are refused until just then.
abbrev pub lock_by : ℕ → List ℕ → Command
lock_by id value = KvLock (codes "k") 0 value id

abbrev pub txn_by : ℕ → Command
txn_by id = Txn (record { verb = Lock; key = codes "k"; value = []; flags = 0; index = 0; session = Some id } ∷ [])

abbrev pub get_k : Asked
get_k = Good (Read (query.Key (codes "k")) Default 0 0 false)

abbrev pub destroy : ℕ → Command
destroy id = SessionDestroy id

abbrev pub write : Command → ℕ → Move
write command n = Makes (event.Ask 1 (Good (Write command)) (draw_of n))

abbrev pub locked : List Move
locked =
    Makes (event.Ask 1 get_k (draw_of 9)) ∷ write (lock_by (id_of 5) (codes "b")) 8 ∷ Makes (event.Tick 1 1) ∷ write (lock_by (id_of 5) (codes "b")) 7 ∷ Makes (event.Tick 1 14999)
    ∷ write (txn_by (id_of 5)) 6 ∷ write (session_asked 0) 5 ∷ write (destroy (id_of 2)) 4 ∷ write (lock_by (id_of 2) (codes "a")) 3 ∷ write (session_asked 0) 2 ∷ write register 1
    ∷ Makes (event.Timeout 1) ∷ []

abbrev pub deferred : ℕ → Command → ℕ → ℕ → Out
deferred number command until now = Replied (record { number = number; index = None; content = Defers command (codes "k"); known = false; contact = 0; kind = Delayed (codes "k") until now })

pub record LockRun : Type 0 where
  pub cluster : Cluster
  pub reached : Reached (started (fresh 1) 1) true locked cluster
  pub outs : cluster.tray ≡
      told 1 2 register ∷ made 2 3 (session_with (id_of 2) 0) ∷ told 3 4 (lock_by (id_of 2) (codes "a")) ∷ told 4 5 (destroy (id_of 2)) ∷ made 5 6 (session_with (id_of 5) 0)
      ∷ deferred 6 (txn_by (id_of 5)) 15000 0 ∷ deferred 7 (lock_by (id_of 5) (codes "b")) 15000 14999 ∷ told 8 7 (lock_by (id_of 5) (codes "b"))
      ∷ Replied (record {
        number = 9;
        index = Some 7;
        content = Shows (query.Key (codes "k")) false (answer.Rows (record { key = codes "k"; value = codes "b"; flags = 0; session = Some (id_of 5); lock_index = 2; create = 4; modify = 7 } ∷ []));
        known = true;
        contact = 0;
        kind = At Default 7 7 15000 315000;
      })
      ∷ []
  pub agreed : length cluster.world.agreed ≡ 7

-- A key is removed; the leading server's next look, fifteen minutes after it took office, proposes a reap. Another key
-- that is removed then waits for the look after that. A look after nothing was removed proposes none.
abbrev pub set_x : List ℕ → Command
set_x key = KvSet key 0 (codes "x")

abbrev pub reaped : List Move
reaped =
    Makes (event.Tick 1 900000) ∷ Makes (event.Tick 1 1) ∷ Makes (event.Tick 1 899999) ∷ write (KvDelete (codes "b")) 4 ∷ write (set_x (codes "b")) 3 ∷ Makes (event.Tick 1 900000) ∷ write (KvDelete (codes "a")) 2 ∷ write (set_x (codes "a")) 1
    ∷ Makes (event.Timeout 1) ∷ []

pub record ReapRun : Type 0 where
  pub cluster : Cluster
  pub reached : Reached (started (fresh 1) 1) true reaped cluster
  pub agreed : commands_of cluster.world.agreed ≡ Noop ∷ set_x (codes "a") ∷ KvDelete (codes "a") ∷ Reap ∷ set_x (codes "b") ∷ KvDelete (codes "b") ∷ Reap ∷ []
  pub before : Cluster
  pub reached_before : (moves : List Move) × Reached (started (fresh 1) 1) true (Makes (event.Tick 1 899999) ∷ moves) before
  pub not_yet : length before.world.agreed ≡ 6

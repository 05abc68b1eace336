-- The end of sessions: their rows go, their keys are freed, and the prepared queries bound to them go.
use Rattle.std.specs.Prelude.{◌≡◌, ℕ, Bool, false, not, List, map, is_some}
use Rattle.std.specs.Cmp.Lexicographic.{pointwise}
use Rattle.cat_model.specs.Tables.{without, same_found}
use Rattle.cat_model.specs.Same.{same_kv, same_session, same_query}
use Rattle.cat_model.specs.Catalog.{session_at, kv_at}
use Rattle.cat_model.specs.Machine.{ended_holder}
use Rattle.cat_model.specs.KvIndexes.{buried}
use Rattle.cat_model.specs.Views.{moved}
use Rattle.cat_model.specs.declared.row.SessionRow.{SessionRow}
use Rattle.cat_model.specs.declared.row.QueryRow.{QueryRow}
use Rattle.cat_model.specs.declared.query.Chan.{Chan}
use Rattle.cat_model.specs.declared.query.Chan.TheVariants.{Sessions, Queries, Key, Reaped}
use Rattle.cat_model.specs.declared.fired.Fired.{Fired}
use Rattle.catalog_store.specs.Firing.{FiresJust}
use Rattle.catalog_store.specs.Freeing.{freed_rows, freed_keys}
use Rattle.catalog_store.specs.Steps.{SameIndexes}
use Rattle.touch_positions.specs.States.{IndexState}
use Rattle.catalog_store.specs.States.{State}

-- the session is one of these, and the query is bound to one of these
abbrev pub is_gone : List SessionRow → SessionRow → Bool
is_gone gone s = is_some (session_at s.id gone)

abbrev pub is_orphan : List SessionRow → QueryRow → Bool
is_orphan gone q = is_some (ended_holder gone q.session)

-- whether the lists differ
abbrev pub sessions_differ : List SessionRow → List SessionRow → Bool
sessions_differ old new = not (pointwise same_session old new)

abbrev pub queries_differ : List QueryRow → List QueryRow → Bool
queries_differ old new = not (pointwise same_query old new)

-- what a step fires that leaves nodes, services and checks, where it is a reap or not
abbrev pub still_fires : Bool → State → State → Chan → Bool
still_fires reap old new Sessions = sessions_differ old.sessions new.sessions
still_fires reap old new Queries = queries_differ old.queries new.queries
still_fires reap old new (Key key) = not (same_found same_kv (kv_at key old.keys.rows) (kv_at key new.keys.rows))
still_fires reap old new Reaped = reap
still_fires reap old new other = false

-- the positions after it
abbrev pub still_index : ℕ → State → List SessionRow → List QueryRow → IndexState
still_index i old sessions queries = record old.index { sessions = moved i (sessions_differ old.sessions sessions) old.index.sessions; queries = moved i (queries_differ old.queries queries) old.index.queries }

-- the tables after these sessions ended
pub record Ends (i : ℕ) (gone : List SessionRow) (old new : State) (fired : Fired) : Type 0 where
  pub version : new.version ≡ old.version
  pub rows : new.rows ≡ old.rows
  pub sessions : new.sessions ≡ without (is_gone gone) old.sessions
  pub keys : new.keys.rows ≡ freed_rows i gone old.keys.rows
  pub queries : new.queries ≡ without (is_orphan gone) old.queries
  pub index : new.index ≡ still_index i old new.sessions new.queries
  pub indexes : SameIndexes new.keys.rows (buried i new.keys.rows old.keys.rows old.keys.tombs) old.keys.floor new.keys.tombs new.keys.floor
  pub fires : FiresJust (still_fires false old new) fired.chans
  pub frees : map (λ f. (f.key, f.delay_ms)) fired.freed ≡ freed_keys gone old.keys.rows

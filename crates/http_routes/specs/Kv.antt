-- The store of keys. Consul, HTTP API: "KV Store", "Transactions".
use Rattle.std.specs.Prelude.{ℕ, ◌&&◌, ◌||◌, not, nat_le, nat_lt, Bool, true, false, if◌then◌else◌, List, length, Option, None, Some, Result, Ok, codes}
use Rattle.cat_model.specs.declared.command.Command.{Command}
use Rattle.cat_model.specs.declared.command.Command.TheVariants.{KvSet, KvCas, KvLock, KvUnlock, KvDelete, KvDeleteCas, KvDeleteTree, Txn}
use Rattle.cat_model.specs.declared.query.Query.{Query}
use Rattle.cat_model.specs.declared.query.Query.TheVariants.{Key, Keys, Prefix}
use Rattle.cat_model.specs.declared.request.Request.{Request}
use Rattle.cat_model.specs.declared.request.Request.TheVariants.{Read, Write}
use Rattle.json_bodies.specs.Txns.{ops_of}
use Rattle.http_routes.specs.declared.error.Parameter.TheVariants as p
use Rattle.http_routes.specs.declared.error.RouteError.{RouteError}
use Rattle.http_routes.specs.declared.kv.Condition.{Condition}
use Rattle.http_routes.specs.declared.kv.Condition.TheVariants.{Always, IfModifiedAt, Acquires, Releases}
use Rattle.http_routes.specs.declared.params.Pair.{Pair}
use Rattle.http_routes.specs.Errors.{◌>>=◌, refuse_if, in_body}
use Rattle.http_routes.specs.Targets.{text_of}
use Rattle.http_routes.specs.Params.{is_there, is_on, text_at, number_at, id_at}
use Rattle.http_routes.specs.Checks.{most, short, plain_at, plain, reading}

abbrev pub recurses : List Pair → Bool
recurses pairs = is_on (codes "recurse") pairs

abbrev pub lists_keys : List Pair → Bool
lists_keys pairs = is_on (codes "keys") pairs

-- A key has 512 bytes at most, and one at least unless it may be empty.
abbrev pub is_key : Bool → List ℕ → Bool
is_key may_be_empty key = (may_be_empty || nat_lt 0 (length key)) && nat_le (length key) 512

unfoldable pub key_of : Bool → List ℕ → Result (List ℕ) RouteError
key_of may_be_empty part = do
  key ← text_of p.Key part
  fits ← refuse_if (not (is_key may_be_empty key)) p.Key
  Ok key

-- ---- GET: the keys with a prefix, or else their rows, or else a row, of which `raw` asks for the value alone

abbrev pub kv_query : List ℕ → List Pair → Query
kv_query key pairs =
    if lists_keys pairs then Keys key (text_at (codes "separator") pairs)
    else (if recurses pairs then Prefix key else Key key)

abbrev pub is_raw : List Pair → Bool
is_raw pairs = not (lists_keys pairs) && not (recurses pairs) && is_on (codes "raw") pairs

unfoldable pub kv_get : List ℕ → List Pair → List ℕ → Result Request RouteError
kv_get part pairs body = do
  key ← key_of (lists_keys pairs || recurses pairs) part
  r ← reading pairs body
  Ok (Read (kv_query key pairs) r.mode r.min r.wait_ms (is_raw pairs))

-- ---- PUT, on one condition at most

abbrev pub several : Bool → Bool → Bool → Bool
several a b c = (a && b) || (a && c) || (b && c)

abbrev pub has_several : List Pair → Bool
has_several pairs = several (is_there (codes "cas") pairs) (is_there (codes "acquire") pairs) (is_there (codes "release") pairs)

unfoldable pub given_condition : List Pair → Result Condition RouteError
given_condition pairs =
    if is_there (codes "cas") pairs then (number_at p.Cas pairs >>= λ index. Ok (IfModifiedAt index))
    else (if is_there (codes "acquire") pairs then (id_at p.Acquire pairs >>= λ session. Ok (Acquires session))
    else (if is_there (codes "release") pairs then (id_at p.Release pairs >>= λ session. Ok (Releases session))
    else Ok Always))

unfoldable pub condition_at : List Pair → Result Condition RouteError
condition_at pairs = refuse_if (has_several pairs) p.Conditions >>= λ one. given_condition pairs

abbrev pub put_on : Condition → List ℕ → ℕ → List ℕ → Command
put_on Always key flags value = KvSet key flags value
put_on (IfModifiedAt index) key flags value = KvCas key flags value index
put_on (Acquires session) key flags value = KvLock key flags value session
put_on (Releases session) key flags value = KvUnlock key flags value session

-- no value is longer than this
abbrev pub most_value : ℕ
most_value = 524288

unfoldable pub kv_put : List ℕ → List Pair → List ℕ → Result Request RouteError
kv_put part pairs body = do
  key ← key_of false part
  done ← plain_at pairs
  condition ← condition_at pairs
  flags ← number_at p.Flags pairs
  fits ← short most_value body
  Ok (Write (put_on condition key flags body))

-- ---- DELETE: the keys with a prefix, or a key, maybe on a condition

unfoldable pub index_at : List Pair → Result (Option ℕ) RouteError
index_at pairs = if is_there (codes "cas") pairs then (number_at p.Cas pairs >>= λ index. Ok (Some index)) else Ok None

abbrev pub deletion : Bool → Option ℕ → List ℕ → Command
deletion true index key = KvDeleteTree key
deletion false None key = KvDelete key
deletion false (Some index) key = KvDeleteCas key index

unfoldable pub kv_delete : List ℕ → List Pair → List ℕ → Result Request RouteError
kv_delete part pairs body = do
  key ← key_of (recurses pairs) part
  done ← plain_at pairs
  one ← refuse_if (is_there (codes "cas") pairs && recurses pairs) p.CasOfTree
  index ← index_at pairs
  fits ← short most body
  Ok (Write (deletion (recurses pairs) index key))

-- ---- a transaction

unfoldable pub transaction : List Pair → List ℕ → Result Request RouteError
transaction pairs body = do
  done ← plain pairs body
  ops ← in_body (ops_of body)
  Ok (Write (Txn ops))

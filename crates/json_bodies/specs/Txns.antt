-- The body of a transaction. Consul, HTTP API, "Transactions": the operations on the KV store.
use Rattle.std.specs.Prelude.{ℕ, ◌+◌, ◌&&◌, not, nat_le, nat_lt, Bool, true, false, if◌then◌else◌, List, [], length, Option, None, Some, is_some, option_and_then, Result, Ok, Err, codes, bytes_eq}
use Rattle.base64.specs.Engines.{standard}
use Rattle.base64.specs.GeneralPurpose.{decode_of}
use Rattle.base64.specs.declared.decode.DecodeError.{DecodeError}
use Rattle.serde_json.specs.Data.{Data, Items, no_items, item, Members}
use Rattle.serde_json.specs.Find.{as_str, as_array, as_object}
use Rattle.cat_model.specs.declared.command.Verb.{Verb}
use Rattle.cat_model.specs.declared.command.Verb.TheVariants as v
use Rattle.cat_model.specs.declared.command.TxnOp.{TxnOp}
use Rattle.json_bodies.specs.declared.field.Field.TheVariants as f
use Rattle.json_bodies.specs.declared.error.ReadError.{ReadError}
use Rattle.json_bodies.specs.declared.error.ReadError.TheVariants.{TooLarge}
use Rattle.json_bodies.specs.Errors.{◌>>=◌, refuse, refuse_if, or_refuse}
use Rattle.json_bodies.specs.Members.{json_of, data_at, text_at, number_at, each}
use Rattle.json_bodies.specs.Ids.{session_id_at}

abbrev pub verb_named : List ℕ → Option Verb
verb_named word =
    if bytes_eq word (codes "set") then Some v.Set
    else (if bytes_eq word (codes "cas") then Some v.Cas
    else (if bytes_eq word (codes "lock") then Some v.Lock
    else (if bytes_eq word (codes "unlock") then Some v.Unlock
    else (if bytes_eq word (codes "get") then Some v.Get
    else (if bytes_eq word (codes "get-or-empty") then Some v.GetOrEmpty
    else (if bytes_eq word (codes "get-tree") then Some v.GetTree
    else (if bytes_eq word (codes "check-index") then Some v.CheckIndex
    else (if bytes_eq word (codes "check-session") then Some v.CheckSession
    else (if bytes_eq word (codes "check-not-exists") then Some v.CheckNotExists
    else (if bytes_eq word (codes "delete") then Some v.Delete
    else (if bytes_eq word (codes "delete-tree") then Some v.DeleteTree
    else (if bytes_eq word (codes "delete-cas") then Some v.DeleteCas else None))))))))))))

abbrev pub as_verb : Option Data → Option Verb
as_verb d = option_and_then (λ x. option_and_then verb_named (as_str x)) d

unfoldable pub verb_at : Data → Result Verb ReadError
verb_at d = or_refuse f.Verb (as_verb (data_at f.Verb d))

-- a key has a byte, but the prefix of a tree may be empty
abbrev pub least_key : Verb → ℕ
least_key v.GetTree = 0
least_key v.DeleteTree = 0
least_key _ = 1

abbrev pub is_key_of : Verb → List ℕ → Bool
is_key_of verb key = nat_le (least_key verb) (length key) && nat_le (length key) 512

unfoldable pub key_at : Verb → Data → Result (List ℕ) ReadError
key_at verb d = do
  key ← text_at f.Key d
  fits ← refuse_if (not (is_key_of verb key)) f.KeyLength
  Ok key

-- ---- a value in base64 (RFC 4648, section 4), of 524,288 bytes at most

abbrev pub short : List ℕ → Result (List ℕ) ReadError
short value = if nat_le (length value) 524288 then Ok value else Err TooLarge

abbrev pub decoded : Result (List ℕ) DecodeError → Result (List ℕ) ReadError
decoded (Ok value) = Ok value
decoded (Err why) = refuse f.Value

abbrev pub decoded_at : List ℕ → Result (List ℕ) ReadError
decoded_at text = decoded (decode_of standard text)

abbrev pub decoded_short : List ℕ → Result (List ℕ) ReadError
decoded_short text = decoded_at text >>= short

abbrev pub value_if : Option (List ℕ) → Result (List ℕ) ReadError
value_if None = refuse f.Value
value_if (Some text) = decoded_short text

-- an empty one where it is absent
abbrev pub value_in : Option Data → Result (List ℕ) ReadError
value_in None = Ok []
value_in (Some d) = value_if (as_str d)

unfoldable pub value_at : Data → Result (List ℕ) ReadError
value_at d = value_in (data_at f.Value d)

-- ---- operations

abbrev pub needs_session : Verb → Bool
needs_session v.Lock = true
needs_session v.Unlock = true
needs_session v.CheckSession = true
needs_session _ = false

unfoldable pub holder_at : Verb → Data → Result (Option ℕ) ReadError
holder_at verb d = do
  session ← session_id_at d
  given ← refuse_if (needs_session verb && not (is_some session)) f.Session
  Ok session

unfoldable pub op_at : Data → Result TxnOp ReadError
op_at d = do
  verb ← verb_at d
  key ← key_at verb d
  value ← value_at d
  flags ← number_at f.Flags d
  index ← number_at f.Index d
  session ← holder_at verb d
  Ok (record { verb = verb; key = key; value = value; flags = flags; index = index; session = session })

abbrev pub op_if : Data → Option Members → Result TxnOp ReadError
op_if d None = refuse f.Kv
op_if d (Some ms) = op_at d

abbrev pub op_of : Option Data → Result TxnOp ReadError
op_of None = refuse f.Kv
op_of (Some d) = op_if d (as_object d)

-- what is no object has no member KV
abbrev pub an_op : Data → Result TxnOp ReadError
an_op d = op_of (data_at f.Kv d)

abbrev pub count : Items → ℕ
count no_items = 0
count (item d ds) = count ds + 1

abbrev pub ops_in : Items → Result (List TxnOp) ReadError
ops_in ds = refuse_if (nat_lt 64 (count ds)) f.Txn >>= λ few. each an_op ds

abbrev pub ops_if : Option Items → Result (List TxnOp) ReadError
ops_if None = refuse f.Body
ops_if (Some ds) = ops_in ds

unfoldable pub ops_at : Data → Result (List TxnOp) ReadError
ops_at d = ops_if (as_array d)

unfoldable pub ops_of : List ℕ → Result (List TxnOp) ReadError
ops_of body = json_of body >>= ops_at

-- The bytes of a command, as logs and durable stores keep them: a version byte, a tag byte and the fields.
-- Numbers are unsigned LEB128 (DWARF 5, section 7.6) in the shortest form, texts are UTF-8.
use Rattle.std.specs.Prelude.{ℕ, zero, suc, ◌+◌, ◌/◌, ◌%◌, ◌^◌, nat_lt, Bool, true, false, if◌then◌else◌, List, [], ◌∷◌, ◌++◌, Option, None, Some, length}
use Rattle.std.specs.List.{flat_map, concat}
use Rattle.std.specs.Int.{to_be_bytes, w64}
use Rattle.cat_model.specs.declared.row.Status.{Status}
use Rattle.cat_model.specs.declared.row.Status.TheVariants.{Passing, Warning, Critical}
use Rattle.cat_model.specs.declared.row.Behavior.{Behavior}
use Rattle.cat_model.specs.declared.row.Behavior.TheVariants as behaviors
use Rattle.cat_model.specs.declared.command.Verb.{Verb}
use Rattle.cat_model.specs.declared.command.Verb.TheVariants as verbs
use Rattle.cat_model.specs.declared.command.NewService.{NewService}
use Rattle.cat_model.specs.declared.command.NewCheck.{NewCheck}
use Rattle.cat_model.specs.declared.command.TxnOp.{TxnOp}
use Rattle.cat_model.specs.declared.command.Command.{Command}
use Rattle.cat_model.specs.declared.command.Command.TheVariants.{Noop, Register, Deregister, KvSet, KvCas, KvLock, KvUnlock, KvDelete, KvDeleteCas, KvDeleteTree, Txn, SessionCreate, SessionDestroy, QuerySet, QueryDelete, Reap, Upgrade}

-- seven bits a byte, the lowest first, each byte but the last with its top bit set, in at most so many more bytes
unfoldable pub number_within : ℕ → ℕ → List ℕ
number_within zero n = n ∷ []
number_within (suc more) n = if nat_lt n 128 then n ∷ [] else (128 + n % 128) ∷ number_within more (n / 128)

-- a number below 2 ^ 64, which has at most ten bytes
abbrev pub number_bytes : ℕ → List ℕ
number_bytes n = number_within 9 n

-- a text or bytes: the length, and then they
abbrev pub text_bytes : List ℕ → List ℕ
text_bytes text = number_bytes (length text) ++ text

-- a list: the count, and then the items
abbrev pub list_bytes : {A : Type 0} → (A → List ℕ) → List A → List ℕ
list_bytes item items = number_bytes (length items) ++ flat_map item items

abbrev pub option_bytes : {A : Type 0} → (A → List ℕ) → Option A → List ℕ
option_bytes item None = 0 ∷ []
option_bytes item (Some x) = 1 ∷ item x

abbrev pub flag_bytes : Bool → List ℕ
flag_bytes false = 0 ∷ []
flag_bytes true = 1 ∷ []

-- an identifier: sixteen bytes, the most significant first
unfoldable pub id_bytes : ℕ → List ℕ
id_bytes id = to_be_bytes w64 (id / 2 ^ 64) ++ to_be_bytes w64 (id % 2 ^ 64)

abbrev pub status_bytes : Status → List ℕ
status_bytes Passing = 0 ∷ []
status_bytes Warning = 1 ∷ []
status_bytes Critical = 2 ∷ []

abbrev pub behavior_bytes : Behavior → List ℕ
behavior_bytes behaviors.Release = 0 ∷ []
behavior_bytes behaviors.Delete = 1 ∷ []

abbrev pub verb_bytes : Verb → List ℕ
verb_bytes verbs.Set = 0 ∷ []
verb_bytes verbs.Cas = 1 ∷ []
verb_bytes verbs.Lock = 2 ∷ []
verb_bytes verbs.Unlock = 3 ∷ []
verb_bytes verbs.Get = 4 ∷ []
verb_bytes verbs.GetOrEmpty = 5 ∷ []
verb_bytes verbs.GetTree = 6 ∷ []
verb_bytes verbs.CheckIndex = 7 ∷ []
verb_bytes verbs.CheckSession = 8 ∷ []
verb_bytes verbs.CheckNotExists = 9 ∷ []
verb_bytes verbs.Delete = 10 ∷ []
verb_bytes verbs.DeleteTree = 11 ∷ []
verb_bytes verbs.DeleteCas = 12 ∷ []

-- the service of a Register, field after field
unfoldable pub service_bytes : NewService → List ℕ
service_bytes s =
    concat (text_bytes s.id ∷ text_bytes s.name ∷ list_bytes text_bytes s.tags ∷ text_bytes s.address ∷ number_bytes s.port
    ∷ flag_bytes s.tag_override ∷ [])

unfoldable pub check_bytes : NewCheck → List ℕ
check_bytes c =
    concat (text_bytes c.id ∷ text_bytes c.name ∷ status_bytes c.status ∷ text_bytes c.notes ∷ text_bytes c.output
    ∷ text_bytes c.service ∷ [])

unfoldable pub op_bytes : TxnOp → List ℕ
op_bytes op =
    concat (verb_bytes op.verb ∷ text_bytes op.key ∷ text_bytes op.value ∷ number_bytes op.flags ∷ number_bytes op.index
    ∷ option_bytes id_bytes op.session ∷ [])

-- the byte that tells the seventeen commands apart
abbrev pub tag_of : Command → ℕ
tag_of Noop = 0
tag_of (Register node address service checks) = 1
tag_of (Deregister node service check) = 2
tag_of (KvSet key flags value) = 3
tag_of (KvCas key flags value index) = 4
tag_of (KvLock key flags value session) = 5
tag_of (KvUnlock key flags value session) = 6
tag_of (KvDelete key) = 7
tag_of (KvDeleteCas key index) = 8
tag_of (KvDeleteTree prefix) = 9
tag_of (Txn ops) = 10
tag_of (SessionCreate id name node checks behavior delay_ms ttl_ms) = 11
tag_of (SessionDestroy id) = 12
tag_of (QuerySet id create name session service only_passing tags dns_ttl_ms) = 13
tag_of (QueryDelete id) = 14
tag_of Reap = 15
tag_of Upgrade = 16

-- the fields of each, in their order
abbrev pub fields_of : Command → List (List ℕ)
fields_of Noop = []
fields_of (Register node address service checks) =
    text_bytes node ∷ text_bytes address ∷ option_bytes service_bytes service ∷ list_bytes check_bytes checks ∷ []
fields_of (Deregister node service check) = text_bytes node ∷ text_bytes service ∷ text_bytes check ∷ []
fields_of (KvSet key flags value) = text_bytes key ∷ number_bytes flags ∷ text_bytes value ∷ []
fields_of (KvCas key flags value index) =
    text_bytes key ∷ number_bytes flags ∷ text_bytes value ∷ number_bytes index ∷ []
fields_of (KvLock key flags value session) =
    text_bytes key ∷ number_bytes flags ∷ text_bytes value ∷ id_bytes session ∷ []
fields_of (KvUnlock key flags value session) =
    text_bytes key ∷ number_bytes flags ∷ text_bytes value ∷ id_bytes session ∷ []
fields_of (KvDelete key) = text_bytes key ∷ []
fields_of (KvDeleteCas key index) = text_bytes key ∷ number_bytes index ∷ []
fields_of (KvDeleteTree prefix) = text_bytes prefix ∷ []
fields_of (Txn ops) = list_bytes op_bytes ops ∷ []
fields_of (SessionCreate id name node checks behavior delay_ms ttl_ms) =
    id_bytes id ∷ text_bytes name ∷ text_bytes node ∷ list_bytes text_bytes checks ∷ behavior_bytes behavior
    ∷ number_bytes delay_ms ∷ number_bytes ttl_ms ∷ []
fields_of (SessionDestroy id) = id_bytes id ∷ []
fields_of (QuerySet id create name session service only_passing tags dns_ttl_ms) =
    id_bytes id ∷ flag_bytes create ∷ text_bytes name ∷ option_bytes id_bytes session ∷ text_bytes service
    ∷ flag_bytes only_passing ∷ list_bytes text_bytes tags ∷ number_bytes dns_ttl_ms ∷ []
fields_of (QueryDelete id) = id_bytes id ∷ []
fields_of Reap = []
fields_of Upgrade = []

-- the version of the format in which the command came in
abbrev pub version_of : Command → ℕ
version_of Upgrade = 2
version_of other = 1

-- the spelling of a command: the version, the tag and the fields
abbrev pub spelling : Command → List ℕ
spelling command = version_of command ∷ tag_of command ∷ concat (fields_of command)

-- Which commands have a spelling: the limits of their fields, and what the spelled bytes are.
use Rattle.std.specs.Prelude.{◌≡◌, ℕ, ◌^◌, ◌<◌, ◌≤◌, List, length, IfSome, IsUtf8}
use Rattle.std.specs.List.{All}
use Rattle.cat_model.specs.declared.command.Verb.{Verb}
use Rattle.cat_model.specs.declared.command.Verb.TheVariants as verbs
use Rattle.cat_model.specs.declared.command.NewService.{NewService}
use Rattle.cat_model.specs.declared.command.NewCheck.{NewCheck}
use Rattle.cat_model.specs.declared.command.TxnOp.{TxnOp}
use Rattle.cat_model.specs.declared.command.Command.{Command}
use Rattle.cat_model.specs.declared.command.Command.TheVariants.{Noop, Register, Deregister, KvSet, KvCas, KvLock, KvUnlock, KvDelete, KvDeleteCas, KvDeleteTree, Txn, SessionCreate, SessionDestroy, QuerySet, QueryDelete, Reap, Upgrade}
use Rattle.cat_model.specs.Spelling.{spelling}

-- a number of 64 bits, and an identifier of 128
abbrev pub IsNumber : ℕ → Type 0
IsNumber n = n < 2 ^ 64

abbrev pub IsId : ℕ → Type 0
IsId id = id < 2 ^ 128

-- a text in UTF-8, of at least and at most so many bytes
pub record IsTextOf (least most : ℕ) (text : List ℕ) : Type 0 where
  pub utf8 : IsUtf8 text
  pub from : least ≤ length text
  pub to : length text ≤ most

abbrev pub IsKey : List ℕ → Type 0
IsKey key = IsTextOf 1 512 key

abbrev pub IsPrefixKey : List ℕ → Type 0
IsPrefixKey prefix = IsTextOf 0 512 prefix

abbrev pub IsText : List ℕ → Type 0
IsText text = IsTextOf 0 1048576 text

-- any bytes, of which there are at most so many
pub record IsValue (bytes : List ℕ) : Type 0 where
  pub each : All (λ b. b < 256) bytes
  pub to : length bytes ≤ 524288

-- a list of at most so many items, each in bounds
pub record IsListOf {A : Type 0} (most : ℕ) (Item : A → Type 0) (items : List A) : Type 0 where
  pub each : All Item items
  pub to : length items ≤ most

abbrev pub IsList : {A : Type 0} → (A → Type 0) → List A → Type 0
IsList Item items = IsListOf 1048576 Item items

-- the verbs on trees have a prefix, the others a key
abbrev pub IsKeyOf : Verb → List ℕ → Type 0
IsKeyOf verbs.GetTree key = IsPrefixKey key
IsKeyOf verbs.DeleteTree key = IsPrefixKey key
IsKeyOf _ key = IsKey key

pub record IsService (s : NewService) : Type 0 where
  pub id : IsText s.id
  pub name : IsText s.name
  pub tags : IsList IsText s.tags
  pub address : IsText s.address
  pub port : s.port ≤ 65535

pub record IsCheck (c : NewCheck) : Type 0 where
  pub id : IsText c.id
  pub name : IsText c.name
  pub notes : IsText c.notes
  pub output : IsText c.output
  pub service : IsText c.service

pub record IsOp (op : TxnOp) : Type 0 where
  pub key : IsKeyOf op.verb op.key
  pub value : IsValue op.value
  pub flags : IsNumber op.flags
  pub index : IsNumber op.index
  pub session : IfSome op.session IsId

-- the command has a spelling
abbrev pub InBounds : Command → Type 0
InBounds Noop = Unit {0}
InBounds (Register node address service checks) =
    IsText node × IsText address × IfSome service IsService × IsList IsCheck checks
InBounds (Deregister node service check) = IsText node × IsText service × IsText check
InBounds (KvSet key flags value) = IsKey key × IsNumber flags × IsValue value
InBounds (KvCas key flags value index) = IsKey key × IsNumber flags × IsValue value × IsNumber index
InBounds (KvLock key flags value session) = IsKey key × IsNumber flags × IsValue value × IsId session
InBounds (KvUnlock key flags value session) = IsKey key × IsNumber flags × IsValue value × IsId session
InBounds (KvDelete key) = IsKey key
InBounds (KvDeleteCas key index) = IsKey key × IsNumber index
InBounds (KvDeleteTree prefix) = IsPrefixKey prefix
InBounds (Txn ops) = IsListOf 64 IsOp ops
InBounds (SessionCreate id name node checks behavior delay_ms ttl_ms) =
    IsId id × IsText name × IsText node × IsList IsText checks × (delay_ms ≤ 60000) × (ttl_ms ≤ 86400000)
InBounds (SessionDestroy id) = IsId id
InBounds (QuerySet id create name session service only_passing tags dns_ttl_ms) =
    IsId id × IsText name × IfSome session IsId × IsText service × IsList IsText tags × (dns_ttl_ms ≤ 2 ^ 53)
InBounds (QueryDelete id) = IsId id
InBounds Reap = Unit {0}
InBounds Upgrade = Unit {0}

-- the bytes spell the command
abbrev pub Spells : Command → List ℕ → Type 0
Spells command bytes = InBounds command × (bytes ≡ spelling command)

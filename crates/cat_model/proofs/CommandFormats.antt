-- The spelling of each command as its fields one after another, and that it says the command and where it ends.
use Rattle.std.proofs.Common.{◌≡◌, ℕ, zero, suc, ◌≤◌, ◌^◌, List, [], ◌++◌, refl, sym, ap, subst, ◌∙◌}
use Rattle.std.specs.Prelude.{IfSome, Option}
use Rattle.std.specs.List.{concat}
use Rattle.cat_model.specs.declared.command.NewService.{NewService}
use Rattle.cat_model.specs.declared.command.NewCheck.{NewCheck}
use Rattle.cat_model.specs.declared.command.TxnOp.{TxnOp}
use Rattle.cat_model.specs.declared.command.Command.{Command}
use Rattle.cat_model.specs.declared.command.Command.TheVariants.{Noop, Register, Deregister, KvSet, KvCas, KvLock, KvUnlock, KvDelete, KvDeleteCas, KvDeleteTree, Txn, SessionCreate, SessionDestroy, QuerySet, QueryDelete, Reap, Upgrade}
use Rattle.cat_model.specs.Spelling.{number_bytes, text_bytes, list_bytes, option_bytes, flag_bytes, id_bytes, status_bytes, behavior_bytes, verb_bytes, service_bytes, check_bytes, op_bytes, tag_of, fields_of, spelling}
use Rattle.cat_model.specs.Bounds.{IsNumber, IsId, IsKey, IsPrefixKey, IsText, IsValue, IsList, IsListOf, IsKeyOf, IsService, IsCheck, IsOp, InBounds, Spells}
use Rattle.cat_model.proofs.Formats.{Field, Then, Done, Unique, done_unique, then_unique, field_from_unique}
use Rattle.cat_model.proofs.SpellingFields.{number_field, text_field, list_field, option_field, flag_field, status_field, behavior_field, verb_field, id_field}

-- any value will do
abbrev pub Any : {A : Type 0} → A → Type 0
Any x = Unit {0}

abbrev pub UpTo : ℕ → ℕ → Type 0
UpTo most n = n ≤ most

abbrev pub IsNoOr : {A : Type 0} → (A → Type 0) → Option A → Type 0
IsNoOr V o = IfSome o V

abbrev pub ServiceFormat : NewService → List ℕ → Type 0
ServiceFormat =
    Then text_bytes IsText (λ id. Then text_bytes IsText (λ name. Then (list_bytes text_bytes) (IsList IsText) (λ tags.
    Then text_bytes IsText (λ address. Then number_bytes (UpTo 65535) (λ port. Then flag_bytes Any (λ tag_override.
    Done (record { id = id; name = name; tags = tags; address = address; port = port; tag_override = tag_override })))))))

abbrev pub CheckFormat : NewCheck → List ℕ → Type 0
CheckFormat =
    Then text_bytes IsText (λ id. Then text_bytes IsText (λ name. Then status_bytes Any (λ status.
    Then text_bytes IsText (λ notes. Then text_bytes IsText (λ output. Then text_bytes IsText (λ service.
    Done (record { id = id; name = name; status = status; notes = notes; output = output; service = service })))))))

abbrev pub OpFormat : TxnOp → List ℕ → Type 0
OpFormat =
    Then verb_bytes Any (λ verb. Then text_bytes (IsKeyOf verb) (λ key. Then text_bytes IsValue (λ value.
    Then number_bytes IsNumber (λ flags. Then number_bytes IsNumber (λ index. Then (option_bytes id_bytes) (IsNoOr IsId) (λ session.
    Done (record { verb = verb; key = key; value = value; flags = flags; index = index; session = session })))))))

-- one more field
next : {A C : Type 0} {f : A → List ℕ} {V : A → Type 0} {G : A → C → List ℕ → Type 0} → Field f V → ((x : A) → V x → Unique (G x)) → Unique (Then f V G)
next {A} {C} {f} {V} {G} field more = then_unique f V G field more

service_unique : Unique ServiceFormat
service_unique =
    next (text_field IsText) (λ id _. next (text_field IsText) (λ name _. next (list_field text_bytes IsText 1048576 (text_field IsText)) (λ tags _.
    next (text_field IsText) (λ address _. next (number_field (UpTo 65535)) (λ port _. next (flag_field Any) (λ tag_override _. done_unique _))))))

also : {A C : Type 0} {f : A → List ℕ} {V : A → Type 0} {G : A → C → List ℕ → Type 0} {c : C} (rest : List ℕ) (x : A) → V x → G x c rest → Then f V G c (f x ++ rest)
also rest x v more = record { head = x; valid = v; rest = rest; next = more; is = refl }

end : {C : Type 0} (x : C) → Done x x []
end x = record { same = refl; none = refl }

pub service_spelled : (s : NewService) → IsService s → ServiceFormat s (service_bytes s)
unfolding service_bytes
service_spelled s v = also _ s.id v.id (also _ s.name v.name (also _ s.tags v.tags (also _ s.address v.address (also _ s.port v.port (also _ s.tag_override tt (end s))))))

pub service_field : Field service_bytes IsService
service_field = field_from_unique service_bytes IsService ServiceFormat service_spelled service_unique

check_unique : Unique CheckFormat
check_unique =
    next (text_field IsText) (λ id _. next (text_field IsText) (λ name _. next (status_field Any) (λ status _.
    next (text_field IsText) (λ notes _. next (text_field IsText) (λ output _. next (text_field IsText) (λ service _. done_unique _))))))

pub check_spelled : (s : NewCheck) → IsCheck s → CheckFormat s (check_bytes s)
unfolding check_bytes
check_spelled s v = also _ s.id v.id (also _ s.name v.name (also _ s.status tt (also _ s.notes v.notes (also _ s.output v.output (also _ s.service v.service (end s))))))

pub check_field : Field check_bytes IsCheck
check_field = field_from_unique check_bytes IsCheck CheckFormat check_spelled check_unique

op_unique : Unique OpFormat
op_unique =
    next (verb_field Any) (λ verb _. next (text_field (IsKeyOf verb)) (λ key _. next (text_field IsValue) (λ value _.
    next (number_field IsNumber) (λ flags _. next (number_field IsNumber) (λ index _. next (option_field id_bytes IsId id_field) (λ session _. done_unique _))))))

pub op_spelled : (s : TxnOp) → IsOp s → OpFormat s (op_bytes s)
unfolding op_bytes
op_spelled s v = also _ s.verb tt (also _ s.key v.key (also _ s.value v.value (also _ s.flags v.flags (also _ s.index v.index (also _ s.session v.session (end s))))))

pub op_field : Field op_bytes IsOp
op_field = field_from_unique op_bytes IsOp OpFormat op_spelled op_unique

-- the fields of the seventeen commands, by the tag
abbrev pub RegisterFormat : Command → List ℕ → Type 0
RegisterFormat =
    Then text_bytes IsText (λ node. Then text_bytes IsText (λ address. Then (option_bytes service_bytes) (IsNoOr IsService) (λ service.
    Then (list_bytes check_bytes) (IsList IsCheck) (λ checks. Done (Register node address service checks)))))

abbrev pub DeregisterFormat : Command → List ℕ → Type 0
DeregisterFormat =
    Then text_bytes IsText (λ node. Then text_bytes IsText (λ service. Then text_bytes IsText (λ check. Done (Deregister node service check))))

abbrev pub KvSetFormat : Command → List ℕ → Type 0
KvSetFormat =
    Then text_bytes IsKey (λ key. Then number_bytes IsNumber (λ flags. Then text_bytes IsValue (λ value. Done (KvSet key flags value))))

abbrev pub KvCasFormat : Command → List ℕ → Type 0
KvCasFormat =
    Then text_bytes IsKey (λ key. Then number_bytes IsNumber (λ flags. Then text_bytes IsValue (λ value. Then number_bytes IsNumber (λ index. Done (KvCas key flags value index)))))

abbrev pub KvLockFormat : Command → List ℕ → Type 0
KvLockFormat =
    Then text_bytes IsKey (λ key. Then number_bytes IsNumber (λ flags. Then text_bytes IsValue (λ value. Then id_bytes IsId (λ session. Done (KvLock key flags value session)))))

abbrev pub KvUnlockFormat : Command → List ℕ → Type 0
KvUnlockFormat =
    Then text_bytes IsKey (λ key. Then number_bytes IsNumber (λ flags. Then text_bytes IsValue (λ value. Then id_bytes IsId (λ session. Done (KvUnlock key flags value session)))))

abbrev pub KvDeleteFormat : Command → List ℕ → Type 0
KvDeleteFormat = Then text_bytes IsKey (λ key. Done (KvDelete key))

abbrev pub KvDeleteCasFormat : Command → List ℕ → Type 0
KvDeleteCasFormat = Then text_bytes IsKey (λ key. Then number_bytes IsNumber (λ index. Done (KvDeleteCas key index)))

abbrev pub KvDeleteTreeFormat : Command → List ℕ → Type 0
KvDeleteTreeFormat = Then text_bytes IsPrefixKey (λ prefix. Done (KvDeleteTree prefix))

abbrev pub TxnFormat : Command → List ℕ → Type 0
TxnFormat = Then (list_bytes op_bytes) (IsListOf 64 IsOp) (λ ops. Done (Txn ops))

abbrev pub SessionCreateFormat : Command → List ℕ → Type 0
SessionCreateFormat =
    Then id_bytes IsId (λ id. Then text_bytes IsText (λ name. Then text_bytes IsText (λ node. Then (list_bytes text_bytes) (IsList IsText) (λ checks.
    Then behavior_bytes Any (λ behavior. Then number_bytes (UpTo 60000) (λ delay_ms. Then number_bytes (UpTo 86400000) (λ ttl_ms.
    Done (SessionCreate id name node checks behavior delay_ms ttl_ms))))))))

abbrev pub SessionDestroyFormat : Command → List ℕ → Type 0
SessionDestroyFormat = Then id_bytes IsId (λ id. Done (SessionDestroy id))

abbrev pub QuerySetFormat : Command → List ℕ → Type 0
QuerySetFormat =
    Then id_bytes IsId (λ id. Then flag_bytes Any (λ create. Then text_bytes IsText (λ name. Then (option_bytes id_bytes) (IsNoOr IsId) (λ session.
    Then text_bytes IsText (λ service. Then flag_bytes Any (λ only_passing. Then (list_bytes text_bytes) (IsList IsText) (λ tags. Then number_bytes (UpTo (2 ^ 53)) (λ dns_ttl_ms.
    Done (QuerySet id create name session service only_passing tags dns_ttl_ms)))))))))

abbrev pub QueryDeleteFormat : Command → List ℕ → Type 0
QueryDeleteFormat = Then id_bytes IsId (λ id. Done (QueryDelete id))

pub record NoFormat (c : Command) (bytes : List ℕ) : Type 0 where
  pub none : ⊥

-- the formats in the order of their tags
abbrev pub format_from_8 : ℕ → Command → List ℕ → Type 0
format_from_8 zero = KvDeleteCasFormat
format_from_8 (suc zero) = KvDeleteTreeFormat
format_from_8 (suc (suc zero)) = TxnFormat
format_from_8 (suc (suc (suc zero))) = SessionCreateFormat
format_from_8 (suc (suc (suc (suc zero)))) = SessionDestroyFormat
format_from_8 (suc (suc (suc (suc (suc zero))))) = QuerySetFormat
format_from_8 (suc (suc (suc (suc (suc (suc zero)))))) = QueryDeleteFormat
format_from_8 (suc (suc (suc (suc (suc (suc (suc zero))))))) = Done Reap
format_from_8 (suc (suc (suc (suc (suc (suc (suc (suc zero)))))))) = Done Upgrade
format_from_8 (suc (suc (suc (suc (suc (suc (suc (suc (suc n))))))))) = NoFormat

abbrev pub format_after : ℕ → Command → List ℕ → Type 0
format_after zero = Done Noop
format_after (suc zero) = RegisterFormat
format_after (suc (suc zero)) = DeregisterFormat
format_after (suc (suc (suc zero))) = KvSetFormat
format_after (suc (suc (suc (suc zero)))) = KvCasFormat
format_after (suc (suc (suc (suc (suc zero))))) = KvLockFormat
format_after (suc (suc (suc (suc (suc (suc zero)))))) = KvUnlockFormat
format_after (suc (suc (suc (suc (suc (suc (suc zero))))))) = KvDeleteFormat
format_after (suc (suc (suc (suc (suc (suc (suc (suc n)))))))) = format_from_8 n

pub texts : Field (list_bytes text_bytes) (IsList IsText)
texts = list_field text_bytes IsText 1048576 (text_field IsText)

unique_from_8 : (n : ℕ) → Unique (format_from_8 n)
unique_from_8 zero = next (text_field IsKey) (λ key _. next (number_field IsNumber) (λ index _. done_unique _))
unique_from_8 (suc zero) = next (text_field IsPrefixKey) (λ prefix _. done_unique _)
unique_from_8 (suc (suc zero)) = next (list_field op_bytes IsOp 64 op_field) (λ ops _. done_unique _)
unique_from_8 (suc (suc (suc zero))) =
    next id_field (λ id _. next (text_field IsText) (λ name _. next (text_field IsText) (λ node _. next texts (λ checks _.
    next (behavior_field Any) (λ behavior _. next (number_field (UpTo 60000)) (λ delay_ms _. next (number_field (UpTo 86400000)) (λ ttl_ms _. done_unique _)))))))
unique_from_8 (suc (suc (suc (suc zero)))) = next id_field (λ id _. done_unique _)
unique_from_8 (suc (suc (suc (suc (suc zero))))) =
    next id_field (λ id _. next (flag_field Any) (λ create _. next (text_field IsText) (λ name _. next (option_field id_bytes IsId id_field) (λ session _.
    next (text_field IsText) (λ service _. next (flag_field Any) (λ only_passing _. next texts (λ tags _. next (number_field (UpTo (2 ^ 53))) (λ dns_ttl_ms _. done_unique _))))))))
unique_from_8 (suc (suc (suc (suc (suc (suc zero)))))) = next id_field (λ id _. done_unique _)
unique_from_8 (suc (suc (suc (suc (suc (suc (suc zero))))))) = done_unique Reap
unique_from_8 (suc (suc (suc (suc (suc (suc (suc (suc zero)))))))) = done_unique Upgrade
unique_from_8 (suc (suc (suc (suc (suc (suc (suc (suc (suc n))))))))) = record { law = λ c d s t r q a b e. absurd a.none }

set_unique : {G : List ℕ → ℕ → List ℕ → Command → List ℕ → Type 0} → ((key : List ℕ) (flags : ℕ) (value : List ℕ) → Unique (G key flags value)) →
    Unique (Then text_bytes IsKey (λ key. Then number_bytes IsNumber (λ flags. Then text_bytes IsValue (λ value. G key flags value))))
set_unique more = next (text_field IsKey) (λ key _. next (number_field IsNumber) (λ flags _. next (text_field IsValue) (λ value _. more key flags value)))

unique_after : (n : ℕ) → Unique (format_after n)
unique_after zero = done_unique Noop
unique_after (suc zero) =
    next (text_field IsText) (λ node _. next (text_field IsText) (λ address _. next (option_field service_bytes IsService service_field) (λ service _.
    next (list_field check_bytes IsCheck 1048576 check_field) (λ checks _. done_unique _))))
unique_after (suc (suc zero)) = next (text_field IsText) (λ node _. next (text_field IsText) (λ service _. next (text_field IsText) (λ check _. done_unique _)))
unique_after (suc (suc (suc zero))) = set_unique (λ key flags value. done_unique _)
unique_after (suc (suc (suc (suc zero)))) = set_unique (λ key flags value. next (number_field IsNumber) (λ index _. done_unique _))
unique_after (suc (suc (suc (suc (suc zero))))) = set_unique (λ key flags value. next id_field (λ session _. done_unique _))
unique_after (suc (suc (suc (suc (suc (suc zero)))))) = set_unique (λ key flags value. next id_field (λ session _. done_unique _))
unique_after (suc (suc (suc (suc (suc (suc (suc zero))))))) = next (text_field IsKey) (λ key _. done_unique _)
unique_after (suc (suc (suc (suc (suc (suc (suc (suc n)))))))) = unique_from_8 n

-- each command in bounds has the format of its tag
pub spelled_after : (c : Command) → InBounds c → format_after (tag_of c) c (concat (fields_of c))
spelled_after Noop v = end Noop
spelled_after (Register node address service checks) v = also _ node v.0 (also _ address v.1 (also _ service v.2 (also _ checks v.3 (end _))))
spelled_after (Deregister node service check) v = also _ node v.0 (also _ service v.1 (also _ check v.2 (end _)))
spelled_after (KvSet key flags value) v = also _ key v.0 (also _ flags v.1 (also _ value v.2 (end _)))
spelled_after (KvCas key flags value index) v = also _ key v.0 (also _ flags v.1 (also _ value v.2 (also _ index v.3 (end _))))
spelled_after (KvLock key flags value session) v = also _ key v.0 (also _ flags v.1 (also _ value v.2 (also _ session v.3 (end _))))
spelled_after (KvUnlock key flags value session) v = also _ key v.0 (also _ flags v.1 (also _ value v.2 (also _ session v.3 (end _))))
spelled_after (KvDelete key) v = also _ key v (end _)
spelled_after (KvDeleteCas key index) v = also _ key v.0 (also _ index v.1 (end _))
spelled_after (KvDeleteTree prefix) v = also _ prefix v (end _)
spelled_after (Txn ops) v = also _ ops v (end _)
spelled_after (SessionCreate id name node checks behavior delay_ms ttl_ms) v =
    also _ id v.0 (also _ name v.1 (also _ node v.2 (also _ checks v.3 (also _ behavior tt (also _ delay_ms v.4 (also _ ttl_ms v.5 (end _)))))))
spelled_after (SessionDestroy id) v = also _ id v (end _)
spelled_after (QuerySet id create name session service only_passing tags dns_ttl_ms) v =
    also _ id v.0 (also _ create tt (also _ name v.1 (also _ session v.2 (also _ service v.3 (also _ only_passing tt (also _ tags v.4 (also _ dns_ttl_ms v.5 (end _))))))))
spelled_after (QueryDelete id) v = also _ id v (end _)
spelled_after Reap v = end Reap
spelled_after Upgrade v = end Upgrade

-- a spelling says the command and where it ends
pub spelling_unique : (c d : Command) (r s : List ℕ) → InBounds c → InBounds d → spelling c ++ r ≡ spelling d ++ s → (c ≡ d) × (r ≡ s)
spelling_unique c d r s v w e =
    let tags : tag_of c ≡ tag_of d = cc in
    let fields : concat (fields_of c) ++ r ≡ concat (fields_of d) ++ s = cc in
    let other : format_after (tag_of c) d (concat (fields_of d)) = subst (λ (n : ℕ). format_after n d (concat (fields_of d))) (sym tags) (spelled_after d w) in
    let same = (unique_after (tag_of c)).law c d (concat (fields_of c)) (concat (fields_of d)) r s (spelled_after c v) other fields in
    (same.value, same.rest)

pub spelled_once : (command : Command) (bytes : List ℕ) → InBounds command → Spells command (spelling command) × (Spells command bytes → bytes ≡ spelling command)
spelled_once command bytes v = ((v, refl), λ h. h.1)

pub spells_one : (command other : Command) (bytes : List ℕ) → Spells command bytes → Spells other bytes → command ≡ other
spells_one command other bytes v w = (spelling_unique command other [] [] v.0 w.0 (ap (λ l. l ++ []) (sym v.1 ∙ w.1))).0

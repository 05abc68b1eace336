-- The payload of a record is read as its format says.
use Rattle.std.proofs.Common.{◌≡◌, ℕ, suc, ◌^◌, ◌<◌, ◌≤◌, nat_eq, cond, List, [], ◌∷◌, ◌++◌, length, refl, sym, ap, subst, arith, inl, inr, Ok, Err, Option, None}
use Rattle.std.proofs.lemmas.Bool.{cases_eq}
use Rattle.std.proofs.lemmas.Bool.Decides.{nat_tests}
use Rattle.std.specs.List.{concat}
use Rattle.cat_model.specs.declared.command.Entry.{Entry}
use Rattle.cat_model.specs.declared.command.Command.TheVariants.{Noop}
use Rattle.cat_model.specs.Spelling.{number_within, number_bytes, option_bytes, list_bytes, spelling}
use Rattle.cat_model.specs.Bounds.{IsNumber, IsListOf, InBounds}
use Rattle.cat_model.proofs.Formats.{Field, Then, Done, Unique, done_unique, then_unique, field_from_unique}
use Rattle.cat_model.proofs.SpellingFields.{number_field, list_field, option_field}
use Rattle.cat_model.proofs.CommandFormats.{IsNoOr}
use Rattle.command_codec.specs.declared.fault.Fault.TheVariants.{Bad}
use Rattle.store_records.proofs.Certain.{command_field}
use Rattle.store_records.specs.declared.records.Record.{Record}
use Rattle.store_records.specs.declared.records.Record.TheVariants.{Vote, Store}
use Rattle.command_codec.specs.Reading.{Read, ◌>>=◌, any_number_at, command_at}
use Rattle.store_records.specs.Records.{entry_bytes, payload, IsServer, IsEntry, IsPayload}
use Rattle.store_records.specs.RecordReading.{server_at, entry_at, vote_at, store_at, payload_at}
use Rattle.command_codec.proofs.Grammar.{IsBytes, Opens, Word, Right, Reads, Single, then_reads, done_reads, reads_to, byte_flawed, bad_byte}
use Rattle.command_codec.proofs.NumberReads.{Between, number_reads}
use Rattle.command_codec.proofs.ListReads.{list_reads, option_reads}
use Rattle.command_codec.proofs.CommandReads.{joined}
use Rattle.command_codec.proofs.Whole.{Spelled, command_right}

-- ---- numbers
any_number : Reads (Single number_bytes IsNumber) any_number_at
any_number =
    reads_to (Single number_bytes (Between 0 18446744073709551615)) (Single number_bytes IsNumber)
    (λ c t a. let to : c ≤ 18446744073709551615 = a.valid.to in record { valid = omega arith; is = a.is })
    (λ c t a. let v : c < 2 ^ 64 = a.valid in record { valid = record { from = omega arith; to = omega arith }; is = a.is })
    any_number_at (number_reads 0 18446744073709551615 (omega arith) (omega arith) (omega arith))

server : Reads (Single number_bytes IsServer) server_at
server =
    reads_to (Single number_bytes (Between 0 4294967295)) (Single number_bytes IsServer)
    (λ c t a. let to : c ≤ 4294967295 = a.valid.to in record { valid = omega arith; is = a.is })
    (λ c t a. let v : c < 2 ^ 32 = a.valid in record { valid = record { from = omega arith; to = omega arith }; is = a.is })
    server_at (number_reads 0 4294967295 (omega arith) (omega arith) (omega arith))

-- ---- entries
command : Reads Spelled command_at
command = record { right = command_right; sample = 1 ∷ 0 ∷ []; word = record { of = Noop; is = record { valid = tt; is = refl } } }

abbrev EntryFormat : Entry → List ℕ → Type 0
EntryFormat =
    Then number_bytes IsNumber (λ term. Then number_bytes IsNumber (λ number. Then spelling InBounds (λ of.
    Done (record { term = term; number = number; command = of }))))

unique_next : {A C : Type 0} {f : A → List ℕ} {V : A → Type 0} {G : A → C → List ℕ → Type 0} → Field f V → ((x : A) → V x → Unique (G x)) → Unique (Then f V G)
unique_next {A} {C} {f} {V} {G} field more = then_unique f V G field more

reads_next : {A C : Type 0} {f : A → List ℕ} {V : A → Type 0} {G : A → C → List ℕ → Type 0} → Field f V → (read : List ℕ → Read A) → Reads (Single f V) read → (more : A × List ℕ → Read C)
    → ((x : A) → V x → Reads (G x) (λ r. more (x, r))) → Reads (Then f V G) (λ s. read s >>= more)
reads_next {A} {C} {f} {V} {G} field read reads more rest = then_reads f V G field read reads more rest

entry_unique : Unique EntryFormat
entry_unique = unique_next (number_field IsNumber) (λ term _. unique_next (number_field IsNumber) (λ number _. unique_next command_field (λ of _. done_unique _)))

entry_spelled : (e : Entry) → IsEntry e → EntryFormat e (entry_bytes e)
unfolding entry_bytes
entry_spelled e v = record {
  head = e.term;
  valid = v.term;
  rest = concat (number_bytes e.number ∷ spelling e.command ∷ []);
  next = record {
    head = e.number;
    valid = v.number;
    rest = concat (spelling e.command ∷ []);
    next = record { head = e.command; valid = v.command; rest = []; next = record { same = refl; none = refl }; is = refl };
    is = refl;
  };
  is = refl;
}

pub entry_field : Field entry_bytes IsEntry
entry_field = field_from_unique entry_bytes IsEntry EntryFormat entry_spelled entry_unique

entry_told : (c : Entry) (t : List ℕ) → EntryFormat c t → Single entry_bytes IsEntry c t
unfolding entry_bytes
entry_told c t a =
    let b = a.next in let d = b.next in let e = d.next in
    subst (λ (s : Entry). Single entry_bytes IsEntry s t) (sym e.same) record {
      valid = record { term = a.valid; number = b.valid; command = d.valid };
      is = joined _ _ _ _ a.is (joined _ _ _ _ b.is (joined b.rest (spelling d.head) d.rest [] d.is e.none));
    }

pub entry_reads : Reads (Single entry_bytes IsEntry) entry_at
unfolding entry_at
entry_reads =
    reads_to EntryFormat (Single entry_bytes IsEntry) entry_told (λ c t a. subst (λ (l : List ℕ). EntryFormat c l) (sym a.is) (entry_spelled c a.valid)) entry_at
    (reads_next (number_field IsNumber) _ any_number _ (λ term _. reads_next (number_field IsNumber) _ any_number _ (λ number _. reads_next command_field _ command _ (λ of _. done_reads _))))

-- ---- the two kinds
abbrev VoteFormat : Record → List ℕ → Type 0
VoteFormat = Then number_bytes IsNumber (λ term. Then (option_bytes number_bytes) (IsNoOr IsServer) (λ vote. Done (Vote term vote)))

abbrev StoreFormat : Record → List ℕ → Type 0
StoreFormat = Then number_bytes IsNumber (λ index. Then (list_bytes entry_bytes) (IsListOf 1048576 IsEntry) (λ entries. Done (Store index entries)))

vote_unique : Unique VoteFormat
vote_unique = unique_next (number_field IsNumber) (λ term _. unique_next (option_field number_bytes IsServer (number_field IsServer)) (λ vote _. done_unique _))

store_unique : Unique StoreFormat
store_unique = unique_next (number_field IsNumber) (λ index _. unique_next (list_field entry_bytes IsEntry 1048576 entry_field) (λ entries _. done_unique _))

vote_reads : Reads VoteFormat vote_at
unfolding vote_at
vote_reads =
    reads_next (number_field IsNumber) _ any_number _ (λ term _. reads_next (option_field number_bytes IsServer (number_field IsServer)) _ (option_reads number_bytes IsServer (number_field IsServer) server_at server) _ (λ vote _. done_reads _))

store_reads : Reads StoreFormat store_at
unfolding store_at
store_reads =
    reads_next (number_field IsNumber) _ any_number _ (λ index _. reads_next (list_field entry_bytes IsEntry 1048576 entry_field) _ (list_reads entry_bytes IsEntry entry_field entry_at entry_reads 1048576 (omega arith)) _ (λ entries _. done_reads _))

vote_spelled : (term : ℕ) (vote : Option ℕ) → IsPayload (Vote term vote) → VoteFormat (Vote term vote) (concat (number_bytes term ∷ option_bytes number_bytes vote ∷ []))
vote_spelled term vote v = record {
  head = term;
  valid = v.0;
  rest = concat (option_bytes number_bytes vote ∷ []);
  next = record { head = vote; valid = v.1; rest = []; next = record { same = refl; none = refl }; is = refl };
  is = refl;
}

store_spelled : (index : ℕ) (entries : List Entry) → IsPayload (Store index entries) → StoreFormat (Store index entries) (concat (number_bytes index ∷ list_bytes entry_bytes entries ∷ []))
store_spelled index entries v = record {
  head = index;
  valid = v.0;
  rest = concat (list_bytes entry_bytes entries ∷ []);
  next = record { head = entries; valid = v.1; rest = []; next = record { same = refl; none = refl }; is = refl };
  is = refl;
}

abbrev first_byte : List ℕ → ℕ
first_byte [] = 0
first_byte (b ∷ s) = b

two_kinds : (a b : List ℕ) → 1 ∷ a ≡ 2 ∷ b → ⊥
two_kinds a b e = let no : first_byte (1 ∷ a) ≡ first_byte (2 ∷ b) = ap first_byte e in omega (arith, no)

abbrev pub Payload : Record → List ℕ → Type 0
Payload = Single payload IsPayload

vote_to : (c : Record) (t : List ℕ) → VoteFormat c t → Payload c (1 ∷ t)
vote_to c t a =
    subst (λ (r : Record). Payload r (1 ∷ t)) (sym a.next.next.same)
    record { valid = (a.valid, a.next.valid); is = ap (λ l. 1 ∷ l) (joined _ _ _ _ a.is (joined _ _ _ _ a.next.is a.next.next.none)) }

vote_from : (c : Record) (t : List ℕ) → Payload c (1 ∷ t) → VoteFormat c t
vote_from (Vote term vote) t a =
    let is : 1 ∷ t ≡ 1 ∷ concat (number_bytes term ∷ option_bytes number_bytes vote ∷ []) = a.is in
    let same : concat (number_bytes term ∷ option_bytes number_bytes vote ∷ []) ≡ t = cc in
    subst (λ (l : List ℕ). VoteFormat (Vote term vote) l) same (vote_spelled term vote a.valid)
vote_from (Store index entries) t a =
    absurd (two_kinds t (concat (number_bytes index ∷ list_bytes entry_bytes entries ∷ [])) a.is)

store_to : (c : Record) (t : List ℕ) → StoreFormat c t → Payload c (2 ∷ t)
store_to c t a =
    subst (λ (r : Record). Payload r (2 ∷ t)) (sym a.next.next.same)
    record { valid = (a.valid, a.next.valid); is = ap (λ l. 2 ∷ l) (joined _ _ _ _ a.is (joined _ _ _ _ a.next.is a.next.next.none)) }

store_from : (c : Record) (t : List ℕ) → Payload c (2 ∷ t) → StoreFormat c t
store_from (Store index entries) t a =
    let is : 2 ∷ t ≡ 2 ∷ concat (number_bytes index ∷ list_bytes entry_bytes entries ∷ []) = a.is in
    let same : concat (number_bytes index ∷ list_bytes entry_bytes entries ∷ []) ≡ t = cc in
    subst (λ (l : List ℕ). StoreFormat (Store index entries) l) same (store_spelled index entries a.valid)
store_from (Vote term vote) t a =
    absurd (two_kinds (concat (number_bytes term ∷ option_bytes number_bytes vote ∷ [])) t (sym a.is))

other_kind : (kind : ℕ) → (kind ≡ 1 → ⊥) → (kind ≡ 2 → ⊥) → (t : List ℕ) → Word Payload (kind ∷ t) → ⊥
other_kind kind first next t w = go w.of w.is
  where
    go : (c : Record) → Payload c (kind ∷ t) → ⊥
    go (Vote term vote) a = let is : kind ∷ t ≡ 1 ∷ concat (number_bytes term ∷ option_bytes number_bytes vote ∷ []) = a.is in first cc
    go (Store index entries) a = let is : kind ∷ t ≡ 2 ∷ concat (number_bytes index ∷ list_bytes entry_bytes entries ∷ []) = a.is in next cc

-- ---- both
same_number : {X : Type 0} (n m : ℕ) (x y : X) → n ≡ m → cond (nat_eq n m) x y ≡ x
same_number n m x y h = grind (arith, nat_tests)

other_number : {X : Type 0} (n m : ℕ) (x y : X) → (n ≡ m → ⊥) → cond (nat_eq n m) x y ≡ y
other_number n m x y h = grind (arith, nat_tests)

payload_opens : Opens (Word Payload) []
unfolding number_within
payload_opens = record { next = 1; more = 0 ∷ 0 ∷ []; spelled = record { of = Vote 0 None; is = record { valid = (omega arith, tt); is = refl } } }

kind_right : (R : Record → List ℕ → Type 0) (kind : ℕ) (to : (c : Record) (t : List ℕ) → R c t → Payload c (kind ∷ t)) (from : (c : Record) (t : List ℕ) → Payload c (kind ∷ t) → R c t)
    (rest : List ℕ) (out : Read Record) → Right R rest out → Right Payload (kind ∷ rest) out
kind_right R kind to from rest (Ok y) found = record { word = kind ∷ found.word; spelled = to y.0 found.word found.spelled; is = ap (λ l. kind ∷ l) found.is }
kind_right R kind to from rest (Err fault) flawed =
    byte_flawed (Word Payload) (Word R) kind (λ t w. record { of = w.of; is = to w.of t w.is }) (λ t w. record { of = w.of; is = from w.of t w.is }) rest fault flawed

at_kind : (kind k : ℕ) (rest : List ℕ) (out : Read Record) → kind ≡ k → Right Payload (k ∷ rest) out → Right Payload (kind ∷ rest) out
at_kind kind k rest out h right = subst (λ (n : ℕ). Right Payload (n ∷ rest) out) (sym h) right

later_kind : (kind : ℕ) (rest : List ℕ) → IsBytes rest → (kind ≡ 1 → ⊥) → Right Payload (kind ∷ rest) (cond (nat_eq kind 2) (store_at rest) (Err (Bad (suc (length rest)))))
later_kind kind rest bytes first = elim (cases_eq kind 2) [
  | inl h ↦ subst (λ (out : Read Record). Right Payload (kind ∷ rest) out) (sym (same_number kind 2 _ _ h))
      (at_kind kind 2 rest (store_at rest) h (kind_right StoreFormat 2 store_to store_from rest (store_at rest) (store_reads.right rest bytes)))
  | inr h ↦ subst (λ (out : Read Record). Right Payload (kind ∷ rest) out) (sym (other_number kind 2 _ _ h))
      (bad_byte (Word Payload) kind rest payload_opens (other_kind kind first h))
]

pub payload_right : (s : List ℕ) → IsBytes s → Right Payload s (payload_at s)
payload_right [] bytes = payload_opens
payload_right (kind ∷ rest) bytes = elim (cases_eq kind 1) [
  | inl h ↦ subst (λ (out : Read Record). Right Payload (kind ∷ rest) out) (sym (same_number kind 1 _ _ h))
      (at_kind kind 1 rest (vote_at rest) h (kind_right VoteFormat 1 vote_to vote_from rest (vote_at rest) (vote_reads.right rest bytes.1)))
  | inr h ↦ subst (λ (out : Read Record). Right Payload (kind ∷ rest) out) (sym (other_number kind 1 _ _ h))
      (later_kind kind rest bytes.1 h)
]

payload_unique : (x y : Record) (r s : List ℕ) → IsPayload x → IsPayload y → payload x ++ r ≡ payload y ++ s → (x ≡ y) × (r ≡ s)
payload_unique (Vote term vote) (Vote term' vote') r s v w e =
    let a = concat (number_bytes term ∷ option_bytes number_bytes vote ∷ []) in
    let b = concat (number_bytes term' ∷ option_bytes number_bytes vote' ∷ []) in
    let is : 1 ∷ (a ++ r) ≡ 1 ∷ (b ++ s) = e in
    let same = vote_unique.law (Vote term vote) (Vote term' vote') a b r s (vote_spelled term vote v) (vote_spelled term' vote' w) cc in
    (same.value, same.rest)
payload_unique (Store index entries) (Store index' entries') r s v w e =
    let a = concat (number_bytes index ∷ list_bytes entry_bytes entries ∷ []) in
    let b = concat (number_bytes index' ∷ list_bytes entry_bytes entries' ∷ []) in
    let is : 2 ∷ (a ++ r) ≡ 2 ∷ (b ++ s) = e in
    let same = store_unique.law (Store index entries) (Store index' entries') a b r s (store_spelled index entries v) (store_spelled index' entries' w) cc in
    (same.value, same.rest)
payload_unique (Vote term vote) (Store index entries) r s v w e =
    absurd (two_kinds (concat (number_bytes term ∷ option_bytes number_bytes vote ∷ []) ++ r) (concat (number_bytes index ∷ list_bytes entry_bytes entries ∷ []) ++ s) e)
payload_unique (Store index entries) (Vote term vote) r s v w e =
    absurd (two_kinds (concat (number_bytes term ∷ option_bytes number_bytes vote ∷ []) ++ s) (concat (number_bytes index ∷ list_bytes entry_bytes entries ∷ []) ++ r) (sym e))

pub payload_field : Field payload IsPayload
payload_field = record { unique = payload_unique }

-- Adding a record to a journal, whole or in part.
use Rattle.std.proofs.Common.{◌≡◌, ℕ, zero, suc, ◌+◌, ◌-◌, ◌/◌, ◌%◌, ◌^◌, ◌<◌, ◌≤◌, nat_le, nat_lt, Bool, true, false, List, [], ◌∷◌, ◌++◌, length, take, drop, refl, sym, ap, subst, ◌∙◌, arith, ◌⊎◌, inl, inr, Option, Some, None, Ok, Err}
use Rattle.std.specs.Prelude.{◌&&◌, IfSome, Result, is_err, OnOk, OnErr}
use Rattle.cat_model.specs.Spelling.{number_within, number_bytes, option_bytes}
use Rattle.cat_model.specs.Bounds.{IsListOf}
use Rattle.std.specs.Option.{ForSome, option_map}
use Rattle.std.proofs.lemmas.Bool.{cases_lt, cond_both}
use Rattle.std.proofs.lemmas.Bool.Decides.{nat_tests}
use Rattle.std.proofs.lemmas.List.{length-append, take-append-drop, take_all, take_at, length-drop, append-nil}
use Rattle.cat_model.specs.declared.kept.Kept.{Kept}
use Rattle.cat_model.specs.declared.command.Entry.{Entry}
use Rattle.cat_model.specs.Keeping.{nothing_kept, with_entries}
use Rattle.cat_model.specs.LogLimits.{keeps_limits}
use Rattle.outside.specs.Keepers.{MayStore, Changes}
use Rattle.outside.specs.declared.faults.KeepFail.TheVariants.{Failed}
use Rattle.store_records.specs.declared.records.Record.{Record}
use Rattle.store_records.specs.declared.records.Record.TheVariants.{Vote, Store}
use Rattle.store_records.specs.Records.{payload, record_bytes, IsServer, IsEntry}
use Rattle.store_records.specs.RecordReading.{IsCut}
use Rattle.command_codec.proofs.Grammar.{IsBytes}
use Rattle.store_records.proofs.RecordReads.{front_is_cut, front_bytes}
use Rattle.file_keeper.specs.Journal.{may_make, made, kept_of, held_by, Leads, IsWhole, MayPut, IsFound}
use Rattle.file_keeper.proofs.Replaying.{leads_one, leads_on, leads_to, replay_cut}

-- ---- the condition of a call
both_true : (a b : Bool) → a ≡ true → b ≡ true → (a && b) ≡ true
both_true true b h g = g
both_true false b h g = cc

le_is : (a b : ℕ) → a ≤ b → nat_le a b ≡ true
le_is a b h = grind (arith, nat_tests)

pub may_store : (index : ℕ) (entries : List Entry) (kept : Kept) → MayStore index entries kept → may_make (Store index entries) kept ≡ true
may_store index entries kept may =
    both_true (nat_le 1 index) (nat_le index (length kept.log + 1) && keeps_limits (with_entries index entries kept).log) (le_is 1 index may.from)
    (both_true (nat_le index (length kept.log + 1)) (keeps_limits (with_entries index entries kept).log) (le_is index (length kept.log + 1) may.no_gap) may.limits)

-- ---- a whole journal
pub stands_for : (b : List ℕ) (w : IsWhole b) → kept_of b ≡ Some w.kept
stands_for b w = leads_to nothing_kept w.kept b w.leads

pub may_of : (b piece : List ℕ) (r : Record) → MayPut (Some b) piece r → (w : IsWhole b) → may_make r w.kept ≡ true
may_of b piece r may w = may.may w.kept (stands_for b w)

with_record : (b piece : List ℕ) (r : Record) → IsBytes piece → MayPut (Some b) piece r → (w : IsWhole b) → Leads nothing_kept (b ++ piece) (made r w.kept)
with_record b piece r bytes may w =
    subst (λ (l : List ℕ). Leads nothing_kept (b ++ l) (made r w.kept)) (sym may.is)
    (leads_on nothing_kept w.kept (made r w.kept) b (record_bytes r) w.leads (leads_one w.kept r may.spelled (subst IsBytes may.is bytes) (may_of b piece r may w)))

whole_with : (b piece : List ℕ) (r : Record) → IsBytes piece → MayPut (Some b) piece r → IsWhole b → IsWhole (b ++ piece)
whole_with b piece r bytes may w = record { kept = made r w.kept; leads = with_record b piece r bytes may w }

kept_with : (b piece : List ℕ) (r : Record) → IsBytes piece → MayPut (Some b) piece r → (w : IsWhole b) → kept_of (b ++ piece) ≡ option_map (made r) (kept_of b)
kept_with b piece r bytes may w =
    leads_to nothing_kept (made r w.kept) (b ++ piece) (with_record b piece r bytes may w) ∙ sym (ap (option_map (made r)) (stands_for b w))

-- a first part of a record that is not all of it
kept_torn : (b piece : List ℕ) (r : Record) (n : ℕ) → n < length piece → IsBytes piece → MayPut (Some b) piece r → (w : IsWhole b) → kept_of (b ++ take n piece) ≡ kept_of b
kept_torn b piece r n short bytes may w =
    let front = take n piece in
    let split : piece ≡ front ++ drop n piece = sym (take-append-drop n piece) in
    let front_is : IsBytes front = front_bytes front (drop n piece) (subst IsBytes split bytes) in
    w.leads.each front front_is ∙ replay_cut w.kept front front_is (cut_by (drop n piece) (length-drop n piece) (sym may.is ∙ split)) ∙ sym (stands_for b w)
  where
    cut_by : (rest : List ℕ) → length rest ≡ length piece - n → record_bytes r ≡ take n piece ++ rest → IsCut (take n piece)
    cut_by [] long e = absurd (omega arith)
    cut_by (x ∷ rest) long e = front_is_cut r may.spelled (take n piece) x rest e

pub torn_cases : (b piece : List ℕ) (r : Record) (n : ℕ) → IsBytes piece → MayPut (Some b) piece r → IsWhole b → (kept_of (b ++ take n piece) ≡ kept_of b) ⊎ (kept_of (b ++ take n piece) ≡ option_map (made r) (kept_of b))
torn_cases b piece r n bytes may w = elim (cases_lt n (length piece)) [
  | inl h ↦ inl (kept_torn b piece r n h bytes may w)
  | inr h ↦ inr (ap (λ l. kept_of (b ++ l)) (take_all n piece h) ∙ kept_with b piece r bytes may w)
]

-- ---- where the bytes may not be told
pub whole_after : (old new : Option (List ℕ)) (piece : List ℕ) (r : Record) → IsBytes piece → MayPut old piece r → ForSome old IsWhole → new ≡ option_map (λ b. b ++ piece) old → ForSome new IsWhole
whole_after None new piece r bytes may whole e = λ x f. absurd (let no : None ≡ Some x = sym e ∙ f in cc)
whole_after (Some b) new piece r bytes may whole e = λ x f.
    let both : Some (b ++ piece) ≡ Some x = sym e ∙ f in
    let same : b ++ piece ≡ x = cc in
    subst IsWhole same (whole_with b piece r bytes may (whole b refl))

pub told_after : (old new : Option (List ℕ)) (piece : List ℕ) (r : Record) → IsBytes piece → MayPut old piece r → ForSome old IsWhole → new ≡ option_map (λ b. b ++ piece) old → held_by new ≡ option_map (made r) (held_by old)
told_after None new piece r bytes may whole e = ap held_by e
told_after (Some b) new piece r bytes may whole e = ap held_by e ∙ kept_with b piece r bytes may (whole b refl)

pub told_torn : (old new : Option (List ℕ)) (piece : List ℕ) (r : Record) (n : ℕ) → IsBytes piece → MayPut old piece r → ForSome old IsWhole → new ≡ option_map (λ b. b ++ take n piece) old → (held_by new ≡ held_by old) ⊎ (held_by new ≡ option_map (made r) (held_by old))
told_torn None new piece r n bytes may whole e = inl (ap held_by e)
told_torn (Some b) new piece r n bytes may whole e = elim (torn_cases b piece r n bytes may (whole b refl)) [
  | inl h ↦ inl (ap held_by e ∙ h)
  | inr h ↦ inr (ap held_by e ∙ h)
]

-- ---- a journal whose cut record was cut off
front_of : (b : List ℕ) (kept : Kept) (end : ℕ) (tail : Bool) (f : IsFound b kept end tail) → take end b ≡ f.front
front_of b kept end tail f = ap (take end) f.is ∙ take_at f.front f.rest end (sym f.end_is)

whole_front : (b : List ℕ) (kept : Kept) (end : ℕ) (tail : Bool) (f : IsFound b kept end tail) → IsWhole (take end b)
whole_front b kept end tail f = subst IsWhole (sym (front_of b kept end tail f)) (record { kept = kept; leads = f.leads })

pub whole_cut : (old new : Option (List ℕ)) (kept : Kept) (end : ℕ) (tail : Bool) → ForSome old (λ b. IsFound b kept end tail) → new ≡ option_map (take end) old → ForSome new IsWhole
whole_cut None new kept end tail found e = λ x f. absurd (let no : None ≡ Some x = sym e ∙ f in cc)
whole_cut (Some b) new kept end tail found e = λ x f.
    let both : Some (take end b) ≡ Some x = sym e ∙ f in
    let same : take end b ≡ x = cc in
    subst IsWhole same (whole_front b kept end tail (found b refl))

pub told_cut : (old new : Option (List ℕ)) (kept : Kept) (end : ℕ) (tail : Bool) → ForSome old (λ b. IsFound b kept end tail) → new ≡ option_map (take end) old → held_by new ≡ held_by old
told_cut None new kept end tail found e = ap held_by e
told_cut (Some b) new kept end tail found e =
    let f = found b refl in
    ap held_by e ∙ ap kept_of (front_of b kept end tail f) ∙ leads_to nothing_kept kept f.front f.leads ∙ sym f.all

pub whole_same : (old : Option (List ℕ)) (kept : Kept) (end : ℕ) → ForSome old (λ b. IsFound b kept end false) → ForSome old IsWhole
whole_same old kept end found = λ b e.
    let f = found b e in
    let none : f.rest ≡ [] = f.no_tail refl in
    let is : b ≡ f.front = f.is ∙ ap (λ l. f.front ++ l) none ∙ append-nil f.front in
    subst IsWhole (sym is) (record { kept = kept; leads = f.leads })

-- ---- what a call that writes did
pub changes_ok : (change : Kept → Kept) (old new : Option Kept) → new ≡ option_map change old → Changes {T = Unit {0}} change old new (Ok tt)
changes_ok change old new e = record { ok = e; failed = λ h. cc; memory = λ h. cc }

pub changes_failed : (change : Kept → Kept) (old new : Option Kept) → (new ≡ old) ⊎ (new ≡ option_map change old) → Changes {T = Unit {0}} change old new (Err Failed)
changes_failed change old new e = record { ok = tt; failed = λ h. e; memory = λ h. cc }

-- ---- the two records that may be put
number_short : (k n : ℕ) → length (number_within k n) ≤ suc k
unfolding number_within
number_short zero n = omega arith
number_short (suc k) n =
    let more : length (number_within k (n / 128)) ≤ suc k = number_short k (n / 128) in
    cond_both (nat_lt n 128) (n ∷ []) ((128 + n % 128) ∷ number_within k (n / 128)) (λ l. length l ≤ suc (suc k)) (λ _. omega arith) (λ _. omega arith)

option_short : (o : Option ℕ) → length (option_bytes number_bytes o) ≤ 11
option_short None = omega arith
option_short (Some x) = let one : length (number_within 9 x) ≤ 10 = number_short 9 x in omega arith

pub vote_short : (term : ℕ) (vote : Option ℕ) → length (payload (Vote term vote)) ≤ 100000000
vote_short term vote =
    let a = number_bytes term in
    let b = option_bytes number_bytes vote in
    let sum : length (a ++ (b ++ [])) ≡ length a + length (b ++ []) = length-append a (b ++ []) in
    let more : length (b ++ []) ≡ length b + 0 = length-append b [] in
    let first : length a ≤ 10 = number_short 9 term in
    let second : length b ≤ 11 = option_short vote in
    omega arith

pub vote_put : (bytes : Option (List ℕ)) (piece : List ℕ) (term : ℕ) (vote : Option ℕ) → term < 2 ^ 64 → IfSome vote IsServer → piece ≡ record_bytes (Vote term vote) → MayPut bytes piece (Vote term vote)
vote_put bytes piece term vote t v e = record { spelled = record { fields = (t, v); short = vote_short term vote }; is = e; may = λ kept is. refl }

pub store_put : (bytes : Option (List ℕ)) (piece : List ℕ) (index : ℕ) (entries : List Entry) → index < 2 ^ 64 → IsListOf 1048576 IsEntry entries → length (payload (Store index entries)) ≤ 100000000
    → piece ≡ record_bytes (Store index entries) → ForSome (held_by bytes) (MayStore index entries) → MayPut bytes piece (Store index entries)
store_put bytes piece index entries i each short e may = record { spelled = record { fields = (i, each); short = short }; is = e; may = λ kept is. may_store index entries kept (may kept is) }

-- ---- what a call answered
pub after_err : {T E : Type 0} (P : Type 0) (r : Result T E) → is_err r ≡ true → OnErr r P → P
after_err P (Ok x) h p = cc
after_err P (Err e) h p = p

pub after_ok : {T E : Type 0} (P : Type 0) (r : Result T E) → is_err r ≡ false → OnOk r P → P
after_ok P (Ok x) h p = p
after_ok P (Err e) h p = cc

-- What the changes of a transaction move.
use Rattle.std.proofs.Common.{◌≡◌, ℕ, ◌≤◌, ◌<◌, Bool, true, false, not, cond, ◌||◌, ◌&&◌, List, [], ◌∷◌, ◌++◌, refl, sym, ◌∙◌, ap, subst, Option, Some, None, map, is_some, max, arith, Contains, suc}
use Rattle.std.specs.List.{AllByRecursion, list_any}
use Rattle.std.specs.Ordering.{is_eq}
use Rattle.std.specs.declared.cmp.Ordering.TheVariants.{Less}
use Rattle.std.proofs.lemmas.Bool.{true≢false, false≢true}
use Rattle.std.proofs.lemmas.Cmp.{nat_list_cmp_total, tied_itself}
use Rattle.std.proofs.lemmas.Map.Lookups.{exact_bytes}
use Rattle.cat_model.specs.Keys.{text_cmp, same_text, has_prefix}
use Rattle.cat_model.specs.Catalog.{kv_at, kv_key}
use Rattle.cat_model.specs.Tables.{Ascends, same_found}
use Rattle.cat_model.specs.Same.{same_kv}
use Rattle.cat_model.specs.Kv.{kv_delete}
use Rattle.cat_model.specs.KvIndexes.{buried, last_tomb, last_modify, row_index, key_index, prefix_index}
use Rattle.cat_model.specs.declared.row.KvRow.{KvRow}
use Rattle.cat_model.specs.declared.query.Chan.{Chan}
use Rattle.cat_model.specs.declared.query.Chan.TheVariants.{Key}
use Rattle.cat_model.proofs.SameLemmas.{kv_decides, text_decides}
use Rattle.cat_model.proofs.TableLemmas.{eq_is, All-weaker, row_at-filter}
use Rattle.cat_model.proofs.Lookups.{row_at-put, row_at-filter_none}
use Rattle.kv_table.specs.States.{KvVersions, SameTombs}
use Rattle.txn_engine.specs.declared.change.Change.{Change}
use Rattle.txn_engine.specs.declared.change.Change.TheVariants.{Put, Removed}
use Rattle.txn_engine.specs.Changes.{change_key, made, changed}
use Rattle.catalog_store.specs.Changes.{IsChange, Makes, Misses, grave, graves_of, MakesEach}
use Rattle.catalog_store.specs.Firing.{Once, keys_fire}
use Rattle.catalog_store.specs.Steps.{Earlier, Moves}
use Rattle.catalog_store.proofs.Tombs.{last_modify-max, modify_of_row, own_row}
use Rattle.catalog_store.proofs.Fires.{key_quiet, keys_only}
use Rattle.catalog_store.proofs.Writes.{found_all}
use Rattle.catalog_store.proofs.Trees.{chans_once}

-- 1. One change more.
changed_more : (changes : List Change) (c : Change) (rows : List KvRow) → changed (changes ++ c ∷ []) rows ≡ made c (changed changes rows)
changed_more [] c rows = refl
changed_more (d ∷ changes) c rows = changed_more changes c (made d rows)

all_last : {A : Type 0} (P : A → Type 0) (xs : List A) (x : A) → AllByRecursion P (xs ++ x ∷ []) → AllByRecursion P xs × P x
all_last P [] x h = (tt, h.0)
all_last P (y ∷ xs) x h = let rest : AllByRecursion P xs × P x = all_last P xs x h.1 in ((h.0, rest.0), rest.1)

graves_put : (i : ℕ) (changes : List Change) (row : KvRow) (tombs : List (List ℕ × ℕ)) → graves_of i (changes ++ Put row ∷ []) tombs ≡ graves_of i changes tombs
graves_put i [] row tombs = refl
graves_put i (c ∷ changes) row tombs = ap (grave i c) (graves_put i changes row tombs)

-- the last tombstone where there is one more
later : Bool → ℕ → ℕ → ℕ
later b i n = cond b (max i n) n

graves_removed : (i : ℕ) (changes : List Change) (key : List ℕ) (tombs : List (List ℕ × ℕ)) → SameTombs (graves_of i (changes ++ Removed key ∷ []) tombs) ((key, i) ∷ graves_of i changes tombs)
graves_removed i [] key tombs test floor = refl
graves_removed i (Put row ∷ changes) key tombs test floor = graves_removed i changes key tombs test floor
graves_removed i (Removed k ∷ changes) key tombs test floor = go (test k) (test key) (graves_removed i changes key tombs test floor)
  where
    rest : ℕ
    rest = last_tomb test floor (graves_of i changes tombs)

    end : ℕ
    end = last_tomb test floor (graves_of i (changes ++ Removed key ∷ []) tombs)

    go : (a b : Bool) → end ≡ cond b (max i rest) rest → cond a (max i end) end ≡ cond b (max i (cond a (max i rest) rest)) (cond a (max i rest) rest)
    go true true e = ap (max i) e
    go true false e = ap (max i) e
    go false true e = e
    go false false e = e

pub makes_none : (i : ℕ) (old : KvVersions) → MakesEach [] i old old
makes_none i old = record { rows = refl; others = λ test floor h. refl; under = λ h test floor. refl; floor = refl; before = refl }

pub makes_more : (changes : List Change) (c : Change) (i : ℕ) (old mid new : KvVersions) → MakesEach changes i old mid → Makes c i mid new → MakesEach (changes ++ c ∷ []) i old new
unfolding later
makes_more changes (Put row) i old mid new each one = record {
  rows = one.rows ∙ ap (made (Put row)) each.rows ∙ sym (changed_more changes (Put row) old.now.rows);
  others = λ test floor h.
      let parts : AllByRecursion (λ c. Misses test c) changes × (test row.key ≡ false) = all_last (λ c. Misses test c) changes (Put row) h in
      one.tombs.others test floor parts.1 ∙ each.others test floor parts.0 ∙ sym (ap (last_tomb test floor) (graves_put i changes row old.now.tombs));
  under = λ h test floor.
      let parts : AllByRecursion (λ c. IsChange i old.now.rows c) changes × (row.modify ≡ i) = all_last (λ c. IsChange i old.now.rows c) changes (Put row) h in
      subst (λ n. max n (last_tomb test floor new.now.tombs) ≡ max n (last_tomb test floor mid.now.tombs)) parts.1 (one.tombs.under test floor)
      ∙ each.under parts.0 test floor ∙ sym (ap (λ l. max i (last_tomb test floor l)) (graves_put i changes row old.now.tombs));
  floor = one.floor ∙ each.floor;
  before = one.before ∙ each.before;
}
makes_more changes (Removed key) i old mid new each one = record {
  rows = one.rows ∙ ap (made (Removed key)) each.rows ∙ sym (changed_more changes (Removed key) old.now.rows);
  others = λ test floor h. sym (one.tombs test floor) ∙ ap (later (test key) i) (each.others test floor (all_last (λ c. Misses test c) changes (Removed key) h).0) ∙ sym (graves_removed i changes key old.now.tombs test floor);
  under = λ h test floor.
      ap (max i) (sym (one.tombs test floor))
      ∙ go (test key) (last_tomb test floor mid.now.tombs) (last_tomb test floor (graves_of i changes old.now.tombs)) (each.under (all_last (λ c. IsChange i old.now.rows c) changes (Removed key) h).0 test floor)
      ∙ ap (max i) (sym (graves_removed i changes key old.now.tombs test floor));
  floor = one.floor ∙ each.floor;
  before = one.before ∙ each.before;
}
  where
    go : (b : Bool) (m n : ℕ) → max i m ≡ max i n → max i (cond b (max i m) m) ≡ max i (cond b (max i n) n)
    go true m n e = ap (max i) e
    go false m n e = e

-- 2. The row of each key after the changes.
outcome : Change → Option KvRow
outcome (Put row) = Some row
outcome (Removed key) = None

of_key : List ℕ → Change → Bool
of_key q c = is_eq (text_cmp (change_key c) q)

itself : (key : List ℕ) → is_eq (text_cmp key key) ≡ true
itself key = ap is_eq (tied_itself nat_list_cmp_total key)

equal : (a b : List ℕ) → is_eq (text_cmp a b) ≡ true → a ≡ b
equal a b e = exact_bytes a b (eq_is text_cmp kv_key nat_list_cmp_total _ e)

turned : (a b : List ℕ) → is_eq (text_cmp a b) ≡ false → is_eq (text_cmp b a) ≡ false
turned a b e = go (is_eq (text_cmp b a)) refl
  where
    go : (t : Bool) → is_eq (text_cmp b a) ≡ t → t ≡ false
    go true h = sym (itself b) ∙ ap (λ k. is_eq (text_cmp k b)) (equal b a h) ∙ e
    go false h = refl

own : (c : Change) (rows : List KvRow) → kv_at (change_key c) (made c rows) ≡ outcome c
unfolding outcome kv_delete
own (Put row) rows = row_at-put text_cmp kv_key nat_list_cmp_total exact_bytes row.key row rows ∙ ap (λ b. cond b (Some row) (kv_at row.key rows)) (itself row.key)
own (Removed key) rows = row_at-filter_none text_cmp kv_key nat_list_cmp_total exact_bytes (λ k. not (is_eq (text_cmp key k))) key (ap not (itself key)) rows

other : (c : Change) (q : List ℕ) (rows : List KvRow) → of_key q c ≡ false → kv_at q (made c rows) ≡ kv_at q rows
unfolding of_key kv_delete
other (Put row) q rows e = row_at-put text_cmp kv_key nat_list_cmp_total exact_bytes q row rows ∙ ap (λ b. cond b (Some row) (kv_at q rows)) (turned row.key q e)
other (Removed key) q rows e = row_at-filter text_cmp kv_key nat_list_cmp_total exact_bytes (λ k. not (is_eq (text_cmp key k))) q (ap not e) rows

or_right : (a b : Bool) → b ≡ true → (a || b) ≡ true
or_right true b e = refl
or_right false b e = e

or_none : (a b : Bool) → (a || b) ≡ false → (a ≡ false) × (b ≡ false)
or_none true b e = absurd (true≢false e)
or_none false b e = (refl, e)

untouched : (changes : List Change) (q : List ℕ) (rows : List KvRow) → list_any (of_key q) changes ≡ false → kv_at q (changed changes rows) ≡ kv_at q rows
untouched [] q rows e = refl
untouched (c ∷ changes) q rows e =
    let parts : (of_key q c ≡ false) × (list_any (of_key q) changes ≡ false) = or_none (of_key q c) (list_any (of_key q) changes) e in
    untouched changes q (made c rows) parts.1 ∙ other c q rows parts.0

all_behind : (changes : List Change) (key : List ℕ) → AllByRecursion (λ c. text_cmp key (change_key c) ≡ Less) changes → list_any (of_key key) changes ≡ false
unfolding of_key
all_behind [] key h = refl
all_behind (c ∷ changes) key h = ap (λ b. b || list_any (of_key key) changes) (turned key (change_key c) (ap is_eq h.0)) ∙ all_behind changes key h.1

outcomes : (changes : List Change) (rows : List KvRow) → Ascends text_cmp change_key changes → AllByRecursion (λ c. kv_at (change_key c) (changed changes rows) ≡ outcome c) changes
outcomes [] rows asc = tt
outcomes (c ∷ changes) rows asc = (untouched changes (change_key c) (made c rows) (all_behind changes (change_key c) asc.0) ∙ own c rows, outcomes changes (made c rows) asc.1)

-- 3. The channels.
abbrev pub keys_of : List Change → List Chan
keys_of changes = map (λ c. Key (change_key c)) changes

all_both : {A : Type 0} (P Q R : A → Type 0) → ((x : A) → P x → Q x → R x) → (xs : List A) → AllByRecursion P xs → AllByRecursion Q xs → AllByRecursion R xs
all_both P Q R f [] p q = tt
all_both P Q R f (x ∷ xs) p q = (f x p.0 q.0, all_both P Q R f xs p.1 q.1)

contains_more : (chans : List Chan) (c d : Chan) → Contains chans c → Contains (d ∷ chans) c
contains_more chans c d (k, low, is) = (suc k, omega (arith, low), is)

contains_key : (changes : List Change) (q : List ℕ) → list_any (of_key q) changes ≡ true → Contains (keys_of changes) (Key q)
unfolding of_key
contains_key [] q e = absurd (false≢true e)
contains_key (c ∷ changes) q e = go (is_eq (text_cmp (change_key c) q)) refl e (λ h. contains_key changes q h)
  where
    go : (t : Bool) → is_eq (text_cmp (change_key c) q) ≡ t → (t || list_any (of_key q) changes) ≡ true → (list_any (of_key q) changes ≡ true → Contains (keys_of changes) (Key q)) → Contains (Key (change_key c) ∷ keys_of changes) (Key q)
    go true h e tail = (0, omega arith, ap (λ k. Key k) (equal (change_key c) q h))
    go false h e tail = contains_more (keys_of changes) (Key q) (Key (change_key c)) (tail e)

all_keys : (P : Chan → Type 0) (changes : List Change) → AllByRecursion (λ c. P (Key (change_key c))) changes → AllByRecursion P (keys_of changes)
all_keys P [] h = tt
all_keys P (c ∷ changes) h = (h.0, all_keys P changes h.1)

keys_map : (changes : List Change) → map (λ key. Key key) (map change_key changes) ≡ keys_of changes
keys_map [] = refl
keys_map (c ∷ changes) = ap (λ l. Key (change_key c) ∷ l) (keys_map changes)

all_map : (P : List ℕ → Type 0) (changes : List Change) → AllByRecursion (λ c. P (change_key c)) changes → AllByRecursion P (map change_key changes)
all_map P [] h = tt
all_map P (c ∷ changes) h = (h.0, all_map P changes h.1)

asc_map : (changes : List Change) → Ascends text_cmp change_key changes → Ascends text_cmp (λ key. key) (map change_key changes)
asc_map [] asc = tt
asc_map (c ∷ changes) asc = (all_map (λ k. text_cmp (change_key c) k ≡ Less) changes asc.0, asc_map changes asc.1)

-- 4. The tombstones.
removes : (List ℕ → Bool) → Change → Bool
removes test (Put row) = false
removes test (Removed key) = test key

puts : (List ℕ → Bool) → Change → Bool
puts test (Put row) = test row.key
puts test (Removed key) = false

lost : (List ℕ → Bool) → List KvRow → KvRow → Bool
lost test after r = test r.key && not (is_some (kv_at r.key after))

one_later : (a b : Bool) (i n m : ℕ) → m ≡ cond b (max i n) n → cond a (max i m) m ≡ cond (a || b) (max i n) n
one_later true true i n m e = omega (arith, e)
one_later true false i n m e = ap (max i) e
one_later false b i n m e = e

graves_any : (test : List ℕ → Bool) (floor i : ℕ) (changes : List Change) (tombs : List (List ℕ × ℕ)) → last_tomb test floor (graves_of i changes tombs) ≡ later (list_any (removes test) changes) i (last_tomb test floor tombs)
unfolding later removes
graves_any test floor i [] tombs = refl
graves_any test floor i (Put row ∷ changes) tombs = graves_any test floor i changes tombs
graves_any test floor i (Removed key ∷ changes) tombs = one_later (test key) (list_any (removes test) changes) i (last_tomb test floor tombs) _ (graves_any test floor i changes tombs)

buried_any : (test : List ℕ → Bool) (floor i : ℕ) (after rows : List KvRow) (tombs : List (List ℕ × ℕ)) → last_tomb test floor (buried i after rows tombs) ≡ later (list_any (lost test after) rows) i (last_tomb test floor tombs)
unfolding later lost
buried_any test floor i after [] tombs = refl
buried_any test floor i after (r ∷ rows) tombs = go (is_some (kv_at r.key after)) (buried_any test floor i after rows tombs)
  where
    rest : List (List ℕ × ℕ)
    rest = buried i after rows tombs

    more : Bool
    more = list_any (lost test after) rows

    n : ℕ
    n = last_tomb test floor tombs

    kept : (t : Bool) (m : ℕ) → m ≡ cond more (max i n) n → m ≡ cond ((t && false) || more) (max i n) n
    kept true m e = e
    kept false m e = e

    gone : (t : Bool) (m : ℕ) → m ≡ cond more (max i n) n → cond t (max i m) m ≡ cond ((t && true) || more) (max i n) n
    gone true m e = one_later true more i n m e
    gone false m e = one_later false more i n m e

    go : (s : Bool) → last_tomb test floor rest ≡ cond more (max i n) n → last_tomb test floor (cond s rest ((r.key, i) ∷ rest)) ≡ cond ((test r.key && not s) || more) (max i n) n
    go true e = kept (test r.key) (last_tomb test floor rest) e
    go false e = gone (test r.key) (last_tomb test floor rest) e

any_all : {A : Type 0} (Q : Type 0) (p : A → Bool) (xs : List A) → AllByRecursion (λ x. p x ≡ true → Q) xs → list_any p xs ≡ true → Q
any_all Q p [] h e = absurd (false≢true e)
any_all Q p (x ∷ xs) h e = go (p x) refl e (any_all Q p xs h.1)
  where
    go : (b : Bool) → p x ≡ b → (b || list_any p xs) ≡ true → (list_any p xs ≡ true → Q) → Q
    go true t f tail = h.0 t
    go false t f tail = tail f

same_bools : (a b : Bool) → (a ≡ true → b ≡ true) → (b ≡ true → a ≡ true) → a ≡ b
same_bools true b f g = sym (f refl)
same_bools false true f g = g refl
same_bools false false f g = refl

both_hold : (a b : Bool) → (a && not b) ≡ true → (a ≡ true) × (b ≡ false)
both_hold true true e = absurd (false≢true e)
both_hold true false e = (refl, refl)
both_hold false b e = absurd (false≢true e)

-- a row that is lost is found
row_lost : (test : List ℕ → Bool) (after : List KvRow) (key : List ℕ) → test key ≡ true → kv_at key after ≡ None → (rows : List KvRow) → is_some (kv_at key rows) ≡ true → list_any (lost test after) rows ≡ true
unfolding lost
row_lost test after key t none [] e = absurd (false≢true e)
row_lost test after key t none (r ∷ rows) e = go (is_eq (text_cmp key r.key)) refl e (λ h. row_lost test after key t none rows h)
  where
    here : key ≡ r.key → (test r.key && not (is_some (kv_at r.key after))) ≡ true
    here same = ap (λ k. test k && not (is_some (kv_at k after))) (sym same) ∙ ap (λ b. b && not (is_some (kv_at key after))) t ∙ ap (λ o. not (is_some o)) none

    go : (b : Bool) → is_eq (text_cmp key r.key) ≡ b → is_some (cond b (Some r) (kv_at key rows)) ≡ true → (is_some (kv_at key rows) ≡ true → list_any (lost test after) rows ≡ true) → ((test r.key && not (is_some (kv_at r.key after))) || list_any (lost test after) rows) ≡ true
    go true h f tail = ap (λ b. b || list_any (lost test after) rows) (here (equal key r.key h))
    go false h f tail = or_right (test r.key && not (is_some (kv_at r.key after))) (list_any (lost test after) rows) (tail f)

-- a key of the changes that has no row after them is removed by one
removed_by : (test : List ℕ → Bool) (after : List KvRow) (q : List ℕ) → test q ≡ true → is_some (kv_at q after) ≡ false → (changes : List Change) → AllByRecursion (λ c. kv_at (change_key c) after ≡ outcome c) changes → list_any (of_key q) changes ≡ true → list_any (removes test) changes ≡ true
unfolding removes of_key outcome
removed_by test after q t none [] outs e = absurd (false≢true e)
removed_by test after q t none (Put row ∷ changes) outs e = go (is_eq (text_cmp row.key q)) refl e (removed_by test after q t none changes outs.1)
  where
    go : (b : Bool) → is_eq (text_cmp row.key q) ≡ b → (b || list_any (of_key q) changes) ≡ true → (list_any (of_key q) changes ≡ true → list_any (removes test) changes ≡ true) → list_any (removes test) changes ≡ true
    go true h f tail = absurd (true≢false (sym (ap is_some outs.0) ∙ ap (λ k. is_some (kv_at k after)) (equal row.key q h) ∙ none))
    go false h f tail = tail f
removed_by test after q t none (Removed key ∷ changes) outs e = go (is_eq (text_cmp key q)) refl e (removed_by test after q t none changes outs.1)
  where
    go : (b : Bool) → is_eq (text_cmp key q) ≡ b → (b || list_any (of_key q) changes) ≡ true → (list_any (of_key q) changes ≡ true → list_any (removes test) changes ≡ true) → (test key || list_any (removes test) changes) ≡ true
    go true h f tail = ap (λ b. b || list_any (removes test) changes) (ap test (equal key q h) ∙ t)
    go false h f tail = or_right (test key) (list_any (removes test) changes) (tail f)

-- whether a row is put whose key passes the test
misses_all : (test : List ℕ → Bool) (changes : List Change) → list_any (puts test) changes ≡ false → AllByRecursion (λ c. Misses test c) changes
unfolding puts
misses_all test [] e = tt
misses_all test (Put row ∷ changes) e = let parts : (test row.key ≡ false) × (list_any (puts test) changes ≡ false) = or_none (test row.key) (list_any (puts test) changes) e in (parts.0, misses_all test changes parts.1)
misses_all test (Removed key ∷ changes) e = (tt, misses_all test changes e)

-- 5. What they move.
module _ (i : ℕ) (changes : List Change) (old new : KvVersions) (earlier : Earlier i old.now.rows) (asc : Ascends text_cmp change_key changes) (are : AllByRecursion (λ c. IsChange i old.now.rows c) changes) (makes : MakesEach changes i old new) where
  abbrev before : List KvRow
  before = old.now.rows

  abbrev after : List KvRow
  after = new.now.rows

  outs : AllByRecursion (λ c. kv_at (change_key c) after ≡ outcome c) changes
  outs = subst (λ rows. AllByRecursion (λ c. kv_at (change_key c) rows ≡ outcome c) changes) (sym makes.rows) (outcomes changes before asc)

  stays : (q : List ℕ) → list_any (of_key q) changes ≡ false → kv_at q after ≡ kv_at q before
  stays q e = ap (kv_at q) makes.rows ∙ untouched changes q before e

  fires_key : (q : List ℕ) → not (same_found same_kv (kv_at q before) (kv_at q after)) ≡ true → Contains (keys_of changes) (Key q)
  fires_key q e = go (list_any (of_key q) changes) refl
    where
      go : (b : Bool) → list_any (of_key q) changes ≡ b → Contains (keys_of changes) (Key q)
      go true h = contains_key changes q h
      go false h = absurd (false≢true (sym (key_quiet before after q (stays q h)) ∙ e))

  fires_of : (c : Change) → IsChange i before c → kv_at (change_key c) after ≡ outcome c → keys_fire false before after (Key (change_key c)) ≡ true
  unfolding outcome
  fires_of (Put row) at out = ap (λ o. not (same_found same_kv (kv_at row.key before) o)) out ∙ go (kv_at row.key before) refl
    where
      differs : (r : KvRow) (b : Bool) → same_kv r row ≡ b → r.modify < i → not b ≡ true
      differs r true e low = absurd (let same : r.modify ≡ row.modify = ap (λ x. x.modify) ((kv_decides r row).0 e) in omega (arith, same, at, low))
      differs r false e low = refl

      go : (o : Option KvRow) → kv_at row.key before ≡ o → not (same_found same_kv o (Some row)) ≡ true
      go None e = refl
      go (Some r) e = differs r (same_kv r row) refl (found_all (λ x. x.modify < i) before row.key r earlier e)
  fires_of (Removed key) at out = ap (λ o. not (same_found same_kv (kv_at key before) o)) out ∙ go (kv_at key before) at
    where
      go : (o : Option KvRow) → is_some o ≡ true → not (same_found same_kv o None) ≡ true
      go None e = absurd (false≢true e)
      go (Some r) e = refl

  lost_is_removed : (test : List ℕ → Bool) → list_any (lost test after) before ≡ true → list_any (removes test) changes ≡ true
  unfolding lost
  lost_is_removed test = any_all (list_any (removes test) changes ≡ true) (lost test after) before (All-weaker (λ r. is_some (kv_at r.key before) ≡ true) (λ r. lost test after r ≡ true → list_any (removes test) changes ≡ true) of_row before (own_row before))
    where
      of_row : (r : KvRow) → is_some (kv_at r.key before) ≡ true → (test r.key && not (is_some (kv_at r.key after))) ≡ true → list_any (removes test) changes ≡ true
      of_row r there e = go (list_any (of_key r.key) changes) refl
        where
          parts : (test r.key ≡ true) × (is_some (kv_at r.key after) ≡ false)
          parts = both_hold (test r.key) (is_some (kv_at r.key after)) e

          go : (b : Bool) → list_any (of_key r.key) changes ≡ b → list_any (removes test) changes ≡ true
          go true h = removed_by test after r.key parts.0 parts.1 changes outs h
          go false h = absurd (true≢false (sym there ∙ sym (ap is_some (stays r.key h)) ∙ parts.1))

  removed_is_lost : (test : List ℕ → Bool) → list_any (removes test) changes ≡ true → list_any (lost test after) before ≡ true
  unfolding removes outcome
  removed_is_lost test = any_all (list_any (lost test after) before ≡ true) (removes test) changes (all_both (λ c. IsChange i before c) (λ c. kv_at (change_key c) after ≡ outcome c) (λ c. removes test c ≡ true → list_any (lost test after) before ≡ true) of_change changes are outs)
    where
      of_change : (c : Change) → IsChange i before c → kv_at (change_key c) after ≡ outcome c → removes test c ≡ true → list_any (lost test after) before ≡ true
      of_change (Put row) at out e = absurd (false≢true e)
      of_change (Removed key) at out e = row_lost test after key e out before at

  same_graves : SameTombs (buried i after before old.now.tombs) (graves_of i changes old.now.tombs)
  same_graves test floor =
      buried_any test floor i after before old.now.tombs
      ∙ ap (λ b. later b i (last_tomb test floor old.now.tombs)) (same_bools (list_any (lost test after) before) (list_any (removes test) changes) (lost_is_removed test) (removed_is_lost test))
      ∙ sym (graves_any test floor i changes old.now.tombs)

  -- where a row is put whose key passes the test, and where none is
  by_put : (test : List ℕ → Bool) (Q : Type 0) → ((row : KvRow) → test row.key ≡ true → kv_at row.key after ≡ Some row → row.modify ≡ i → Q) → list_any (puts test) changes ≡ true → Q
  unfolding puts outcome
  by_put test Q f = any_all Q (puts test) changes (all_both (λ c. IsChange i before c) (λ c. kv_at (change_key c) after ≡ outcome c) (λ c. puts test c ≡ true → Q) of_change changes are outs)
    where
      of_change : (c : Change) → IsChange i before c → kv_at (change_key c) after ≡ outcome c → puts test c ≡ true → Q
      of_change (Put row) at out e = f row e out at
      of_change (Removed key) at out e = absurd (false≢true e)

  quiet_tombs : (test : List ℕ → Bool) → list_any (puts test) changes ≡ false → last_tomb test new.now.floor new.now.tombs ≡ last_tomb test old.now.floor (buried i after before old.now.tombs)
  quiet_tombs test e = makes.others test new.now.floor (misses_all test changes e) ∙ sym (same_graves test new.now.floor) ∙ ap (λ f. last_tomb test f (buried i after before old.now.tombs)) makes.floor

  abbrev mine : (List ℕ → Bool) → ℕ
  mine test = last_tomb test new.now.floor new.now.tombs

  abbrev theirs : (List ℕ → Bool) → ℕ
  theirs test = last_tomb test old.now.floor (buried i after before old.now.tombs)

  under_tombs : (test : List ℕ → Bool) → max i (mine test) ≡ max i (theirs test)
  under_tombs test = makes.under are test new.now.floor ∙ ap (max i) (sym (same_graves test new.now.floor) ∙ ap (λ f. last_tomb test f (buried i after before old.now.tombs)) makes.floor)

  key_same : (q : List ℕ) → key_index q after new.now.tombs new.now.floor ≡ key_index q after (buried i after before old.now.tombs) old.now.floor
  key_same q = go (list_any (puts (λ k. same_text k q)) changes) refl
    where
      found : (row : KvRow) → same_text row.key q ≡ true → kv_at row.key after ≡ Some row → row.modify ≡ i → row_index (kv_at q after) (mine (λ k. same_text k q)) ≡ row_index (kv_at q after) (theirs (λ k. same_text k q))
      found row e there at =
          let here : kv_at q after ≡ Some row = ap (λ k. kv_at k after) (sym ((text_decides row.key q).0 e)) ∙ there in
          ap (λ o. row_index o (mine (λ k. same_text k q))) here ∙ sym (ap (λ o. row_index o (theirs (λ k. same_text k q))) here)

      go : (b : Bool) → list_any (puts (λ k. same_text k q)) changes ≡ b → row_index (kv_at q after) (mine (λ k. same_text k q)) ≡ row_index (kv_at q after) (theirs (λ k. same_text k q))
      go true h = by_put (λ k. same_text k q) (row_index (kv_at q after) (mine (λ k. same_text k q)) ≡ row_index (kv_at q after) (theirs (λ k. same_text k q))) found h
      go false h = ap (row_index (kv_at q after)) (quiet_tombs (λ k. same_text k q) h)

  prefix_same : (p : List ℕ) → prefix_index p after new.now.tombs new.now.floor ≡ prefix_index p after (buried i after before old.now.tombs) old.now.floor
  prefix_same p = go (list_any (puts (has_prefix p)) changes) refl
    where
      found : (row : KvRow) → has_prefix p row.key ≡ true → kv_at row.key after ≡ Some row → row.modify ≡ i → last_modify (has_prefix p) (mine (has_prefix p)) after ≡ last_modify (has_prefix p) (theirs (has_prefix p)) after
      found row e there at =
          let low : row.modify ≤ last_modify (has_prefix p) 0 after = modify_of_row (has_prefix p) 0 after row.key row e there in
          omega (arith, low, at, last_modify-max (has_prefix p) (mine (has_prefix p)) after, last_modify-max (has_prefix p) (theirs (has_prefix p)) after, under_tombs (has_prefix p))

      go : (b : Bool) → list_any (puts (has_prefix p)) changes ≡ b → last_modify (has_prefix p) (mine (has_prefix p)) after ≡ last_modify (has_prefix p) (theirs (has_prefix p)) after
      go true h = by_put (has_prefix p) (last_modify (has_prefix p) (mine (has_prefix p)) after ≡ last_modify (has_prefix p) (theirs (has_prefix p)) after) found h
      go false h = ap (λ n. last_modify (has_prefix p) n after) (quiet_tombs (has_prefix p) h)

  pub changes_move : Moves i old new (keys_of changes)
  changes_move = record {
    indexes = record { keys = key_same; prefixes = prefix_same };
    fires = record {
      every = keys_only before after (λ chan. Contains (keys_of changes) chan) fires_key;
      just = all_keys (λ chan. keys_fire false before after chan ≡ true) changes (all_both (λ c. IsChange i before c) (λ c. kv_at (change_key c) after ≡ outcome c) (λ c. keys_fire false before after (Key (change_key c)) ≡ true) fires_of changes are outs);
      once = subst Once (keys_map changes) (chans_once (λ key. true) (map change_key changes) (asc_map changes asc));
    };
    before = makes.before;
  }

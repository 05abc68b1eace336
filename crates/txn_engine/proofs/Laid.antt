-- A list of changes laid over rows: for each key it shows the row of its change, or the row below.
use Rattle.std.proofs.Common.{◌≡◌, ℕ, Bool, true, false, not, cond, List, [], ◌∷◌, ◌++◌, refl, sym, ◌∙◌, ap, subst, Option, Some, None, is_some, ◌⊎◌, inl, inr, filter}
use Rattle.std.specs.List.{AllByRecursion}
use Rattle.std.specs.declared.cmp.Ordering.{Ordering}
use Rattle.std.specs.declared.cmp.Ordering.TheVariants.{Less, Equal, Greater}
use Rattle.std.specs.Ordering.{is_eq, is_lt, is_gt, ordering_reverse}
use Rattle.std.proofs.lemmas.Cmp.{nat_list_cmp_total}
use Rattle.std.proofs.lemmas.Map.Lookups.{exact_bytes}
use Rattle.std.proofs.lemmas.Bool.{true≢false}
use Rattle.cat_model.specs.Keys.{text_cmp, has_prefix}
use Rattle.cat_model.specs.Tables.{row_at, put, Ascends, same_found}
use Rattle.cat_model.specs.Same.{same_kv}
use Rattle.cat_model.specs.Catalog.{kv_at, kv_key}
use Rattle.cat_model.specs.Kv.{put_kv, kv_delete, kv_delete_tree}
use Rattle.cat_model.specs.declared.row.KvRow.{KvRow}
use Rattle.cat_model.proofs.SameLemmas.{kv_decides}
use Rattle.cat_model.proofs.TableLemmas.{All-weaker, All-filter_test, Ascends-filter, Ascends-put, row_at-below, row_at-filter, eq_is, equal_or_differs, Differs}
use Rattle.cat_model.proofs.Lookups.{row_at-put, row_at-filter_none}
use Rattle.cat_model.proofs.InOrder.{key_of_found, row_at-where, row_where}
use Rattle.txn_engine.specs.declared.change.Change.{Change}
use Rattle.txn_engine.specs.declared.change.Change.TheVariants.{Put, Removed}
use Rattle.txn_engine.specs.Changes.{change_key, made, changed, can_be_made}
use Rattle.txn_engine.specs.Outcomes.{each_removed, LeadTo}

-- 1. Lists of rows in the order of their keys are the same where they have the same row of each key.
same_itself : (o : Option KvRow) → same_found same_kv o o ≡ true
same_itself None = refl
same_itself (Some r) = (kv_decides r r).1 refl

all_units : (rows : List KvRow) → AllByRecursion (λ r. Unit {0}) rows
all_units [] = tt
all_units (r ∷ rows) = (tt, all_units rows)

pub same_rows : (xs ys : List KvRow) → Ascends text_cmp kv_key xs → Ascends text_cmp kv_key ys → ((k : List ℕ) → kv_at k xs ≡ kv_at k ys) → xs ≡ ys
same_rows xs ys ax ay same = go (equal_or_differs text_cmp kv_key nat_list_cmp_total same_kv kv_decides (λ k. Unit {0}) xs ys ax ay (all_units xs) (all_units ys))
  where
    go : (xs ≡ ys) ⊎ Differs text_cmp kv_key same_kv (λ k. Unit {0}) xs ys → xs ≡ ys
    go (inl e) = e
    go (inr d) = absurd (true≢false (sym (same_itself (kv_at d.at ys)) ∙ ap (λ o. same_found same_kv o (kv_at d.at ys)) (sym (same d.at)) ∙ d.differs))

-- 2. One change.
eq_reversed : (o : Ordering) → is_eq (ordering_reverse o) ≡ is_eq o
eq_reversed Less = refl
eq_reversed Equal = refl
eq_reversed Greater = refl

eq_turned : (a b : List ℕ) → is_eq (text_cmp a b) ≡ is_eq (text_cmp b a)
eq_turned a b = ap is_eq (nat_list_cmp_total.antisymm a b) ∙ eq_reversed (text_cmp b a)

at_delete : (k key : List ℕ) (rows : List KvRow) → kv_at k (kv_delete key rows) ≡ cond (is_eq (text_cmp k key)) None (kv_at k rows)
unfolding kv_delete
at_delete k key rows = go (is_eq (text_cmp k key)) refl
  where
    go : (b : Bool) → is_eq (text_cmp k key) ≡ b → kv_at k (filter (λ r. not (is_eq (text_cmp key r.key))) rows) ≡ cond b None (kv_at k rows)
    go true e = row_at-filter_none text_cmp kv_key nat_list_cmp_total exact_bytes (λ q. not (is_eq (text_cmp key q))) k (ap not (eq_turned key k ∙ e)) rows
    go false e = row_at-filter text_cmp kv_key nat_list_cmp_total exact_bytes (λ q. not (is_eq (text_cmp key q))) k (ap not (eq_turned key k ∙ e)) rows

abbrev pub laid : Option Change → Option KvRow → Option KvRow
laid None old = old
laid (Some (Put row)) old = Some row
laid (Some (Removed key)) old = None

abbrev pub change_at : List ℕ → List Change → Option Change
change_at = row_at text_cmp change_key

at_made : (k : List ℕ) (c : Change) (rows : List KvRow) → kv_at k (made c rows) ≡ cond (is_eq (text_cmp k (change_key c))) (laid (Some c) (kv_at k rows)) (kv_at k rows)
at_made k (Put row) rows = row_at-put text_cmp kv_key nat_list_cmp_total exact_bytes k row rows
at_made k (Removed key) rows = at_delete k key rows

delete_ascends : (key : List ℕ) (rows : List KvRow) → Ascends text_cmp kv_key rows → Ascends text_cmp kv_key (kv_delete key rows)
unfolding kv_delete
delete_ascends key rows asc = Ascends-filter text_cmp kv_key nat_list_cmp_total (λ r. not (is_eq (text_cmp key r.key))) rows asc

made_ascends : (c : Change) (rows : List KvRow) → Ascends text_cmp kv_key rows → Ascends text_cmp kv_key (made c rows)
made_ascends (Put row) rows asc = Ascends-put text_cmp kv_key nat_list_cmp_total row rows asc
made_ascends (Removed key) rows asc = delete_ascends key rows asc

-- 3. A list of changes.
pub changed_ascends : (cs : List Change) (rows : List KvRow) → Ascends text_cmp kv_key rows → Ascends text_cmp kv_key (changed cs rows)
changed_ascends [] rows asc = asc
changed_ascends (c ∷ cs) rows asc = changed_ascends cs (made c rows) (made_ascends c rows asc)

pub at_changed : (k : List ℕ) (cs : List Change) → Ascends text_cmp change_key cs → (rows : List KvRow) → kv_at k (changed cs rows) ≡ laid (change_at k cs) (kv_at k rows)
at_changed k [] asc rows = refl
at_changed k (c ∷ cs) asc rows = at_changed k cs asc.1 (made c rows) ∙ ap (laid (change_at k cs)) (at_made k c rows) ∙ go (is_eq (text_cmp k (change_key c))) refl
  where
    go : (b : Bool) → is_eq (text_cmp k (change_key c)) ≡ b → laid (change_at k cs) (cond b (laid (Some c) (kv_at k rows)) (kv_at k rows)) ≡ laid (cond b (Some c) (change_at k cs)) (kv_at k rows)
    go true e =
        let here : text_cmp k (change_key c) ≡ Equal = eq_is text_cmp change_key nat_list_cmp_total _ e in
        let none : change_at k cs ≡ None = row_at-below text_cmp change_key nat_list_cmp_total k cs (All-weaker (λ s. text_cmp (change_key c) (change_key s) ≡ Less) (λ s. text_cmp k (change_key s) ≡ Less) (λ s l. nat_list_cmp_total.congr k (change_key c) (change_key s) here ∙ l) cs asc.0) in
        ap (λ o. laid o (laid (Some c) (kv_at k rows))) none
    go false e = refl

-- the row of a key, by its change
pub shown : (k : List ℕ) (cs : List Change) (rows : List KvRow) → Ascends text_cmp change_key cs → (o : Option Change) → change_at k cs ≡ o → laid o (kv_at k rows) ≡ kv_at k (changed cs rows)
shown k cs rows asc o e = ap (λ a. laid a (kv_at k rows)) (sym e) ∙ sym (at_changed k cs asc rows)

hides : (c : Change) (a b : Option KvRow) → laid (Some c) a ≡ laid (Some c) b
hides (Put row) a b = refl
hides (Removed key) a b = refl

-- a change that is noted is made last
pub changed_put : (c : Change) (cs : List Change) (rows : List KvRow) → Ascends text_cmp change_key cs → Ascends text_cmp kv_key rows → changed (put text_cmp change_key c cs) rows ≡ made c (changed cs rows)
changed_put c cs rows ac ar =
    same_rows (changed (put text_cmp change_key c cs) rows) (made c (changed cs rows)) (changed_ascends (put text_cmp change_key c cs) rows ar) (made_ascends c (changed cs rows) (changed_ascends cs rows ar)) at
  where
    at : (k : List ℕ) → kv_at k (changed (put text_cmp change_key c cs) rows) ≡ kv_at k (made c (changed cs rows))
    at k =
        at_changed k (put text_cmp change_key c cs) (Ascends-put text_cmp change_key nat_list_cmp_total c cs ac) rows
        ∙ ap (λ o. laid o (kv_at k rows)) (row_at-put text_cmp change_key nat_list_cmp_total exact_bytes k c cs)
        ∙ go (is_eq (text_cmp k (change_key c)))
        ∙ sym (at_made k c (changed cs rows))
      where
        go : (b : Bool) → laid (cond b (Some c) (change_at k cs)) (kv_at k rows) ≡ cond b (laid (Some c) (kv_at k (changed cs rows))) (kv_at k (changed cs rows))
        go true = hides c (kv_at k rows) (kv_at k (changed cs rows))
        go false = sym (at_changed k cs ac rows)

-- the rows under a prefix are changed by the changes under it
pub changed_under : (prefix : List ℕ) (cs : List Change) (rows : List KvRow) → Ascends text_cmp change_key cs → Ascends text_cmp kv_key rows
    → changed (filter (λ c. has_prefix prefix (change_key c)) cs) (filter (λ r. has_prefix prefix r.key) rows) ≡ filter (λ r. has_prefix prefix r.key) (changed cs rows)
changed_under prefix cs rows ac ar =
    same_rows (changed cs' rows') (filter (λ r. has_prefix prefix r.key) (changed cs rows)) (changed_ascends cs' rows' (Ascends-filter text_cmp kv_key nat_list_cmp_total (λ r. has_prefix prefix r.key) rows ar)) (Ascends-filter text_cmp kv_key nat_list_cmp_total (λ r. has_prefix prefix r.key) (changed cs rows) (changed_ascends cs rows ar)) at
  where
    cs' : List Change
    cs' = filter (λ c. has_prefix prefix (change_key c)) cs

    rows' : List KvRow
    rows' = filter (λ r. has_prefix prefix r.key) rows

    at : (k : List ℕ) → kv_at k (changed cs' rows') ≡ kv_at k (filter (λ r. has_prefix prefix r.key) (changed cs rows))
    at k = at_changed k cs' (Ascends-filter text_cmp change_key nat_list_cmp_total (λ c. has_prefix prefix (change_key c)) cs ac) rows' ∙ go (has_prefix prefix k) refl
      where
        go : (b : Bool) → has_prefix prefix k ≡ b → laid (change_at k cs') (kv_at k rows') ≡ kv_at k (filter (λ r. has_prefix prefix r.key) (changed cs rows))
        go true e =
            ap (λ o. laid o (kv_at k rows')) (row_at-filter text_cmp change_key nat_list_cmp_total exact_bytes (has_prefix prefix) k e cs)
            ∙ ap (laid (change_at k cs)) (row_at-filter text_cmp kv_key nat_list_cmp_total exact_bytes (has_prefix prefix) k e rows)
            ∙ sym (at_changed k cs ac rows)
            ∙ sym (row_at-filter text_cmp kv_key nat_list_cmp_total exact_bytes (has_prefix prefix) k e (changed cs rows))
        go false e =
            ap (λ o. laid o (kv_at k rows')) (row_at-filter_none text_cmp change_key nat_list_cmp_total exact_bytes (has_prefix prefix) k e cs)
            ∙ row_at-filter_none text_cmp kv_key nat_list_cmp_total exact_bytes (has_prefix prefix) k e rows
            ∙ sym (row_at-filter_none text_cmp kv_key nat_list_cmp_total exact_bytes (has_prefix prefix) k e (changed cs rows))

-- removals of keys that are not there are none
pub changed_can : (cs : List Change) (rows : List KvRow) → Ascends text_cmp change_key cs → Ascends text_cmp kv_key rows → changed (filter (can_be_made rows) cs) rows ≡ changed cs rows
changed_can cs rows ac ar =
    same_rows (changed (filter (can_be_made rows) cs) rows) (changed cs rows) (changed_ascends (filter (can_be_made rows) cs) rows ar) (changed_ascends cs rows ar) at
  where
    at : (k : List ℕ) → kv_at k (changed (filter (can_be_made rows) cs) rows) ≡ kv_at k (changed cs rows)
    at k =
        at_changed k (filter (can_be_made rows) cs) (Ascends-filter text_cmp change_key nat_list_cmp_total (can_be_made rows) cs ac) rows
        ∙ ap (λ o. laid o (kv_at k rows)) (row_at-where text_cmp change_key nat_list_cmp_total exact_bytes (can_be_made rows) k cs ac)
        ∙ go (change_at k cs) refl
        ∙ sym (at_changed k cs ac rows)
      where
        absent : (o : Option KvRow) → laid (cond (is_some o) (Some (Removed k)) None) o ≡ None
        absent None = refl
        absent (Some r) = refl

        go : (o : Option Change) → change_at k cs ≡ o → laid (row_where (can_be_made rows) o) (kv_at k rows) ≡ laid o (kv_at k rows)
        go None e = refl
        go (Some (Put row)) e = refl
        go (Some (Removed key)) e =
            let same : k ≡ key = key_of_found text_cmp change_key nat_list_cmp_total exact_bytes k cs (Removed key) e in
            subst (λ q. laid (cond (is_some (kv_at q rows)) (Some (Removed q)) None) (kv_at k rows) ≡ None) same (absent (kv_at k rows))

pub can_lead : (cs : List Change) (rows : List KvRow) → Ascends text_cmp change_key cs → Ascends text_cmp kv_key rows → LeadTo rows (changed cs rows) (filter (can_be_made rows) cs)
can_lead cs rows ac ar = record {
  leads = changed_can cs rows ac ar;
  in_order = Ascends-filter text_cmp change_key nat_list_cmp_total (can_be_made rows) cs ac;
  can = All-filter_test (can_be_made rows) cs;
}

-- 4. The removal of a list of rows.
removed_ascends : (gone : List KvRow) (cs : List Change) → Ascends text_cmp change_key cs → Ascends text_cmp change_key (each_removed gone cs)
removed_ascends [] cs asc = asc
removed_ascends (r ∷ gone) cs asc = removed_ascends gone (put text_cmp change_key (Removed r.key) cs) (Ascends-put text_cmp change_key nat_list_cmp_total (Removed r.key) cs asc)

at_removed : (k : List ℕ) (old : Option KvRow) (gone : List KvRow) (cs : List Change) → laid (change_at k (each_removed gone cs)) old ≡ cond (is_some (kv_at k gone)) None (laid (change_at k cs) old)
at_removed k old [] cs = refl
at_removed k old (r ∷ gone) cs =
    at_removed k old gone (put text_cmp change_key (Removed r.key) cs)
    ∙ ap (λ o. cond (is_some (kv_at k gone)) None (laid o old)) (row_at-put text_cmp change_key nat_list_cmp_total exact_bytes k (Removed r.key) cs)
    ∙ go (is_eq (text_cmp k r.key))
  where
    nothing : Option KvRow
    nothing = None

    both : (b : Bool) → cond b nothing nothing ≡ nothing
    both true = refl
    both false = refl

    go : (e : Bool) → cond (is_some (kv_at k gone)) None (laid (cond e (Some (Removed r.key)) (change_at k cs)) old) ≡ cond (is_some (cond e (Some r) (kv_at k gone))) None (laid (change_at k cs) old)
    go true = both (is_some (kv_at k gone))
    go false = refl

pub changed_tree : (prefix : List ℕ) (cs : List Change) (rows : List KvRow) → Ascends text_cmp change_key cs → Ascends text_cmp kv_key rows
    → changed (each_removed (filter (λ r. has_prefix prefix r.key) (changed cs rows)) cs) rows ≡ kv_delete_tree prefix (changed cs rows)
unfolding kv_delete_tree
changed_tree prefix cs rows ac ar =
    same_rows (changed (each_removed under cs) rows) (filter (λ r. not (has_prefix prefix r.key)) (changed cs rows)) (changed_ascends (each_removed under cs) rows ar) (Ascends-filter text_cmp kv_key nat_list_cmp_total (λ r. not (has_prefix prefix r.key)) (changed cs rows) (changed_ascends cs rows ar)) at
  where
    under : List KvRow
    under = filter (λ r. has_prefix prefix r.key) (changed cs rows)

    at : (k : List ℕ) → kv_at k (changed (each_removed under cs) rows) ≡ kv_at k (filter (λ r. not (has_prefix prefix r.key)) (changed cs rows))
    at k =
        at_changed k (each_removed under cs) (removed_ascends under cs ac) rows
        ∙ at_removed k (kv_at k rows) under cs
        ∙ ap (cond (is_some (kv_at k under)) None) (sym (at_changed k cs ac rows))
        ∙ go (has_prefix prefix k) refl
      where
        lost : (o : Option KvRow) → cond (is_some o) None o ≡ None
        lost None = refl
        lost (Some r) = refl

        go : (b : Bool) → has_prefix prefix k ≡ b → cond (is_some (kv_at k under)) None (kv_at k (changed cs rows)) ≡ kv_at k (filter (λ r. not (has_prefix prefix r.key)) (changed cs rows))
        go true e =
            ap (λ o. cond (is_some o) None (kv_at k (changed cs rows))) (row_at-filter text_cmp kv_key nat_list_cmp_total exact_bytes (has_prefix prefix) k e (changed cs rows))
            ∙ lost (kv_at k (changed cs rows))
            ∙ sym (row_at-filter_none text_cmp kv_key nat_list_cmp_total exact_bytes (λ q. not (has_prefix prefix q)) k (ap not e) (changed cs rows))
        go false e =
            ap (λ o. cond (is_some o) None (kv_at k (changed cs rows))) (row_at-filter_none text_cmp kv_key nat_list_cmp_total exact_bytes (has_prefix prefix) k e (changed cs rows))
            ∙ sym (row_at-filter text_cmp kv_key nat_list_cmp_total exact_bytes (λ q. not (has_prefix prefix q)) k (ap not e) (changed cs rows))

-- 5. Rows put one after the other, from the last on.
above_first : (r : KvRow) (rows : List KvRow) → AllByRecursion (λ s. text_cmp r.key s.key ≡ Less) rows → put_kv r rows ≡ r ∷ rows
unfolding put
above_first r rows all = ap (λ l. l ++ r ∷ filter (λ s. is_gt (text_cmp s.key r.key)) rows) (no_smaller rows all) ∙ ap (λ l. r ∷ l) (all_greater rows all)
  where
    reversed : (s : KvRow) → text_cmp r.key s.key ≡ Less → text_cmp s.key r.key ≡ Greater
    reversed s h = nat_list_cmp_total.antisymm s.key r.key ∙ ap ordering_reverse h

    no_smaller : (l : List KvRow) → AllByRecursion (λ s. text_cmp r.key s.key ≡ Less) l → filter (λ s. is_lt (text_cmp s.key r.key)) l ≡ []
    no_smaller [] h = refl
    no_smaller (s ∷ l) h = ap (λ o. cond (is_lt o) (s ∷ filter (λ x. is_lt (text_cmp x.key r.key)) l) (filter (λ x. is_lt (text_cmp x.key r.key)) l)) (reversed s h.0) ∙ no_smaller l h.1

    all_greater : (l : List KvRow) → AllByRecursion (λ s. text_cmp r.key s.key ≡ Less) l → filter (λ s. is_gt (text_cmp s.key r.key)) l ≡ l
    all_greater [] h = refl
    all_greater (s ∷ l) h = ap (λ o. cond (is_gt o) (s ∷ filter (λ x. is_gt (text_cmp x.key r.key)) l) (filter (λ x. is_gt (text_cmp x.key r.key)) l)) (reversed s h.0) ∙ ap (λ m. s ∷ m) (all_greater l h.1)

ascends_behind : (xs ys : List KvRow) → Ascends text_cmp kv_key (xs ++ ys) → Ascends text_cmp kv_key ys
ascends_behind [] ys asc = asc
ascends_behind (x ∷ xs) ys asc = ascends_behind xs ys asc.1

append_more : (xs : List KvRow) (r : KvRow) (ys : List KvRow) → (xs ++ r ∷ []) ++ ys ≡ xs ++ r ∷ ys
append_more [] r ys = refl
append_more (x ∷ xs) r ys = ap (λ l. x ∷ l) (append_more xs r ys)

pub put_before : (all xs : List KvRow) (r : KvRow) (table : List KvRow) → Ascends text_cmp kv_key all → (xs ++ r ∷ []) ++ table ≡ all → xs ++ put_kv r table ≡ all
put_before all xs r table asc e =
    let whole : xs ++ r ∷ table ≡ all = sym (append_more xs r table) ∙ e in
    ap (λ l. xs ++ l) (above_first r table (ascends_behind xs (r ∷ table) (subst (Ascends text_cmp kv_key) (sym whole) asc)).0) ∙ whole

-- What the index of places tells of the rows.
use Rattle.std.proofs.Common.{◌≡◌, ℕ, Bool, true, false, ◌&&◌, ◌||◌, cond, List, [], ◌∷◌, ◌++◌, refl, sym, ◌∙◌, ap, append_assoc, Option, Some, None, filter, map, is_some, find}
use Rattle.std.specs.List.{filter_map}
use Rattle.std.specs.Ordering.{is_eq, nat_cmp}
use Rattle.std.proofs.lemmas.Cmp.{nat_cmp_total}
use Rattle.std.proofs.lemmas.List.Folds.{list_any-append}
use Rattle.std.proofs.lemmas.Map.Lookups.{exact_unsigned}
use Rattle.cat_model.specs.Catalog.{session_at, session_key}
use Rattle.cat_model.specs.Keys.{pair_cmp, same_text}
use Rattle.cat_model.specs.Tables.{Ascends}
use Rattle.cat_model.specs.declared.row.SessionRow.{SessionRow}
use Rattle.cat_model.proofs.Elements.{Ascends-map}
use Rattle.cat_model.proofs.Pairs.{exact_pair, pair_cmp_total}
use Rattle.cat_model.proofs.InOrder.{row_at-where, row_where}
use Rattle.cat_model.proofs.TableLemmas.{Ascends-filter}
use Rattle.row_table.specs.Filing.{filed_cmp, filed_key, keys_under}
use Rattle.row_table.specs.Tests.{passes}
use Rattle.row_table.proofs.Filed.{then_equal}
use Rattle.row_table.proofs.FiledUnder.{is_mine, keys_ascend, onward, rows_are, same_keys, same_test, walk_is}
use Rattle.row_table.proofs.Places.{least_number}
use Rattle.row_table.proofs.Spans.{leading}
use Rattle.session_table.specs.Nodes.{is_of_node, is_on, is_on_some}
use Rattle.session_table.specs.Places.{Place, Entries, has_entry, has_id, FilesPlaces}

found_map : {A B : Type 0} (f : B → Bool) (g : A → B) (xs : List A) → is_some (find f (map g xs)) ≡ is_some (find (λ x. f (g x)) xs)
found_map f g [] = refl
found_map f g (x ∷ xs) = go (f (g x)) (found_map f g xs)
  where
    go : (b : Bool) → is_some (find f (map g xs)) ≡ is_some (find (λ y. f (g y)) xs) → is_some (cond b (Some (g x)) (find f (map g xs))) ≡ is_some (cond b (Some x) (find (λ y. f (g y)) xs))
    go true rest = refl
    go false rest = rest

found_among : {A : Type 0} (f m : A → Bool) (xs : List A) → find f (filter m xs) ≡ find (λ x. m x && f x) xs
found_among f m [] = refl
found_among f m (x ∷ xs) = go (m x) (found_among f m xs)
  where
    go : (b : Bool) → find f (filter m xs) ≡ find (λ y. m y && f y) xs → find f (cond b (x ∷ filter m xs) (filter m xs)) ≡ cond (b && f x) (Some x) (find (λ y. m y && f y) xs)
    go true rest = ap (cond (f x) (Some x)) rest
    go false rest = rest

has_under : (q : Place) (k : ℕ) (entries : Entries) → has_id k (keys_under pair_cmp nat_cmp q entries) ≡ has_entry q k entries
has_under q k entries =
    found_map (λ j. is_eq (nat_cmp k j)) (λ (h : Place × ℕ). h.1) (filter (is_mine pair_cmp q) entries)
    ∙ ap is_some (found_among (λ (h : Place × ℕ). is_eq (nat_cmp k h.1)) (is_mine pair_cmp q) entries)
    ∙ ap (λ (t : Place × ℕ → Bool). is_some (find t entries)) (λ i h. sym (then_equal (pair_cmp q h.0) (nat_cmp k h.1)) i)

-- the identifier is that of a row that passes
pub has_passing : (test : SessionRow → Bool) (k : ℕ) (rows : List SessionRow) → Ascends nat_cmp session_key rows → has_id k (map session_key (filter test rows)) ≡ passes test (session_at k rows)
has_passing test k rows asc =
    found_map (λ j. is_eq (nat_cmp k j)) session_key (filter test rows) ∙ ap is_some (row_at-where nat_cmp session_key nat_cmp_total exact_unsigned test k rows asc) ∙ go (session_at k rows)
  where
    either : (b : Bool) (s : SessionRow) → is_some (cond b (Some s) None) ≡ b
    either true s = refl
    either false s = refl

    go : (o : Option SessionRow) → is_some (row_where test o) ≡ passes test o
    go None = refl
    go (Some s) = either (test s) s

-- identifiers in order that are those of the rows that pass
pub ids_are : (test : SessionRow → Bool) (rows : List SessionRow) (ids : List ℕ) → Ascends nat_cmp session_key rows → Ascends nat_cmp (λ (j : ℕ). j) ids → ((k : ℕ) → has_id k ids ≡ passes test (session_at k rows)) → ids ≡ map session_key (filter test rows)
ids_are test rows ids asc ordered has =
    same_keys nat_cmp nat_cmp_total exact_unsigned ids (map session_key (filter test rows)) ordered
    (Ascends-map nat_cmp session_key (filter test rows) (Ascends-filter nat_cmp session_key nat_cmp_total test rows asc))
    (λ k. has k ∙ sym (has_passing test k rows asc))

-- the identifiers that are filed at a place
ids_under : (q : Place) (rows : List SessionRow) (entries : Entries) → Ascends nat_cmp session_key rows → Ascends (filed_cmp pair_cmp nat_cmp) filed_key entries → FilesPlaces rows entries → keys_under pair_cmp nat_cmp q entries ≡ map session_key (filter (is_on q.0 q.1) rows)
ids_under q rows entries asc ordered files =
    ids_are (is_on q.0 q.1) rows (keys_under pair_cmp nat_cmp q entries) asc (keys_ascend pair_cmp nat_cmp pair_cmp_total nat_cmp_total exact_pair exact_unsigned q entries ordered) (λ k. has_under q k entries ∙ files q k)

-- the identifiers that are left of a walk over the entries of a place
abbrev pub ids_left : Place → Entries → List ℕ
ids_left q from = map (λ h. h.1) (leading (is_mine pair_cmp q) from)

pub walk_more : (q : Place) (found new : List ℕ) (h : Place × ℕ) (from rest : Entries) (all : List ℕ) → new ≡ found ++ h.1 ∷ [] → from ≡ h ∷ rest → is_mine pair_cmp q h ≡ true → found ++ ids_left q from ≡ all → new ++ ids_left q rest ≡ all
walk_more q found new h from rest all made is mine before =
    ap (λ l. l ++ ids_left q rest) made ∙ append_assoc found (h.1 ∷ []) (ids_left q rest)
    ∙ ap (λ l. found ++ l) (sym (ap (ids_left q) is ∙ ap (λ b. map (λ (g : Place × ℕ). g.1) (cond b (h ∷ leading (is_mine pair_cmp q) rest) [])) mine)) ∙ before

pub walk_over : (q : Place) (h : Place × ℕ) (from rest : Entries) → from ≡ h ∷ rest → is_mine pair_cmp q h ≡ false → ids_left q from ≡ []
walk_over q h from rest is other = ap (ids_left q) is ∙ ap (λ b. map (λ (g : Place × ℕ). g.1) (cond b (h ∷ leading (is_mine pair_cmp q) rest) [])) other

-- a walk from the least identifier of a place on comes to all that are filed there
abbrev pub ids_from : Place → Entries → List ℕ
ids_from q entries = ids_left q (onward pair_cmp nat_cmp q 0 entries)

pub walked : (q : Place) (rows : List SessionRow) (entries : Entries) → Ascends nat_cmp session_key rows → Ascends (filed_cmp pair_cmp nat_cmp) filed_key entries → FilesPlaces rows entries → ids_from q entries ≡ map session_key (filter (is_on q.0 q.1) rows)
walked q rows entries asc ordered files =
    ap (map (λ (h : Place × ℕ). h.1)) (walk_is pair_cmp nat_cmp pair_cmp_total nat_cmp_total exact_pair exact_unsigned q 0 least_number entries ordered) ∙ ids_under q rows entries asc ordered files

-- the sessions on one more check
pub one_more_check : (node check : List ℕ) (checks : List (List ℕ)) (o : Option SessionRow) → (passes (is_on node check) o || passes (is_on_some node checks) o) ≡ passes (is_on_some node (checks ++ check ∷ [])) o
one_more_check node check checks None = refl
one_more_check node check checks (Some s) = turn (is_on node check s) (is_on_some node checks s) ∙ sym (list_any-append (λ c. is_on node c s) checks (check ∷ []))
  where
    turn : (a b : Bool) → (a || b) ≡ (b || (a || false))
    turn true true = refl
    turn true false = refl
    turn false true = refl
    turn false false = refl

-- the rows of the identifiers of those that pass
pub rows_again : (test : SessionRow → Bool) (rows : List SessionRow) (ids : List ℕ) → Ascends nat_cmp session_key rows → ids ≡ map session_key (filter test rows) → filter_map (λ id. session_at id rows) ids ≡ filter test rows
rows_again test rows ids asc is = ap (filter_map (λ id. session_at id rows)) is ∙ rows_are nat_cmp session_key nat_cmp_total test rows asc

pub of_node_is : (node : List ℕ) (rows : List SessionRow) → filter (is_on node []) rows ≡ filter (is_of_node node) rows
of_node_is node rows = same_test (is_on node []) (is_of_node node) rows (λ s. go (same_text s.node node))
  where
    go : (b : Bool) → (b && true) ≡ b
    go true = refl
    go false = refl

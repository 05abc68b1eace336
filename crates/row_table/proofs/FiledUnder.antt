-- What is read from a second index: the keys that are filed under something, and the rows of those.
use Rattle.std.proofs.Common.{◌≡◌, Bool, true, false, ◌&&◌, cond, List, [], ◌∷◌, refl, sym, ◌∙◌, ap, Option, Some, None, filter, map, is_some}
use Rattle.std.specs.Prelude.{find}
use Rattle.std.specs.List.{AllByRecursion, filter_map, cons_option}
use Rattle.std.specs.Cmp.{IsTotalOrder}
use Rattle.std.specs.declared.cmp.Ordering.{Ordering}
use Rattle.std.specs.declared.cmp.Ordering.TheVariants.{Less, Equal, Greater}
use Rattle.std.specs.Ordering.{is_eq, is_ge, is_gt, ordering_then, ordering_reverse}
use Rattle.std.proofs.lemmas.Bool.{true≢false, false≢true}
use Rattle.std.proofs.lemmas.Cmp.{tied_itself, alike_right}
use Rattle.std.proofs.lemmas.Map.Lookups.{CmpEqualImpliesEq}
use Rattle.cat_model.specs.Tables.{row_at, Ascends}
use Rattle.cat_model.proofs.TableLemmas.{row_at-below, All-weaker, All-filter, Ascends-filter}
use Rattle.cat_model.proofs.Elements.{Ascends-map}
use Rattle.row_table.specs.Filing.{filed_cmp, filed_key, keys_under, is_place, place_of, Files}
use Rattle.row_table.specs.Walks.{first_row}
use Rattle.row_table.proofs.Filed.{equal_is, then_equal}
use Rattle.row_table.proofs.Spans.{leading, leading_is}

-- lists in order with the same elements are the same
module _ {K : Type 0} (cmp : K → K → Ordering) (total : IsTotalOrder cmp) (exact : CmpEqualImpliesEq cmp) where
  abbrev has : K → List K → Bool
  has k keys = is_some (row_at cmp (λ (j : K). j) k keys)

  lacks : (k : K) (keys : List K) → AllByRecursion (λ j. cmp k j ≡ Less) keys → has k keys ≡ false
  lacks k keys all = ap is_some (row_at-below cmp (λ (j : K). j) total k keys all)

  has_first : (k : K) (keys : List K) → has k (k ∷ keys) ≡ true
  has_first k keys = ap (λ o. is_some (cond (is_eq o) (Some k) (row_at cmp (λ (j : K). j) k keys))) (tied_itself total k)

  lower : (x y : K) (ys : List K) → cmp x y ≡ Less → AllByRecursion (λ j. cmp y j ≡ Less) ys → AllByRecursion (λ j. cmp x j ≡ Less) ys
  lower x y ys l all = All-weaker (λ j. cmp y j ≡ Less) (λ j. cmp x j ≡ Less) (λ j m. total.trans x y j l m) ys all

  pub same_keys : (xs ys : List K) → Ascends cmp (λ k. k) xs → Ascends cmp (λ k. k) ys → ((k : K) → has k xs ≡ has k ys) → xs ≡ ys
  same_keys [] [] ax ay same = refl
  same_keys [] (y ∷ ys) ax ay same = absurd (false≢true (same y ∙ has_first y ys))
  same_keys (x ∷ xs) [] ax ay same = absurd (true≢false (sym (has_first x xs) ∙ same x))
  same_keys (x ∷ xs) (y ∷ ys) ax ay same = go (cmp x y) refl (same_keys xs ys ax.1 ay.1)
    where
      behind : x ≡ y → (k : K) → has k xs ≡ has k ys
      behind is k = on (is_eq (cmp k x)) refl
        where
          on : (e : Bool) → is_eq (cmp k x) ≡ e → has k xs ≡ has k ys
          on true e =
              let at : k ≡ x = exact k x (equal_is (cmp k x) e) in
              ap (λ j. has j xs) at ∙ lacks x xs ax.0 ∙ sym (ap (λ j. has j ys) (at ∙ is) ∙ lacks y ys ay.0)
          on false e =
              sym (ap (λ b. is_some (cond b (Some x) (row_at cmp (λ (j : K). j) k xs))) e) ∙ same k
              ∙ ap (λ b. is_some (cond b (Some y) (row_at cmp (λ (j : K). j) k ys))) (ap (λ j. is_eq (cmp k j)) (sym is) ∙ e)

      go : (o : Ordering) → cmp x y ≡ o → (((k : K) → has k xs ≡ has k ys) → xs ≡ ys) → x ∷ xs ≡ y ∷ ys
      go Less o rest = absurd (true≢false (sym (has_first x xs) ∙ same x ∙ lacks x (y ∷ ys) (o, lower x y ys o ay.0)))
      go Equal o rest = λ i. exact x y o i ∷ rest (behind (exact x y o)) i
      go Greater o rest =
          let back : cmp y x ≡ Less = total.antisymm y x ∙ ap ordering_reverse o in
          absurd (false≢true (sym (lacks y (x ∷ xs) (back, lower y x xs back ax.0)) ∙ same y ∙ has_first y ys))

-- the pair is filed under this
abbrev pub is_mine : {S K : Type 0} → (S → S → Ordering) → S → S × K → Bool
is_mine cmp_s s h = is_eq (cmp_s s h.0)

-- the pairs from a place's least key on
abbrev pub onward : {S K : Type 0} → (S → S → Ordering) → (K → K → Ordering) → S → K → List (S × K) → List (S × K)
onward cmp_s cmp s least pairs = filter (λ h. is_ge (filed_cmp cmp_s cmp h (s, least))) pairs

-- the row is filed under this
abbrev pub is_here : {S R : Type 0} → (S → S → Ordering) → (R → Option S) → S → R → Bool
is_here cmp_s place s r = is_place cmp_s s (place r)

module _ {S K : Type 0} (cmp_s : S → S → Ordering) (cmp : K → K → Ordering) (total_s : IsTotalOrder cmp_s) (total : IsTotalOrder cmp) (exact_s : CmpEqualImpliesEq cmp_s) (exact : CmpEqualImpliesEq cmp) (s : S) where
  abbrev Pairs : Type 0
  Pairs = List (S × K)

  abbrev mine : S × K → Bool
  mine = is_mine cmp_s s

  abbrev in_order : Pairs → Type 0
  in_order pairs = Ascends (filed_cmp cmp_s cmp) filed_key pairs

  mine_is : (h : S × K) → mine h ≡ true → s ≡ h.0
  mine_is h e = exact_s s h.0 (equal_is (cmp_s s h.0) e)

  -- the pairs of one place stand one after another, from its least key on
  module _ (least : K) (is_least : (k : K) → is_ge (cmp k least) ≡ true) where
    low : (h : S × K) → mine h ≡ true → is_ge (filed_cmp cmp_s cmp h (s, least)) ≡ true
    low h e = ap (λ o. is_ge (ordering_then o (cmp h.1 least))) (ap (λ t. cmp_s t s) (sym (mine_is h e)) ∙ tied_itself total_s s) ∙ is_least h.1

    between : (a b : S × K) → mine b ≡ true → is_ge (filed_cmp cmp_s cmp a (s, least)) ≡ true → filed_cmp cmp_s cmp a b ≡ Less → mine a ≡ true
    between a b e g l = go (cmp_s a.0 s) refl
      where
        go : (o : Ordering) → cmp_s a.0 s ≡ o → mine a ≡ true
        go Less f = absurd (false≢true (sym (ap (λ o. is_ge (ordering_then o (cmp a.1 least))) f) ∙ g))
        go Equal f = ap is_eq (total_s.antisymm s a.0 ∙ ap ordering_reverse f)
        go Greater f = absurd (false≢true (sym (ap is_gt l) ∙ ap (λ o. is_gt (ordering_then o (cmp a.1 b.1))) (ap (cmp_s a.0) (sym (mine_is b e)) ∙ f)))

    pub walk_is : (pairs : Pairs) → in_order pairs → leading mine (onward cmp_s cmp s least pairs) ≡ filter mine pairs
    walk_is pairs asc = leading_is (filed_cmp cmp_s cmp) filed_key mine (λ h. is_ge (filed_cmp cmp_s cmp h (s, least))) low between pairs asc

  tied : (h g : S × K) → mine h ≡ true → mine g ≡ true → filed_cmp cmp_s cmp h g ≡ Less → cmp h.1 g.1 ≡ Less
  tied h g e f l = sym (ap (λ o. ordering_then o (cmp h.1 g.1)) (ap (λ t. cmp_s t g.0) (sym (mine_is h e) ∙ mine_is g f) ∙ tied_itself total_s g.0)) ∙ l

  keys_above : (h : S × K) → mine h ≡ true → (pairs : Pairs) → AllByRecursion (λ g. filed_cmp cmp_s cmp h g ≡ Less) pairs → AllByRecursion (λ k. cmp h.1 k ≡ Less) (keys_under cmp_s cmp s pairs)
  keys_above h e [] all = tt
  keys_above h e (g ∷ pairs) all = go (mine g) refl (keys_above h e pairs all.1)
    where
      those : Pairs
      those = filter mine pairs

      go : (b : Bool) → mine g ≡ b → AllByRecursion (λ k. cmp h.1 k ≡ Less) (keys_under cmp_s cmp s pairs) → AllByRecursion (λ k. cmp h.1 k ≡ Less) (map (λ q. q.1) (cond b (g ∷ those) those))
      go true f rest = (tied h g e f all.0, rest)
      go false f rest = rest

  pub keys_ascend : (pairs : Pairs) → in_order pairs → Ascends cmp (λ k. k) (keys_under cmp_s cmp s pairs)
  keys_ascend [] asc = tt
  keys_ascend (h ∷ pairs) asc = go (mine h) refl (keys_ascend pairs asc.1)
    where
      those : Pairs
      those = filter mine pairs

      go : (b : Bool) → mine h ≡ b → Ascends cmp (λ k. k) (keys_under cmp_s cmp s pairs) → Ascends cmp (λ k. k) (map (λ q. q.1) (cond b (h ∷ those) those))
      go true e rest = (keys_above h e pairs asc.0, rest)
      go false e rest = rest

  has_pair : (k : K) (pairs : Pairs) → is_some (row_at cmp (λ (j : K). j) k (keys_under cmp_s cmp s pairs)) ≡ is_some (row_at (filed_cmp cmp_s cmp) filed_key (s, k) pairs)
  has_pair k [] = refl
  has_pair k (h ∷ pairs) = go (mine h) refl (is_eq (cmp k h.1)) refl (has_pair k pairs)
    where
      those : Pairs
      those = filter mine pairs

      pair : (a b : Bool) → mine h ≡ a → is_eq (cmp k h.1) ≡ b → is_eq (filed_cmp cmp_s cmp (s, k) h) ≡ (a && b)
      pair a b e f = then_equal (cmp_s s h.0) (cmp k h.1) ∙ ap (λ x. x && is_eq (cmp k h.1)) e ∙ ap (λ x. a && x) f

      go : (a : Bool) → mine h ≡ a → (b : Bool) → is_eq (cmp k h.1) ≡ b
          → is_some (row_at cmp (λ (j : K). j) k (map (λ q. q.1) those)) ≡ is_some (row_at (filed_cmp cmp_s cmp) filed_key (s, k) pairs)
          → is_some (row_at cmp (λ (j : K). j) k (map (λ q. q.1) (cond a (h ∷ those) those))) ≡ is_some (cond (is_eq (filed_cmp cmp_s cmp (s, k) h)) (Some h) (row_at (filed_cmp cmp_s cmp) filed_key (s, k) pairs))
      go true e true f rest =
          ap (λ x. is_some (cond x (Some h.1) (row_at cmp (λ (j : K). j) k (map (λ q. q.1) those)))) f
          ∙ sym (ap (λ x. is_some (cond x (Some h) (row_at (filed_cmp cmp_s cmp) filed_key (s, k) pairs))) (pair true true e f))
      go true e false f rest =
          ap (λ x. is_some (cond x (Some h.1) (row_at cmp (λ (j : K). j) k (map (λ q. q.1) those)))) f ∙ rest
          ∙ sym (ap (λ x. is_some (cond x (Some h) (row_at (filed_cmp cmp_s cmp) filed_key (s, k) pairs))) (pair true false e f))
      go false e b f rest = rest ∙ sym (ap (λ x. is_some (cond x (Some h) (row_at (filed_cmp cmp_s cmp) filed_key (s, k) pairs))) (pair false b e f))

  module _ {R : Type 0} (key : R → K) (place : R → Option S) where
    abbrev here : R → Bool
    here = is_here cmp_s place s

    has_row : (k : K) (rows : List R) → Ascends cmp key rows → is_some (row_at cmp (λ (j : K). j) k (map key (filter here rows))) ≡ is_place cmp_s s (place_of place (row_at cmp key k rows))
    has_row k [] asc = refl
    has_row k (r ∷ rows) asc = go (here r) refl (is_eq (cmp k (key r))) refl (has_row k rows asc.1)
      where
        left : List R
        left = filter here rows

        gone : is_eq (cmp k (key r)) ≡ true → row_at cmp key k rows ≡ None
        gone e = row_at-below cmp key total k rows (All-weaker (λ q. cmp (key r) (key q) ≡ Less) (λ q. cmp k (key q) ≡ Less) (λ q l. ap (λ j. cmp j (key q)) (exact k (key r) (equal_is (cmp k (key r)) e)) ∙ l) rows asc.0)

        go : (a : Bool) → here r ≡ a → (b : Bool) → is_eq (cmp k (key r)) ≡ b
            → is_some (row_at cmp (λ (j : K). j) k (map key left)) ≡ is_place cmp_s s (place_of place (row_at cmp key k rows))
            → is_some (row_at cmp (λ (j : K). j) k (map key (cond a (r ∷ left) left))) ≡ is_place cmp_s s (place_of place (cond b (Some r) (row_at cmp key k rows)))
        go true e true f rest = ap (λ x. is_some (cond x (Some (key r)) (row_at cmp (λ (j : K). j) k (map key left)))) f ∙ sym e
        go true e false f rest = ap (λ x. is_some (cond x (Some (key r)) (row_at cmp (λ (j : K). j) k (map key left)))) f ∙ rest
        go false e true f rest = rest ∙ ap (λ o. is_place cmp_s s (place_of place o)) (gone f) ∙ sym e
        go false e false f rest = rest

    -- the keys that are filed under something are those of the rows that are
    pub keys_are : (rows : List R) (pairs : Pairs) → Ascends cmp key rows → in_order pairs → Files cmp_s cmp key place rows pairs → keys_under cmp_s cmp s pairs ≡ map key (filter here rows)
    keys_are rows pairs asc ordered fits =
        same_keys cmp total exact (keys_under cmp_s cmp s pairs) (map key (filter here rows)) (keys_ascend pairs ordered)
        (Ascends-map cmp key (filter here rows) (Ascends-filter cmp key total here rows asc))
        (λ k. has_pair k pairs ∙ fits s k ∙ sym (has_row k rows asc))

-- the row of a key, if there is one
abbrev pub row_of : {K R : Type 0} → (K → K → Ordering) → (R → K) → List R → Option K → Option R
row_of cmp key rows None = None
row_of cmp key rows (Some k) = row_at cmp key k rows

-- the rows of keys
module _ {K R : Type 0} (cmp : K → K → Ordering) (key : R → K) (total : IsTotalOrder cmp) where
  further : (r : R) (rows : List R) → (xs : List R) → AllByRecursion (λ q. cmp (key r) (key q) ≡ Less) xs → AllByRecursion (λ q. row_at cmp key (key q) rows ≡ Some q) xs → AllByRecursion (λ q. row_at cmp key (key q) (r ∷ rows) ≡ Some q) xs
  further r rows [] above found = tt
  further r rows (q ∷ xs) above found =
      (ap (λ o. cond (is_eq o) (Some r) (row_at cmp key (key q) rows)) (total.antisymm (key q) (key r) ∙ ap ordering_reverse above.0) ∙ found.0, further r rows xs above.1 found.1)

  pub each_found : (rows : List R) → Ascends cmp key rows → AllByRecursion (λ q. row_at cmp key (key q) rows ≡ Some q) rows
  each_found [] asc = tt
  each_found (r ∷ rows) asc = (ap (λ o. cond (is_eq o) (Some r) (row_at cmp key (key r) rows)) (tied_itself total (key r)), further r rows rows asc.0 (each_found rows asc.1))

  pub rows_again : (look : K → Option R) (xs : List R) → AllByRecursion (λ q. look (key q) ≡ Some q) xs → filter_map look (map key xs) ≡ xs
  rows_again look [] all = refl
  rows_again look (x ∷ xs) all = ap (λ o. cons_option o (filter_map look (map key xs))) all.0 ∙ ap (λ l. x ∷ l) (rows_again look xs all.1)

  -- the rows of the keys of those that pass a test
  pub rows_are : (test : R → Bool) (rows : List R) → Ascends cmp key rows → filter_map (λ k. row_at cmp key k rows) (map key (filter test rows)) ≡ filter test rows
  rows_are test rows asc = rows_again (λ k. row_at cmp key k rows) (filter test rows) (All-filter (λ q. row_at cmp key (key q) rows ≡ Some q) test rows (each_found rows asc))

  pub found_first : (test : R → Bool) (rows : List R) → find test rows ≡ first_row (filter test rows)
  found_first test [] = refl
  found_first test (r ∷ rows) = go (test r) (found_first test rows)
    where
      go : (b : Bool) → find test rows ≡ first_row (filter test rows) → cond b (Some r) (find test rows) ≡ first_row (cond b (r ∷ filter test rows) (filter test rows))
      go true rest = refl
      go false rest = rest

  first_again : (rows xs : List R) → AllByRecursion (λ q. row_at cmp key (key q) rows ≡ Some q) xs → first_row xs ≡ row_of cmp key rows (first_row (map key xs))
  first_again rows [] all = refl
  first_again rows (x ∷ xs) all = sym all.0

  -- the first row that passes a test, by its key
  pub found_by_key : (test : R → Bool) (rows : List R) → Ascends cmp key rows → find test rows ≡ row_of cmp key rows (first_row (map key (filter test rows)))
  found_by_key test rows asc = found_first test rows ∙ first_again rows (filter test rows) (All-filter (λ q. row_at cmp key (key q) rows ≡ Some q) test rows (each_found rows asc))

pub rows_through : {X K R : Type 0} (f : X → K) (look : K → Option R) (xs : List X) → filter_map (λ x. look (f x)) xs ≡ filter_map look (map f xs)
rows_through f look [] = refl
rows_through f look (x ∷ xs) = ap (cons_option (look (f x))) (rows_through f look xs)

-- one test after another
pub both_tests : {R : Type 0} (a b : R → Bool) (rows : List R) → filter b (filter a rows) ≡ filter (λ r. a r && b r) rows
both_tests a b [] = refl
both_tests a b (r ∷ rows) = go (a r) (both_tests a b rows)
  where
    go : (x : Bool) → filter b (filter a rows) ≡ filter (λ q. a q && b q) rows → filter b (cond x (r ∷ filter a rows) (filter a rows)) ≡ cond (x && b r) (r ∷ filter (λ q. a q && b q) rows) (filter (λ q. a q && b q) rows)
    go true rest = ap (λ l. cond (b r) (r ∷ l) l) rest
    go false rest = rest

-- the same test
pub same_test : {R : Type 0} (a b : R → Bool) (rows : List R) → ((r : R) → a r ≡ b r) → filter a rows ≡ filter b rows
same_test a b rows same = ap (λ t. filter t rows) (λ i r. same r i)

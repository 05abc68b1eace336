-- The slots of a tree when the side of one changes, or the one between.
use Rattle.std.proofs.Common.{◌≡◌, false, List, [], ◌∷◌, ◌++◌, refl, sym, ◌∙◌, ap, Option, Some, None, map}
use Rattle.std.specs.List.{AllByRecursion, cons_option, filter_map}
use Rattle.std.specs.Cmp.{IsTotalOrder}
use Rattle.std.specs.declared.cmp.Ordering.{Ordering}
use Rattle.std.specs.declared.cmp.Ordering.TheVariants.{Less, Equal, Greater}
use Rattle.std.specs.Ordering.{is_eq}
use Rattle.std.proofs.lemmas.List.{map-append}
use Rattle.std.proofs.lemmas.List.Elements.{filter_map-append}
use Rattle.cat_model.specs.Tables.{row_at, put, without}
use Rattle.row_table.specs.Slots.{slot_key, now_of, rows_now, rows_before, before_of, SlotFits, InOrder}
use Rattle.row_table.specs.Edits.{Edited, Replaced}
use Rattle.row_table.specs.Trees.{tree_slots, TreeInOrder}
use Rattle.row_table.specs.declared.tree.Tree.{Tree, Leaf, Fork'}
use Rattle.row_table.specs.declared.slot.Slot.{Slot}
use Rattle.row_table.proofs.SlotRows.{now_key}
use Rattle.row_table.proofs.Sides.{All-front, All-middle, All-back, All-whole, Stand, Acts, put_acts, put_one, put_none, without_acts, without_one, at_behind, at_before, at_one, Ascends-front, Ascends-back, low_side, high_side, below_more, above_more, below_tied, above_tied}

module _ {R : Type 0} where
  -- the rows of slots around one
  pub around : {X : Type 0} (f : Slot R → Option X) (a : List (Slot R)) (s : Slot R) (b : List (Slot R)) → filter_map f (a ++ s ∷ b) ≡ filter_map f a ++ cons_option (f s) (filter_map f b)
  around f a s b = filter_map-append f a (s ∷ b)

  pub cons_is : (o : Option R) (rows : List R) → cons_option o rows ≡ cons_option o [] ++ rows
  cons_is None rows = refl
  cons_is (Some r) rows = refl

module _ {K R : Type 0} (key : R → K) where
  abbrev pub edited_same : (l : List (Slot R)) → Edited key l l
  edited_same l = record { keys = refl; fits = λ h. h; before = refl }

  pub edited_then : (a b d : List (Slot R)) → Edited key a b → Edited key b d → Edited key a d
  edited_then a b d e f = record { keys = f.keys ∙ e.keys; fits = λ h. f.fits (e.fits h); before = f.before ∙ e.before }

  pub edited_left : (a a' : List (Slot R)) (s : Slot R) (b : List (Slot R)) → Edited key a a' → Edited key (a ++ s ∷ b) (a' ++ s ∷ b)
  edited_left a a' s b e =
      record {
        keys = map-append (slot_key key) a' (s ∷ b) ∙ ap (λ l. l ++ map (slot_key key) (s ∷ b)) e.keys ∙ sym (map-append (slot_key key) a (s ∷ b));
        fits = λ h. All-whole (SlotFits key) a' s b (e.fits (All-front (SlotFits key) a s b h)) (All-middle (SlotFits key) a s b h) (All-back (SlotFits key) a s b h);
        before = around before_of a' s b ∙ ap (λ l. l ++ cons_option (before_of s) (rows_before b)) e.before ∙ sym (around before_of a s b);
      }

  pub edited_right : (a : List (Slot R)) (s : Slot R) (b b' : List (Slot R)) → Edited key b b' → Edited key (a ++ s ∷ b) (a ++ s ∷ b')
  edited_right a s b b' e =
      record {
        keys = map-append (slot_key key) a (s ∷ b') ∙ ap (λ l. map (slot_key key) a ++ slot_key key s ∷ l) e.keys ∙ sym (map-append (slot_key key) a (s ∷ b));
        fits = λ h. All-whole (SlotFits key) a s b' (All-front (SlotFits key) a s b h) (All-middle (SlotFits key) a s b h) (e.fits (All-back (SlotFits key) a s b h));
        before = around before_of a s b' ∙ ap (λ l. rows_before a ++ cons_option (before_of s) l) e.before ∙ sym (around before_of a s b);
      }

  pub edited_middle : (a : List (Slot R)) (s s' : Slot R) (b : List (Slot R)) → slot_key key s' ≡ slot_key key s → SlotFits key s' → before_of s' ≡ before_of s → Edited key (a ++ s ∷ b) (a ++ s' ∷ b)
  edited_middle a s s' b same fits was =
      record {
        keys = map-append (slot_key key) a (s' ∷ b) ∙ ap (λ k. map (slot_key key) a ++ k ∷ map (slot_key key) b) same ∙ sym (map-append (slot_key key) a (s ∷ b));
        fits = λ h. All-whole (SlotFits key) a s' b (All-front (SlotFits key) a s b h) fits (All-back (SlotFits key) a s b h);
        before = around before_of a s' b ∙ ap (λ o. rows_before a ++ cons_option o (rows_before b)) was ∙ sym (around before_of a s b);
      }

module _ {K R : Type 0} (cmp : K → K → Ordering) (key : R → K) where
  -- what stands of the slots stands of the rows that are there
  pub now_stand : (o : Ordering) (k : K) (slots : List (Slot R)) → Stand cmp (slot_key key) o k slots → Stand cmp key o k (rows_now slots)
  now_stand o k [] all = tt
  now_stand o k (s ∷ slots) all = go (now_of s) refl (now_stand o k slots all.1)
    where
      go : (p : Option R) → now_of s ≡ p → Stand cmp key o k (rows_now slots) → Stand cmp key o k (cons_option p (rows_now slots))
      go None e rest = rest
      go (Some r) e rest = (ap (λ j. cmp j k) (now_key cmp key s r e) ∙ all.0, rest)

  one_stand : (o : Ordering) (k : K) (s : Slot R) → cmp (slot_key key s) k ≡ o → Stand cmp key o k (cons_option (now_of s) [])
  one_stand o k s e = now_stand o k (s ∷ []) (e, tt)

  pub whole_order : (t : Tree R) → TreeInOrder cmp key t → InOrder cmp key (tree_slots t)
  whole_order Leaf order = record { ascend = tt; fit = tt }
  whole_order (Fork' p left slot right height changed) order = order.0

  lacking : (o : Ordering) (k : K) (slots : List (Slot R)) → is_eq o ≡ false → Stand cmp (slot_key key) o k slots → AllByRecursion (λ s. is_eq (cmp (slot_key key s) k) ≡ false) slots
  lacking o k [] h all = tt
  lacking o k (s ∷ slots) h all = (ap is_eq all.0 ∙ h, lacking o k slots h all.1)

  module _ (total : IsTotalOrder cmp) where
    pub order_front : (a : List (Slot R)) (s : Slot R) (b : List (Slot R)) → InOrder cmp key (a ++ s ∷ b) → InOrder cmp key a
    order_front a s b order = record { ascend = Ascends-front cmp (slot_key key) total a s b order.ascend; fit = All-front (SlotFits key) a s b order.fit }

    pub order_back : (a : List (Slot R)) (s : Slot R) (b : List (Slot R)) → InOrder cmp key (a ++ s ∷ b) → InOrder cmp key b
    order_back a s b order = record { ascend = Ascends-back cmp (slot_key key) total a s b order.ascend; fit = All-back (SlotFits key) a s b order.fit }

    -- the rows behind a slot of a smaller key, and those before one of a greater key
    pub acts_right : (k : K) (change : List R → List R) → Acts cmp key k change → (a : List (Slot R)) (s : Slot R) (b b' : List (Slot R)) → InOrder cmp key (a ++ s ∷ b) → cmp (slot_key key s) k ≡ Less → rows_now b' ≡ change (rows_now b) → rows_now (a ++ s ∷ b') ≡ change (rows_now (a ++ s ∷ b))
    acts_right k change acts a s b b' order e is =
        let low = now_stand Less k a (low_side cmp (slot_key key) total k a s b order.ascend (below_more cmp (slot_key key) total k s e)) in
        around now_of a s b' ∙ ap (λ l. rows_now a ++ cons_option (now_of s) l) is ∙ ap (λ l. rows_now a ++ l) (cons_is (now_of s) (change (rows_now b)) ∙ sym (acts.behind (cons_option (now_of s) []) (rows_now b) (one_stand Less k s e)) ∙ ap change (sym (cons_is (now_of s) (rows_now b))))
        ∙ sym (acts.behind (rows_now a) (cons_option (now_of s) (rows_now b)) low) ∙ ap change (sym (around now_of a s b))

    high_now : (k : K) (a : List (Slot R)) (s : Slot R) (b : List (Slot R)) → InOrder cmp key (a ++ s ∷ b) → cmp (slot_key key s) k ≡ Greater → Stand cmp key Greater k (cons_option (now_of s) (rows_now b))
    high_now k a s b order e = now_stand Greater k (s ∷ b) (e, high_side cmp (slot_key key) total k a s b order.ascend (above_more cmp (slot_key key) total k s e))

    pub acts_left : (k : K) (change : List R → List R) → Acts cmp key k change → (a a' : List (Slot R)) (s : Slot R) (b : List (Slot R)) → InOrder cmp key (a ++ s ∷ b) → cmp (slot_key key s) k ≡ Greater → rows_now a' ≡ change (rows_now a) → rows_now (a' ++ s ∷ b) ≡ change (rows_now (a ++ s ∷ b))
    acts_left k change acts a a' s b order e is =
        around now_of a' s b ∙ ap (λ l. l ++ cons_option (now_of s) (rows_now b)) is ∙ sym (acts.before (rows_now a) (cons_option (now_of s) (rows_now b)) (high_now k a s b order e)) ∙ ap change (sym (around now_of a s b))

    -- the slot of the key itself
    acts_middle : (k : K) (change : List R → List R) → Acts cmp key k change → (a : List (Slot R)) (s s' : Slot R) (b : List (Slot R)) → InOrder cmp key (a ++ s ∷ b) → cmp (slot_key key s) k ≡ Equal → change (cons_option (now_of s) []) ≡ cons_option (now_of s') [] → rows_now (a ++ s' ∷ b) ≡ change (rows_now (a ++ s ∷ b))
    acts_middle k change acts a s s' b order e is =
        let low = now_stand Less k a (low_side cmp (slot_key key) total k a s b order.ascend (below_tied cmp (slot_key key) total k s e)) in
        let high = now_stand Greater k b (high_side cmp (slot_key key) total k a s b order.ascend (above_tied cmp (slot_key key) total k s e)) in
        around now_of a s' b ∙ ap (λ l. rows_now a ++ l) (cons_is (now_of s') (rows_now b) ∙ ap (λ l. l ++ rows_now b) (sym is) ∙ sym (acts.before (cons_option (now_of s) []) (rows_now b) high) ∙ ap change (sym (cons_is (now_of s) (rows_now b))))
        ∙ sym (acts.behind (rows_now a) (cons_option (now_of s) (rows_now b)) low) ∙ ap change (sym (around now_of a s b))

    pub put_middle : (row : R) (a : List (Slot R)) (s s' : Slot R) (b : List (Slot R)) → InOrder cmp key (a ++ s ∷ b) → cmp (slot_key key s) (key row) ≡ Equal → now_of s' ≡ Some row → rows_now (a ++ s' ∷ b) ≡ put cmp key row (rows_now (a ++ s ∷ b))
    put_middle row a s s' b order e is = acts_middle (key row) (put cmp key row) (put_acts cmp key row) a s s' b order e (go (now_of s) refl ∙ ap (λ o. cons_option o []) (sym is))
      where
        go : (o : Option R) → now_of s ≡ o → put cmp key row (cons_option o []) ≡ row ∷ []
        go None f = put_none cmp key row
        go (Some r) f = put_one cmp key row r (ap (λ j. cmp j (key row)) (now_key cmp key s r f) ∙ e)

    pub without_middle : (k : K) (a : List (Slot R)) (s s' : Slot R) (b : List (Slot R)) → InOrder cmp key (a ++ s ∷ b) → cmp (slot_key key s) k ≡ Equal → now_of s' ≡ None → rows_now (a ++ s' ∷ b) ≡ without (λ r. is_eq (cmp k (key r))) (rows_now (a ++ s ∷ b))
    without_middle k a s s' b order e is = acts_middle k (without (λ r. is_eq (cmp k (key r)))) (without_acts cmp key total k) a s s' b order e (go (now_of s) refl ∙ ap (λ o. cons_option o []) (sym is))
      where
        go : (o : Option R) → now_of s ≡ o → without (λ r. is_eq (cmp k (key r))) (cons_option o []) ≡ []
        go None f = refl
        go (Some r) f = without_one cmp key total k r (ap (λ j. cmp j k) (now_key cmp key s r f) ∙ e)

    -- where the row of a key is found
    pub at_right : (k : K) (a : List (Slot R)) (s : Slot R) (b : List (Slot R)) → InOrder cmp key (a ++ s ∷ b) → cmp (slot_key key s) k ≡ Less → row_at cmp key k (rows_now (a ++ s ∷ b)) ≡ row_at cmp key k (rows_now b)
    at_right k a s b order e =
        let low = now_stand Less k a (low_side cmp (slot_key key) total k a s b order.ascend (below_more cmp (slot_key key) total k s e)) in
        ap (row_at cmp key k) (around now_of a s b) ∙ at_behind cmp key total k (rows_now a) (cons_option (now_of s) (rows_now b)) low ∙ ap (row_at cmp key k) (cons_is (now_of s) (rows_now b)) ∙ at_behind cmp key total k (cons_option (now_of s) []) (rows_now b) (one_stand Less k s e)

    pub at_left : (k : K) (a : List (Slot R)) (s : Slot R) (b : List (Slot R)) → InOrder cmp key (a ++ s ∷ b) → cmp (slot_key key s) k ≡ Greater → row_at cmp key k (rows_now (a ++ s ∷ b)) ≡ row_at cmp key k (rows_now a)
    at_left k a s b order e = ap (row_at cmp key k) (around now_of a s b) ∙ at_before cmp key total k (rows_now a) (cons_option (now_of s) (rows_now b)) (high_now k a s b order e)

    pub at_middle : (k : K) (a : List (Slot R)) (s : Slot R) (b : List (Slot R)) → InOrder cmp key (a ++ s ∷ b) → cmp (slot_key key s) k ≡ Equal → row_at cmp key k (rows_now (a ++ s ∷ b)) ≡ now_of s
    at_middle k a s b order e =
        let low = now_stand Less k a (low_side cmp (slot_key key) total k a s b order.ascend (below_tied cmp (slot_key key) total k s e)) in
        let high = now_stand Greater k b (high_side cmp (slot_key key) total k a s b order.ascend (above_tied cmp (slot_key key) total k s e)) in
        ap (row_at cmp key k) (around now_of a s b) ∙ at_behind cmp key total k (rows_now a) (cons_option (now_of s) (rows_now b)) low ∙ ap (row_at cmp key k) (cons_is (now_of s) (rows_now b)) ∙ at_before cmp key total k (cons_option (now_of s) []) (rows_now b) high ∙ go (now_of s) refl
      where
        go : (o : Option R) → now_of s ≡ o → row_at cmp key k (cons_option o []) ≡ o
        go None f = refl
        go (Some r) f = at_one cmp key total k r (ap (λ j. cmp j k) (now_key cmp key s r f) ∙ e)

    pub replaced_right : (row : R) (back : Option R) (a : List (Slot R)) (s : Slot R) (b b' : List (Slot R)) → InOrder cmp key (a ++ s ∷ b) → cmp (slot_key key s) (key row) ≡ Less → Replaced cmp key row back b b' → Replaced cmp key row back (a ++ s ∷ b) (a ++ s ∷ b')
    replaced_right row None a s b b' order e h = acts_right (key row) (put cmp key row) (put_acts cmp key row) a s b b' order e h
    replaced_right row (Some r) a s b b' order e h =
        (h.0, ap (λ l. a ++ s ∷ l) h.1, All-whole _ a s b (lacking Less (key row) a refl (low_side cmp (slot_key key) total (key row) a s b order.ascend (below_more cmp (slot_key key) total (key row) s e))) (ap is_eq e) h.2)

    pub replaced_left : (row : R) (back : Option R) (a a' : List (Slot R)) (s : Slot R) (b : List (Slot R)) → InOrder cmp key (a ++ s ∷ b) → cmp (slot_key key s) (key row) ≡ Greater → Replaced cmp key row back a a' → Replaced cmp key row back (a ++ s ∷ b) (a' ++ s ∷ b)
    replaced_left row None a a' s b order e h = acts_left (key row) (put cmp key row) (put_acts cmp key row) a a' s b order e h
    replaced_left row (Some r) a a' s b order e h =
        (h.0, ap (λ l. l ++ s ∷ b) h.1, All-whole _ a s b h.2 (ap is_eq e) (lacking Greater (key row) b refl (high_side cmp (slot_key key) total (key row) a s b order.ascend (above_more cmp (slot_key key) total (key row) s e))))

    -- a slot among others, of a greater or of a smaller key than one of them
    pub put_right : (new : Slot R) (a : List (Slot R)) (s : Slot R) (b : List (Slot R)) → InOrder cmp key (a ++ s ∷ b) → cmp (slot_key key s) (slot_key key new) ≡ Less → put cmp (slot_key key) new (a ++ s ∷ b) ≡ a ++ s ∷ put cmp (slot_key key) new b
    put_right new a s b order e =
        (put_acts cmp (slot_key key) new).behind a (s ∷ b) (low_side cmp (slot_key key) total (slot_key key new) a s b order.ascend (below_more cmp (slot_key key) total (slot_key key new) s e))
        ∙ ap (λ l. a ++ l) ((put_acts cmp (slot_key key) new).behind (s ∷ []) b (e, tt))

    pub put_left : (new : Slot R) (a : List (Slot R)) (s : Slot R) (b : List (Slot R)) → InOrder cmp key (a ++ s ∷ b) → cmp (slot_key key s) (slot_key key new) ≡ Greater → put cmp (slot_key key) new (a ++ s ∷ b) ≡ put cmp (slot_key key) new a ++ s ∷ b
    put_left new a s b order e =
        (put_acts cmp (slot_key key) new).before a (s ∷ b) (e, high_side cmp (slot_key key) total (slot_key key new) a s b order.ascend (above_more cmp (slot_key key) total (slot_key key new) s e))

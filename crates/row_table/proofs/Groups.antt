-- The rows of a group among the slots of a tree.
use Rattle.std.proofs.Common.{◌≡◌, true, false, cond, List, [], ◌∷◌, ◌++◌, refl, sym, ◌∙◌, ap, filter, Option, Some, None, append-nil}
use Rattle.std.specs.List.{AllByRecursion, cons_option}
use Rattle.std.specs.declared.cmp.Ordering.{Ordering}
use Rattle.std.specs.declared.cmp.Ordering.TheVariants.{Less, Equal, Greater}
use Rattle.std.specs.Ordering.{is_eq, is_lt, is_gt}
use Rattle.std.proofs.lemmas.Bool.{false≢true}
use Rattle.std.proofs.lemmas.List.Elements.{filter-append}
use Rattle.cat_model.specs.Tables.{Ascends}
use Rattle.row_table.specs.Groups.{Within, AllWithin}
use Rattle.row_table.specs.Rising.{Rises}
use Rattle.row_table.specs.Slots.{slot_key, now_of, rows_now, InOrder}
use Rattle.row_table.specs.declared.group.Ends.{Ends}
use Rattle.row_table.specs.declared.slot.Slot.{Slot}
use Rattle.row_table.proofs.Edits.{around}
use Rattle.row_table.proofs.Sides.{All-front, All-middle, All-back}
use Rattle.row_table.proofs.SlotRows.{now_key}

module _ {K R : Type 0} (cmp : K → K → Ordering) (key : R → K) (stands : K → Ordering) where
  abbrev pub those : List R → List R
  those rows = filter (λ r. is_eq (stands (key r))) rows

  abbrev Stand : Ordering → List (Slot R) → Type 0
  Stand o slots = AllByRecursion (λ s. stands (slot_key key s) ≡ o) slots

  one_out : (o : Ordering) → is_eq o ≡ false → (s : Slot R) → stands (slot_key key s) ≡ o → (rows : List R) → those (cons_option (now_of s) rows) ≡ those rows
  one_out o h s e rows = go (now_of s) refl
    where
      go : (p : Option R) → now_of s ≡ p → those (cons_option p rows) ≡ those rows
      go None f = refl
      go (Some r) f = ap (λ b. cond b (r ∷ those rows) (those rows)) (ap (λ k. is_eq (stands k)) (now_key cmp key s r f) ∙ ap is_eq e ∙ h)

  one_in : (s : Slot R) → stands (slot_key key s) ≡ Equal → (rows : List R) → those (cons_option (now_of s) rows) ≡ cons_option (now_of s) (those rows)
  one_in s e rows = go (now_of s) refl
    where
      go : (p : Option R) → now_of s ≡ p → those (cons_option p rows) ≡ cons_option p (those rows)
      go None f = refl
      go (Some r) f = ap (λ b. cond b (r ∷ those rows) (those rows)) (ap (λ k. is_eq (stands k)) (now_key cmp key s r f) ∙ ap is_eq e)

  all_out : (o : Ordering) → is_eq o ≡ false → (slots : List (Slot R)) → Stand o slots → those (rows_now slots) ≡ []
  all_out o h [] all = refl
  all_out o h (s ∷ slots) all = one_out o h s all.0 (rows_now slots) ∙ all_out o h slots all.1

  split : (a : List (Slot R)) (s : Slot R) (b : List (Slot R)) → those (rows_now (a ++ s ∷ b)) ≡ those (rows_now a) ++ those (cons_option (now_of s) (rows_now b))
  split a s b = ap those (around now_of a s b) ∙ filter-append _ (rows_now a) (cons_option (now_of s) (rows_now b))

  -- the slots in front of one have smaller keys, and those behind it greater ones
  fronts : (P : Slot R → Type 0) (a : List (Slot R)) (s : Slot R) (b : List (Slot R)) → Ascends cmp (slot_key key) (a ++ s ∷ b) → ((q : Slot R) → cmp (slot_key key q) (slot_key key s) ≡ Less → P q) → AllByRecursion P a
  fronts P [] s b asc on = tt
  fronts P (r ∷ a) s b asc on = (on r (All-middle (λ q. cmp (slot_key key r) (slot_key key q) ≡ Less) a s b asc.0), fronts P a s b asc.1 on)

  each : (P : Slot R → Type 0) (s : Slot R) (b : List (Slot R)) → AllByRecursion (λ q. cmp (slot_key key s) (slot_key key q) ≡ Less) b → ((q : Slot R) → cmp (slot_key key s) (slot_key key q) ≡ Less → P q) → AllByRecursion P b
  each P s [] all on = tt
  each P s (q ∷ b) all on = (on q all.0, each P s b all.1 on)

  backs : (P : Slot R → Type 0) (a : List (Slot R)) (s : Slot R) (b : List (Slot R)) → Ascends cmp (slot_key key) (a ++ s ∷ b) → ((q : Slot R) → cmp (slot_key key s) (slot_key key q) ≡ Less → P q) → AllByRecursion P b
  backs P [] s b asc on = each P s b asc.0 on
  backs P (r ∷ a) s b asc on = backs P a s b asc.1 on

  with_each : (P Q W : Slot R → Type 0) (l : List (Slot R)) → AllByRecursion P l → AllByRecursion Q l → ((s : Slot R) → P s → Q s → W s) → AllByRecursion W l
  with_each P Q W [] p q on = tt
  with_each P Q W (s ∷ l) p q on = (on s p.0 q.0, with_each P Q W l p.1 q.1 on)

  pub in_middle : (a : List (Slot R)) (s : Slot R) (b : List (Slot R)) → stands (slot_key key s) ≡ Equal → those (rows_now (a ++ s ∷ b)) ≡ those (rows_now a) ++ cons_option (now_of s) (those (rows_now b))
  in_middle a s b e = split a s b ∙ ap (λ l. those (rows_now a) ++ l) (one_in s e (rows_now b))

  module _ (rises : Rises cmp stands) where
    -- none in front of a slot below the group is one of it, and none behind a slot above it
    pub in_back : (a : List (Slot R)) (s : Slot R) (b : List (Slot R)) → InOrder cmp key (a ++ s ∷ b) → stands (slot_key key s) ≡ Less → those (rows_now (a ++ s ∷ b)) ≡ those (rows_now b)
    in_back a s b order e =
        let low = fronts (λ q. stands (slot_key key q) ≡ Less) a s b order.ascend (λ q l. (rises (slot_key key q) (slot_key key s) l).0 e) in
        split a s b ∙ (λ i. all_out Less refl a low i ++ one_out Less refl s e (rows_now b) i)

    pub in_front : (a : List (Slot R)) (s : Slot R) (b : List (Slot R)) → InOrder cmp key (a ++ s ∷ b) → stands (slot_key key s) ≡ Greater → those (rows_now (a ++ s ∷ b)) ≡ those (rows_now a)
    in_front a s b order e =
        let high = backs (λ q. stands (slot_key key q) ≡ Greater) a s b order.ascend (λ q l. (rises (slot_key key s) (slot_key key q) l).1 e) in
        split a s b ∙ (λ i. those (rows_now a) ++ (one_out Greater refl s e (rows_now b) ∙ all_out Greater refl b high) i) ∙ append-nil _

    not_above : (k j : K) → cmp k j ≡ Less → stands j ≡ Equal → is_gt (stands k) ≡ false
    not_above k j l e = go (stands k) refl
      where
        go : (o : Ordering) → stands k ≡ o → is_gt o ≡ false
        go Less f = refl
        go Equal f = refl
        go Greater f = absurd (false≢true (ap is_gt (sym e ∙ (rises k j l).1 f)))

    not_below : (k j : K) → cmp k j ≡ Less → stands k ≡ Equal → is_lt (stands j) ≡ false
    not_below k j l e = go (stands j) refl
      where
        go : (o : Ordering) → stands j ≡ o → is_lt o ≡ false
        go Less f = absurd (false≢true (ap is_lt (sym e ∙ (rises k j l).0 f)))
        go Equal f = refl
        go Greater f = refl

    -- what is known of both sides of a slot of the group
    pub within_front : (ends : Ends) (a : List (Slot R)) (s : Slot R) (b : List (Slot R)) → InOrder cmp key (a ++ s ∷ b) → stands (slot_key key s) ≡ Equal → AllWithin key stands ends (a ++ s ∷ b) → AllWithin key stands (record { low = ends.low; high = true }) a
    within_front ends a s b order e all =
        with_each (λ q. Within ends (stands (slot_key key q))) (λ q. is_gt (stands (slot_key key q)) ≡ false) (λ q. Within (record { low = ends.low; high = true }) (stands (slot_key key q))) a
        (All-front _ a s b all) (fronts (λ q. is_gt (stands (slot_key key q)) ≡ false) a s b order.ascend (λ q l. not_above (slot_key key q) (slot_key key s) l e)) (λ q w h. (w.0, λ t. h))

    pub within_back : (ends : Ends) (a : List (Slot R)) (s : Slot R) (b : List (Slot R)) → InOrder cmp key (a ++ s ∷ b) → stands (slot_key key s) ≡ Equal → AllWithin key stands ends (a ++ s ∷ b) → AllWithin key stands (record { low = true; high = ends.high }) b
    within_back ends a s b order e all =
        with_each (λ q. Within ends (stands (slot_key key q))) (λ q. is_lt (stands (slot_key key q)) ≡ false) (λ q. Within (record { low = true; high = ends.high }) (stands (slot_key key q))) b
        (All-back _ a s b all) (backs (λ q. is_lt (stands (slot_key key q)) ≡ false) a s b order.ascend (λ q l. not_below (slot_key key s) (slot_key key q) l e)) (λ q w h. (λ t. h, w.1))

-- a place that is neither below nor above
pub place_known : (o : Ordering) → is_lt o ≡ false → is_gt o ≡ false → Equal ≡ o
place_known Less h g = absurd (false≢true (sym h))
place_known Equal h g = refl
place_known Greater h g = absurd (false≢true (sym g))

-- where nothing is known
pub none_known : {K R : Type 0} (key : R → K) (stands : K → Ordering) (slots : List (Slot R)) → AllWithin key stands (record { low = false; high = false }) slots
none_known key stands [] = tt
none_known key stands (s ∷ slots) = ((λ h. absurd (false≢true h), λ h. absurd (false≢true h)), none_known key stands slots)

-- The frames of a journal that are a pass's own.
use Rattle.std.proofs.Common.{◌≡◌, ℕ, ◌==◌, ◌||◌, Bool, true, false, cond, inl, inr, ⊎_elim, List, [], ◌∷◌, ◌++◌, map, Option, Some, None, Result, Ok, Err, refl, sym, ap, ◌∙◌, subst, append_assoc, append-nil, arith}
use Rattle.std.specs.List.{filter, filter_map, list_any}
use Rattle.std.specs.Option.{option_map}
use Rattle.std.proofs.lemmas.List.{map-append}
use Rattle.std.proofs.lemmas.List.Elements.{filter-append, filter_map-append}
use Rattle.node_service.specs.Processes.{Running}
use Rattle.turn_lock.specs.Lists.{Among, EachOnce, Untouched, ahead, numbers}
use Rattle.turn_lock.proofs.Lists.{among_append, among_left, among_right, numbers_append, once_apart}
use Rattle.node_connections.specs.declared.item.Item.{Item}
use Rattle.node_connections.specs.declared.item.Item.TheVariants as items
use Rattle.node_connections.specs.declared.item.Taken.{Taken}
use Rattle.node_connections.specs.Journals.{opens, taken_of, takes}
use Rattle.node_connections.specs.Serving.{has_number, numbers_of, taken_by}

any_at : (ns : List ℕ) (k : ℕ) → Among k ns → list_any (λ n. n == k) ns ≡ true
any_at [] k a = absurd a
any_at (n ∷ ns) k (inl e) = grind (arith, e)
any_at (n ∷ ns) k (inr a) = either (n == k) (any_at ns k a)
  where
    either : (b : Bool) {c : Bool} → c ≡ true → (b || c) ≡ true
    either true e = refl
    either false e = e

same_of : (n k : ℕ) → (n == k) ≡ true → n ≡ k
same_of n k e = grind (arith, e)

any_among : (ns : List ℕ) (k : ℕ) → list_any (λ n. n == k) ns ≡ true → Among k ns
any_among [] k e = absurd (grind (arith, e))
any_among (n ∷ ns) k e = one (n == k) refl e (any_among ns k)
  where
    one : (b : Bool) → (n == k) ≡ b → (b || list_any (λ m. m == k) ns) ≡ true → (list_any (λ m. m == k) ns ≡ true → Among k ns) → Among k (n ∷ ns)
    one true f g rest = inl (same_of n k f)
    one false f g rest = inr (rest g)

any_none : (ns : List ℕ) (k : ℕ) → (Among k ns → ⊥) → list_any (λ n. n == k) ns ≡ false
any_none ns k h = by_cases (list_any (λ n. n == k) ns) refl
  where
    by_cases : (b : Bool) → list_any (λ n. n == k) ns ≡ b → list_any (λ n. n == k) ns ≡ false
    by_cases true e = absurd (h (any_among ns k e))
    by_cases false e = e

-- one more number, which none of the frames has
pick_same : (own : List ℕ) (n : ℕ) (ts : List Taken) → (Among n (numbers_of ts) → ⊥) → filter (has_number (own ++ n ∷ [])) ts ≡ filter (has_number own) ts
pick_same own n [] h = refl
pick_same own n (t ∷ ts) h =
    let rest = pick_same own n ts (λ a. h (inr a)) in
    same (has_number (own ++ n ∷ []) t) (has_number own t) (tells (has_number own t) refl) rest
  where
    tells : (b : Bool) → has_number own t ≡ b → has_number (own ++ n ∷ []) t ≡ has_number own t
    tells true e = any_at (own ++ n ∷ []) t.number (among_left t.number own (n ∷ []) (any_among own t.number e)) ∙ sym e
    tells false e = any_none (own ++ n ∷ []) t.number (λ a. ⊎_elim
        (λ (b : Among t.number own). absurd (grind (arith, any_at own t.number b, e)))
        (λ (b : Among t.number (n ∷ [])). ⊎_elim (λ (f : n ≡ t.number). h (inl (sym f))) (λ (z : ⊥). z) b) (among_append t.number own (n ∷ []) a)) ∙ sym e

    same : (a b : Bool) → a ≡ b → {xs ys : List Taken} → xs ≡ ys → cond a (t ∷ xs) xs ≡ cond b (t ∷ ys) ys
    same a b e f = cc (e, f)

-- frames of which none has one of the numbers
pick_none : (own : List ℕ) (ts : List Taken) → ((k : ℕ) → Among k own → Among k (numbers_of ts) → ⊥) → filter (has_number own) ts ≡ []
pick_none own [] h = refl
pick_none own (t ∷ ts) h =
    let not = any_none own t.number (λ a. h t.number a (inl refl)) in
    ap (λ (b : Bool). cond b (t ∷ filter (has_number own) ts) (filter (has_number own) ts)) not ∙ pick_none own ts (λ k a b. h k a (inr b))

pick_one : (own : List ℕ) (t : Taken) → filter (has_number (own ++ t.number ∷ [])) (t ∷ []) ≡ t ∷ []
pick_one own t = ap (λ (b : Bool). cond b (t ∷ []) []) (any_at (own ++ t.number ∷ []) t.number (among_right t.number own (t.number ∷ []) (inl refl)))

module _ {D : Type 0} where
  pub numbers_are : (xs : List (Item Running D)) → numbers opens xs ≡ numbers_of (filter_map taken_of xs)
  numbers_are [] = refl
  numbers_are (items.Began p d at ∷ xs) = numbers_are xs
  numbers_are (items.Turned now word due None sent ∷ xs) = numbers_are xs
  numbers_are (items.Turned now word due (Some t) sent ∷ xs) = ap (λ (l : List ℕ). t.number ∷ l) (numbers_are xs)

  one_frame : (item : Item Running D) (t : Taken) → taken_of item ≡ Some t → filter_map taken_of (item ∷ []) ≡ t ∷ []
  one_frame (items.Began p d at) t e = absurd (grind (arith, e))
  one_frame (items.Turned now word due None sent) t e = absurd (grind (arith, e))
  one_frame (items.Turned now word due (Some u) sent) t e = cc e

  pub taken_none : (xs : List (Item Running D)) → taken_by [] xs ≡ []
  taken_none xs = pick_none [] (filter_map taken_of xs) (λ k a b. a)

  -- A frame that was handed in behind others stands behind the own ones.
  pub own_more : (own mine : List ℕ) (seen before : List (Item Running D)) (item : Item Running D) (t : Taken) → taken_of item ≡ Some t → Untouched opens takes mine before → ((k : ℕ) → Among k own → Among k mine)
      → EachOnce (numbers opens (seen ++ (before ++ item ∷ []))) → taken_by (own ++ t.number ∷ []) (seen ++ (before ++ item ∷ [])) ≡ taken_by own seen ++ t ∷ []
  own_more own mine seen before item t e u sub once =
      let ns = own ++ t.number ∷ [] in let A = filter_map taken_of seen in let B = filter_map taken_of before in
      let parts : filter_map taken_of (seen ++ (before ++ item ∷ [])) ≡ A ++ (B ++ t ∷ []) =
      filter_map-append taken_of seen (before ++ item ∷ []) ∙ ap (λ (l : List Taken). A ++ l) (filter_map-append taken_of before (item ∷ []) ∙ ap (λ (l : List Taken). B ++ l) (one_frame item t e)) in
      let all : numbers opens (seen ++ (before ++ item ∷ [])) ≡ numbers_of A ++ (numbers_of B ++ t.number ∷ []) =
      numbers_are (seen ++ (before ++ item ∷ [])) ∙ (ap numbers_of parts ∙ (map-append (λ (x : Taken). x.number) A (B ++ t ∷ []) ∙ ap (λ (l : List ℕ). numbers_of A ++ l) (map-append (λ (x : Taken). x.number) B (t ∷ [])))) in
      let apart : EachOnce (numbers_of A ++ (numbers_of B ++ t.number ∷ [])) = subst EachOnce all once in
      let not_before : Among t.number (numbers_of A) → ⊥ = λ a. once_apart t.number (numbers_of A) (numbers_of B ++ t.number ∷ []) apart a (among_right t.number (numbers_of B) (t.number ∷ []) (inl refl)) in
      let not_between : Among t.number (numbers_of B) → ⊥ = λ a. once_apart t.number (numbers_of A ++ numbers_of B) (t.number ∷ []) (subst EachOnce (sym (append_assoc (numbers_of A) (numbers_of B) (t.number ∷ []))) apart) (among_right t.number (numbers_of A) (numbers_of B) a) (inl refl) in
      let none : filter (has_number ns) B ≡ [] = pick_none ns B (λ k a b. ⊎_elim
      (λ (x : Among k own). (u k (sub k x)).0 (subst (Among k) (sym (numbers_are before)) b))
      (λ (x : Among k (t.number ∷ [])). ⊎_elim (λ (f : t.number ≡ k). not_between (subst (λ (z : ℕ). Among z (numbers_of B)) (sym f) b)) (λ (z : ⊥). z) x) (among_append k own (t.number ∷ []) a)) in
      ap (filter (has_number ns)) parts ∙ (filter-append (has_number ns) A (B ++ t ∷ []) ∙ (ap (λ (l : List Taken). filter (has_number ns) A ++ l) (filter-append (has_number ns) B (t ∷ []) ∙ (ap (λ (l : List Taken). l ++ filter (has_number ns) (t ∷ [])) none ∙ pick_one own t))
      ∙ ap (λ (l : List Taken). l ++ t ∷ []) (pick_same own t.number A not_before)))

  -- what others add is none of the own
  pub own_same : (own mine : List ℕ) (seen more : List (Item Running D)) → Untouched opens takes mine more → ((k : ℕ) → Among k own → Among k mine) → taken_by own (seen ++ more) ≡ taken_by own seen
  own_same own mine seen more u sub =
      ap (filter (has_number own)) (filter_map-append taken_of seen more) ∙ (filter-append (has_number own) (filter_map taken_of seen) (filter_map taken_of more)
      ∙ (ap (λ (l : List Taken). taken_by own seen ++ l) (pick_none own (filter_map taken_of more) (λ k a b. (u k (sub k a)).0 (subst (Among k) (sym (numbers_are more)) b))) ∙ append-nil (taken_by own seen)))

-- Items that others took the place of, as a list is gone through.
use Rattle.std.proofs.Common.{◌≡◌, ◌∙◌, ◌+◌, ◌<◌, ◌≤◌, ℕ, zero, suc, List, [], ◌∷◌, ◌++◌, refl, sym, ap, length, take, drop, map, get_or, set, append_assoc, arith}
use Rattle.cat_model.proofs.Items.{next_made}
use Rattle.agent_state.specs.Replacing.{all_replaced}

module _ {A : Type 0} where
  set_behind : (front : List A) (x : A) (back : List A) (y : A) (at : ℕ) → at ≡ length front → set (front ++ x ∷ back) at y ≡ front ++ y ∷ back
  set_behind [] x back y zero e = refl
  set_behind [] x back y (suc at) e = absurd (omega arith)
  set_behind (r ∷ front) x back y zero e = absurd (omega arith)
  set_behind (r ∷ front) x back y (suc at) e = ap (λ l. r ∷ l) (set_behind front x back y at (omega arith))

  all_replaced_more : (cs : List (ℕ × A)) (c : ℕ × A) (items : List A) → all_replaced (cs ++ c ∷ []) items ≡ set (all_replaced cs items) c.0 c.1
  all_replaced_more [] c items = refl
  all_replaced_more (d ∷ cs) c items = all_replaced_more cs c (set items d.0 d.1)

  behind : (items : List A) (at : ℕ) (x : A) → at < length items → x ≡ get_or items at x → drop at items ≡ x ∷ drop (at + 1) items
  behind [] at x l is = absurd (omega arith)
  behind (r ∷ items) zero x l is = ap (λ q. q ∷ items) (sym is)
  behind (r ∷ items) (suc at) x l is = let on : suc at + 1 ≡ suc (at + 1) = omega arith in behind items at x (omega arith) is ∙ ap (λ n. x ∷ drop n (r ∷ items)) (sym on)

  pub gone_through : (f : A → A) (items : List A) (at : ℕ) → length items ≤ at → map f (take at items) ++ drop at items ≡ map f items
  gone_through f [] zero l = refl
  gone_through f [] (suc at) l = refl
  gone_through f (r ∷ items) zero l = absurd (omega arith)
  gone_through f (r ∷ items) (suc at) l = ap (λ xs. f r ∷ xs) (gone_through f items at (omega arith))

  module _ (f : A → A) (items : List A) (at : ℕ) (x : A) (within : at < length items) (is : x ≡ get_or items at x) where
    front_more : map f (take at items) ++ f x ∷ drop (at + 1) items ≡ map f (take (at + 1) items) ++ drop (at + 1) items
    front_more =
        sym (append_assoc (map f (take at items)) (f x ∷ []) (drop (at + 1) items))
        ∙ ap (λ xs. xs ++ drop (at + 1) items) (sym (next_made f items at x (f x) within is refl))

    module _ (cs : List (ℕ × A)) (so_far : all_replaced cs items ≡ map f (take at items) ++ drop at items) where
      whole : all_replaced cs items ≡ map f (take at items) ++ x ∷ drop (at + 1) items
      whole = so_far ∙ ap (λ xs. map f (take at items) ++ xs) (behind items at x within is)

      -- an item that stays as it is
      pub next_kept : x ≡ f x → all_replaced cs items ≡ map f (take (at + 1) items) ++ drop (at + 1) items
      next_kept same = whole ∙ ap (λ q. map f (take at items) ++ q ∷ drop (at + 1) items) same ∙ front_more

      -- one that another takes the place of
      pub next_replaced : (y : A) → y ≡ f x → all_replaced (cs ++ (at, y) ∷ []) items ≡ map f (take (at + 1) items) ++ drop (at + 1) items
      next_replaced y same =
          all_replaced_more cs (at, y) items ∙ ap (λ l. set l at y) whole
          ∙ set_behind (map f (take at items)) x (drop (at + 1) items) y at (front_length items at within)
          ∙ ap (λ q. map f (take at items) ++ q ∷ drop (at + 1) items) same ∙ front_more
        where
          front_length : (xs : List A) (n : ℕ) → n < length xs → n ≡ length (map f (take n xs))
          front_length [] n l = absurd (omega arith)
          front_length (r ∷ xs) zero l = refl
          front_length (r ∷ xs) (suc n) l = ap suc (front_length xs n (omega arith))

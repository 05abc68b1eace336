-- One step over two lists of rows that are in order.
use Rattle.std.proofs.Common.{◌≡◌, ◌∙◌, subst, not, cond, List, [], ◌∷◌, ◌++◌, refl, sym, ap, append_assoc, Option, Some, None, is_some, length, arith}
use Rattle.std.specs.List.{AllByRecursion}
use Rattle.std.specs.Cmp.{IsTotalOrder}
use Rattle.std.specs.declared.cmp.Ordering.{Ordering}
use Rattle.std.specs.declared.cmp.Ordering.TheVariants.{Less, Equal, Greater}
use Rattle.std.specs.Ordering.{is_eq, ordering_reverse}
use Rattle.cat_model.specs.Tables.{row_at, Ascends}
use Rattle.node_rows.specs.Sides.{all_paired, strays, Steps}
use Rattle.cat_model.proofs.TableLemmas.{All-weaker, row_at-below}

module _ {K R : Type 0} (cmp : K → K → Ordering) (key : R → K) (total : IsTotalOrder cmp) where
  abbrev Above : R → List R → Type 0
  Above r = AllByRecursion (λ s. cmp (key r) (key s) ≡ Less)

  -- a row behind another has not its key
  not_first : (r s : R) (rows : List R) → cmp (key r) (key s) ≡ Less → row_at cmp key (key s) (r ∷ rows) ≡ row_at cmp key (key s) rows
  not_first r s rows h = ap (λ o. cond (is_eq o) (Some r) (row_at cmp key (key s) rows)) (total.antisymm (key s) (key r) ∙ ap ordering_reverse h)

  -- rows that are all behind one find nothing in it
  paired_behind : (t : R) (ts own : List R) → Above t own → all_paired cmp key own (t ∷ ts) ≡ all_paired cmp key own ts
  paired_behind t ts [] h = refl
  paired_behind t ts (r ∷ own) h = λ i. (r, not_first t r ts h.0 i) ∷ paired_behind t ts own h.1 i

  strays_behind : (r : R) (own there : List R) → Above r there → strays cmp key (r ∷ own) there ≡ strays cmp key own there
  strays_behind r own [] h = refl
  strays_behind r own (t ∷ there) h = λ i. cond (not (is_some (not_first r t own h.0 i))) (t ∷ strays_behind r own there h.1 i) (strays_behind r own there h.1 i)

  further : (r s : R) (rows : List R) → cmp (key r) (key s) ≡ Less → Above s rows → Above r rows
  further r s rows h = All-weaker (λ q. cmp (key s) (key q) ≡ Less) (λ q. cmp (key r) (key q) ≡ Less) (λ q l. total.trans (key r) (key s) (key q) h l) rows

  tied : (r s : R) (rows : List R) → cmp (key r) (key s) ≡ Equal → Above s rows → Above r rows
  tied r s rows e = All-weaker (λ q. cmp (key s) (key q) ≡ Less) (λ q. cmp (key r) (key q) ≡ Less) (λ q l. total.congr (key r) (key s) (key q) e ∙ l) rows

  module _ (r : R) (own there : List R) (asc : Ascends cmp key (r ∷ own)) (p : List (R × Option R)) (s : List R) where
    one_more : {A : Type 0} (xs : List A) (x : A) (ys zs : List A) → x ∷ ys ≡ zs → (xs ++ x ∷ []) ++ ys ≡ xs ++ zs
    one_more xs x ys zs e = append_assoc xs (x ∷ []) ys ∙ ap (λ l. xs ++ l) e

    -- nothing is left there
    pub steps_last : Steps cmp key (r ∷ own) [] own [] p (p ++ (r, None) ∷ []) s s
    steps_last = record { all_pairs = one_more p (r, None) _ _ refl; all_strays = refl; own_order = asc.1; there_order = tt; less = omega arith }

    module _ (t : R) (asc' : Ascends cmp key (t ∷ there)) where
      -- the first there is before the own ones
      pub steps_stray : cmp (key t) (key r) ≡ Less → Steps cmp key (r ∷ own) (t ∷ there) (r ∷ own) there p p s (s ++ t ∷ [])
      steps_stray h =
          let above : Above t (r ∷ own) = (h, further t r own h asc.0) in
          record {
            all_pairs = ap (λ l. p ++ l) (sym (paired_behind t there (r ∷ own) above));
            all_strays = one_more s t _ _ (ap (λ o. cond (not (is_some o)) (t ∷ strays cmp key (r ∷ own) there) (strays cmp key (r ∷ own) there)) (sym (row_at-below cmp key total (key t) (r ∷ own) above)));
            own_order = asc;
            there_order = asc'.1;
            less = omega arith;
          }

      pub steps_both : cmp (key t) (key r) ≡ Equal → Steps cmp key (r ∷ own) (t ∷ there) own there p (p ++ (r, Some t) ∷ []) s s
      steps_both h =
          let back : cmp (key r) (key t) ≡ Equal = total.antisymm (key r) (key t) ∙ ap ordering_reverse h in
          record {
            all_pairs = one_more p (r, Some t) _ _ (λ i. (r, cond (is_eq (sym back i)) (Some t) (row_at cmp key (key r) there)) ∷ sym (paired_behind t there own (tied t r own h asc.0)) i);
            all_strays = ap (λ l. s ++ l) (sym (ap (λ o. cond (not (is_some (cond (is_eq o) (Some r) (row_at cmp key (key t) own)))) (t ∷ strays cmp key (r ∷ own) there) (strays cmp key (r ∷ own) there)) h ∙ strays_behind r own there (tied r t there back asc'.0)));
            own_order = asc.1;
            there_order = asc'.1;
            less = omega arith;
          }

      pub steps_alone : cmp (key t) (key r) ≡ Greater → Steps cmp key (r ∷ own) (t ∷ there) own (t ∷ there) p (p ++ (r, None) ∷ []) s s
      steps_alone h =
          let before : cmp (key r) (key t) ≡ Less = total.antisymm (key r) (key t) ∙ ap ordering_reverse h in
          let above : Above r (t ∷ there) = (before, further r t there before asc'.0) in
          record {
            all_pairs = one_more p (r, None) _ _ (ap (λ o. (r, o) ∷ all_paired cmp key own (t ∷ there)) (sym (row_at-below cmp key total (key r) (t ∷ there) above)));
            all_strays = ap (λ l. s ++ l) (sym (strays_behind r own (t ∷ there) above));
            own_order = asc.1;
            there_order = asc';
            less = omega arith;
          }

  -- the same of slices
  module _ (left rest own behind : List R) (r t : R) (p p' : List (R × Option R)) (s s' : List R) (e : left ≡ r ∷ own) (e' : rest ≡ t ∷ behind) (asc : Ascends cmp key left) (asc' : Ascends cmp key rest) where
    first_order : Ascends cmp key (r ∷ own)
    first_order = subst (Ascends cmp key) e asc

    other_order : Ascends cmp key (t ∷ behind)
    other_order = subst (Ascends cmp key) e' asc'

    pub stray : cmp (key t) (key r) ≡ Less → s' ≡ s ++ t ∷ [] → Steps cmp key left rest left behind p p s s'
    stray h is = subst (λ l. Steps cmp key l rest l behind p p s s') (sym e) (subst (λ l. Steps cmp key (r ∷ own) l (r ∷ own) behind p p s s') (sym e') (subst (Steps cmp key (r ∷ own) (t ∷ behind) (r ∷ own) behind p p s) (sym is) (steps_stray r own behind first_order p s t other_order h)))

    pub both : cmp (key t) (key r) ≡ Equal → p' ≡ p ++ (r, Some t) ∷ [] → Steps cmp key left rest own behind p p' s s
    both h is = subst (λ l. Steps cmp key l rest own behind p p' s s) (sym e) (subst (λ l. Steps cmp key (r ∷ own) l own behind p p' s s) (sym e') (subst (λ q. Steps cmp key (r ∷ own) (t ∷ behind) own behind p q s s) (sym is) (steps_both r own behind first_order p s t other_order h)))

    pub alone : cmp (key t) (key r) ≡ Greater → p' ≡ p ++ (r, None) ∷ [] → Steps cmp key left rest own rest p p' s s
    alone h is = subst (λ l. Steps cmp key l rest own rest p p' s s) (sym e) (subst (λ l. Steps cmp key (r ∷ own) l own l p p' s s) (sym e') (subst (λ q. Steps cmp key (r ∷ own) (t ∷ behind) own (t ∷ behind) p q s s) (sym is) (steps_alone r own behind first_order p s t other_order h)))

  -- where no own rows are left, all rows there are strays
  all_stray : (rest : List R) → strays cmp key [] rest ≡ rest
  all_stray [] = refl
  all_stray (t ∷ rest) = ap (λ l. t ∷ l) (all_stray rest)

  pub strays_end : (left rest found all : List R) → length left ≡ 0 → found ++ strays cmp key left rest ≡ all → found ++ rest ≡ all
  strays_end [] rest found all none h = ap (λ l. found ++ l) (sym (all_stray rest)) ∙ h
  strays_end (r ∷ left) rest found all none h = absurd (omega arith)

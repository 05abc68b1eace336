-- Steps done for each item of a list, the last one first.
use Rattle.std.proofs.Common.{◌≡◌, ◌∙◌, List, [], ◌∷◌, ◌++◌, refl, sym, ap}
use Rattle.std.specs.declared.cmp.Ordering.{Ordering}
use Rattle.cat_model.specs.Tables.{put}
use Rattle.cat_model.specs.Syncs.{in_order}

module _ {A B : Type 0} (step : A → B → B) where
  -- the steps of these items, done to what the items behind them made
  abbrev pub onto : List A → B → B
  onto [] found = found
  onto (x ∷ xs) found = step x (onto xs found)

  onto_one_less : (before : List A) (x : A) (found : B) → onto (before ++ x ∷ []) found ≡ onto before (step x found)
  onto_one_less [] x found = refl
  onto_one_less (y ∷ before) x found = ap (step y) (onto_one_less before x found)

  pub onto_last : (left before : List A) (x : A) (found all : B) → left ≡ before ++ x ∷ [] → onto left found ≡ all → onto before (step x found) ≡ all
  onto_last left before x found all e h = sym (onto_one_less before x found) ∙ ap (λ l. onto l found) (sym e) ∙ h

pub onto_none : {K R : Type 0} (cmp : K → K → Ordering) (key : R → K) (rows : List R) → onto (put cmp key) rows [] ≡ in_order cmp key rows
onto_none cmp key [] = refl
onto_none cmp key (r ∷ rows) = ap (put cmp key r) (onto_none cmp key rows)

-- Among rows in order those whose keys lie in a span stand one after another, from the first key that may lie in it.
use Rattle.std.proofs.Common.{◌≡◌, Bool, true, false, cond, List, [], ◌∷◌, refl, sym, ◌∙◌, ap, filter}
use Rattle.std.specs.List.{AllByRecursion}
use Rattle.std.specs.declared.cmp.Ordering.{Ordering}
use Rattle.std.specs.declared.cmp.Ordering.TheVariants.{Less}
use Rattle.std.proofs.lemmas.Bool.{false≢true}
use Rattle.cat_model.specs.Tables.{Ascends}

-- the rows in front of the first one that fails a test
abbrev pub leading : {R : Type 0} → (R → Bool) → List R → List R
leading test [] = []
leading test (r ∷ rows) = cond (test r) (r ∷ leading test rows) []

module _ {K R : Type 0} (cmp : K → K → Ordering) (key : R → K) (inside onward : K → Bool) (low : (k : K) → inside k ≡ true → onward k ≡ true) (between : (a b : K) → inside b ≡ true → onward a ≡ true → cmp a b ≡ Less → inside a ≡ true) where
  none_behind : (r : R) → onward (key r) ≡ true → inside (key r) ≡ false → (rows : List R) → AllByRecursion (λ s. cmp (key r) (key s) ≡ Less) rows → filter (λ q. inside (key q)) rows ≡ []
  none_behind r g f [] all = refl
  none_behind r g f (s ∷ rows) all = ap (λ b. cond b (s ∷ filter (λ q. inside (key q)) rows) (filter (λ q. inside (key q)) rows)) (no (inside (key s)) refl) ∙ none_behind r g f rows all.1
    where
      no : (b : Bool) → inside (key s) ≡ b → inside (key s) ≡ false
      no true e = absurd (false≢true (sym f ∙ between (key r) (key s) e g all.0))
      no false e = e

  pub leading_is : (rows : List R) → Ascends cmp key rows → leading (λ r. inside (key r)) (filter (λ r. onward (key r)) rows) ≡ filter (λ r. inside (key r)) rows
  leading_is [] asc = refl
  leading_is (r ∷ rows) asc = go (onward (key r)) refl (inside (key r)) refl (leading_is rows asc.1)
    where
      on : List R
      on = filter (λ q. onward (key q)) rows

      in_it : List R
      in_it = filter (λ q. inside (key q)) rows

      front : (g : Bool) → onward (key r) ≡ g → leading (λ q. inside (key q)) (filter (λ q. onward (key q)) (r ∷ rows)) ≡ leading (λ q. inside (key q)) (cond g (r ∷ on) on)
      front g e = ap (λ b. leading (λ q. inside (key q)) (cond b (r ∷ on) on)) e

      whole : (u : Bool) → inside (key r) ≡ u → filter (λ q. inside (key q)) (r ∷ rows) ≡ cond u (r ∷ in_it) in_it
      whole u e = ap (λ b. cond b (r ∷ in_it) in_it) e

      step : (u : Bool) → inside (key r) ≡ u → leading (λ q. inside (key q)) (r ∷ on) ≡ cond u (r ∷ leading (λ q. inside (key q)) on) []
      step u e = ap (λ b. cond b (r ∷ leading (λ q. inside (key q)) on) []) e

      go : (g : Bool) → onward (key r) ≡ g → (u : Bool) → inside (key r) ≡ u → leading (λ q. inside (key q)) on ≡ in_it → leading (λ q. inside (key q)) (filter (λ q. onward (key q)) (r ∷ rows)) ≡ filter (λ q. inside (key q)) (r ∷ rows)
      go true g true u rest = front true g ∙ step true u ∙ ap (λ l. r ∷ l) rest ∙ sym (whole true u)
      go true g false u rest = front true g ∙ step false u ∙ sym (whole false u ∙ none_behind r g u rows asc.0)
      go false g true u rest = absurd (false≢true (sym g ∙ low (key r) u))
      go false g false u rest = front false g ∙ rest ∙ sym (whole false u)

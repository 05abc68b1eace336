-- Names in a table of names, each once.
use Rattle.std.proofs.Common.{◌≡◌, ℕ, Bool, true, false, cond, List, [], ◌∷◌, ◌++◌, refl, sym, ◌∙◌, ap, filter, map, ◌&&◌, ◌||◌, Option, Some, None, Bor, is_some}
use Rattle.std.specs.List.{AllByRecursion, list_any, IsDistinct}
use Rattle.std.specs.Option.{option_copied}
use Rattle.std.specs.declared.cmp.Ordering.{Ordering}
use Rattle.std.specs.declared.cmp.Ordering.TheVariants.{Less, Equal, Greater}
use Rattle.std.specs.Ordering.{is_eq, is_lt, is_gt}
use Rattle.std.proofs.lemmas.Bool.Decides.{same_from_decides}
use Rattle.std.proofs.lemmas.List.Folds.{list_any-append}
use Rattle.std.proofs.lemmas.Map.Views.{any-filter_same}
use Rattle.cat_model.specs.Keys.{same_text, text_cmp}
use Rattle.cat_model.specs.Tables.{put, row_at, Ascends}
use Rattle.cat_model.proofs.TableLemmas.{All-filter}
use Rattle.cat_model.proofs.SameLemmas.{text_decides}
use Rattle.row_table.proofs.Places.{text_place}
use Rattle.catalog_table.specs.Names.{is_among, text_of}
use Rattle.catalog_table.specs.declared.once.Name.{Name}

pub same_turned : (a b : List ℕ) → same_text a b ≡ same_text b a
same_turned a b = same_from_decides _ _ (text_decides a b) (λ e. sym ((text_decides b a).0 e), λ e. (text_decides b a).1 (sym e))

-- a name among those that pass a test is one of them and passes
pub among_filter : (p : List ℕ → Bool) (names : List (List ℕ)) (name : List ℕ) → is_among (filter p names) name ≡ (p name && is_among names name)
among_filter p names name = any-filter_same (same_text name) p (p name) (λ k e. ap p (sym ((text_decides name k).0 e))) names

pub distinct_filter : (p : List ℕ → Bool) (names : List (List ℕ)) → IsDistinct same_text names → IsDistinct same_text (filter p names)
unfolding IsDistinct
distinct_filter p [] h = tt
distinct_filter p (n ∷ names) h = go (p n) (distinct_filter p names h.1)
  where
    go : (b : Bool) → IsDistinct same_text (filter p names) → IsDistinct same_text (cond b (n ∷ filter p names) (filter p names))
    go true rest = (All-filter (λ m. same_text n m ≡ false) p names h.0, rest)
    go false rest = rest

-- names in ascending order are distinct
pub distinct_rows : (rows : List Name) → Ascends text_cmp text_of rows → IsDistinct same_text (map text_of rows)
unfolding IsDistinct
distinct_rows [] asc = tt
distinct_rows (r ∷ rows) asc = (above rows asc.0, distinct_rows rows asc.1)
  where
    above : (xs : List Name) → AllByRecursion (λ s. text_cmp (text_of r) (text_of s) ≡ Less) xs → AllByRecursion (λ m. same_text (text_of r) m ≡ false) (map text_of xs)
    above [] all = tt
    above (x ∷ xs) all = (same_turned (text_of r) (text_of x) ∙ text_place (text_of x) (text_of r) ∙ ap is_eq all.0, above xs all.1)

-- a name that is put is there, with those that were
among_rows : (rows : List Name) (name : List ℕ) → is_among (map text_of rows) name ≡ list_any (λ r. same_text name (text_of r)) rows
among_rows [] name = refl
among_rows (r ∷ rows) name = ap (λ b. same_text name (text_of r) || b) (among_rows rows name)

pub among_put : (new : Name) (rows : List Name) (name : List ℕ) → is_among (map text_of (put text_cmp text_of new rows)) name ≡ (is_among (map text_of rows) name || same_text name (text_of new))
unfolding put
among_put new rows name =
    among_rows (low ++ new ∷ high) name ∙ list_any-append test low (new ∷ high)
    ∙ (λ i. part is_lt i || (test new || part is_gt i)) ∙ go (text_cmp name (text_of new)) (list_any test rows) (test new) (same_turned name (text_of new) ∙ text_place (text_of new) name)
    ∙ ap (λ b. b || test new) (sym (among_rows rows name))
  where
    test : Name → Bool
    test r = same_text name (text_of r)

    low : List Name
    low = filter (λ r. is_lt (text_cmp (text_of r) (text_of new))) rows

    high : List Name
    high = filter (λ r. is_gt (text_cmp (text_of r) (text_of new))) rows

    part : (p : Ordering → Bool) → list_any test (filter (λ r. p (text_cmp (text_of r) (text_of new))) rows) ≡ (p (text_cmp name (text_of new)) && list_any test rows)
    part p = any-filter_same test (λ r. p (text_cmp (text_of r) (text_of new))) (p (text_cmp name (text_of new))) (λ r e. ap (λ k. p (text_cmp k (text_of new))) (sym ((text_decides name (text_of r)).0 e))) rows

    or_true : (a : Bool) → true ≡ (a || true)
    or_true true = refl
    or_true false = refl

    go : (o : Ordering) (a t : Bool) → t ≡ is_eq o → ((is_lt o && a) || (t || (is_gt o && a))) ≡ (a || t)
    go Less a t e = ap (λ t. a || (t || false)) e ∙ ap (λ t. a || t) (sym e)
    go Equal a t e = ap (λ t. t || false) e ∙ or_true a ∙ ap (λ t. a || t) (sym e)
    go Greater a t e = ap (λ t. t || a) e ∙ turned a ∙ ap (λ t. a || t) (sym e)
      where
        turned : (a : Bool) → a ≡ (a || false)
        turned true = refl
        turned false = refl

pub copied_there : (o : Option (Bor Name)) → is_some o ≡ is_some (option_copied o)
copied_there None = refl
copied_there (Some r) = refl

-- a name that is found is one of them
pub among_found : (rows : List Name) (name : List ℕ) → is_some (row_at text_cmp text_of name rows) ≡ is_among (map text_of rows) name
among_found [] name = refl
among_found (r ∷ rows) name = go (is_eq (text_cmp name (text_of r))) (same_text name (text_of r)) (same_turned name (text_of r) ∙ text_place (text_of r) name) (among_found rows name)
  where
    go : (b t : Bool) → t ≡ b → is_some (row_at text_cmp text_of name rows) ≡ is_among (map text_of rows) name → is_some (cond b (Some r) (row_at text_cmp text_of name rows)) ≡ (t || is_among (map text_of rows) name)
    go true t e rest = ap (λ x. x || is_among (map text_of rows) name) (sym e)
    go false t e rest = rest ∙ ap (λ x. x || is_among (map text_of rows) name) (sym e)

pub or_assoc : (a b c : Bool) → ((a || b) || c) ≡ (a || (b || c))
or_assoc true b c = refl
or_assoc false b c = refl

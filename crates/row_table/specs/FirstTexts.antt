-- Pairs whose first text is one text stand one after another.
use Rattle.std.proofs.Common.{◌≡◌, ℕ, false, List, refl, sym, ◌∙◌, ap}
use Rattle.std.specs.declared.cmp.Ordering.{Ordering}
use Rattle.std.specs.declared.cmp.Ordering.TheVariants.{Less, Equal, Greater}
use Rattle.std.specs.Ordering.{is_lt, ordering_then, ordering_reverse}
use Rattle.std.proofs.lemmas.Bool.{false≢true}
use Rattle.std.proofs.lemmas.Cmp.{nat_list_cmp_total as total}
use Rattle.cat_model.specs.Keys.{text_cmp, pair_cmp}
use Rattle.row_table.specs.Rising.{Rises}

turned : (a b : List ℕ) (o : Ordering) → text_cmp a b ≡ o → text_cmp b a ≡ ordering_reverse o
turned a b o e = total.antisymm b a ∙ ap ordering_reverse e

pub first_rises : (text : List ℕ) → Rises pair_cmp (λ k. text_cmp k.0 text)
first_rises text a b l = go (text_cmp a.0 b.0) refl
  where
    go : (o : Ordering) → text_cmp a.0 b.0 ≡ o → (text_cmp b.0 text ≡ Less → text_cmp a.0 text ≡ Less) × (text_cmp a.0 text ≡ Greater → text_cmp b.0 text ≡ Greater)
    go Less e = (λ h. total.trans a.0 b.0 text e h, λ h. turned text b.0 Less (total.trans text a.0 b.0 (turned a.0 text Greater h) e))
    go Equal e = let same = total.congr a.0 b.0 text e in (λ h. same ∙ h, λ h. sym same ∙ h)
    go Greater e = absurd (false≢true (ap is_lt (sym (ap (λ o. ordering_then o (text_cmp a.1 b.1)) e) ∙ l)))

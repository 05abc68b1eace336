-- Pairs of texts are in a total order, by the first and then by the second.
use Rattle.std.proofs.Common.{◌≡◌, refl, sym, ◌∙◌, ap}
use Rattle.std.specs.Cmp.{IsTotalOrder, then_flip}
use Rattle.std.specs.declared.cmp.Ordering.{Ordering}
use Rattle.std.specs.declared.cmp.Ordering.TheVariants.{Less, Equal, Greater}
use Rattle.std.specs.Ordering.{ordering_then, is_eq, is_lt}
use Rattle.std.proofs.lemmas.Cmp.{nat_list_cmp_total, alike_right}
use Rattle.std.proofs.lemmas.Bool.{false≢true}
use Rattle.std.proofs.lemmas.Map.Lookups.{CmpEqualImpliesEq, exact_bytes, exact_pairs}
use Rattle.cat_model.specs.Keys.{text_cmp, pair_cmp}

-- an order that is not Equal is none
less_not_equal : {P : Type 0} → Less ≡ Equal → P
less_not_equal e = absurd (false≢true (ap is_eq e))

greater_not_equal : {P : Type 0} → Greater ≡ Equal → P
greater_not_equal e = absurd (false≢true (ap is_eq e))

both_equal : (a b : Ordering) → ordering_then a b ≡ Equal → (a ≡ Equal) × (b ≡ Equal)
both_equal Less b e = less_not_equal e
both_equal Equal b e = (refl, e)
both_equal Greater b e = greater_not_equal e

greater_not_less : {P : Type 0} → Greater ≡ Less → P
greater_not_less e = absurd (false≢true (ap is_lt e))

module _ {A B : Type 0} (P : A → A → Ordering) (Q : B → B → Ordering) (p : IsTotalOrder P) (q : IsTotalOrder Q) where
  abbrev both : A × B → A × B → Ordering
  both x y = ordering_then (P x.0 y.0) (Q x.1 y.1)

  less_then : (a b : Ordering) → a ≡ Less → ordering_then a b ≡ Less
  less_then a b e = ap (λ o. ordering_then o b) e

  transitive : (x y z : A × B) → both x y ≡ Less → both y z ≡ Less → both x z ≡ Less
  transitive x y z h g = go (P x.0 y.0) refl (P y.0 z.0) refl h g
    where
      go : (a : Ordering) → P x.0 y.0 ≡ a → (b : Ordering) → P y.0 z.0 ≡ b → ordering_then a (Q x.1 y.1) ≡ Less → ordering_then b (Q y.1 z.1) ≡ Less → both x z ≡ Less
      go Less e Less f h' g' = less_then (P x.0 z.0) (Q x.1 z.1) (p.trans x.0 y.0 z.0 e f)
      go Less e Equal f h' g' = less_then (P x.0 z.0) (Q x.1 z.1) (sym (alike_right p y.0 z.0 x.0 f) ∙ e)
      go Equal e Less f h' g' = less_then (P x.0 z.0) (Q x.1 z.1) (p.congr x.0 y.0 z.0 e ∙ f)
      go Equal e Equal f h' g' = ap (λ o. ordering_then o (Q x.1 z.1)) (p.congr x.0 y.0 z.0 e ∙ f) ∙ q.trans x.1 y.1 z.1 h' g'
      go Greater e b f h' g' = greater_not_less h'
      go Less e Greater f h' g' = greater_not_less g'
      go Equal e Greater f h' g' = greater_not_less g'

  pub both_total : IsTotalOrder both
  both_total = record {
    antisymm = λ x y. (λ i. ordering_then (p.antisymm x.0 y.0 i) (q.antisymm x.1 y.1 i)) ∙ then_flip (P y.0 x.0) (Q y.1 x.1);
    trans = transitive;
    congr = λ x y z h. let e = both_equal (P x.0 y.0) (Q x.1 y.1) h in λ i. ordering_then (p.congr x.0 y.0 z.0 e.0 i) (q.congr x.1 y.1 z.1 e.1 i);
  }

pub pair_cmp_total : IsTotalOrder pair_cmp
pair_cmp_total = both_total text_cmp text_cmp nat_list_cmp_total nat_list_cmp_total

pub exact_pair : CmpEqualImpliesEq pair_cmp
exact_pair = exact_pairs text_cmp text_cmp exact_bytes exact_bytes

-- The names that vanish with a node: those that its services alone have.
use Rattle.std.proofs.Common.{◌≡◌, ℕ, Bool, true, false, not, cond, List, [], ◌∷◌, refl, sym, ◌∙◌, ap, subst, filter, ◌&&◌, ◌||◌}
use Rattle.std.specs.List.{list_any, IsDistinct}
use Rattle.cat_model.specs.Keys.{same_text}
use Rattle.cat_model.specs.declared.row.ServiceRow.{ServiceRow}
use Rattle.catalog_table.specs.Rows.{Rows}
use Rattle.catalog_table.specs.Names.{is_among}
use Rattle.catalog_table.specs.Changes.{is_named, vanishes, AreGone}
use Rattle.catalog_table.specs.Steps.{take_node}
use Rattle.catalog_table.specs.Touching.{names_on, service_names}
use Rattle.catalog_table.proofs.Naming.{among_filter, distinct_filter, or_assoc, same_turned}

or_swap : (a b c : Bool) → (a || (b || c)) ≡ (b || (a || c))
or_swap true true c = refl
or_swap true false c = refl
or_swap false b c = refl

and_false : (a : Bool) → (a && false) ≡ false
and_false true = refl
and_false false = refl

and_true : (a : Bool) → (a && true) ≡ a
and_true true = refl
and_true false = refl

vanishing : (here there : Bool) → (not there && here) ≡ ((here || there) && not there)
vanishing true true = refl
vanishing true false = refl
vanishing false true = refl
vanishing false false = refl

module _ (node name : List ℕ) where
  abbrev on : ServiceRow → Bool
  on s = same_text s.node node

  abbrev named : ServiceRow → Bool
  named s = same_text s.name name

  -- the name is among those on the node, or some other service has it
  by_parts : (services : List ServiceRow) → list_any named services ≡ (is_among (service_names (filter on services)) name || list_any named (filter (λ s. not (on s)) services))
  by_parts [] = refl
  by_parts (s ∷ services) = go (on s) (by_parts services)
    where
      here : List ServiceRow
      here = filter on services

      there : List ServiceRow
      there = filter (λ q. not (on q)) services

      go : (b : Bool) → list_any named services ≡ (is_among (service_names here) name || list_any named there)
          → (named s || list_any named services) ≡ (is_among (service_names (cond b (s ∷ here) here)) name || list_any named (cond (not b) (s ∷ there) there))
      go true rest = (λ i. same_turned s.name name i || rest i) ∙ sym (or_assoc (same_text name s.name) (is_among (service_names here) name) (list_any named there))
      go false rest = ap (λ b. named s || b) rest ∙ or_swap (named s) (is_among (service_names here) name) (list_any named there)

  elsewhere_is : (services : List ServiceRow) → list_any (λ s. named s && not (on s)) services ≡ list_any named (filter (λ s. not (on s)) services)
  elsewhere_is [] = refl
  elsewhere_is (s ∷ services) = go (on s) (elsewhere_is services)
    where
      there : List ServiceRow
      there = filter (λ q. not (on q)) services

      go : (b : Bool) → list_any (λ q. named q && not (on q)) services ≡ list_any named there → ((named s && not b) || list_any (λ q. named q && not (on q)) services) ≡ list_any named (cond (not b) (s ∷ there) there)
      go true rest = (λ i. and_false (named s) i || rest i)
      go false rest = (λ i. and_true (named s) i || rest i)

module _ (node : List ℕ) (r : Rows) where
  abbrev elsewhere : List ℕ → Bool
  elsewhere name = list_any (λ (s : ServiceRow). same_text s.name name && not (same_text s.node node)) r.services

  apart : (name : List ℕ) → (not (elsewhere name) && is_among (names_on node r) name) ≡ vanishes r (take_node node r) name
  apart name =
      let left : elsewhere name ≡ is_named name (take_node node r) = elsewhere_is node name r.services in
      let whole : is_named name r ≡ (is_among (names_on node r) name || is_named name (take_node node r)) = by_parts node name r.services in
      ap (λ b. not b && is_among (names_on node r) name) left ∙ vanishing (is_among (names_on node r) name) (is_named name (take_node node r)) ∙ ap (λ b. b && not (is_named name (take_node node r))) (sym whole)

  pub gone_alone : (all each alone : List (List ℕ)) → all ≡ names_on node r → ((name : List ℕ) → is_among each name ≡ is_among all name) → IsDistinct same_text each → alone ≡ filter (λ name. not (elsewhere name)) each → AreGone r (take_node node r) alone
  gone_alone all each alone are those once left =
      record {
        each = λ name. ap (λ l. is_among l name) left ∙ among_filter (λ n. not (elsewhere n)) each name ∙ ap (λ b. not (elsewhere name) && b) (those name ∙ ap (λ l. is_among l name) are) ∙ apart name;
        once = subst (IsDistinct same_text) (sym left) (distinct_filter (λ n. not (elsewhere n)) each once);
      }

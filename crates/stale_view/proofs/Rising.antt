-- The steps of publishers and viewers keep the rule.
use Rattle.std.proofs.Common.{◌≡◌, ◌≢◌, ℕ, List, [], ◌∷◌, set, refl, sym, subst, ⊎_elim}
use mathlib.Core.Option.{some, some-ne-none}
use mathlib.Core.List.{IsPrefix}
use lib.ListN.{get_elem?}
use Rattle.left_right.specs.Register.{Admits, TurnsAt}
use Rattle.atomic_table.proofs.Lists.{at_set, at_snoc}
use Rattle.logbook.specs.Pages.{Book}
use Rattle.cat_model.specs.declared.command.Command.{Command}
use Rattle.stale_view.specs.declared.side.Side.{Side}
use Rattle.stale_view.specs.Sides.{Stands}
use Rattle.stale_view.specs.Rule.{IsShown}
use Rattle.stale_view.proofs.Fronts.{prefix_self, prefix_trans}

-- a viewer that has read nothing may come at any time
pub admits : (b : Book) → Admits (IsShown b) []
admits b x views h = record {
  stands = h.stands;
  begin = λ seat v at. ⊎_elim (h.begin seat v) (λ (e : [] ≡ v). subst (λ (z : List Command). IsPrefix z x.store) e (x.store, refl)) (at_snoc views [] v seat at);
}

-- what turns to a copy that goes on from what was shown
shown_after : (b : Book) (seat : ℕ) (x y : Side) (views : List (List Command)) → IsPrefix x.store y.store → Stands b y → IsShown b x views → IsShown b y (set views seat y.store)
shown_after b seat x y views up stands h = record {
  stands = stands;
  begin = λ j u e. ⊎_elim (λ (t : (j ≡ seat) × (y.store ≡ u)). subst (λ (z : List Command). IsPrefix z y.store) t.1 (prefix_self y.store))
      (λ (t : (j ≢ seat) × (get_elem? views j ≡ some u)). prefix_trans u x.store y.store (h.begin j u t.1) up) (at_set views seat j y.store u e);
}

-- a copy that goes on from what was shown may be shown, and the publisher knows it
pub shows : (b : Book) (seat : ℕ) (v : List Command) (x y : Side) → IsPrefix x.store y.store → Stands b y → TurnsAt (IsShown b) seat v x y (λ v' x' y' w. (w ≡ y'.store) × Stands b y')
shows b seat v x y up stands views h at = (y.store, shown_after b seat x y views up stands h, (refl, stands))

-- what is shown may be read, and goes on from all that had been read
pub enters : (b : Book) (seat : ℕ) (v : List Command) (x : Side) → TurnsAt (IsShown b) seat v x x (λ v' x' y' w. IsPrefix v' x'.store × (w ≡ x'.store) × Stands b x')
enters b seat v x views h at = (x.store, shown_after b seat x x views (prefix_self x.store) h.stands h, (h.begin seat v at, refl, h.stands))

-- the first copy may be shown to whoever has read nothing
pub opens : (b : Book) (x : Side) → Stands b x → IsShown b x ([] ∷ [])
opens b x stands = record {
  stands = stands;
  begin = λ seat v at. ⊎_elim (λ (e : get_elem? [] seat ≡ some v). absurd (some-ne-none v (sym e))) (λ (e : [] ≡ v). subst (λ (z : List Command). IsPrefix z x.store) e (x.store, refl)) (at_snoc [] [] v seat at);
}

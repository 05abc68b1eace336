-- Members put one after the other, the last one first, and arrays item by item.
use Rattle.std.proofs.Common.{arith, ◌≡◌, ◌∙◌, ◌<◌, ◌+◌, ◌++◌, List, [], ◌∷◌, ℕ, refl, sym, ap, map, take, length, get_or, String, Global, string_bytes, string_cmp}
use Rattle.std.proofs.lemmas.List.{map_push, take_more}
use Rattle.std.specs.BTreeMap.{insert_entry}
use Rattle.serde_json.specs.Data.{Data, Members, no_members, put}
use Rattle.serde_json.specs.View.{view, members_view}
use Rattle.serde_json.proofs.Views.{Entry, members_view-insert_entry}
use Rattle.cluster_rules.specs.AgentBodies.{by_name}
use Rattle.serde_json.specs.declared.value.Value.{Value}

-- one more item of an array
pub next_listed : {A : Type 0} (f : A → Data) (vs : List Value) (v : Value) (xs : List A) (i : ℕ) (x : A) → i < length xs → x ≡ get_or xs i x → view v ≡ f x → map view vs ≡ map f (take i xs) → map view (vs ++ v ∷ []) ≡ map f (take (i + 1) xs)
next_listed f vs v xs i x l e said before =
    map_push view vs v ∙ ap (λ y. map view vs ++ y ∷ []) said ∙ ap (λ ys. ys ++ f x ∷ []) before
    ∙ sym (ap (map f) (take_more xs i x l) ∙ ap (λ y. map f (take i xs ++ y ∷ [])) (sym e) ∙ map_push f (take i xs) x)

module _ {A : Type 0} (name : A → List ℕ) (f : A → Data) where
  -- the members of these items, put where those of the items behind them are
  abbrev pub named_onto : List A → Members → Members
  named_onto [] found = found
  named_onto (x ∷ xs) found = put (name x) (f x) (named_onto xs found)

  onto_one_less : (before : List A) (x : A) (found : Members) → named_onto (before ++ x ∷ []) found ≡ named_onto before (put (name x) (f x) found)
  onto_one_less [] x found = refl
  onto_one_less (y ∷ before) x found = ap (put (name y) (f y)) (onto_one_less before x found)

  pub named_onto_none : (xs : List A) → named_onto xs no_members ≡ by_name name f xs
  named_onto_none [] = refl
  named_onto_none (x ∷ xs) = ap (put (name x) (f x)) (named_onto_none xs)

  -- the last member is put
  pub named_last : (es : List Entry) (k : String Global) (v : Value) (left before : List A) (x : A) (all : Members) → left ≡ before ++ x ∷ [] → string_bytes k ≡ name x → view v ≡ f x → named_onto left (members_view es) ≡ all → named_onto before (members_view (insert_entry string_cmp es k v)) ≡ all
  named_last es k v left before x all e key said h =
      ap (named_onto before) (members_view-insert_entry es k v ∙ (λ j. put (key j) (said j) (members_view es)))
      ∙ sym (onto_one_less before x (members_view es)) ∙ ap (λ l. named_onto l (members_view es)) (sym e) ∙ h

  -- all members are put
  pub named_all : (left : List A) (found all : Members) → length left ≡ 0 → named_onto left found ≡ all → found ≡ all
  named_all [] found all e h = h
  named_all (x ∷ xs) found all e h = absurd (omega arith)

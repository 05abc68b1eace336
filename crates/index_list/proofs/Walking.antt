-- A list along which one goes node by node.
use Rattle.std.proofs.Common.{◌≡◌, ◌≢◌, ℕ, Bool, true, false, cond, ◌||◌, List, [], ◌∷◌, refl, sym, ◌∙◌, ap, nat_eq, get_or, Option, Some, None, IfSome}
use Rattle.std.specs.List.{AllByRecursion}
use Rattle.std.proofs.lemmas.Bool.{eqb-true, true≢false}
use Rattle.index_list.specs.Chains.{Distinct}
use Rattle.index_list.specs.Places.{has, first_of, after}
use Rattle.index_list.specs.declared.family.Family.{Family}
use Rattle.index_list.specs.declared.family.Family.TheVariants.{First, Second}
use Rattle.index_list.specs.Nodes.{Nodes, family_of, item_at}
use Rattle.index_list.specs.Walks.{from_node, nodes_left, shown}
use Rattle.index_list.proofs.Keeping.{eq_yes, not_eq}

-- the head stands before the whole list
pub left_first : (l : List ℕ) → nodes_left (first_of l) l ≡ l
left_first [] = refl
left_first (x ∷ l) = ap (λ b. cond b (x ∷ l) (from_node x l)) (eq_yes x x refl)

-- a list of which every node differs from this one has another node
apart_from : (y z : ℕ) (l : List ℕ) → AllByRecursion (λ w. w ≢ y) l → has z l ≡ true → z ≢ y
apart_from y z [] a h = absurd (true≢false (sym h))
apart_from y z (x ∷ l) a h = go (apart_from y z l a.1) (nat_eq x z) refl h
  where
    go : (has z l ≡ true → z ≢ y) → (b : Bool) → nat_eq x z ≡ b → (b || has z l) ≡ true → z ≢ y
    go more true e k = λ q. a.0 (eqb-true x z e ∙ q)
    go more false e k = more k

pub first_there : (l : List ℕ) (z : ℕ) → first_of l ≡ Some z → has z l ≡ true
first_there [] z h = cc
first_there (x ∷ l) z h = let e : x ≡ z = cc in ap (λ b. b || has z l) (eq_yes x z e)

-- the node behind a node is on the list
pub after_there : (x : ℕ) (l : List ℕ) (z : ℕ) → after x l ≡ Some z → has z l ≡ true
after_there x [] z h = cc
after_there x (y ∷ l) z h = go (after_there x l z) (nat_eq y x) h
  where
    either : (a b : Bool) → b ≡ true → (a || b) ≡ true
    either true b e = refl
    either false b e = e

    go : (after x l ≡ Some z → has z l ≡ true) → (b : Bool) → cond b (first_of l) (after x l) ≡ Some z → has z (y ∷ l) ≡ true
    go more true k = either (nat_eq y z) (has z l) (first_there l z k)
    go more false k = either (nat_eq y z) (has z l) (more k)

-- a node in front changes nothing of what is left
left_skip : (y : ℕ) (l : List ℕ) (r : Option ℕ) → AllByRecursion (λ w. w ≢ y) l → ((z : ℕ) → r ≡ Some z → has z l ≡ true) → nodes_left r (y ∷ l) ≡ nodes_left r l
left_skip y l None a h = refl
left_skip y l (Some z) a h = ap (λ b. cond b (y ∷ l) (from_node z l)) (not_eq z y (λ e. apart_from y z l a (h z refl) (sym e)))

-- what is left from a node on is the node and what is left behind it
pub left_next : (x : ℕ) (l : List ℕ) → Distinct l → has x l ≡ true → from_node x l ≡ x ∷ nodes_left (after x l) l
left_next x [] d h = absurd (true≢false (sym h))
left_next x (y ∷ l) d h = go (left_next x l d.1) (nat_eq y x) refl h
  where
    go : (has x l ≡ true → from_node x l ≡ x ∷ nodes_left (after x l) l) → (b : Bool) → nat_eq y x ≡ b → (b || has x l) ≡ true
        → cond b (y ∷ l) (from_node x l) ≡ x ∷ nodes_left (cond b (first_of l) (after x l)) (y ∷ l)
    go more true e k = (λ i. eqb-true y x e i ∷ sym (left_skip y l (first_of l) d.0 (first_there l) ∙ left_first l) i)
    go more false e k = more k ∙ ap (λ r. x ∷ r) (sym (left_skip y l (after x l) d.0 (after_there x l)))

-- what is left has the node that is next
pub next_there : (x : ℕ) (l : List ℕ) (r : Option ℕ) → r ≡ after x l → IfSome r (λ z. has z l ≡ true)
next_there x l None e = tt
next_there x l (Some z) e = after_there x l z (sym e)

pub head_there : (l : List ℕ) (r : Option ℕ) → r ≡ first_of l → IfSome r (λ z. has z l ≡ true)
head_there l None e = tt
head_there l (Some z) e = first_there l z (sym e)

pub some_there : (l : List ℕ) (n : ℕ) (r : Option ℕ) → r ≡ Some n → IfSome r (λ z. has z l ≡ true) → has n l ≡ true
some_there l n None e h = cc
some_there l n (Some z) e h = let i : z ≡ n = cc in ap (λ x. has x l) (sym i) ∙ h

module _ {T : Type 0} where
  -- no list of a family has a node twice
  pub once_in : (family : Family) (s : Nodes T) → ((i : ℕ) → Distinct (get_or s.first i [])) → ((i : ℕ) → Distinct (get_or s.second i [])) → (i : ℕ) → Distinct (get_or (family_of family s) i [])
  once_in First s a b i = a i
  once_in Second s a b i = b i

  -- one step along a list
  pub walk_step : (items : List (Option T)) (l : List ℕ) (n : ℕ) (at next : Option ℕ) (item : T) → at ≡ Some n → Distinct l → has n l ≡ true → next ≡ after n l → Some item ≡ item_at items n → shown items (nodes_left at l) ≡ (n, Some item) ∷ shown items (nodes_left next l)
  walk_step items l n at next item e d h f i =
      ap (λ r. shown items (nodes_left r l)) e ∙ ap (shown items) (left_next n l d h) ∙ (λ k. (n, sym i k) ∷ shown items (nodes_left (sym f k) l))

-- Lists that are filtered by one test after another.
use Rattle.std.proofs.Common.{◌≡◌, ◌∙◌, ◌++◌, Bool, true, false, not, cond, ◌&&◌, ◌||◌, List, [], ◌∷◌, Option, Some, None, refl, sym, ap, filter, map, length, nat_eq, arith}
use Rattle.std.specs.List.{AllByRecursion, list_any, filter_map, cons_option}
use Rattle.std.proofs.lemmas.Bool.{false≢true}
use Rattle.std.proofs.lemmas.Bool.Decides.{Decides-eqb}
use Rattle.cat_model.specs.Keys.{is_empty}
use Rattle.cat_model.specs.Lists.{flat}

-- both tests
pub filter_both : {R : Type 0} (p q : R → Bool) (xs : List R) → filter q (filter p xs) ≡ filter (λ x. p x && q x) xs
filter_both p q [] = refl
filter_both {R = R} p q (x ∷ xs) = go (p x) (filter_both p q xs)
  where
    go : (b : Bool) → filter q (filter p xs) ≡ filter (λ y. p y && q y) xs → filter q (cond b (x ∷ filter p xs) (filter p xs)) ≡ cond (b && q x) (x ∷ filter (λ y. p y && q y) xs) (filter (λ y. p y && q y) xs)
    go true ih = ap (λ l. cond (q x) (x ∷ l) l) ih
    go false ih = ih

-- a test that follows from the next one
pub filter_weaker : {R : Type 0} (p q : R → Bool) → ((x : R) → p x ≡ true → q x ≡ true) → (xs : List R) → filter p (filter q xs) ≡ filter p xs
filter_weaker p q weaker [] = refl
filter_weaker {R = R} p q weaker (x ∷ xs) = go (q x) refl (p x) refl (filter_weaker p q weaker xs)
  where
    go : (b : Bool) → q x ≡ b → (a : Bool) → p x ≡ a → filter p (filter q xs) ≡ filter p xs → filter p (cond b (x ∷ filter q xs) (filter q xs)) ≡ cond a (x ∷ filter p xs) (filter p xs)
    go true e a t ih = ap (λ b. cond b (x ∷ filter p (filter q xs)) (filter p (filter q xs))) t ∙ ap (λ l. cond a (x ∷ l) l) ih
    go false e true t ih = absurd (false≢true (sym e ∙ weaker x t))
    go false e false t ih = ih

-- what two functions make of the elements that pass, where they agree on these
pub map_alike : {R S : Type 0} (p : R → Bool) (f g : R → S) → ((x : R) → p x ≡ true → f x ≡ g x) → (xs : List R) → map f (filter p xs) ≡ map g (filter p xs)
map_alike p f g alike [] = refl
map_alike {R = R} {S = S} p f g alike (x ∷ xs) = go (p x) refl (map_alike p f g alike xs)
  where
    go : (b : Bool) → p x ≡ b → map f (filter p xs) ≡ map g (filter p xs) → map f (cond b (x ∷ filter p xs) (filter p xs)) ≡ map g (cond b (x ∷ filter p xs) (filter p xs))
    go true e ih = λ i. alike x e i ∷ ih i
    go false e ih = ih

pub filter_true : {R : Type 0} (xs : List R) → filter (λ (x : R). true) xs ≡ xs
filter_true [] = refl
filter_true (x ∷ xs) = ap (λ l. x ∷ l) (filter_true xs)

-- an element passes just where the list of those that do is not empty
pub any_is : {R : Type 0} (p : R → Bool) (xs : List R) → list_any p xs ≡ not (is_empty (filter p xs))
any_is p [] = refl
any_is {R = R} p (x ∷ xs) = go (p x) (any_is p xs)
  where
    go : (b : Bool) → list_any p xs ≡ not (is_empty (filter p xs)) → (b || list_any p xs) ≡ not (is_empty (cond b (x ∷ filter p xs) (filter p xs)))
    go true ih = refl
    go false ih = ih

or_right : (a b : Bool) → b ≡ true → (a || b) ≡ true
or_right true b e = refl
or_right false b e = e

-- what holds of everything whose tests the list passes somewhere holds of each element
pub each_found : {R : Type 0} (P : R → Type 0) (xs : List R) → ((x : R) → ((p : R → Bool) → p x ≡ true → list_any p xs ≡ true) → P x) → AllByRecursion P xs
each_found P [] h = tt
each_found P (x ∷ xs) h = (h x (λ p e. ap (λ b. b || list_any p xs) e), each_found P xs (λ y found. h y (λ p e. or_right (p x) (list_any p xs) (found p e))))

pub both_hold : {R : Type 0} (P Q S : R → Type 0) → ((x : R) → P x → Q x → S x) → (xs : List R) → AllByRecursion P xs → AllByRecursion Q xs → AllByRecursion S xs
both_hold P Q S f [] ps qs = tt
both_hold P Q S f (x ∷ xs) ps qs = (f x ps.0 qs.0, both_hold P Q S f xs ps.1 qs.1)

-- lists of at most one
pub flat_is : {R S : Type 0} (f : R → List S) (g : R → Option S) (xs : List R) → AllByRecursion (λ x. f x ≡ cons_option (g x) []) xs → flat f xs ≡ filter_map g xs
flat_is f g [] all = refl
flat_is {R = R} {S = S} f g (x ∷ xs) all = (λ i. all.0 i ++ flat_is f g xs all.1 i) ∙ go (g x)
  where
    go : (o : Option S) → cons_option o [] ++ filter_map g xs ≡ cons_option o (filter_map g xs)
    go None = refl
    go (Some y) = refl

pub empty_is : {R : Type 0} (xs : List R) → nat_eq (length xs) 0 ≡ is_empty xs
empty_is [] = refl
empty_is (x ∷ xs) = go (nat_eq (length (x ∷ xs)) 0) refl
  where
    go : (b : Bool) → nat_eq (length (x ∷ xs)) 0 ≡ b → nat_eq (length (x ∷ xs)) 0 ≡ false
    go true e = absurd (omega (arith, (Decides-eqb (length (x ∷ xs)) 0).0 e))
    go false e = e

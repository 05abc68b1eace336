-- Lists of which something is made, item by item.
use Rattle.std.proofs.Common.{◌≡◌, List, [], ◌∷◌, Bool, true, false, cond, Option, Some, None, refl, ap, filter, map}
use Rattle.std.specs.List.{filter_map, cons_option}

-- what is made of each item that passes a test
pub made_where : {R S : Type 0} (p : R → Bool) (f : R → S) (xs : List R) → filter_map (λ x. cond (p x) (Some (f x)) None) xs ≡ map f (filter p xs)
made_where p f [] = refl
made_where {R = R} {S = S} p f (x ∷ xs) = go (p x) (made_where p f xs)
  where
    go : (b : Bool) → filter_map (λ y. cond (p y) (Some (f y)) None) xs ≡ map f (filter p xs) → cons_option (cond b (Some (f x)) None) (filter_map (λ y. cond (p y) (Some (f y)) None) xs) ≡ map f (cond b (x ∷ filter p xs) (filter p xs))
    go true ih = ap (λ l. f x ∷ l) ih
    go false ih = ih

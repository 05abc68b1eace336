-- One more item of a list that is gone through.
use Rattle.std.proofs.Common.{◌≡◌, ◌∙◌, ◌<◌, ◌++◌, List, [], ◌∷◌, ℕ, ◌+◌, Bool, Option, sym, ap, append-nil, append_assoc, cond, filter, map, take, length, get_or}
use Rattle.std.specs.List.{filter_map, cons_option}
use Rattle.cat_model.specs.Lists.{flat}
use Rattle.std.proofs.lemmas.List.{map_more, take_more}
use Rattle.std.proofs.lemmas.List.Elements.{filter_more, filter_map-append}

pub next_item : {R : Type 0} (xs : List R) (i : ℕ) (x : R) → i < length xs → x ≡ get_or xs i x → take (i + 1) xs ≡ take i xs ++ x ∷ []
next_item xs i x l e = take_more xs i x l ∙ ap (λ y. take i xs ++ y ∷ []) (sym e)

pub next_kept : {R : Type 0} (p : R → Bool) (xs : List R) (i : ℕ) (x : R) (b : Bool) → i < length xs → x ≡ get_or xs i x → b ≡ p x → filter p (take (i + 1) xs) ≡ filter p (take i xs) ++ cond b (x ∷ []) []
next_kept p xs i x b l e t = filter_more p xs i x l ∙ ap (λ y. filter p (take i xs) ++ cond (p y) (y ∷ []) []) (sym e) ∙ ap (λ c. filter p (take i xs) ++ cond c (x ∷ []) []) (sym t)

pub next_made : {R S : Type 0} (f : R → S) (xs : List R) (i : ℕ) (x : R) (y : S) → i < length xs → x ≡ get_or xs i x → y ≡ f x → map f (take (i + 1) xs) ≡ map f (take i xs) ++ y ∷ []
next_made f xs i x y l e t = map_more f xs i x l ∙ ap (λ z. map f (take i xs) ++ f z ∷ []) (sym e) ∙ ap (λ z. map f (take i xs) ++ z ∷ []) (sym t)

pub next_chosen : {R S : Type 0} (f : R → Option S) (xs : List R) (i : ℕ) (x : R) (o : Option S) → i < length xs → x ≡ get_or xs i x → o ≡ f x → filter_map f (take (i + 1) xs) ≡ filter_map f (take i xs) ++ cons_option o []
next_chosen f xs i x o l e t = ap (filter_map f) (next_item xs i x l e) ∙ filter_map-append f (take i xs) (x ∷ []) ∙ ap (λ z. filter_map f (take i xs) ++ cons_option z []) (sym t)

flat-append : {R S : Type 0} (f : R → List S) (xs : List R) (x : R) → flat f (xs ++ x ∷ []) ≡ flat f xs ++ f x
flat-append f [] x = append-nil (f x)
flat-append f (y ∷ ys) x = ap (λ l. f y ++ l) (flat-append f ys x) ∙ sym (append_assoc (f y) (flat f ys) (f x))

pub next_gathered : {R S : Type 0} (f : R → List S) (xs : List R) (i : ℕ) (x : R) (y : List S) → i < length xs → x ≡ get_or xs i x → y ≡ f x → flat f (take (i + 1) xs) ≡ flat f (take i xs) ++ y
next_gathered f xs i x y l e t = ap (flat f) (next_item xs i x l e) ∙ flat-append f (take i xs) x ∙ ap (λ z. flat f (take i xs) ++ z) (sym t)

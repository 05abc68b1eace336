-- Reading a list item by item.
use Rattle.std.proofs.Common.{◌≡◌, ℕ, ◌+◌, ◌<◌, ◌≤◌, List, [], ◌∷◌, ◌++◌, length, drop, get_or, refl, sym, ap, ◌∙◌, append_assoc, append-nil, Result, Ok, Err}
use Rattle.std.proofs.lemmas.List.{drop_more, drop_all}
use Rattle.serde_json.specs.Data.{Data, item}
use Rattle.serde_json.specs.View.{view, items_view}
use Rattle.serde_json.specs.declared.value.Value.{Value}
use Rattle.json_bodies.specs.declared.error.ReadError.{ReadError}
use Rattle.json_bodies.specs.Errors.{◌>>=◌}
use Rattle.json_bodies.specs.Members.{each, with_front}

again : {A : Type 0} (front : List A) (x : A) (r : Result (List A) ReadError) → with_front (front ++ x ∷ []) r ≡ with_front front (r >>= λ xs. Ok (x ∷ xs))
again front x (Ok xs) = ap Ok (append_assoc front (x ∷ []) xs)
again front x (Err e) = refl

-- what is left begins with this item
pub left : (vs : List Value) (i : ℕ) (v : Value) → v ≡ get_or vs i v → i < length vs → items_view (drop i vs) ≡ item (view v) (items_view (drop (i + 1) vs))
left vs i v is less = ap items_view (drop_more vs i v less ∙ ap (λ w. w ∷ drop (i + 1) vs) (sym is))

pub each_more : {A : Type 0} (step : Data → Result A ReadError) (front : List A) (vs : List Value) (i : ℕ) (v : Value) (x : A) → v ≡ get_or vs i v → i < length vs → step (view v) ≡ Ok x
    → with_front (front ++ x ∷ []) (each step (items_view (drop (i + 1) vs))) ≡ with_front front (each step (items_view (drop i vs)))
each_more step front vs i v x is less e =
    again front x (each step (items_view (drop (i + 1) vs)))
    ∙ sym (ap (λ ds. with_front front (each step ds)) (left vs i v is less) ∙ ap (λ r. with_front front (r >>= λ y. each step (items_view (drop (i + 1) vs)) >>= λ ys. Ok (y ∷ ys))) e)

pub each_err : {A : Type 0} (step : Data → Result A ReadError) (front : List A) (vs : List Value) (i : ℕ) (v : Value) (f : ReadError) → v ≡ get_or vs i v → i < length vs → step (view v) ≡ Err f
    → with_front front (each step (items_view (drop i vs))) ≡ Err f
each_err step front vs i v f is less e =
    ap (λ ds. with_front front (each step ds)) (left vs i v is less) ∙ ap (λ r. with_front front (r >>= λ y. each step (items_view (drop (i + 1) vs)) >>= λ ys. Ok (y ∷ ys))) e

pub each_end : {A : Type 0} (step : Data → Result A ReadError) (front : List A) (vs : List Value) (i : ℕ) → length vs ≤ i → with_front front (each step (items_view (drop i vs))) ≡ Ok front
each_end step front vs i past = ap (λ l. with_front front (each step (items_view l))) (drop_all i vs past) ∙ ap Ok (append-nil front)

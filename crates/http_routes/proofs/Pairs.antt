-- The parameters of a query, one after the other.
use Rattle.std.proofs.Common.{◌≡◌, ℕ, ◌+◌, ◌<◌, ◌≤◌, true, false, List, [], ◌∷◌, ◌++◌, length, drop, get_or, map, refl, sym, ap, ◌∙◌, append_assoc, append-nil}
use Rattle.std.proofs.lemmas.List.{drop_more, drop_all}
use Rattle.std.specs.Str.Lossy.{utf8_lossy}
use Rattle.form_urlencoded.specs.Form.{decode}
use Rattle.http_routes.specs.declared.params.Pair.{Pair}
use Rattle.http_routes.specs.Params.{is_named, all_of, pair_of}

-- what is left begins with this pair
left : (pairs : List Pair) (i : ℕ) (p : Pair) → p ≡ get_or pairs i p → i < length pairs → drop i pairs ≡ p ∷ drop (i + 1) pairs
left pairs i p is less = drop_more pairs i p less ∙ ap (λ q. q ∷ drop (i + 1) pairs) (sym is)

named : (name : List ℕ) (p : Pair) (more : List Pair) → is_named name p ≡ true → all_of name (p ∷ more) ≡ p.value ∷ all_of name more
named name p more e = rw e refl

other : (name : List ℕ) (p : Pair) (more : List Pair) → is_named name p ≡ false → all_of name (p ∷ more) ≡ all_of name more
other name p more e = rw e refl

pub all_named : (name : List ℕ) (front : List (List ℕ)) (pairs : List Pair) (i : ℕ) (p : Pair) → p ≡ get_or pairs i p → i < length pairs → is_named name p ≡ true
    → (front ++ p.value ∷ []) ++ all_of name (drop (i + 1) pairs) ≡ front ++ all_of name (drop i pairs)
all_named name front pairs i p is less e =
    append_assoc front (p.value ∷ []) (all_of name (drop (i + 1) pairs))
    ∙ ap (λ l. front ++ l) (sym (ap (all_of name) (left pairs i p is less) ∙ named name p (drop (i + 1) pairs) e))

pub all_other : (name : List ℕ) (front : List (List ℕ)) (pairs : List Pair) (i : ℕ) (p : Pair) → p ≡ get_or pairs i p → i < length pairs → is_named name p ≡ false
    → front ++ all_of name (drop (i + 1) pairs) ≡ front ++ all_of name (drop i pairs)
all_other name front pairs i p is less e =
    ap (λ l. front ++ l) (sym (ap (all_of name) (left pairs i p is less) ∙ other name p (drop (i + 1) pairs) e))

pub all_end : (name : List ℕ) (front : List (List ℕ)) (pairs : List Pair) (i : ℕ) → length pairs ≤ i → front ++ all_of name (drop i pairs) ≡ front
all_end name front pairs i past = ap (λ l. front ++ all_of name l) (drop_all i pairs past) ∙ append-nil front

pub pairs_more : (front : List Pair) (rest rest' : List (List ℕ × List ℕ)) (n v name value : List ℕ) → rest ≡ (n, v) ∷ rest' → name ≡ utf8_lossy (decode n) → value ≡ utf8_lossy (decode v)
    → (front ++ record { name = name; value = value } ∷ []) ++ map pair_of rest' ≡ front ++ map pair_of rest
pairs_more front rest rest' n v name value is is_name is_value =
    append_assoc front (record { name = name; value = value } ∷ []) (map pair_of rest')
    ∙ rw (is, is_name, is_value) refl

-- Arrays, item by item.
use Rattle.std.proofs.Common.{◌≡◌, ◌∙◌, ◌<◌, ◌++◌, List, [], ◌∷◌, ℕ, ◌+◌, Bool, true, false, if◌then◌else◌, refl, sym, ap, append-nil, filter, map, take, length, get_or, String, Global, string_bytes, string_cmp}
use Rattle.std.proofs.lemmas.List.{map_push, take_more}
use Rattle.std.proofs.lemmas.List.Elements.{filter-append}
use Rattle.std.specs.BTreeMap.{insert_entry}
use Rattle.serde_json.specs.Data.{Data, Members, no_members, put}
use Rattle.serde_json.specs.View.{view, members_view}
use Rattle.serde_json.proofs.Views.{Entry, members_view-insert_entry}
use Rattle.reply_body.specs.Rows.{put_each}
use Rattle.serde_json.specs.declared.value.Value.{Value}

pub next_listed : {A : Type 0} (f : A → Data) (vs : List Value) (v : Value) (xs : List A) (i : ℕ) (x : A) → i < length xs → x ≡ get_or xs i x → view v ≡ f x → map view vs ≡ map f (take i xs) → map view (vs ++ v ∷ []) ≡ map f (take (i + 1) xs)
next_listed f vs v xs i x l e said before =
    map_push view vs v ∙ ap (λ y. map view vs ++ y ∷ []) said ∙ ap (λ ys. ys ++ f x ∷ []) before
    ∙ sym (ap (map f) (take_more xs i x l) ∙ ap (λ y. map f (take i xs ++ y ∷ [])) (sym e) ∙ map_push f (take i xs) x)

-- one more member
pub next_named : {A : Type 0} (name : A → List ℕ) (f : A → Data) (xs : List A) (x : A) (found : Members) → put_each name f (xs ++ x ∷ []) found ≡ put (name x) (f x) (put_each name f xs found)
next_named name f [] x found = refl
next_named name f (y ∷ xs) x found = next_named name f xs x (put (name y) (f y) found)

pub next_member : {A : Type 0} (name : A → List ℕ) (f : A → Data) (es : List Entry) (k : String Global) (v : Value) (xs : List A) (i : ℕ) (x : A) → i < length xs → x ≡ get_or xs i x → string_bytes k ≡ name x → view v ≡ f x → members_view es ≡ put_each name f (take i xs) no_members → members_view (insert_entry string_cmp es k v) ≡ put_each name f (take (i + 1) xs) no_members
next_member name f es k v xs i x l e key said before =
    members_view-insert_entry es k v ∙ (λ j. put (key j) (said j) (before j))
    ∙ sym (ap (λ ys. put_each name f ys no_members) (take_more xs i x l ∙ ap (λ y. take i xs ++ y ∷ []) (sym e)) ∙ next_named name f (take i xs) x no_members)

-- the items up to one more, if that passes or not
taken_passes : {A : Type 0} (p : A → Bool) (xs : List A) (i : ℕ) (x : A) → i < length xs → x ≡ get_or xs i x → p x ≡ true → filter p (take (i + 1) xs) ≡ filter p (take i xs) ++ x ∷ []
taken_passes p xs i x l e passes =
    ap (filter p) (take_more xs i x l ∙ ap (λ y. take i xs ++ y ∷ []) (sym e)) ∙ filter-append p (take i xs) (x ∷ [])
    ∙ ap (λ b. filter p (take i xs) ++ (if b then x ∷ [] else [])) passes

taken_fails : {A : Type 0} (p : A → Bool) (xs : List A) (i : ℕ) (x : A) → i < length xs → x ≡ get_or xs i x → p x ≡ false → filter p (take (i + 1) xs) ≡ filter p (take i xs)
taken_fails p xs i x l e fails =
    ap (filter p) (take_more xs i x l ∙ ap (λ y. take i xs ++ y ∷ []) (sym e)) ∙ filter-append p (take i xs) (x ∷ [])
    ∙ ap (λ b. filter p (take i xs) ++ (if b then x ∷ [] else [])) fails ∙ append-nil (filter p (take i xs))

-- of the items that pass a test, one more
pub next_where : {A : Type 0} (p : A → Bool) (f : A → Data) (vs : List Value) (v : Value) (xs : List A) (i : ℕ) (x : A) → i < length xs → x ≡ get_or xs i x → p x ≡ true → view v ≡ f x → map view vs ≡ map f (filter p (take i xs)) → map view (vs ++ v ∷ []) ≡ map f (filter p (take (i + 1) xs))
next_where p f vs v xs i x l e passes said before =
    map_push view vs v ∙ ap (λ y. map view vs ++ y ∷ []) said ∙ ap (λ ys. ys ++ f x ∷ []) before
    ∙ sym (ap (map f) (taken_passes p xs i x l e passes) ∙ map_push f (filter p (take i xs)) x)

-- and one that does not
pub next_left : {A : Type 0} (p : A → Bool) (f : A → Data) (vs : List Value) (xs : List A) (i : ℕ) (x : A) → i < length xs → x ≡ get_or xs i x → p x ≡ false → map view vs ≡ map f (filter p (take i xs)) → map view vs ≡ map f (filter p (take (i + 1) xs))
next_left p f vs xs i x l e fails before = before ∙ sym (ap (map f) (taken_fails p xs i x l e fails))

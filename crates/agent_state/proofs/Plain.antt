-- The bodies' JSON has no number with a fraction.
use Rattle.std.proofs.Common.{◌≡◌, ◌∙◌, ℕ, List, [], ◌∷◌, Bool, true, false, ◌||◌, refl, ap, map, true≢false, Ordering, Less, Equal, Greater}
use Rattle.serde_json.specs.Data.{Data, string, object, Members, member, no_members, put}
use Rattle.serde_json.specs.View.{items_of}
use Rattle.serde_json.specs.Written.{has_float, members_have_float, items_have_float}
use Rattle.std.specs.Ordering.{match_ordering, nat_cmp}
use Rattle.std.specs.Cmp.Lexicographic.{slice_cmp}
use Rattle.cat_model.specs.declared.row.ServiceRow.{ServiceRow}
use Rattle.cat_model.specs.declared.query.CheckView.{CheckView}
use Rattle.cluster_rules.specs.AgentBodies.{by_name, check_data, service_data}

tags_plain : (tags : List (List ℕ)) → items_have_float (items_of (map string tags)) ≡ false
tags_plain [] = refl
tags_plain (tag ∷ tags) = tags_plain tags

service_plain : (row : ServiceRow) → has_float (service_data row) ≡ false
service_plain row = rw (tags_plain row.tags) refl

check_plain : (x : CheckView) → has_float (check_data x) ≡ false
check_plain x = refl

-- a member put among others
placed_plain : (o : Ordering) (a b c : Members) → members_have_float a ≡ false → members_have_float b ≡ false → members_have_float c ≡ false → members_have_float (match_ordering o a b c) ≡ false
placed_plain Less a b c x y z = x
placed_plain Equal a b c x y z = y
placed_plain Greater a b c x y z = z

either_plain : (a b : Bool) → (a || b) ≡ false → (a ≡ false) × (b ≡ false)
either_plain false b e = (refl, e)
either_plain true b e = absurd (true≢false e)

both_plain : (a b : Bool) → a ≡ false → b ≡ false → (a || b) ≡ false
both_plain a b e f = ap (λ x. x || b) e ∙ f

put_plain : (k : List ℕ) (d : Data) (ms : Members) → has_float d ≡ false → members_have_float ms ≡ false → members_have_float (put k d ms) ≡ false
put_plain k d no_members x y = both_plain _ _ x refl
put_plain k d (member l e ms) x y =
    let parts = either_plain (has_float e) (members_have_float ms) y in
    placed_plain (slice_cmp nat_cmp k l) (member k d (member l e ms)) (member l d ms) (member l e (put k d ms)) (both_plain _ _ x y) (both_plain _ _ x parts.1) (both_plain _ _ parts.0 (put_plain k d ms x parts.1))

named_plain : {A : Type 0} (name : A → List ℕ) (f : A → Data) → ((x : A) → has_float (f x) ≡ false) → (xs : List A) → members_have_float (by_name name f xs) ≡ false
named_plain name f each [] = refl
named_plain name f each (x ∷ xs) = put_plain (name x) (f x) (by_name name f xs) (each x) (named_plain name f each xs)

pub services_plain : (rows : List ServiceRow) → has_float (object (by_name (λ s. s.id) service_data rows)) ≡ false
services_plain rows = named_plain (λ s. s.id) service_data service_plain rows

pub checks_plain : (checks : List CheckView) → has_float (object (by_name (λ x. x.row.id) check_data checks)) ≡ false
checks_plain checks = named_plain (λ x. x.row.id) check_data check_plain checks

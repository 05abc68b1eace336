-- Items of a list, and where they stand.
use Rattle.std.proofs.Common.{◌≡◌, ◌≢◌, ℕ, suc, ◌+◌, ◌<◌, ◌≤◌, ◌==◌, Bool, true, false, not, cond, List, [], ◌∷◌, ◌++◌, length, get_or, take, drop, Option, Some, None, refl, sym, ◌∙◌, ap, subst, inl, inr, arith}
use Rattle.std.proofs.lemmas.Bool.Decides.{nat_tests}
use Rattle.std.proofs.lemmas.List.{take-append-drop, drop_more}
use Rattle.std.proofs.lemmas.List.Quantifiers.{position-Some}
use Rattle.std.specs.List.{position, position_or_len, find}
use Rattle.cluster_rules.specs.Replies.{Out, Reply, Replied, Closed, Synced, number_of}
use Rattle.cluster_rules.specs.Cluster.{Pending}
use Rattle.cluster_rules.specs.Sound.{IsAmong}
use Rattle.cluster_requests.specs.declared.collected.Awaits.{Awaits}
use Rattle.cluster_rules.specs.Past.{HasNoOut, IsNotHeld}
use Rattle.cluster_requests.specs.Taking.{Takes, TakesAt, Waits, awaits_of, has_number, is_of}
use Rattle.cluster_requests.specs.Requests.{Requests}
use Rattle.cluster_requests.proofs.Placing.{no_place}

-- a list around an item
pub parted : {A : Type 0} (xs : List A) (k : ℕ) (d : A) → k < length xs → xs ≡ take k xs ++ get_or xs k d ∷ drop (suc k) xs
parted xs k d h =
    let next : k + 1 ≡ suc k = omega arith in
    sym (take-append-drop k xs) ∙ ap (λ l. take k xs ++ l) (drop_more xs k d h ∙ ap (λ n. get_or xs k d ∷ drop n xs) next)

same_number : (a b : ℕ) → (a == b) ≡ true → a ≡ b
same_number a b e = grind (arith, nat_tests)

self_number : (a b : ℕ) → a ≡ b → (a == b) ≡ true
self_number a b e = grind (arith, nat_tests)

is_number : (own : Option ℕ) (number : ℕ) → has_number own number ≡ true → own ≡ Some number
is_number None number e = absurd cc
is_number (Some own) number e = ap Some (same_number own number e)

no_number : (own : Option ℕ) (number : ℕ) → has_number own number ≡ false → own ≢ Some number
no_number None number e h = absurd cc
no_number (Some own) number e h =
    let same : own ≡ number = cc in
    let test = self_number own number same in
    absurd cc

-- the out that was taken is the request's
pub taken_out : (number at : ℕ) (out : Out) (old new : Requests) → position (is_of number) old.tray ≡ Some at → TakesAt at out old new → Takes out old new × (number_of out ≡ Some number)
taken_out number at out old new e t =
    let p = position-Some (is_of number) old.tray at out e in (
      record {
        before = take at old.tray;
        after = drop (suc at) old.tray;
        there = parted old.tray at out p.0 ∙ ap (λ o. take at old.tray ++ o ∷ drop (suc at) old.tray) (sym t.0);
        is = t.1;
      },
      ap number_of t.0 ∙ is_number (number_of (get_or old.tray at out)) number p.1,
    )

pub taken_reply : (number at : ℕ) (reply : Reply) (out : Out) (old new : Requests) → position (is_of number) old.tray ≡ Some at → TakesAt at out old new → Replied reply ≡ out → Takes (Replied reply) old new × (reply.number ≡ number)
taken_reply number at reply out old new e t s =
    let p = taken_out number at out old new e t in
    let same : Some reply.number ≡ Some number = ap number_of s ∙ p.1 in
    (subst (λ o. Takes o old new) (sym s) p.0, cc)

pub taken_closing : (number at own event : ℕ) (out : Out) (old new : Requests) → position (is_of number) old.tray ≡ Some at → TakesAt at out old new → Closed own event ≡ out → Takes (Closed number event) old new
taken_closing number at own event out old new e t s =
    let p = taken_out number at out old new e t in
    let same : Some own ≡ Some number = ap number_of s ∙ p.1 in
    let is : own ≡ number = cc in
    subst (λ n. Takes (Closed n event) old new) is (subst (λ o. Takes o old new) (sym s) p.0)

pub no_sync : (number at agent : ℕ) (count : Option ℕ) (out : Out) (old new : Requests) → position (is_of number) old.tray ≡ Some at → TakesAt at out old new → Synced agent count ≡ out → ⊥
no_sync number at agent count out old new e t s =
    let p = taken_out number at out old new e t in
    let none : None ≡ Some number = ap number_of s ∙ p.1 in
    absurd cc

-- a request that is held, or not
first_held : (b : Bool) (number : ℕ) (h g : Pending) (held : List Pending) → (g.question.number == number) ≡ b → cond b (Some g) (find (λ (k : Pending). k.question.number == number) held) ≡ Some h →
    (find (λ (k : Pending). k.question.number == number) held ≡ Some h → IsAmong h held × (h.question.number ≡ number)) → IsAmong h (g ∷ held) × (h.question.number ≡ number)
first_held true number h g held t e f =
    let same : g ≡ h = cc in
    (inl (sym same), ap (λ (k : Pending). k.question.number) (sym same) ∙ same_number g.question.number number t)
first_held false number h g held t e f = let r = f e in (inr r.0, r.1)

pub found_held : (number : ℕ) (h : Pending) (held : List Pending) → find (λ (g : Pending). g.question.number == number) held ≡ Some h → IsAmong h held × (h.question.number ≡ number)
found_held number h [] e = absurd cc
found_held number h (g ∷ held) e = first_held (g.question.number == number) number h g held refl e (found_held number h held)

-- what the request waits for that was found
pub found_waits : (number : ℕ) (wanted : Awaits) (h : Pending) (seen held : List Pending) → seen ≡ held → find (λ (g : Pending). g.question.number == number) seen ≡ Some h → wanted ≡ awaits_of h.question.asked h.stand → Waits number wanted held
found_waits number wanted h seen held same e w = let f = found_held number h seen e in (h, subst (λ l. IsAmong h l) same f.0, f.1, w)

not_first : (b : Bool) (g : Pending) (rest : Option Pending) → cond b (Some g) rest ≡ None → (b ≡ false) × (rest ≡ None)
not_first true g rest e = absurd cc
not_first false g rest e = (refl, e)

differs : (a b : ℕ) → (a == b) ≡ false → a ≢ b
differs a b e h = let t = self_number a b h in absurd cc

not_held : (number : ℕ) (held : List Pending) → find (λ (g : Pending). g.question.number == number) held ≡ None → IsNotHeld number held
not_held number [] e = tt
not_held number (g ∷ held) e =
    let r = not_first (g.question.number == number) g (find (λ (k : Pending). k.question.number == number) held) e in
    (differs g.question.number number r.0, not_held number held r.1)

-- the same of a list that is seen
pub seen_not_held : (number : ℕ) (seen held : List Pending) → seen ≡ held → find (λ (g : Pending). g.question.number == number) seen ≡ None → IsNotHeld number held
seen_not_held number seen held same e = subst (λ l. IsNotHeld number l) same (not_held number seen e)

pub out_within : (number at : ℕ) (xs : List Out) → position (is_of number) xs ≡ Some at → at < length xs
out_within number at xs e = (position-Some (is_of number) xs at (Closed 0 0) e).0

none_first : (b : Bool) (n m : ℕ) → suc m ≤ cond (not b) (1 + n) 0 → (b ≡ false) × (m ≤ n)
none_first true n m h = absurd (omega arith)
none_first false n m h = (refl, omega arith)

none_of : (number : ℕ) (xs : List Out) → length xs ≤ position_or_len (is_of number) xs → HasNoOut number xs
none_of number [] h = tt
none_of number (x ∷ xs) h =
    let first = none_first (is_of number x) (position_or_len (is_of number) xs) (length xs) h in
    (no_number (number_of x) number first.0, none_of number xs first.1)

pub no_out : (number : ℕ) (xs : List Out) → position (is_of number) xs ≡ None → HasNoOut number xs
no_out number xs e = none_of number xs (omega (arith, no_place (is_of number) xs e))

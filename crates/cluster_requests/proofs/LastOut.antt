-- A sync's out stands last among those of an event.
use Rattle.std.proofs.Common.{◌≡◌, ℕ, ◌<◌, List, [], ◌∷◌, ◌++◌, length, Option, None, refl, ◌∙◌, ap, arith}
use Rattle.std.proofs.lemmas.List.{length-append}
use Rattle.cluster_rules.specs.Due.{put_out}
use Rattle.cluster_rules.specs.Replies.{Out, Synced}
use Rattle.cluster_requests.specs.Requests.{Requests, told_sync}

-- lists with one more at their ends
pub but_last : (xs ys : List Out) (x y : Out) → xs ++ x ∷ [] ≡ ys ++ y ∷ [] → xs ≡ ys
but_last [] [] x y e = refl
but_last [] (b ∷ ys) x y e = absurd (omega (arith, ap length e, length-append ys (y ∷ [])))
but_last (a ∷ xs) [] x y e = absurd (omega (arith, ap length e, length-append xs (x ∷ [])))
but_last (a ∷ xs) (b ∷ ys) x y e =
    let first : a ≡ b = cc in
    let more : xs ++ x ∷ [] ≡ ys ++ y ∷ [] = cc in
    ap (λ z. z ∷ xs) first ∙ ap (λ l. b ∷ l) (but_last xs ys x y more)

pub put_last : (agent : ℕ) (count : Option ℕ) (outs : List Out) → put_out (Synced agent count) outs ≡ outs ++ Synced agent count ∷ []
put_last agent count [] = refl
put_last agent count (o ∷ outs) = ap (λ l. o ∷ l) (put_last agent count outs)

pub some_told : (agent : ℕ) (outs fresh : List Out) → fresh ≡ put_out (Synced agent None) outs → 0 < length fresh
some_told agent outs fresh e = omega (arith, ap length (e ∙ put_last agent None outs), length-append outs (Synced agent None ∷ []))

pub told_last : (agent : ℕ) (r old : Requests) → old ≡ told_sync agent None r → old.fresh ≡ r.fresh ++ Synced agent None ∷ []
told_last agent r old e = ap (λ (q : Requests). q.fresh) e ∙ put_last agent None r.fresh

-- the requests with other outs of the event
pub with_outs : (agent : ℕ) (old r : Requests) (outs others : List Out) → old ≡ told_sync agent None r → outs ≡ others → record old { fresh = outs } ≡ record r { fresh = others }
with_outs agent old r outs others e is = ap (λ (q : Requests). record q { fresh = outs }) e ∙ ap (λ (l : List Out). record r { fresh = l }) is

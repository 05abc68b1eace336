-- Works, one after another, and the events that they are part of.
use Rattle.std.proofs.Common.{◌≡◌, ◌≢◌, inl, inr, ℕ, Bool, true, false, None, Some, refl, sym, subst, Result, Ok, Err, OnOk, OnErr, IfErr}
use Rattle.cat_model.specs.declared.request.Event.{Event}
use Rattle.cat_model.specs.declared.request.Event.TheVariants as event
use Rattle.cluster_rules.specs.Cluster.{Cluster}
use Rattle.cluster_rules.specs.Due.{Work, due, IsDue, did, Works, none, work, IsMadeUp}
use Rattle.cluster_rules.specs.Step.{acts_of, over, act, cut, ClusterStep, done, cut_early, passed, loses, marked, noted, shelved, goes_to}
use Rattle.cluster_order.specs.declared.cut.Cut.{Cut}
use Rattle.cluster_order.specs.declared.cut.Cut.TheVariants.{Before, Within}
use Rattle.cluster_order.specs.declared.impulse.Impulse.{Impulse}
use Rattle.cluster_order.specs.declared.impulse.Impulse.TheVariants as impulse
use Rattle.cluster_order.specs.Turns.{event_of, Turned, WorkedSome, MadeUp, FellBehind, ActsWhole, ActsCut, IsDone, IsCut, FindsNoMemory, Loses, cut_after}

pub works_then : (i : ℕ) (a b : Cluster) → Works i a b → (w : Work) → IsDue i b w → Works i a (did i w b)
works_then i a b none w e = work w e none
works_then i a b (work v d more) w e = work v d (works_then i (did i v a) b more w e)

pub works_turned : (i : ℕ) (a b c : Cluster) → Works i a b → Turned i true b c → Works i a c
works_turned i a b c p (w, e, is) = subst (Works i a) (sym is) (works_then i a b p w e)

pub works_same : (i : ℕ) (a b c : Cluster) → Works i a b → c ≡ b → Works i a c
works_same i a b c p e = subst (Works i a) (sym e) p

pub some_works : (i : ℕ) (a b c : Cluster) → Turned i true a b → Works i b c → WorkedSome i a c
some_works i a b c (w, e, is) p = (w, e, subst (λ z. Works i z c) is p)

pub worked : (i : ℕ) (a b : Cluster) → WorkedSome i a b → Works i a b
worked i a b (w, e, p) = work w e p

pub made_up_by : (i : ℕ) (was : Bool) (a b : Cluster) → MadeUp i was a b → IsMadeUp i a b
made_up_by i true a b m = (worked i a b m.0, m.1)
made_up_by i false a b m = (subst (Works i a) (sym m.1) none, subst (λ z. due i z ≡ None) (sym m.1) m.0)

pub made_up_works : (i : ℕ) (was : Bool) (a b : Cluster) → MadeUp i was a b → Works i a b
made_up_works i was a b m = (made_up_by i was a b m).0

one_act : (made : Impulse) → 1 ≡ acts_of (event_of made)
one_act (impulse.Timeout server) = refl
one_act (impulse.Beat server) = refl
one_act (impulse.Deliver n) = refl
one_act (impulse.Restart server) = refl
one_act (impulse.FailKeep server nth) = refl

pub done_by : (i : ℕ) (made : Impulse) (was : Bool) (a b c d : Cluster) → MadeUp i was a b → ActsWhole i (event_of made) b c → Works i c d → due i d ≡ None → IsDone i (event_of made) a d
done_by i made was a b c d m x p n = (b, made_up_by i was a b m, act c d x.0 x.1 (p, n) (over (one_act made)))

pub cut_behind : (i : ℕ) (made : Event) (was : Bool) (a b c d : Cluster) → MadeUp i was a b → ActsWhole i made b c → Works i c d → due i d ≢ None → IsCut i made Within a d
cut_behind i made was a b c d m x p n = inr (b, made_up_by i was a b m, cut c x.0 p (inl n))

pub cut_forgot : (i : ℕ) (made : Event) (was : Bool) (a b c : Cluster) → MadeUp i was a b → ActsCut i made Within b c → IsCut i made Within a c
cut_forgot i made was a b c m x = inr (b, made_up_by i was a b m, cut c x.0 none (inr x.1))

pub cut_before : (i : ℕ) (made : Event) (was : Bool) (a b c : Cluster) → MadeUp i was a b → c ≡ b → IsCut i made (cut_after was) a c
cut_before i made true a b c m e = inl (subst (WorkedSome i a) (sym e) m.0)
cut_before i made false a b c m e = subst (λ z. z ≡ a) (sym e) m.1

pub cut_at_first : (i : ℕ) (made : Event) (found : Cut) (a b : Cluster) → FellBehind i found a b → IsCut i made found a b
cut_at_first i made Before a b m = m.1
cut_at_first i made Within a b m = inl m.0

pub marked_impulse : (made : Impulse) (c : Cluster) → marked (event_of made) c ≡ noted (event_of made) c
marked_impulse (impulse.Timeout server) c = refl
marked_impulse (impulse.Beat server) c = refl
marked_impulse (impulse.Deliver n) c = refl
marked_impulse (impulse.Restart server) c = refl
marked_impulse (impulse.FailKeep server nth) c = refl

pub step_whole : (i : ℕ) (made : Impulse) (a b c d : Cluster) → b ≡ noted (event_of made) a → IsDone i (event_of made) b c → d ≡ shelved c → ClusterStep a (event_of made) d true
step_whole i made a b c d e (c₁, m, x) f =
    let m' : IsMadeUp i (noted (event_of made) a) c₁ = subst (λ z. IsMadeUp i z c₁) e m in
    done i c₁ c (subst (λ z. IsMadeUp i z c₁) (sym (marked_impulse made a)) m') x f

pub step_cut : (i : ℕ) (made : Impulse) (a b c d : Cluster) → goes_to a (event_of made) ≡ Some i → b ≡ noted (event_of made) a → IsCut i (event_of made) Within b c → d ≡ shelved c → FindsNoMemory (event_of made) a d
step_cut i made a b c d g e (inl p) f =
    let q : WorkedSome i (noted (event_of made) a) c = subst (λ z. WorkedSome i z c) e p in
    inr (cut_early i q.0 c refl g q.1 q.2 f)
step_cut i made a b c d g e (inr (c₁, m, x)) f =
    let m' : IsMadeUp i (noted (event_of made) a) c₁ = subst (λ z. IsMadeUp i z c₁) e m in
    inr (done i c₁ c (subst (λ z. IsMadeUp i z c₁) (sym (marked_impulse made a)) m') x f)

pub lost : (number : ℕ) (a b c d : Cluster) → b ≡ noted (event.Drop number) a → Loses number b c → d ≡ shelved c → ClusterStep a (event.Drop number) d true
lost number a b c d e l f =
    let there : Loses number (noted (event.Drop number) a) c = subst (λ z. Loses number z c) e l in
    passed c refl (loses number there.0 refl there.1 there.2) f

-- a result's cases
pub err_within : {T : Type 0} (r : Result T Cut) (D : Type 0) (Q : Cut → Type 0) → OnErr r D → IfErr r (λ found. found ≡ Within) → (D → Q Within) → IfErr r Q
err_within (Ok x) D Q d w f = tt
err_within (Err found) D Q d w f = subst Q (sym w) (f d)

pub ok_by : {T E : Type 0} (r : Result T E) (P Q : Type 0) → (P → Q) → OnOk r P → OnOk r Q
ok_by (Ok x) P Q f p = f p
ok_by (Err e) P Q f p = tt

pub err_by : {T E : Type 0} (r : Result T E) (P Q : Type 0) → (P → Q) → OnErr r P → OnErr r Q
err_by (Ok x) P Q f p = tt
err_by (Err e) P Q f p = f p

pub err_any : {T E : Type 0} (r : Result T E) (P : Type 0) → P → OnErr r P
err_any (Ok x) P p = tt
err_any (Err e) P p = p

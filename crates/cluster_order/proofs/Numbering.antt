-- A request's number is put into its mark after the server has caught up on what was due: it is as if it had been there
-- before, since no work looks at marks or numbers.
use Rattle.std.proofs.Common.{◌≡◌, ◌≢◌, inl, inr, ℕ, suc, Bool, true, false, None, Some, refl, sym, ap, subst}
use Rattle.cat_model.specs.declared.request.Asked.{Asked}
use Rattle.cat_model.specs.declared.request.Draw.{Draw}
use Rattle.cat_model.specs.declared.request.Event.TheVariants as event
use Rattle.cat_model.specs.declared.reply.Mark.{Mark}
use Rattle.cat_model.specs.declared.reply.Mark.TheVariants as mark
use Rattle.cat_model.specs.declared.reply.Refusal.{Refusal}
use Rattle.cluster_rules.specs.Cluster.{Cluster}
use Rattle.cluster_rules.specs.Due.{Work, Replies, Holds, Closes, Applies, due, IsDue, early, next_one, late, did, Works, none, work, IsMadeUp}
use Rattle.cluster_rules.specs.Requests.{Way, Goes, Answers, refused}
use Rattle.cat_model.specs.declared.request.Asked.TheVariants.{Good, Bad}
use Rattle.cat_model.specs.declared.request.Request.TheVariants.{Read, Execute, Write, Renew, Agent}
use Rattle.cluster_rules.specs.Step.{Acts, Remembers, handles, over, act, cut, replies, ClusterStep, done, passed, cut_early, marked, noted, shelved, goes, goes_to}
use Rattle.cluster_order.specs.declared.cut.Cut.{Cut}
use Rattle.cluster_order.specs.declared.cut.Cut.TheVariants.{Before, Within}
use Rattle.cluster_order.specs.Turns.{IsCome, in_place, numbered, newest, GoesBy, HandlesNewest, WorkedSome, MadeUp, FellBehind, FindsNoMemory, IsServed, IsServedCut, cut_after}
use Rattle.cluster_order.proofs.Keeping.{Keeps, works_keep, way_kept}
use Rattle.cluster_order.proofs.Working.{made_up_by}

abbrev with_number : ℕ → Mark → Cluster → Cluster
with_number n m c = record c { asked = n; past = in_place m c.past }

due_numbered : (i n : ℕ) (m : Mark) (c : Cluster) (w : Work) → IsDue i c w → IsDue i (with_number n m c) w
due_numbered i n m c w (early before after h e f) = early before after h e f
due_numbered i n m c w (next_one e f) = next_one e f
due_numbered i n m c w (late e f before after h g k) = late e f before after h g k

did_numbered : (i n : ℕ) (m : Mark) (w : Work) (c : Cluster) → did i w (with_number n m c) ≡ with_number n m (did i w c)
unfolding did
did_numbered i n m (Replies q kind) c = refl
did_numbered i n m (Holds h) c = refl
did_numbered i n m (Closes number made) c = refl
did_numbered i n m Applies c = refl

works_numbered : (i n : ℕ) (m : Mark) (c c' : Cluster) → Works i c c' → Works i (with_number n m c) (with_number n m c')
works_numbered i n m c c' none = none
works_numbered i n m c c' (work w d more) =
    work w (due_numbered i n m c w d) (subst (λ z. Works i z (with_number n m c')) (sym (did_numbered i n m w c)) (works_numbered i n m (did i w c) c' more))

-- the request is still noted last
did_come : (i : ℕ) (agent : ℕ) (asked : Asked) (draw : Draw) (w : Work) (c : Cluster) → IsCome agent asked draw c.past → IsCome agent asked draw (did i w c).past
unfolding did
did_come i agent asked draw (Replies q kind) c p = p
did_come i agent asked draw (Holds h) c p = p
did_come i agent asked draw (Closes number made) c p = p
did_come i agent asked draw Applies c p = p

pub works_come : (i : ℕ) (agent : ℕ) (asked : Asked) (draw : Draw) (c c' : Cluster) → Works i c c' → IsCome agent asked draw c.past → IsCome agent asked draw c'.past
works_come i agent asked draw c c' none p = p
works_come i agent asked draw c c' (work w d more) p = works_come i agent asked draw (did i w c) c' more (did_come i agent asked draw w c p)

pub made_up_numbered : (i agent : ℕ) (asked : Asked) (draw : Draw) (a c : Cluster) → IsMadeUp i (noted (event.Ask agent asked draw) a) c → IsMadeUp i (marked (event.Ask agent asked draw) a) (numbered agent asked draw c)
made_up_numbered i agent asked draw a c (p, n) =
    let k : c.asked ≡ a.asked = (works_keep i (noted (event.Ask agent asked draw) a) c p).asked in
    let q : Works i (marked (event.Ask agent asked draw) a) (with_number (suc a.asked) (mark.Asked (suc a.asked) agent asked draw) c) =
    works_numbered i (suc a.asked) (mark.Asked (suc a.asked) agent asked draw) (noted (event.Ask agent asked draw) a) c p in
    (subst (λ (z : ℕ). Works i (marked (event.Ask agent asked draw) a) (with_number (suc z) (mark.Asked (suc z) agent asked draw) c)) (sym k) q, n)

pub served_by : (i agent : ℕ) (asked : Asked) (draw : Draw) (was : Bool) (a b c d : Cluster) → MadeUp i was a b → HandlesNewest i agent asked draw b c → Works i c d → due i d ≡ None → IsServed i agent asked draw a d
served_by i agent asked draw was a b c d m x p n = (b, c, made_up_by i was a b m, x, (p, n))

pub served_behind : (i agent : ℕ) (asked : Asked) (draw : Draw) (was : Bool) (a b c d : Cluster) → MadeUp i was a b → HandlesNewest i agent asked draw b c → Works i c d → due i d ≢ None → IsServedCut i agent asked draw Within a d
served_behind i agent asked draw was a b c d m x p n = inr (b, c, made_up_by i was a b m, x, p, n)

pub served_before : (i agent : ℕ) (asked : Asked) (draw : Draw) (was : Bool) (a b c : Cluster) → MadeUp i was a b → c ≡ b → IsServedCut i agent asked draw (cut_after was) a c
served_before i agent asked draw true a b c m e = inl (subst (WorkedSome i a) (sym e) m.0)
served_before i agent asked draw false a b c m e = subst (λ z. z ≡ a) (sym e) m.1

pub served_at_first : (i agent : ℕ) (asked : Asked) (draw : Draw) (found : Cut) (a b : Cluster) → FellBehind i found a b → IsServedCut i agent asked draw found a b
served_at_first i agent asked draw Before a b m = m.1
served_at_first i agent asked draw Within a b m = inl m.0

-- the act of a request whose server has caught up, which forgets nothing
acted : (i agent : ℕ) (asked : Asked) (draw : Draw) (a b c : Cluster) → GoesBy agent asked (Goes i) a → IsMadeUp i (noted (event.Ask agent asked draw) a) b → HandlesNewest i agent asked draw b c →
    (x : Acts 0 (numbered agent asked draw b) i (event.Ask agent asked draw) c) × Remembers x
acted i agent asked draw a b c g m x =
    let k : Keeps (noted (event.Ask agent asked draw) a) b = works_keep i (noted (event.Ask agent asked draw) a) b m.0 in
    (handles agent asked draw refl refl (way_kept agent asked (Goes i) (noted (event.Ask agent asked draw) a) b k g) x, tt)

pub ask_whole : (i agent : ℕ) (asked : Asked) (draw : Draw) (a b c d : Cluster) → GoesBy agent asked (Goes i) a → b ≡ noted (event.Ask agent asked draw) a → IsServed i agent asked draw b c → d ≡ shelved c → ClusterStep a (event.Ask agent asked draw) d true
ask_whole i agent asked draw a b c d g e (c₁, c₂, m, x, n) f =
    let m' : IsMadeUp i (noted (event.Ask agent asked draw) a) c₁ = subst (λ z. IsMadeUp i z c₁) e m in
    done i (numbered agent asked draw c₁) c (made_up_numbered i agent asked draw a c₁ m') (act c₂ c (acted i agent asked draw a c₁ c₂ g m' x).0 (acted i agent asked draw a c₁ c₂ g m' x).1 n (over refl)) f

no_way : (x : Way) → None ≡ Some x → ⊥
no_way x e = cc e

asked_goes : (i agent : ℕ) (asked : Asked) (draw : Draw) (a : Cluster) → GoesBy agent asked (Goes i) a → goes_to a (event.Ask agent asked draw) ≡ Some i
asked_goes i agent (Good (Read query mode least wait raw)) draw a g = ap goes g
asked_goes i agent (Good (Execute name limit mode)) draw a g = ap goes g
asked_goes i agent (Good (Write command)) draw a g = ap goes g
asked_goes i agent (Good (Renew id)) draw a g = ap goes g
asked_goes i agent (Good (Agent op)) draw a g = absurd (no_way _ g)
asked_goes i agent (Bad why) draw a g = ap goes g

pub ask_cut : (i agent : ℕ) (asked : Asked) (draw : Draw) (a b c d : Cluster) → GoesBy agent asked (Goes i) a → b ≡ noted (event.Ask agent asked draw) a → IsServedCut i agent asked draw Within b c → d ≡ shelved c → FindsNoMemory (event.Ask agent asked draw) a d
ask_cut i agent asked draw a b c d g e (inl p) f =
    let q : WorkedSome i (noted (event.Ask agent asked draw) a) c = subst (λ z. WorkedSome i z c) e p in
    inr (cut_early i q.0 c refl (asked_goes i agent asked draw a g) q.1 q.2 f)
ask_cut i agent asked draw a b c d g e (inr (c₁, c₂, m, x, p, n)) f =
    let m' : IsMadeUp i (noted (event.Ask agent asked draw) a) c₁ = subst (λ z. IsMadeUp i z c₁) e m in
    inr (done i (numbered agent asked draw c₁) c (made_up_numbered i agent asked draw a c₁ m') (cut c₂ (acted i agent asked draw a c₁ c₂ g m' x).0 p (inl n)) f)

pub ask_none : (agent : ℕ) (asked : Asked) (draw : Draw) (why : Refusal) (a b c : Cluster) → GoesBy agent asked (Answers why) a → b ≡ refused (newest agent asked draw (marked (event.Ask agent asked draw) a)) why (marked (event.Ask agent asked draw) a) → c ≡ shelved b → ClusterStep a (event.Ask agent asked draw) c true
ask_none agent asked draw why a b c g e f = passed b refl (replies agent asked draw why refl g e) f

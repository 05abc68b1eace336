-- The acts of a tick, as whole events and cut short.
use Rattle.std.proofs.Common.{◌≡◌, ◌≢◌, inl, inr, ℕ, Bool, true, false, None, length, refl, sym, ap, subst, arith}
use Rattle.cat_model.specs.declared.request.Event.TheVariants as event
use Rattle.cluster_rules.specs.Cluster.{Cluster}
use Rattle.cluster_rules.specs.Due.{due, Works, none, IsMadeUp}
use Rattle.cluster_rules.specs.Proposals.{Tends}
use Rattle.cluster_rules.specs.Reached.{IsServerNumber}
use Rattle.cluster_rules.specs.Step.{Acts, ticks, tends, Does, over, act, cut, cut_between, ClusterStep, done, cut_early, noted, shelved}
use Rattle.cluster_order.specs.declared.cut.Cut.TheVariants.{Within}
use Rattle.cluster_order.specs.Turns.{Ticks, TendsInPart, WorkedSome, MadeUp, IsDone, IsCut, FindsNoMemory}
use Rattle.cluster_order.proofs.Keeping.{tended_servers}
use Rattle.cluster_order.proofs.Working.{made_up_by}

ticked : (i ms : ℕ) (b d : Cluster) → Ticks i ms b d → Acts 0 b i (event.Tick i ms) d
ticked i ms b d (w, st, e) = ticks ms w refl refl st e

pub ticked_server : (i ms s : ℕ) (b d : Cluster) → Ticks i ms b d → IsServerNumber b s → IsServerNumber d s
ticked_server i ms s b d (w, st, e) p = let k = ap (λ (z : Cluster). length z.servers) e in (p.0, omega (arith, k, p.1))

pub tended_server : (i s : ℕ) (e f : Cluster) (whole : Bool) → Tends i e f whole → IsServerNumber e s → IsServerNumber f s
tended_server i s e f whole t p = let k = tended_servers i e f whole t in (p.0, omega (arith, k, p.1))

-- where memory runs out behind the clock's going on
pub behind_clock : (i ms : ℕ) (was : Bool) (a b d e : Cluster) → MadeUp i was a b → Ticks i ms b d → Works i d e → due i e ≢ None → IsCut i (event.Tick i ms) Within a e
behind_clock i ms was a b d e m (w, st, is) p n = inr (b, made_up_by i was a b m, cut d (ticks ms w refl refl st is) p (inl n))

-- in the second act
pub in_second : (i ms : ℕ) (was : Bool) (a b d e f : Cluster) → MadeUp i was a b → Ticks i ms b d → Works i d e → due i e ≡ None → TendsInPart i e f → IsCut i (event.Tick i ms) Within a f
in_second i ms was a b d e f m (w, st, is) p n (inl same) =
    inr (b, made_up_by i was a b m, act d e (ticks ms w refl refl st is) tt (p, n) (subst (λ z. Does i (event.Tick i ms) 1 e z false) (sym same) (cut_between (omega arith) (omega arith))))
in_second i ms was a b d e f m (w, st, is) p n (inr t) =
    inr (b, made_up_by i was a b m, act d e (ticks ms w refl refl st is) tt (p, n) (cut f (tends ms false refl refl t) none (inr (λ q. cc q))))

-- and behind it
pub behind_second : (i ms : ℕ) (was : Bool) (a b d e f h : Cluster) → MadeUp i was a b → Ticks i ms b d → Works i d e → due i e ≡ None → Tends i e f true → Works i f h → due i h ≢ None → IsCut i (event.Tick i ms) Within a h
behind_second i ms was a b d e f h m (w, st, is) p n t q k =
    inr (b, made_up_by i was a b m, act d e (ticks ms w refl refl st is) tt (p, n) (cut f (tends ms true refl refl t) q (inl k)))

pub all_done : (i ms : ℕ) (was : Bool) (a b d e f h : Cluster) → MadeUp i was a b → Ticks i ms b d → Works i d e → due i e ≡ None → Tends i e f true → Works i f h → due i h ≡ None → IsDone i (event.Tick i ms) a h
all_done i ms was a b d e f h m (w, st, is) p n t q k =
    (b, made_up_by i was a b m, act d e (ticks ms w refl refl st is) tt (p, n) (act f h (tends ms true refl refl t) refl (q, k) (over refl)))

pub tick_whole : (i ms : ℕ) (a b c d : Cluster) → b ≡ noted (event.Tick i ms) a → IsDone i (event.Tick i ms) b c → d ≡ shelved c → ClusterStep a (event.Tick i ms) d true
tick_whole i ms a b c d e (c₁, m, x) f = done i c₁ c (subst (λ z. IsMadeUp i z c₁) e m) x f

pub tick_cut : (i ms : ℕ) (a b c d : Cluster) → b ≡ noted (event.Tick i ms) a → IsCut i (event.Tick i ms) Within b c → d ≡ shelved c → FindsNoMemory (event.Tick i ms) a d
tick_cut i ms a b c d e (inl p) f =
    let q : WorkedSome i (noted (event.Tick i ms) a) c = subst (λ z. WorkedSome i z c) e p in
    inr (cut_early i q.0 c refl refl q.1 q.2 f)
tick_cut i ms a b c d e (inr (c₁, m, x)) f = inr (done i c₁ c (subst (λ z. IsMadeUp i z c₁) e m) x f)

-- Pairs of a delivery and the same message's loss.
use Rattle.std.proofs.Common.{◌≡◌, inl, inr, ℕ, suc, ◌==◌, Bool, true, false, cond, List, [], ◌∷◌, ◌++◌, Option, Some, None, refl, sym, ◌∙◌, ap, subst, eq-eqb}
use Rattle.cat_model.specs.declared.request.Event.TheVariants as event
use Rattle.raft_model.specs.declared.message.Sent.{Sent}
use Rattle.raft_model.specs.World.{World, Packet, Bag, numbered, posted, posted_all, takes}
use Rattle.cluster_rules.specs.Cluster.{Cluster, clock_of, with_office, took_office, seated}
use Rattle.cluster_rules.specs.Offices.{office_from}
use Rattle.cluster_rules.specs.Requests.{moved}
use Rattle.raft_model.proofs.Tests.{at_bool}
use Rattle.cluster_rules.specs.Due.{work}
use Rattle.cluster_rules.specs.Step as step
use Rattle.cluster_rules.specs.Step.{Acts, Does, over, act, Passes, loses, replies, ClusterStep, done, passed, cut_early, marked}
use Rattle.cluster_rules.specs.Reached.{IsUnderWay, Settling, none, pair, lowest}
use Rattle.cluster_order.specs.Pairs.{HasLowest, IsPair, IsPartOfPair}
use Rattle.cluster_order.specs.Turns.{FindsNoMemory}
use Rattle.cluster_order.proofs.Keeping.{Keeps, works_keep}

more_there : (b : Bool) (q p : Packet) (x y : Option Packet) → (x ≡ Some p → y ≡ Some p) → cond b (Some q) x ≡ Some p → cond b (Some q) y ≡ Some p
more_there true q p x y f h = h
more_there false q p x y f h = f h

there_still : (k : ℕ) (p : Packet) (packets others : List Packet) → numbered k packets ≡ Some p → numbered k (packets ++ others) ≡ Some p
there_still k p [] others h = absurd cc
there_still k p (q ∷ packets) others h = more_there (q.number == k) q p (numbered k packets) (numbered k (packets ++ others)) (there_still k p packets others) h

posts : (b : Bool) (k : ℕ) (p : Packet) (x y : Bag) → numbered k y.packets ≡ Some p → numbered k x.packets ≡ Some p → numbered k (cond b x y).packets ≡ Some p
posts true k p x y h g = g
posts false k p x y h g = h

posted_still : (from k : ℕ) (p : Packet) (s : Sent) (bag : Bag) → numbered k bag.packets ≡ Some p → numbered k (posted from s bag).packets ≡ Some p
posted_still from k p s bag h = posts (takes bag s.message) k p (record { packets = bag.packets ++ record { number = suc bag.last; from = from; to = s.to; message = s.message } ∷ []; last = suc bag.last }) bag h (there_still k p bag.packets _ h)

all_posted_still : (from k : ℕ) (p : Packet) (sent : List Sent) (bag : Bag) → numbered k bag.packets ≡ Some p → numbered k (posted_all from sent bag).packets ≡ Some p
all_posted_still from k p [] bag h = h
all_posted_still from k p (s ∷ sent) bag h = all_posted_still from k p sent (posted from s bag) (posted_still from k p s bag h)

abbrev IsThere : ℕ → Packet → Cluster → Type 0
IsThere k p c = numbered k c.world.bag.packets ≡ Some p

kept_there : (k : ℕ) (p : Packet) (c c' : Cluster) → Keeps c c' → IsThere k p c → IsThere k p c'
kept_there k p c c' e h = ap (λ (w : World). numbered k w.bag.packets) e.world ∙ h

no_sync : (a : ℕ) → None ≡ Some a → ⊥
no_sync a e = cc e

seated_bag : (k : ℕ) (w : World) (i : ℕ) (c : Cluster) → numbered k (seated w i c).world.bag.packets ≡ numbered k c.world.bag.packets
seated_bag k w i c = at_bool (λ b. numbered k (cond b (with_office i (office_from (clock_of c.world i)) c) c).world.bag.packets ≡ numbered k c.world.bag.packets) (took_office w c.world i) (λ _. refl) (λ _. refl)

-- a delivered message is there still
act_there : (k i n : ℕ) (p : Packet) (c c' : Cluster) → Acts n c i (event.Deliver k) c' → IsThere k p c → IsThere k p c'
act_there k i n p c c' (step.takes input w z is acts e) h =
    ap (λ (d : Cluster). numbered k d.world.bag.packets) e ∙ seated_bag k c.world i (moved i w c) ∙ ap (λ (v : World). numbered k v.bag.packets) acts.becomes ∙ all_posted_still i k p acts.sent c.world.bag h
act_there k i n p c c' (step.ticks ms w z is s e) h = absurd cc
act_there k i n p c c' (step.tends ms whole z is t) h = absurd cc
act_there k i n p c c' (step.syncs a whole z is g y) h = absurd (no_sync a is)
act_there k i n p c c' (step.arms nth w z is s e) h = absurd cc
act_there k i n p c c' (step.restarts w z is s e) h = absurd cc
act_there k i n p c c' (step.handles agent asked draw z is g x) h = absurd cc

does_there : (k i n : ℕ) (p : Packet) (c c' : Cluster) (whole : Bool) → Does i (event.Deliver k) n c c' whole → IsThere k p c → IsThere k p c'
does_there k i n p c c' whole (over e) h = h
does_there k i n p c c' whole (act c₁ c₂ a r m more) h = does_there k i (suc n) p c₂ c' whole more (kept_there k p c₁ c₂ (works_keep i c₁ c₂ m.0) (act_there k i n p c c₁ a h))
does_there k i n p c c' whole (step.cut c₁ a m s) h = kept_there k p c₁ c' (works_keep i c₁ c' m) (act_there k i n p c c₁ a h)
does_there k i n p c c' whole (step.cut_between s t) h = h

pub delivered_there : (k : ℕ) (p : Packet) (c c' : Cluster) (whole : Bool) → ClusterStep c (event.Deliver k) c' whole → IsThere k p c → IsThere k p c'
delivered_there k p c c' whole (done i c₁ c₂ m x e) h =
    ap (λ (d : Cluster). numbered k d.world.bag.packets) e ∙ does_there k i 0 p c₁ c₂ whole x (kept_there k p (marked (event.Deliver k) c) c₁ (works_keep i (marked (event.Deliver k) c) c₁ m.0) h)
delivered_there k p c c' whole (passed c₁ w (loses n v is s f) e) h = absurd cc
delivered_there k p c c' whole (passed c₁ w (replies agent asked draw why is g f) e) h = absurd cc
delivered_there k p c c' whole (passed c₁ w (step.stays own free f) e) h = absurd (cc own)
delivered_there k p c c' whole (passed c₁ w (step.leaderless a why own is g f) e) h = absurd (cc own)
delivered_there k p c c' whole (cut_early i w c₁ s g d m e) h =
    ap (λ (d : Cluster). numbered k d.world.bag.packets) e ∙ kept_there k p (step.noted (event.Deliver k) c) c₁ (works_keep i (step.noted (event.Deliver k) c) c₁ (work w d m)) h

pub lowest_there : (p : Packet) (packets : List Packet) → lowest packets ≡ Some p → numbered p.number packets ≡ Some p
lowest_there p [] h = absurd cc
lowest_there p (q ∷ packets) h =
    let e : q ≡ p = cc in
    let same : (q.number == p.number) ≡ true = eq-eqb q.number p.number (ap (λ (r : Packet). r.number) e) in
    ap (λ b. cond b (Some q) (numbered p.number packets)) same ∙ h

-- one pair more
pub pair_more : (n : ℕ) (a b c : Cluster) → Settling n a b → IsPair b c → Settling (suc n) a c
pair_more n a b c none (p, c₁, l, f, s, g, t) = pair p c₁ c l f s g t none
pair_more n a b c (pair p c₁ c₂ l f s g t more) q = pair p c₁ c₂ l f s g t (pair_more _ c₂ b c more q)

pub under_way : (k : ℕ) (c : Cluster) → HasLowest (Some k) c → IsUnderWay c k
under_way k c (p, l, e) = (p, subst (λ n. numbered n c.world.bag.packets ≡ Some p) e (lowest_there p c.world.bag.packets l))

pub under_way_still : (k : ℕ) (a b : Cluster) → HasLowest (Some k) a → ClusterStep a (event.Deliver k) b true → IsUnderWay b k
under_way_still k a b h d = let there = under_way k a h in (there.0, delivered_there k there.0 a b true d there.1)

pub cut_delivery : (k : ℕ) (a b : Cluster) → HasLowest (Some k) a → FindsNoMemory (event.Deliver k) a b → IsPartOfPair a b
cut_delivery k a b h (inl e) = inl e
cut_delivery k a b (p, l, e) (inr d) =
    inr (p, l, subst (λ n. IsUnderWay a n) (sym e) (under_way k a (p, l, e)), subst (λ n. ClusterStep a (event.Deliver n) b false) (sym e) d)

pub pair_is : (k : ℕ) (a b c : Cluster) → HasLowest (Some k) a → ClusterStep a (event.Deliver k) b true → ClusterStep b (event.Drop k) c true → IsPair a c
pair_is k a b c (p, l, e) d s = (
  p,
  b,
  l,
  subst (λ n. IsUnderWay a n) (sym e) (under_way k a (p, l, e)),
  subst (λ n. ClusterStep a (event.Deliver n) b true) (sym e) d,
  subst (λ n. IsUnderWay b n) (sym e) (under_way_still k a b (p, l, e) d),
  subst (λ n. ClusterStep b (event.Drop n) c true) (sym e) s,
)

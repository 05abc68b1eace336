-- What follows from a call that may lack memory, and from one that is told of a cluster's parts.
use Rattle.std.proofs.Common.{◌≡◌, ◌≤◌, ℕ, List, Result, Ok, Err, OnOk, OnErr, sym, subst, arith}
use Rattle.std.specs.List.{AllByRecursion as Each}
use Rattle.cluster_rules.specs.Agents.{Agent}
use Rattle.cat_model.specs.declared.request.Event.{Event}
use Rattle.raft_model.specs.World.{World}
use Rattle.cluster_rules.specs.Cluster.{Cluster, Server}
use Rattle.cluster_rules.specs.Sound.{Ascends}
use Rattle.cluster_order.specs.declared.cut.Cut.{Cut}
use Rattle.cluster_requests.specs.Requests.{Requests}
use Rattle.cluster_works.specs.Acting.{Acted}
use Rattle.cluster_works.specs.Standing.{IsHeld, Stands}
use Rattle.cluster_works.specs.Watching.{Watching}
use Rattle.cluster_works.proofs.Carried.{all_more}

-- what follows where it was done
pub ok_then : {A B P Q : Type 0} (r : Result A B) → (P → Q) → OnOk r P → OnOk r Q
ok_then (Ok a) f p = f p
ok_then (Err b) f p = tt

-- and what follows either way
pub either_way : {A B P Q G : Type 0} (r : Result A B) → (P → G) → (Q → G) → OnOk r P → OnErr r Q → G
either_way (Ok a) f h p q = f p
either_way (Err b) f h p q = h q

pub ok_both : {A B : Type 0} (P Q : Type 0) (r : Result A B) → OnOk r P → OnOk r Q → OnOk r (P × Q)
ok_both P Q (Ok a) p q = (p, q)
ok_both P Q (Err b) p q = tt

pub err_both : {A B : Type 0} (P Q : Type 0) (r : Result A B) → OnErr r P → OnErr r Q → OnErr r (P × Q)
err_both P Q (Ok a) p q = tt
err_both P Q (Err b) p q = (p, q)

-- an act from the cluster that is seen so
pub acted_as : {gs : List Agent} {wt : Watching} {i : ℕ} {made : Event} {d c : Cluster} {w' : World} {servers' : List Server} {r' : Requests} {result : Result Unit Cut} → d ≡ c → Acted gs wt i made d w' servers' r' result → Acted gs wt i made c w' servers' r' result
acted_as {gs} {wt} {i} {made} {w' = w'} {servers' = servers'} {r' = r'} {result = result} e t = subst (λ (x : Cluster). Acted gs wt i made x w' servers' r' result) e t

-- what holds at three values holds at their equals
pub all_as : {A B C : Type 0} {a a' : A} {b b' : B} {c c' : C} (P : A → B → C → Type 0) → a ≡ a' → b ≡ b' → c ≡ c' → P a b c → P a' b' c'
all_as {A} {B} {a' = a'} {b = b} {b' = b'} {c = c} P e f g p = subst (P a' b') g (subst (λ (z : B). P a' z c) f (subst (λ (z : A). P z b c) e p))

-- What stands of a cluster asks of its requests only how many there were and which are held. There may be more.
pub stands_more : {wt : Watching} {w : World} {servers : List Server} {r like r' : Requests} → Stands wt w servers r → r' ≡ like → r.asked ≤ like.asked → like.held ≡ r.held → Stands wt w servers r'
stands_more {wt} {w} {servers} {r} {like} s e more held = subst (Stands wt w servers) (sym e) (record {
  some = s.some;
  count = s.count;
  watching = (s.watching.0, omega (arith, more, s.watching.1));
  proposed = omega (arith, more, s.proposed);
  ascends = subst Ascends (sym held) s.ascends;
  held = all_more wt servers r.asked like.asked like.held more (subst (Each (IsHeld wt servers r.asked)) (sym held) s.held);
})

pub stands_alike : {wt : Watching} {w : World} {servers : List Server} {r like r' : Requests} → Stands wt w servers r → r' ≡ like → like.asked ≡ r.asked → like.held ≡ r.held → Stands wt w servers r'
stands_alike s e count held = stands_more s e (omega (arith, count)) held

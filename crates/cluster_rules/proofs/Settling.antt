-- Pairs of a delivery and the message's loss are events of a run.
use Rattle.std.proofs.Common.{◌≡◌, ℕ, suc, ◌+◌, Bool, true, false, List, ◌∷◌, refl, subst, arith}
use Rattle.std.specs.Prelude.{◌&&◌}
use Rattle.cat_model.specs.declared.request.Event.TheVariants as event
use Rattle.cluster_rules.specs.Cluster.{Cluster}
use Rattle.cluster_rules.specs.Reached.{Move, Makes, EndInPairs, Reached, by_event, Settling, none, pair, then_made, Making, no_more, one}
use Rattle.cat_model.specs.declared.request.Event.{Event}

all_whole : (b : Bool) → (b && true) ≡ b
all_whole true = refl
all_whole false = refl

pub settling_reaches : (start : Cluster) (whole : Bool) (n m : ℕ) (moves : List Move) (c c' : Cluster) → Reached start whole moves c → EndInPairs m moves → Settling n c c' →
    (moves' : List Move) × Reached start whole moves' c' × EndInPairs (n + m) moves'
settling_reaches start whole n m moves c c' r e none = (moves, r, subst (λ z. EndInPairs z moves) (plus m) e)
  where
    plus : (m : ℕ) → m ≡ 0 + m
    plus m = omega arith
settling_reaches start whole n m moves c c' r e (pair {n = k} p c₁ c₂ low fits first fits' second more) =
    let r₁ = subst (λ b. Reached start b (Makes (event.Deliver p.number) ∷ moves) c₁) (all_whole whole) (by_event (event.Deliver p.number) true r fits first) in
    let r₂ = subst (λ b. Reached start b (Makes (event.Drop p.number) ∷ Makes (event.Deliver p.number) ∷ moves) c₂) (all_whole whole) (by_event (event.Drop p.number) true r₁ fits' second) in
    let x = settling_reaches start whole k (suc m) (Makes (event.Drop p.number) ∷ Makes (event.Deliver p.number) ∷ moves) c₂ c' r₂ (refl, e) more in
    (x.0, x.1, subst (λ z. EndInPairs z x.0) (plus k m) x.2)
  where
    plus : (k m : ℕ) → k + suc m ≡ suc k + m
    plus k m = omega arith

-- And so are those of an advance.
pub making_reaches : (start : Cluster) (whole : Bool) (events : List Event) (moves : List Move) (c c' : Cluster) → Reached start whole moves c → Making events c c' → Reached start whole (then_made events moves) c'
making_reaches start whole events moves c c' r no_more = r
making_reaches start whole (made ∷ events) moves c c' r (one m c₁ fits step more) =
    making_reaches start whole events (Makes m ∷ moves) c₁ c' (subst (λ b. Reached start b (Makes m ∷ moves) c₁) (all_whole whole) (by_event m true r fits step)) more

-- What a whole event that is a timeout, a delivery or a loss does to the world.
use Rattle.std.proofs.Common.{◌≡◌, ◌≢◌, ℕ, suc, ◌<◌, Bool, true, false, cond, Some, None, refl, sym, ◌∙◌, ap, subst, arith}
use Rattle.cat_model.specs.declared.request.Event.{Event}
use Rattle.cat_model.specs.declared.request.Event.TheVariants as event
use Rattle.raft_model.specs.Rules.{Input}
use Rattle.raft_model.specs.Step.{Forgets}
use Rattle.raft_model.specs.World.{Acts as NodeActs, Drops, World, WorldStep}
use Rattle.raft_model.proofs.Tests.{at_bool}
use Rattle.cluster_rules.specs.Offices.{office_from}
use Rattle.cluster_rules.specs.Cluster.{Cluster, clock_of, seated, took_office, with_office}
use Rattle.cluster_rules.specs.Due.{Applies, Closes, Holds, Replies, Work, Works, did, none, work}
use Rattle.cluster_rules.specs.Proposals.{is_agents, sync_of}
use Rattle.cluster_rules.specs.Requests.{moved}
use Rattle.cluster_rules.specs.Step.{Acts, ClusterStep, Does, Passes, Remembers, act, acts_of, arms, cut, cut_between, cut_early, done, handles, input_of, leaderless, loses, marked, over, passed, replies, restarts, stays, syncs, takes, tends, ticks}

-- Catching up leaves the world.
did_world : (i : ℕ) (w : Work) (c : Cluster) → (did i w c).world ≡ c.world
unfolding did
did_world i (Replies q kind) c = refl
did_world i (Holds h) c = refl
did_world i (Closes number event) c = refl
did_world i Applies c = refl

pub works_world : (i : ℕ) (c c' : Cluster) → Works i c c' → c'.world ≡ c.world
works_world i c c' none = refl
works_world i c c' (work w e more) = works_world i (did i w c) c' more ∙ did_world i w c

seated_world : (w : World) (i : ℕ) (c : Cluster) → (seated w i c).world ≡ c.world
seated_world w i c = at_bool (λ b. (cond b (with_office i (office_from (clock_of c.world i)) c) c).world ≡ c.world) (took_office w c.world i) (λ _. refl) (λ _. refl)

pub marked_world : (made : Event) (c : Cluster) → (marked made c).world ≡ c.world
marked_world (event.Ask agent asked draw) c = refl
marked_world other c = refl

-- A server is given an input, and has the memory that it needs.
pub record TakesTo (w : World) (made : Event) (w' : World) : Type 0 where
  pub server : ℕ
  pub input : Input
  pub given : input_of w server made ≡ Some input
  pub acts : NodeActs w server input w'
  pub remembers : acts.outcome ≢ Forgets

-- an event that does no more than that
abbrev pub GivesInput : Event → Type 0
GivesInput (event.Timeout s) = Unit {0}
GivesInput (event.Deliver k) = Unit {0}
GivesInput other = ⊥

one_act : (made : Event) → GivesInput made → acts_of made ≡ 1
one_act (event.Timeout s) g = refl
one_act (event.Deliver k) g = refl
one_act other g = absurd g

no_agents : (made : Event) → GivesInput made → is_agents made ≡ false
no_agents (event.Timeout s) g = refl
no_agents (event.Deliver k) g = refl
no_agents other g = absurd g

no_sync : (made : Event) (c : Cluster) (a : ℕ) → GivesInput made → sync_of c made ≡ Some a → ⊥
no_sync (event.Timeout s) c a g e = cc e
no_sync (event.Deliver k) c a g e = cc e
no_sync other c a g e = absurd g

act_takes : (n : ℕ) (c : Cluster) (i : ℕ) (made : Event) (c' : Cluster) → GivesInput made → (a : Acts n c i made c') → Remembers a → TakesTo c.world made c'.world
act_takes n c i made c' g (takes input w' z is a e) r =
    subst (TakesTo c.world made) (sym (ap (λ (x : Cluster). x.world) e ∙ seated_world c.world i (moved i w' c))) (record { server = i; input = input; given = is; acts = a; remembers = r })
act_takes n c i made c' g (ticks ms w' z is st e) r = absurd (subst GivesInput is g)
act_takes n c i made c' g (arms nth w' z is st e) r = absurd (subst GivesInput is g)
act_takes n c i made c' g (restarts w' z is st e) r = absurd (subst GivesInput is g)
act_takes n c i made c' g (handles agent asked draw z is goes h) r = absurd (subst GivesInput is g)
act_takes n c i made c' g (tends ms whole z is t) r = absurd (subst GivesInput is g)
act_takes n c i made c' g (syncs a whole z is goes y) r = absurd (no_sync made c a g is)

-- there is no second one
no_second : (n : ℕ) (c : Cluster) (i : ℕ) (made : Event) (c' : Cluster) → GivesInput made → 0 < n → Acts n c i made c' → ⊥
no_second n c i made c' g l (takes input w' z is a e) = omega arith
no_second n c i made c' g l (ticks ms w' z is st e) = omega arith
no_second n c i made c' g l (arms nth w' z is st e) = omega arith
no_second n c i made c' g l (restarts w' z is st e) = omega arith
no_second n c i made c' g l (handles agent asked draw z is goes h) = omega arith
no_second n c i made c' g l (tends ms whole z is t) = subst GivesInput is g
no_second n c i made c' g l (syncs a whole z is goes y) = omega arith

no_more : (i : ℕ) (made : Event) (n : ℕ) (c c' : Cluster) (whole : Bool) → GivesInput made → 0 < n → whole ≡ true → Does i made n c c' whole → c'.world ≡ c.world
no_more i made n c c' whole g l t (over e) = refl
no_more i made n c c' whole g l t (act c₁ c₂ a r up more) = absurd (no_second n c i made c₁ g l a)
no_more i made n c c' whole g l t (cut c₁ a works short) = cc
no_more i made n c c' whole g l t (cut_between m k) = cc

does_takes : (i : ℕ) (made : Event) (n : ℕ) (c c' : Cluster) (whole : Bool) → GivesInput made → n ≡ 0 → whole ≡ true → Does i made n c c' whole → TakesTo c.world made c'.world
does_takes i made n c c' whole g z t (over e) = absurd (let k = one_act made g in omega arith)
does_takes i made n c c' whole g z t (act c₁ c₂ a r up more) =
    subst (TakesTo c.world made) (sym (no_more i made (suc n) c₂ c' whole g (omega arith) t more ∙ works_world i c₁ c₂ up.0)) (act_takes n c i made c₁ g a r)
does_takes i made n c c' whole g z t (cut c₁ a works short) = cc t
does_takes i made n c c' whole g z t (cut_between m k) = cc t

no_pass : (c : Cluster) (made : Event) (c' : Cluster) → GivesInput made → Passes c made c' → ⊥
no_pass c made c' g (loses k w' is st e) = subst GivesInput is g
no_pass c made c' g (replies agent asked draw why is goes e) = subst GivesInput is g
no_pass c made c' g (stays own free e) = let k = no_agents made g in cc (k, own)
no_pass c made c' g (leaderless a why own is goes e) = let k = no_agents made g in cc (k, own)

pub step_takes : (c c' : Cluster) (made : Event) (whole : Bool) → GivesInput made → whole ≡ true → ClusterStep c made c' whole → TakesTo c.world made c'.world
step_takes c c' made whole g t (done i c₁ c₂ up d e) =
    subst (λ (w : World). TakesTo w made c'.world) (works_world i (marked made c) c₁ up.0 ∙ marked_world made c)
    (subst (λ (w : World). TakesTo c₁.world made w) (sym (ap (λ (x : Cluster). x.world) e)) (does_takes i made 0 c₁ c₂ whole g refl t d))
step_takes c c' made whole g t (passed c₁ w p e) = absurd (no_pass (marked made c) made c₁ g p)
step_takes c c' made whole g t (cut_early i w c₁ short for d more e) = cc (t, short)

-- A loss.
loss_acts : (n : ℕ) (c : Cluster) (i k : ℕ) (made : Event) (c' : Cluster) → made ≡ event.Drop k → Acts n c i made c' → ⊥
loss_acts n c i k made c' d (takes input w' z is a e) = no_input (subst (λ m. input_of c.world i m ≡ Some input) d is)
  where
    no_input : None ≡ Some input → ⊥
    no_input e = cc e
loss_acts n c i k made c' d (ticks ms w' z is st e) = cc (d, is)
loss_acts n c i k made c' d (arms nth w' z is st e) = cc (d, is)
loss_acts n c i k made c' d (restarts w' z is st e) = cc (d, is)
loss_acts n c i k made c' d (handles agent asked draw z is goes h) = cc (d, is)
loss_acts n c i k made c' d (tends ms whole z is t) = cc (d, is)
loss_acts n c i k made c' d (syncs a whole z is goes y) = no_sync (subst (λ m. sync_of c m ≡ Some a) d is)
  where
    no_sync : None ≡ Some a → ⊥
    no_sync e = cc e

loss_does : (i k n : ℕ) (made : Event) (c c' : Cluster) (whole : Bool) → made ≡ event.Drop k → n ≡ 0 → Does i made n c c' whole → ⊥
loss_does i k n made c c' whole d z (over e) = let q = ap acts_of d in omega arith
loss_does i k n made c c' whole d z (act c₁ c₂ a r up more) = loss_acts n c i k made c₁ d a
loss_does i k n made c c' whole d z (cut c₁ a works short) = loss_acts n c i k made c₁ d a
loss_does i k n made c c' whole d z (cut_between m l) = omega arith

loss_passes : (c : Cluster) (k : ℕ) (made : Event) (c' : Cluster) → made ≡ event.Drop k → Passes c made c' → WorldStep c.world (Drops k) c'.world
loss_passes c k made c' d (loses j w' is st e) =
    let same : j ≡ k = cc (d, is) in
    subst (λ (x : Cluster). WorldStep c.world (Drops k) x.world) (sym e) (subst (λ z. WorldStep c.world (Drops z) w') same st)
loss_passes c k made c' d (replies agent asked draw why is goes e) = cc (d, is)
loss_passes c k made c' d (stays own free e) = absurd (let q = ap is_agents d in cc (q, own))
loss_passes c k made c' d (leaderless a why own is goes e) = absurd (let q = ap is_agents d in cc (q, own))

pub step_loses : (c c' : Cluster) (k : ℕ) (whole : Bool) → whole ≡ true → ClusterStep c (event.Drop k) c' whole → WorldStep c.world (Drops k) c'.world
step_loses c c' k whole t (done i c₁ c₂ up d e) = absurd (loss_does i k 0 (event.Drop k) c₁ c₂ whole refl refl d)
step_loses c c' k whole t (passed c₁ w p e) = subst (λ (x : Cluster). WorldStep c.world (Drops k) x.world) (sym e) (loss_passes (marked (event.Drop k) c) k (event.Drop k) c₁ refl p)
step_loses c c' k whole t (cut_early i w c₁ short for d more e) = cc (t, short)

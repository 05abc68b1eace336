-- Messages on their way: an event that gives a server's node an input takes none away, and a loss takes its own alone.
use Rattle.std.proofs.Common.{◌≡◌, ◌≢◌, ℕ, suc, Bool, true, false, cond, List, [], ◌∷◌, ◌++◌, Some, refl, sym, ◌∙◌, ap, subst, arith}
use Rattle.std.specs.Prelude.{◌==◌, is_some}
use Rattle.cat_model.specs.declared.request.Event.{Event}
use Rattle.cat_model.specs.declared.request.Event.TheVariants as event
use Rattle.raft_model.specs.declared.message.Sent.{Sent}
use Rattle.raft_model.specs.Rules.{Input}
use Rattle.raft_model.specs.World.{World, Bag, Packet, Acts as NodeActs, WorldStep, Drops, numbered, posted, posted_all, takes as has_place, without}
use Rattle.raft_model.proofs.Tests.{at_bool, eq_tells}
use Rattle.cluster_rules.specs.Cluster.{Cluster, took_office, seated}
use Rattle.cluster_rules.specs.Due.{Work, Replies, Holds, Closes, Applies, did, Works, none, work}
use Rattle.cluster_rules.specs.Requests.{moved}
use Rattle.cluster_rules.specs.Proposals.{is_agents, sync_of}
use Rattle.cluster_rules.specs.Step.{Acts, takes, ticks, arms, restarts, handles, tends, syncs, acts_of, Does, over, act, cut, cut_between, Passes, loses, replies, stays, leaderless, input_of, marked, ClusterStep, done, passed, cut_early}

-- The bag.
abbrev pub IsIn : ℕ → Bag → Type 0
IsIn k bag = is_some (numbered k bag.packets) ≡ true

abbrev pub IsOnWay : ℕ → World → Type 0
IsOnWay k w = IsIn k w.bag

more_packets : (k : ℕ) (ps qs : List Packet) → is_some (numbered k ps) ≡ true → is_some (numbered k (ps ++ qs)) ≡ true
more_packets k [] qs e = absurd (cc e)
more_packets k (p ∷ ps) qs e =
    at_bool (λ b. is_some (cond b (Some p) (numbered k ps)) ≡ true → is_some (cond b (Some p) (numbered k (ps ++ qs))) ≡ true) (p.number == k)
    (λ _ _. refl) (λ _ f. more_packets k ps qs f) e

posted_keeps : (k i : ℕ) (s : Sent) (bag : Bag) → IsIn k bag → IsIn k (posted i s bag)
posted_keeps k i s bag e =
    let new : Packet = record { number = suc bag.last; from = i; to = s.to; message = s.message } in
    let more : Bag = record { packets = bag.packets ++ new ∷ []; last = suc bag.last } in
    at_bool (λ b. IsIn k (cond b more bag)) (has_place bag s.message) (λ _. more_packets k bag.packets (new ∷ []) e) (λ _. e)

all_posted_keep : (k i : ℕ) (sent : List Sent) (bag : Bag) → IsIn k bag → IsIn k (posted_all i sent bag)
all_posted_keep k i [] bag e = e
all_posted_keep k i (s ∷ ss) bag e = all_posted_keep k i ss (posted i s bag) (posted_keeps k i s bag e)

without_keeps : (j k : ℕ) (ps : List Packet) → j ≢ k → is_some (numbered j ps) ≡ true → is_some (numbered j (without k ps)) ≡ true
without_keeps j k [] d e = e
without_keeps j k (p ∷ ps) d e =
    at_bool (λ b. (p.number == k) ≡ b → is_some (numbered j (cond b ps (p ∷ without k ps))) ≡ true) (p.number == k)
    (λ _ t. at_bool (λ a. (p.number == j) ≡ a → is_some (cond a (Some p) (numbered j ps)) ≡ true → is_some (numbered j ps) ≡ true) (p.number == j)
    (λ _ u _. absurd (d (sym (eq_tells p.number j u) ∙ eq_tells p.number k t))) (λ _ _ f. f) refl e)
    (λ _ _. at_bool (λ a. is_some (cond a (Some p) (numbered j ps)) ≡ true → is_some (cond a (Some p) (numbered j (without k ps))) ≡ true) (p.number == j)
    (λ _ _. refl) (λ _ f. without_keeps j k ps d f) e) refl

-- Catching up leaves the world.
did_world : (i : ℕ) (w : Work) (c : Cluster) → (did i w c).world ≡ c.world
unfolding did
did_world i (Replies q kind) c = refl
did_world i (Holds h) c = refl
did_world i (Closes number event) c = refl
did_world i Applies c = refl

works_world : (i : ℕ) (c c' : Cluster) → Works i c c' → c'.world ≡ c.world
works_world i c c' none = refl
works_world i c c' (work w e more) = works_world i (did i w c) c' more ∙ did_world i w c

marked_world : (made : Event) (c : Cluster) → (marked made c).world ≡ c.world
marked_world (event.Ask agent asked draw) c = refl
marked_world other c = refl

one_world : (v : World) (b : Bool) (c d : Cluster) → c.world ≡ v → d.world ≡ v → (cond b c d).world ≡ v
one_world v true c d e f = e
one_world v false c d e f = f

seated_world : (w : World) (i : ℕ) (c : Cluster) → (seated w i c).world ≡ c.world
seated_world w i c = one_world c.world (took_office w c.world i) _ c refl refl

-- The events that give a server's node an input, and do nothing else.
abbrev pub gives : Event → Bool
gives (event.Timeout s) = true
gives (event.Beat s) = true
gives (event.Deliver k) = true
gives other = false

-- server i's node makes a step with the event's input
pub record Gives (w : World) (made : Event) (w' : World) : Type 0 where
  pub server : ℕ
  pub input : Input
  pub is : input_of w server made ≡ Some input
  pub acts : NodeActs w server input w'

given_to : (v w w' v' : World) (made : Event) → w ≡ v → v' ≡ w' → Gives w made w' → Gives v made v'
given_to v w w' v' made e f g = subst (λ (z : World). Gives z made v') e (subst (λ (z : World). Gives w made z) (sym f) g)

one_act : (made : Event) → gives made ≡ true → acts_of made ≡ 1
one_act (event.Timeout s) g = refl
one_act (event.Beat s) g = refl
one_act (event.Deliver k) g = refl
one_act other g = absurd (cc g)

no_agents : (made : Event) → gives made ≡ true → is_agents made ≡ true → ⊥
no_agents (event.Timeout s) g e = cc e
no_agents (event.Beat s) g e = cc e
no_agents (event.Deliver k) g e = cc e
no_agents other g e = cc g

no_sync : (c : Cluster) (made : Event) (a : ℕ) → gives made ≡ true → sync_of c made ≡ Some a → ⊥
no_sync c (event.Timeout s) a g e = cc e
no_sync c (event.Beat s) a g e = cc e
no_sync c (event.Deliver k) a g e = cc e
no_sync c other a g e = cc g

other_event : (made o : Event) → gives made ≡ true → made ≡ o → gives o ≡ false → ⊥
other_event made o g e f = let h = ap gives e in cc (g, h, f)

act_gives : (n : ℕ) (c : Cluster) (i : ℕ) (made : Event) (c' : Cluster) → Acts n c i made c' → gives made ≡ true → (n ≡ 0) × Gives c.world made c'.world
act_gives n c i made c' (takes input w' z is a e) g = (z, given_to c.world c.world w' c'.world made refl (ap (λ (d : Cluster). d.world) e ∙ seated_world c.world i (moved i w' c)) (record { server = i; input = input; is = is; acts = a }))
act_gives n c i made c' (ticks ms w' z is st e) g = absurd (other_event made (event.Tick i ms) g is refl)
act_gives n c i made c' (arms nth w' z is st e) g = absurd (other_event made (event.FailKeep i nth) g is refl)
act_gives n c i made c' (restarts w' z is st e) g = absurd (other_event made (event.Restart i) g is refl)
act_gives n c i made c' (handles agent asked draw z is goes h) g = absurd (other_event made (event.Ask agent asked draw) g is refl)
act_gives n c i made c' (tends ms whole z is t) g = absurd (other_event made (event.Tick i ms) g is refl)
act_gives n c i made c' (syncs a whole z is goes y) g = absurd (no_sync c made a g is)

-- after its one act nothing is left
does_rest : (i : ℕ) (made : Event) (n : ℕ) (c c' : Cluster) (whole : Bool) → Does i made n c c' whole → gives made ≡ true → n ≡ 1 → whole ≡ true → c' ≡ c
does_rest i made n c c' whole (over e) g one w = refl
does_rest i made n c c' whole (act c₁ c₂ a f m more) g one w = absurd (let z = (act_gives n c i made c₁ a g).0 in omega arith)
does_rest i made n c c' whole (cut c₁ a m short) g one w = absurd (cc w)
does_rest i made n c c' whole (cut_between l k) g one w = absurd (cc w)

does_gives : (i : ℕ) (made : Event) (n : ℕ) (c c' : Cluster) (whole : Bool) → Does i made n c c' whole → gives made ≡ true → n ≡ 0 → whole ≡ true → Gives c.world made c'.world
does_gives i made n c c' whole (over e) g nought w = absurd (let k = one_act made g in omega arith)
does_gives i made n c c' whole (act c₁ c₂ a f m more) g nought w =
    let rest = does_rest i made (suc n) c₂ c' whole more g (ap suc nought) w in
    given_to c.world c.world c₁.world c'.world made refl (ap (λ (d : Cluster). d.world) rest ∙ works_world i c₁ c₂ m.0) (act_gives n c i made c₁ a g).1
does_gives i made n c c' whole (cut c₁ a m short) g nought w = absurd (cc w)
does_gives i made n c c' whole (cut_between l k) g nought w = absurd (cc w)

never_passes : (c : Cluster) (made : Event) (c' : Cluster) → Passes c made c' → gives made ≡ true → ⊥
never_passes c made c' (loses k w' is st e) g = other_event made (event.Drop k) g is refl
never_passes c made c' (replies agent asked draw why is goes e) g = other_event made (event.Ask agent asked draw) g is refl
never_passes c made c' (stays own free e) g = no_agents made g own
never_passes c made c' (leaderless a why own is goes e) g = no_agents made g own

pub step_gives : (c c' : Cluster) (made : Event) (whole : Bool) → ClusterStep c made c' whole → gives made ≡ true → whole ≡ true → Gives c.world made c'.world
step_gives c c' made whole (done i c₁ c₂ m d e) g w =
    given_to c.world c₁.world c₂.world c'.world made (works_world i (marked made c) c₁ m.0 ∙ marked_world made c) (ap (λ (d : Cluster). d.world) e) (does_gives i made 0 c₁ c₂ whole d g refl w)
step_gives c c' made whole (passed c₁ w p e) g all = absurd (never_passes (marked made c) made c₁ p g)
step_gives c c' made whole (cut_early i w c₁ short for d more e) g all = absurd (cc (short, all))

-- a message on its way stays there
pub given_stays : (k : ℕ) (c c' : Cluster) (made : Event) → ClusterStep c made c' true → gives made ≡ true → IsOnWay k c.world → IsOnWay k c'.world
given_stays k c c' made s g e =
    let x = step_gives c c' made true s g refl in
    subst (λ (w : World). IsOnWay k w) (sym x.acts.becomes) (all_posted_keep k x.server x.acts.sent c.world.bag e)

-- The loss of a message.
loss_acts : (n : ℕ) (c : Cluster) (i k : ℕ) (c' : Cluster) → Acts n c i (event.Drop k) c' → ⊥
loss_acts n c i k c' (takes input w' z is a e) = cc is
loss_acts n c i k c' (ticks ms w' z is st e) = cc is
loss_acts n c i k c' (arms nth w' z is st e) = cc is
loss_acts n c i k c' (restarts w' z is st e) = cc is
loss_acts n c i k c' (handles agent asked draw z is goes h) = cc is
loss_acts n c i k c' (tends ms whole z is t) = cc is
loss_acts n c i k c' (syncs a whole z is goes y) = cc is

loss_does : (i k n : ℕ) (c c' : Cluster) (whole : Bool) → Does i (event.Drop k) n c c' whole → n ≡ 0 → whole ≡ true → ⊥
loss_does i k n c c' whole (over e) nought w = omega arith
loss_does i k n c c' whole (act c₁ c₂ a f m more) nought w = loss_acts n c i k c₁ a
loss_does i k n c c' whole (cut c₁ a m short) nought w = cc w
loss_does i k n c c' whole (cut_between l less) nought w = cc w

loss_keeps : (j k : ℕ) (w w' : World) → WorldStep w (Drops k) w' → j ≢ k → IsOnWay j w → IsOnWay j w'
loss_keeps j k w w' (p, found, e) d on = subst (λ (z : World). IsOnWay j z) (sym e) (without_keeps j k w.bag.packets d on)

loss_passes : (j k : ℕ) (c c' : Cluster) → Passes c (event.Drop k) c' → j ≢ k → IsOnWay j c.world → IsOnWay j c'.world
loss_passes j k c c' (loses m w' is st e) d on =
    let same : m ≡ k = cc is in
    subst (λ (z : World). IsOnWay j z) (sym (ap (λ (x : Cluster). x.world) e)) (loss_keeps j m c.world w' st (λ z. d (z ∙ same)) on)
loss_passes j k c c' (replies agent asked draw why is goes e) d on = absurd (cc is)
loss_passes j k c c' (stays own free e) d on = absurd (cc own)
loss_passes j k c c' (leaderless a why own is goes e) d on = absurd (cc own)

-- the others stay on their way
pub lost_stays : (j k : ℕ) (c c' : Cluster) (whole : Bool) → ClusterStep c (event.Drop k) c' whole → whole ≡ true → j ≢ k → IsOnWay j c.world → IsOnWay j c'.world
lost_stays j k c c' whole (done i c₁ c₂ m does e) all d on = absurd (loss_does i k 0 c₁ c₂ whole does refl all)
lost_stays j k c c' whole (passed c₁ w p e) all d on =
    subst (λ (z : World). IsOnWay j z) (sym (ap (λ (x : Cluster). x.world) e)) (loss_passes j k (marked (event.Drop k) c) c₁ p d on)
lost_stays j k c c' whole (cut_early i w c₁ short for due more e) all d on = absurd (cc (short, all))

-- Whatever is done to a cluster that serves leaves it serving.
use Rattle.std.proofs.Common.{◌≡◌, ◌⊎◌, ℕ, suc, ◌+◌, Bool, true, false, inl, inr, List, [], ◌∷◌, ◌++◌, length, refl, sym, ◌∙◌, subst, append_assoc, arith, Some, None}
use Rattle.std.specs.Prelude.{◌&&◌}
use Rattle.cat_model.specs.declared.request.Asked.{Asked}
use Rattle.cat_model.specs.declared.request.Draw.{Draw}
use Rattle.cat_model.specs.declared.request.Event.{Event}
use Rattle.cat_model.specs.declared.request.Event.TheVariants as event
use Rattle.cat_model.specs.declared.reply.Mark.{Mark}
use Rattle.cat_model.specs.declared.reply.Mark.TheVariants as mark
use Rattle.cluster_rules.specs.Replies.{Out, Closed, Synced, number_of}
use Rattle.cluster_rules.specs.Cluster.{Cluster}
use Rattle.cluster_rules.specs.Step.{ClusterStep, marked, noted}
use Rattle.cluster_rules.specs.Reached.{IsBegun, MayBegin, Move, Makes, Takes, Settles, Fits, at_start, by_event, by_handing, by_taking, by_settling, EndInPairs, Settling, none, pair, moves_of}
use Rattle.cluster_rules.specs.Sound.{Sound, IsAmong, RestartedAt}
use Rattle.cluster_rules.specs.Booked.{Booked, OutIsBooked}
use Rattle.cluster_rules.proofs.Reached.{run_sound}
use Rattle.cluster_rules.proofs.Booked.{run_books}
use Rattle.cluster_rules.proofs.Marks.{begun_marks}
use Rattle.cluster_rules.proofs.Starting.{kept_start}
use Rattle.cluster_rules.proofs.Tools.{each_in}
use Rattle.cluster_order.specs.Pairs.{IsPartlySettled, IsPartOfPair, settled}
use Rattle.run_rules.specs.Plays.{of_requests}
use Rattle.run_rules.specs.Keeping.{Keeps}
use Rattle.run_rules.specs.Serving.{Size, IsServing, AreServing, Serves}
use Rattle.run_rules.proofs.Keeping.{step_keeps}

abbrev pub begins : (size : Size) (c : Cluster) → IsBegun size.stores c → length c.agents ≡ size.agents → Serves size c
begins size c b n = record { start = c; whole = true; moves = []; begins = b; reached = at_start; serving = tt; count = n }

-- Its books hold whatever the stores held, and it is sound where they were empty or such as an earlier run left.
pub is_booked : (size : Size) (c : Cluster) → Serves size c → Booked c
is_booked size c s = run_books size.stores s.start c s.whole s.moves s.begins s.reached

pub is_sound : (size : Size) (c : Cluster) → Serves size c → MayBegin size.stores → Sound c
is_sound size c s kept = run_sound s.start (kept_start size.stores s.start s.begins kept) s.whole s.moves c s.reached

marked_agents : (made : Event) (c : Cluster) → length (marked made c).agents ≡ length c.agents
marked_agents (event.Ask agent asked draw) c = refl
marked_agents other c = refl

-- how many agents there are after a step
pub agents_after : (c c' : Cluster) (made : Event) (whole : Bool) → ClusterStep c made c' whole → length c'.agents ≡ length c.agents
agents_after c c' made whole s = either (step_keeps c c' made whole s)
  where
    either : Keeps (marked made c) c' ⊎ (Keeps (noted made c) c' × (whole ≡ false)) → length c'.agents ≡ length c.agents
    either (inl k) = k.agents ∙ marked_agents made c
    either (inr k) = k.0.agents

-- an event that may come behind what was done before
abbrev by_move : (size : Size) (c c' : Cluster) (made : Event) (whole : Bool) → (s : Serves size c) → IsServing (Makes made) s.moves → Fits c made → ClusterStep c made c' whole → Serves size c'
by_move size c c' made whole s may fits step = record {
  start = s.start;
  whole = s.whole && whole;
  moves = Makes made ∷ s.moves;
  begins = s.begins;
  reached = by_event made whole s.reached fits step;
  serving = (may, s.serving);
  count = agents_after c c' made whole step ∙ s.count;
}

pub elected : (size : Size) (c c' : Cluster) (whole : Bool) → IsBegun size.stores c → length c.agents ≡ size.agents → Fits c (event.Timeout 1) → ClusterStep c (event.Timeout 1) c' whole → Serves size c'
elected size c c' whole b n fits step = by_move size c c' (event.Timeout 1) whole (begins size c b n) (refl, refl) fits step

pub asked_on : (size : Size) (c c' : Cluster) (agent : ℕ) (asked : Asked) (draw : Draw) (whole : Bool) → Serves size c → Fits c (event.Ask agent asked draw) → ClusterStep c (event.Ask agent asked draw) c' whole → Serves size c'
asked_on size c c' agent asked draw whole s fits step = by_move size c c' (event.Ask agent asked draw) whole s tt fits step

pub ticked_on : (size : Size) (c c' : Cluster) (server ms : ℕ) (whole : Bool) → Serves size c → Fits c (event.Tick server ms) → ClusterStep c (event.Tick server ms) c' whole → Serves size c'
ticked_on size c c' server ms whole s fits step = by_move size c c' (event.Tick server ms) whole s tt fits step

pub agent_ticked_on : (size : Size) (c c' : Cluster) (agent ms : ℕ) (whole : Bool) → Serves size c → Fits c (event.AgentTick agent ms) → ClusterStep c (event.AgentTick agent ms) c' whole → Serves size c'
agent_ticked_on size c c' agent ms whole s fits step = by_move size c c' (event.AgentTick agent ms) whole s tt fits step

all_whole : (b : Bool) → (b && true) ≡ b
all_whole true = refl
all_whole false = refl

-- a run that ends in so many pairs
record EndsInPairs (size : Size) (n : ℕ) (c : Cluster) : Type 0 where
  pub serves : Serves size c
  pub pairs : EndInPairs n serves.moves

-- a delivery and then the same message's loss
pair_on : (size : Size) (n : ℕ) (c c₁ c₂ : Cluster) (k : ℕ) → EndsInPairs size n c → Fits c (event.Deliver k) → ClusterStep c (event.Deliver k) c₁ true → Fits c₁ (event.Drop k) → ClusterStep c₁ (event.Drop k) c₂ true → EndsInPairs size (suc n) c₂
pair_on size n c c₁ c₂ k e fits first fits' second =
    let s = by_move size c c₁ (event.Deliver k) true e.serves tt fits first in
    record { serves = by_move size c₁ c₂ (event.Drop k) true s refl fits' second; pairs = (refl, e.pairs) }

settling_on : (size : Size) (n m : ℕ) (c c' : Cluster) → EndsInPairs size m c → Settling n c c' → EndsInPairs size (n + m) c'
settling_on size n m c c' e none = subst (λ z. EndsInPairs size z c) (plus m) e
  where
    plus : (m : ℕ) → m ≡ 0 + m
    plus m = omega arith
settling_on size n m c c' e (pair {n = k} p c₁ c₂ low fits first fits' second more) =
    subst (λ z. EndsInPairs size z c') (plus k m) (settling_on size k (suc m) c₂ c' (pair_on size m c c₁ c₂ p.number e fits first fits' second) more)
  where
    plus : (k m : ℕ) → k + suc m ≡ suc k + m
    plus k m = omega arith

no_pairs : (size : Size) (c : Cluster) → Serves size c → EndsInPairs size 0 c
no_pairs size c s = record { serves = s; pairs = tt }

-- so many pairs, and their mark
marked_pairs : (size : Size) (n : ℕ) (c : Cluster) → EndsInPairs size n c → Serves size (settled n c)
marked_pairs size n c e = record {
  start = e.serves.start;
  whole = e.serves.whole;
  moves = Settles n true ∷ e.serves.moves;
  begins = e.serves.begins;
  reached = by_settling n true e.serves.reached e.pairs;
  serving = (tt, e.serves.serving);
  count = e.serves.count;
}

plus_none : (n : ℕ) → n + 0 ≡ n
plus_none n = omega arith

pub settled_on : (size : Size) (pairs : ℕ) (c mid c' : Cluster) → Serves size c → Settling pairs c mid → c' ≡ settled pairs mid → Serves size c'
settled_on size pairs c mid c' s all is =
    subst (Serves size) (sym is) (marked_pairs size pairs mid (subst (λ z. EndsInPairs size z mid) (plus_none pairs) (settling_on size pairs 0 c mid (no_pairs size c s) all)))

part_on : (size : Size) (c c' : Cluster) → Serves size c → IsPartOfPair c c' → Serves size c'
part_on size c c' s (inl e) = subst (Serves size) (sym e) s
part_on size c c' s (inr (p, low, fits, short)) = by_move size c c' (event.Deliver p.number) false s tt fits short

pub partly_on : (size : Size) (most : ℕ) (c c' : Cluster) → Serves size c → IsPartlySettled most c c' → Serves size c'
partly_on size most c c' s (pairs, few, (c₁, all, part)) = part_on size c₁ c' (settling_on size pairs 0 c c₁ (no_pairs size c s) all).serves part

one_handed : (size : Size) (c : Cluster) (out : Out) (before after : List Out) → Serves size c → number_of out ≡ None → c.tray ≡ before ++ out ∷ after → Serves size (record c { tray = before ++ after })
one_handed size c out before after s is there = record {
  start = s.start;
  whole = s.whole;
  moves = s.moves;
  begins = s.begins;
  reached = by_handing out before after s.reached is there;
  serving = s.serving;
  count = s.count;
}

pub taken_on : (size : Size) (number : ℕ) (c : Cluster) (out : Out) (before after : List Out) → Serves size c → number_of out ≡ Some number → c.tray ≡ before ++ out ∷ after → Serves size (record c { tray = before ++ after; past = mark.Taken number ∷ c.past })
taken_on size number c out before after s is there = record {
  start = s.start;
  whole = s.whole;
  moves = Takes number ∷ s.moves;
  begins = s.begins;
  reached = by_taking number out before after s.reached is there;
  serving = (tt, s.serving);
  count = s.count;
}

-- the outs of syncs are handed over one after another
handed_from : (size : Size) (before outs : List Out) (c : Cluster) → Serves size c → c.tray ≡ before ++ outs → Serves size (record c { tray = before ++ of_requests outs })
handed_from size before [] c s there = subst (λ (t : List Out). Serves size (record c { tray = t })) there s
handed_from size before (Synced agent count ∷ outs) c s there = handed_from size before outs (record c { tray = before ++ outs }) (one_handed size c (Synced agent count) before outs s refl there) refl
handed_from size before (out ∷ outs) c s there = subst (λ (t : List Out). Serves size (record c { tray = t })) (append_assoc before (out ∷ []) (of_requests outs)) (handed_from size (before ++ out ∷ []) outs c s (there ∙ sym (append_assoc before (out ∷ []) outs)))

pub handed_on : (size : Size) (c : Cluster) → Serves size c → Serves size (record c { tray = of_requests c.tray })
handed_on size c s = handed_from size [] c.tray c s refl

-- No server restarts.
pub none_restarts : (moves : List Move) (server : ℕ) → AreServing moves → IsAmong (Makes (event.Restart server)) moves → ⊥
none_restarts [] server a x = absurd x
none_restarts (m ∷ moves) server a (inl e) = absurd (subst (λ z. IsServing z moves) (sym e) a.0)
none_restarts (m ∷ moves) server a (inr x) = none_restarts moves server a.1 x

restarted_among : (number server : ℕ) (past : List Mark) → RestartedAt number server past → IsAmong (Makes (event.Restart server)) (moves_of past)
restarted_among number server [] r = absurd r
restarted_among number server (m ∷ past) (inl (e, at)) = subst (λ z. IsAmong (Makes (event.Restart server)) (moves_of (z ∷ past))) (sym e) (inl refl)
restarted_among number server (mark.Asked n agent asked draw ∷ past) (inr r) = inr (restarted_among number server past r)
restarted_among number server (mark.Made made ∷ past) (inr r) = inr (restarted_among number server past r)
restarted_among number server (mark.Taken n ∷ past) (inr r) = inr (restarted_among number server past r)
restarted_among number server (mark.Settled pairs whole ∷ past) (inr r) = inr (restarted_among number server past r)
restarted_among number server (mark.Advanced ms made ∷ past) (inr r) = inr (restarted_among number server past r)
restarted_among number server (mark.Halted s ∷ past) (inr r) = restarted_among number server past r
restarted_among number server (mark.Entry e ∷ past) (inr r) = restarted_among number server past r
restarted_among number server (mark.Answered n kind known contact ∷ past) (inr r) = restarted_among number server past r

-- the marks name just these moves
pub marks_are : (size : Size) (c : Cluster) (s : Serves size c) → moves_of c.past ≡ s.moves
marks_are size c s = begun_marks size.stores s.start c s.whole s.moves s.begins s.reached

-- so no request is closed
pub none_closed : (size : Size) (c : Cluster) → Serves size c → (before after : List Out) (number at : ℕ) → c.tray ≡ before ++ Closed number at ∷ after → ⊥
none_closed size c s before after number at there =
    let o = each_in (OutIsBooked c.past) before after (Closed number at) c.tray there (is_booked size c s).parts.tray in
    none_restarts s.moves o.1.0 s.serving (subst (λ z. IsAmong (Makes (event.Restart o.1.0)) z) (marks_are size c s) (restarted_among at o.1.0 c.past o.1.1))

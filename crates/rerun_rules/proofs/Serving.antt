-- In a cluster that serves server 1 stays ahead, from event to event.
use Rattle.std.proofs.Common.{◌≡◌, ℕ, suc, ◌≤◌, inl, inr, Bool, true, false, cond, List, ◌∷◌, take, Option, Some, None, refl, sym, subst, arith}
use Rattle.std.specs.Prelude.{◌==◌}
use Rattle.cat_model.specs.declared.command.Command.{Command}
use Rattle.cat_model.specs.declared.request.AgentOp.{AgentOp}
use Rattle.cat_model.specs.declared.request.Asked.TheVariants.{Good}
use Rattle.cat_model.specs.declared.request.Event.{Event}
use Rattle.cat_model.specs.declared.request.Event.TheVariants as event
use Rattle.cat_model.specs.declared.request.Request.TheVariants.{Agent as OfAgent}
use Rattle.raft_model.specs.Rules.{Beat, Input, Receive, Timeout, term_of}
use Rattle.raft_model.specs.World.{Acts as NodeActs, Drops, Move as WorldMove, Packet, Probes, Proposes, Ticks, World, WorldStep, numbered}
use Rattle.raft_model.proofs.Tests.{at_bool, eq_tells}
use Rattle.cluster_rules.specs.Agents.{Agent, change}
use Rattle.cluster_rules.specs.Offices.{office_from}
use Rattle.cluster_rules.specs.Cluster.{Cluster, agent_of, clock_of, node_of, seated, took_office, with_office}
use Rattle.cluster_rules.specs.Due.{Applies, Closes, Holds, Replies, Work, Works, did, none, work}
use Rattle.cluster_rules.specs.Proposals.{Proposals, Syncs, Tends, adopted, agent_did, breaks, breaks_off, cut_first, cut_off, did_own, enters, finds_none, idles, in_turn, looked, none_left, over_rows, plans, refuses, told, with_ends}
use Rattle.cluster_rules.specs.Reached.{Move, Makes, Reached, at_start, by_event, by_taking, by_handing, by_settling, by_advancing}
use Rattle.cluster_rules.specs.Replies.{Question, entered}
use Rattle.cluster_rules.specs.Requests.{Handles, delays, full, moved, probes, proposes, reads, renews, stops, unready}
use Rattle.cluster_rules.specs.Step.{Acts, ClusterStep, Does, Passes, act, arms, cut, cut_between, cut_early, done, handles, input_of, leaderless, loses, marked, noted, over, passed, received, replies, restarts, stays, syncs, takes, tends, ticks}
use Rattle.cluster_rules.proofs.Boundary.{input_is}
use Rattle.run_rules.specs.Serving.{AreServing, IsServing}
use Rattle.rerun_rules.specs.Leading.{WasAt}
use Rattle.rerun_rules.proofs.Ahead.{IsAhead, IsFirsts, May, StaysAhead, acts_ahead, ahead_on}
use Rattle.std.proofs.Math.Seq.{take-length}
use Rattle.rerun_rules.proofs.Bags.{each_numbered, each_without}

-- No server but 1 stands for election, none restarts, and no store is armed.
abbrev pub MayCome : Event → Type 0
MayCome (event.Timeout s) = s ≡ 1
MayCome (event.Restart s) = ⊥
MayCome (event.FailKeep s nth) = ⊥
MayCome other = Unit {0}

pub may_serve : (made : Event) (before : List Move) → IsServing (Makes made) before → MayCome made
may_serve (event.Timeout s) before x = x.0
may_serve (event.Beat s) before x = tt
may_serve (event.Tick s ms) before x = tt
may_serve (event.Deliver k) before x = tt
may_serve (event.Drop k) before x = tt
may_serve (event.Restart s) before x = x
may_serve (event.FailKeep s nth) before x = x
may_serve (event.Ask agent asked draw) before x = tt
may_serve (event.Sync agent) before x = tt
may_serve (event.AgentTick agent ms) before x = tt

-- what such an event gives a server
same_input : (w : World) (i : ℕ) (a b : Input) → Some a ≡ Some b → May w i a → May w i b
same_input w i a b e m = let same : a ≡ b = cc e in subst (May w i) same m

pub may_take : (w : World) (i : ℕ) (made : Event) (input : Input) → MayCome made → input_of w i made ≡ Some input → IsAhead w → May w i input
may_take w i (event.Timeout s) input m e a = at_bool (λ b. (s == i) ≡ b → cond b (Some Timeout) None ≡ Some input → May w i input) (s == i)
    (λ _ t p. same_input w i Timeout input p (let q = eq_tells s i t in omega arith)) (λ _ _ p. cc p) refl e
may_take w i (event.Beat s) input m e a = at_bool (λ b. cond b (Some Beat) None ≡ Some input → May w i input) (s == i) (λ _ p. same_input w i Beat input p tt) (λ _ p. cc p) e
may_take w i (event.Deliver k) input m e a = by (numbered k w.bag.packets) refl e
  where
    by : (o : Option Packet) → numbered k w.bag.packets ≡ o → received i o ≡ Some input → May w i input
    by None n p = cc p
    by (Some q) n p = at_bool (λ b. cond b (Some (Receive q.from q.message)) None ≡ Some input → May w i input) (q.to == i)
        (λ _ p. same_input w i (Receive q.from q.message) input p (each_numbered (λ (x : Packet). term_of x.message ≤ (node_of w 1).term) k w.bag.packets q n a.told, each_numbered (λ (x : Packet). IsFirsts (node_of w 1) x.from x.message) k w.bag.packets q n a.appends)) (λ _ p. cc p) p
may_take w i (event.Tick s ms) input m e a = cc e
may_take w i (event.Drop k) input m e a = cc e
may_take w i (event.Restart s) input m e a = cc e
may_take w i (event.FailKeep s nth) input m e a = cc e
may_take w i (event.Ask agent asked draw) input m e a = cc e
may_take w i (event.Sync agent) input m e a = cc e
may_take w i (event.AgentTick agent ms) input m e a = cc e

-- where an input came from: a message from the bag
abbrev pub Came : World → Input → Type 0
Came w (Receive from message) = (k : ℕ) × (p : Packet) × (numbered k w.bag.packets ≡ Some p) × (p.from ≡ from) × (p.message ≡ message)
Came w other = Unit {0}

came_same : (w : World) (a b : Input) → Some a ≡ Some b → Came w a → Came w b
came_same w a b e m = let same : a ≡ b = cc e in subst (Came w) same m

came_from : (w : World) (i : ℕ) (made : Event) (input : Input) → input_of w i made ≡ Some input → Came w input
came_from w i (event.Timeout s) input e = at_bool (λ b. cond b (Some Timeout) None ≡ Some input → Came w input) (s == i) (λ _ p. came_same w Timeout input p tt) (λ _ p. cc p) e
came_from w i (event.Beat s) input e = at_bool (λ b. cond b (Some Beat) None ≡ Some input → Came w input) (s == i) (λ _ p. came_same w Beat input p tt) (λ _ p. cc p) e
came_from w i (event.Deliver k) input e = by (numbered k w.bag.packets) refl e
  where
    by : (o : Option Packet) → numbered k w.bag.packets ≡ o → received i o ≡ Some input → Came w input
    by None n p = cc p
    by (Some q) n p = at_bool (λ b. cond b (Some (Receive q.from q.message)) None ≡ Some input → Came w input) (q.to == i)
        (λ _ p. came_same w (Receive q.from q.message) input p (k, q, n, refl, refl)) (λ _ p. cc p) p
came_from w i (event.Tick s ms) input e = cc e
came_from w i (event.Drop k) input e = cc e
came_from w i (event.Restart s) input e = cc e
came_from w i (event.FailKeep s nth) input e = cc e
came_from w i (event.Ask agent asked draw) input e = cc e
came_from w i (event.Sync agent) input e = cc e
came_from w i (event.AgentTick agent ms) input e = cc e

-- What holds of worlds in which server 1 is ahead, from step to step.
pub record Keeps (P : World → Type 0) : Type 0 where
  pub acts : (w : World) (i : ℕ) (input : Input) (w' : World) → NodeActs w i input w' → May w i input → Came w input → (move : WorldMove) → WorldStep w move w' → IsAhead w → P w → P w'
  pub tick : (w : World) (i ms : ℕ) (w' : World) → WorldStep w (Ticks i ms) w' → P w → P w'
  pub lose : (w : World) (k : ℕ) (w' : World) → WorldStep w (Drops k) w' → P w → P w'

-- All that a step is made of; `b` is an earlier world.
module _ (P : World → Type 0) (keeps : Keeps P) (b : World) where
  abbrev pub Since : Cluster → Type 0
  Since c = StaysAhead b c.world × P c.world

  moved_since : (c : Cluster) (i : ℕ) (input : Input) (w' : World) → NodeActs c.world i input w' → May c.world i input → Came c.world input → (move : WorldMove) → WorldStep c.world move w' → Since c → Since (moved i w' c)
  moved_since c i input w' a m came move st f = (ahead_on b c.world w' f.0 (acts_ahead c.world i input w' a m f.0.ahead), keeps.acts c.world i input w' a m came move st f.0.ahead f.1)

  did_since : (i : ℕ) (w : Work) (c : Cluster) → Since c → Since (did i w c)
  unfolding did
  did_since i (Replies q kind) c f = f
  did_since i (Holds h) c f = f
  did_since i (Closes number event) c f = f
  did_since i Applies c f = f

  works_since : (i : ℕ) (c c' : Cluster) → Works i c c' → Since c → Since c'
  works_since i c c' none f = f
  works_since i c c' (work w e more) f = works_since i (did i w c) c' more (did_since i w c f)

  handles_since : (c : Cluster) (i : ℕ) (q : Question) (c' : Cluster) → Handles c i q c' → Since c → Since c'
  handles_since c i q c' (unready st r e) f = subst Since (sym e) f
  handles_since c i q c' (full command w' ask free go room a e) f = subst Since (sym e) (moved_since c i _ w' a tt tt (Proposes i q.number (entered q command)) a f)
  handles_since c i q c' (proposes command w' ask free go room a up e) f = subst Since (sym e) (moved_since c i _ w' a tt tt (Proposes i q.number (entered q command)) a f)
  handles_since c i q c' (stops command w' ask free go room a down e) f = subst Since (sym e) (moved_since c i _ w' a tt tt (Proposes i q.number (entered q command)) a f)
  handles_since c i q c' (delays command key ask go d e) f = subst Since (sym e) f
  handles_since c i q c' (renews id ask go e) f = subst Since (sym e) f
  handles_since c i q c' (probes wait w' look go a e) f = subst Since (sym e) (moved_since c i _ w' a tt tt (Probes i) a f)
  handles_since c i q c' (reads mode wait look d go e) f = subst Since (sym e) f

  seated_since : (w : World) (i : ℕ) (c : Cluster) → Since c → Since (seated w i c)
  seated_since w i c f = at_bool (λ x. Since (cond x (with_office i (office_from (clock_of c.world i)) c) c)) (took_office w c.world i) (λ _. f) (λ _. f)

  proposals_since : (i : ℕ) (commands : List Command) (c : Cluster) (n : ℕ) (c' : Cluster) (whole : Bool) → Proposals i commands c n c' whole → Since c → Since c'
  proposals_since i commands c n c' whole none_left f = f
  proposals_since i commands c n c' whole breaks f = f
  proposals_since i (command ∷ commands) c n c' whole (enters {n = m} w' lead room a up more) f = proposals_since i commands (moved i w' c) m c' whole more (moved_since c i _ w' a tt tt (Proposes i 0 command) a f)
  proposals_since i (command ∷ commands) c n c' whole (refuses w' lead a why) f = moved_since c i _ w' a tt tt (Proposes i 0 command) a f

  tends_since : (i : ℕ) (c c' : Cluster) (whole : Bool) → Tends i c c' whole → Since c → Since c'
  tends_since i c c' whole (idles lead e) f = subst Since (sym e) f
  tends_since i c c' whole (in_turn n m c₁ c₂ lead p r e) f = subst Since (sym e) (proposals_since i _ (looked i (with_ends i (take n (over_rows c i)) c₁)) m c₂ whole r (proposals_since i _ c n c₁ true p f))
  tends_since i c c' whole (cut_off n c₁ lead p e) f = subst Since (sym e) (proposals_since i _ c n c₁ false p f)

  told_since : (c : Cluster) (q : Question) (op : AgentOp) (g : Option Agent) → Since c → Since (told q op g c)
  told_since c q op None f = f
  told_since c q op (Some g) f = f

  agent_since : (c : Cluster) (made : Event) → Since c → Since (agent_did made c)
  agent_since c (event.AgentTick a ms) f = f
  agent_since c (event.Ask a (Good (OfAgent op)) draw) f = told_since c (record { number = c.asked; agent = a; asked = Good (OfAgent op); draw = draw }) op (change a op (agent_of c a)) f
  agent_since c other f = f

  syncs_since : (i a : ℕ) (own : Bool) (c c' : Cluster) (whole : Bool) → Syncs i a own c c' whole → Since c → Since c'
  syncs_since i a own c c' whole (finds_none r e) f = subst Since (sym e) f
  syncs_since i a own c c' whole (plans n c₁ r p e) f = subst Since (sym e) (proposals_since i _ (adopted a i c) n c₁ true p f)
  syncs_since i a own c c' whole (breaks_off n some r p) f = proposals_since i _ (adopted a i c) n c' false p f
  syncs_since i a own c c' whole (cut_first mine r e) f = subst Since (sym e) f

  acts_since : (n : ℕ) (c : Cluster) (i : ℕ) (made : Event) (c' : Cluster) → Acts n c i made c' → MayCome made → Since c → Since c'
  acts_since n c i made c' (takes input w' z is a e) m f = subst Since (sym e) (seated_since c.world i (moved i w' c) (moved_since c i input w' a (may_take c.world i made input m is f.0.ahead) (came_from c.world i made input is) (input_is c.world i made input w' is a).move (input_is c.world i made input w' is a).step f))
  acts_since n c i made c' (ticks ms w' z is (old, at, w) e) m f = subst Since (sym e) (subst (StaysAhead b) (sym w) (record { ahead = record { well = f.0.ahead.well; follow = f.0.ahead.follow; told = f.0.ahead.told; appends = f.0.ahead.appends; led = f.0.ahead.led }; count = f.0.count; grows = f.0.grows; on = f.0.on; holds = f.0.holds }), keeps.tick c.world i ms w' (old, at, w) f.1)
  acts_since n c i made c' (arms nth w' z is st e) m f = absurd (subst MayCome is m)
  acts_since n c i made c' (restarts w' z is st e) m f = absurd (subst MayCome is m)
  acts_since n c i made c' (handles agent asked draw z is goes h) m f = handles_since c i _ c' h f
  acts_since n c i made c' (tends ms whole z is t) m f = tends_since i c c' whole t f
  acts_since n c i made c' (syncs a whole z is goes y) m f = syncs_since i a (did_own made) (agent_did made c) c' whole y (agent_since c made f)

  does_since : (i : ℕ) (made : Event) (n : ℕ) (c c' : Cluster) (whole : Bool) → Does i made n c c' whole → MayCome made → Since c → Since c'
  does_since i made n c c' whole (over e) m f = f
  does_since i made n c c' whole (act c₁ c₂ a r up more) m f = does_since i made (suc n) c₂ c' whole more m (works_since i c₁ c₂ up.0 (acts_since n c i made c₁ a m f))
  does_since i made n c c' whole (cut c₁ a works short) m f = works_since i c₁ c' works (acts_since n c i made c₁ a m f)
  does_since i made n c c' whole (cut_between l k) m f = f

  marked_since : (made : Event) (c : Cluster) → Since c → Since (marked made c)
  marked_since (event.Ask agent asked draw) c f = f
  marked_since other c f = f

  passes_since : (c : Cluster) (made : Event) (c' : Cluster) → Passes c made c' → Since c → Since c'
  passes_since c made c' (loses k w' is (p, n, w) e) f = subst Since (sym e) (
    subst (StaysAhead b) (sym w)
        (record {
          ahead = record {
            well = f.0.ahead.well;
            follow = f.0.ahead.follow;
            told = each_without (λ (x : Packet). term_of x.message ≤ (node_of c.world 1).term) k c.world.bag.packets f.0.ahead.told;
            appends = each_without (λ (x : Packet). IsFirsts (node_of c.world 1) x.from x.message) k c.world.bag.packets f.0.ahead.appends;
            led = f.0.ahead.led;
          };
          count = f.0.count;
          grows = f.0.grows;
          on = f.0.on;
          holds = f.0.holds;
        }),
    keeps.lose c.world k w' (p, n, w) f.1,
  )
  passes_since c made c' (replies agent asked draw why is goes e) f = subst Since (sym e) f
  passes_since c made c' (stays own free e) f = subst Since (sym e) (agent_since c made f)
  passes_since c made c' (leaderless a why own is goes e) f = subst Since (sym e) (agent_since c made f)

  pub step_since : (c c' : Cluster) (made : Event) (whole : Bool) → ClusterStep c made c' whole → MayCome made → Since c → Since c'
  step_since c c' made whole (done i c₁ c₂ up d e) m f = subst Since (sym e) (does_since i made 0 c₁ c₂ whole d m (works_since i (marked made c) c₁ up.0 (marked_since made c f)))
  step_since c c' made whole (passed c₁ w p e) m f = subst Since (sym e) (passes_since (marked made c) made c₁ p (marked_since made c f))
  step_since c c' made whole (cut_early i w c₁ short for d more e) m f = subst Since (sym e) (works_since i (noted made c) c₁ (work w d more) f)

pub same_ahead : (w : World) → IsAhead w → StaysAhead w w
same_ahead w a = record { ahead = a; count = refl; grows = take-length (node_of w 1).log; on = λ r. (r, refl); holds = λ i p l d e. e }

-- nothing more
always : Keeps (λ _. Unit {0})
always = record { acts = λ w i input w' a m came move st ahead x. tt; tick = λ w i ms w' st x. tt; lose = λ w k w' st x. tt }

-- a whole run
pub run_ahead : (start : Cluster) (whole : Bool) (moves : List Move) (c : Cluster) → Reached start whole moves c → AreServing moves → IsAhead start.world → IsAhead c.world
run_ahead start whole moves c at_start s a = a
run_ahead start whole moves c (by_event {whole = w} {moves = ms} {c = c₀} made all r fits step) s a =
    (step_since (λ _. Unit {0}) always c₀.world c₀ c made all step (may_serve made ms s.0) (same_ahead c₀.world (run_ahead start w ms c₀ r s.1 a), tt)).0.ahead
run_ahead start whole moves c (by_taking {whole = w} {moves = ms} {c = c₀} number out before after r is there) s a = run_ahead start w ms c₀ r s.1 a
run_ahead start whole moves c (by_handing {whole = w} {moves = ms} {c = c₀} out before after r is there) s a = run_ahead start w ms c₀ r s a
run_ahead start whole moves c (by_settling {whole = w} {moves = ms} {c = c₀} pairs all r ends) s a = run_ahead start w ms c₀ r s.1 a
run_ahead start whole moves c (by_advancing ms made r ends) s a = absurd s.0

-- from each cluster on the way to the last
at_end : (start : Cluster) (whole : Bool) (moves : List Move) (c d : Cluster) → Reached start whole moves c → AreServing moves → IsAhead start.world → d ≡ c → StaysAhead d.world c.world
at_end start whole moves c d r s a e = subst (λ (z : Cluster). StaysAhead z.world c.world) (sym e) (same_ahead c.world (run_ahead start whole moves c r s a))

pub run_since : (start : Cluster) (whole : Bool) (moves : List Move) (c : Cluster) (r : Reached start whole moves c) → AreServing moves → IsAhead start.world → (d : Cluster) → WasAt d r → StaysAhead d.world c.world
run_since start whole moves c at_start s a d e = at_end start whole moves c d at_start s a e
run_since start whole moves c (by_event made all r fits step) s a d (inl e) = at_end start whole moves c d (by_event made all r fits step) s a e
run_since start whole moves c (by_event {whole = w} {moves = ms} {c = c₀} made all r fits step) s a d (inr x) = (step_since (λ _. Unit {0}) always d.world c₀ c made all step (may_serve made ms s.0) (run_since start w ms c₀ r s.1 a d x, tt)).0
run_since start whole moves c (by_taking number out before after r is there) s a d (inl e) = at_end start whole moves c d (by_taking number out before after r is there) s a e
run_since start whole moves c (by_taking {whole = w} {moves = ms} {c = c₀} number out before after r is there) s a d (inr x) = run_since start w ms c₀ r s.1 a d x
run_since start whole moves c (by_handing out before after r is there) s a d (inl e) = at_end start whole moves c d (by_handing out before after r is there) s a e
run_since start whole moves c (by_handing {whole = w} {moves = ms} {c = c₀} out before after r is there) s a d (inr x) = run_since start w ms c₀ r s a d x
run_since start whole moves c (by_settling pairs all r ends) s a d (inl e) = at_end start whole moves c d (by_settling pairs all r ends) s a e
run_since start whole moves c (by_settling {whole = w} {moves = ms} {c = c₀} pairs all r ends) s a d (inr x) = run_since start w ms c₀ r s.1 a d x
run_since start whole moves c (by_advancing ms made r ends) s a d x = absurd s.0

pub was_ahead : (start : Cluster) (whole : Bool) (moves : List Move) (c : Cluster) (r : Reached start whole moves c) → AreServing moves → IsAhead start.world → (d : Cluster) → WasAt d r → IsAhead d.world
was_ahead start whole moves c at_start s a d e = subst (λ (z : Cluster). IsAhead z.world) (sym e) a
was_ahead start whole moves c (by_event made all r fits step) s a d (inl e) = subst (λ (z : Cluster). IsAhead z.world) (sym e) (run_ahead start whole moves c (by_event made all r fits step) s a)
was_ahead start whole moves c (by_event {whole = w} {moves = ms} {c = c₀} made all r fits step) s a d (inr x) = was_ahead start w ms c₀ r s.1 a d x
was_ahead start whole moves c (by_taking number out before after r is there) s a d (inl e) = subst (λ (z : Cluster). IsAhead z.world) (sym e) (run_ahead start whole moves c (by_taking number out before after r is there) s a)
was_ahead start whole moves c (by_taking {whole = w} {moves = ms} {c = c₀} number out before after r is there) s a d (inr x) = was_ahead start w ms c₀ r s.1 a d x
was_ahead start whole moves c (by_handing out before after r is there) s a d (inl e) = subst (λ (z : Cluster). IsAhead z.world) (sym e) (run_ahead start whole moves c (by_handing out before after r is there) s a)
was_ahead start whole moves c (by_handing {whole = w} {moves = ms} {c = c₀} out before after r is there) s a d (inr x) = was_ahead start w ms c₀ r s a d x
was_ahead start whole moves c (by_settling pairs all r ends) s a d (inl e) = subst (λ (z : Cluster). IsAhead z.world) (sym e) (run_ahead start whole moves c (by_settling pairs all r ends) s a)
was_ahead start whole moves c (by_settling {whole = w} {moves = ms} {c = c₀} pairs all r ends) s a d (inr x) = was_ahead start w ms c₀ r s.1 a d x
was_ahead start whole moves c (by_advancing ms made r ends) s a d x = absurd s.0

-- and what more holds of each world
pub run_keeps : (P : World → Type 0) → Keeps P → (start : Cluster) (whole : Bool) (moves : List Move) (c : Cluster) → Reached start whole moves c → AreServing moves → IsAhead start.world → P start.world → P c.world
run_keeps P keeps start whole moves c at_start s a x = x
run_keeps P keeps start whole moves c (by_event {whole = w} {moves = ms} {c = c₀} made all r fits step) s a x =
    (step_since P keeps c₀.world c₀ c made all step (may_serve made ms s.0) (same_ahead c₀.world (run_ahead start w ms c₀ r s.1 a), run_keeps P keeps start w ms c₀ r s.1 a x)).1
run_keeps P keeps start whole moves c (by_taking {whole = w} {moves = ms} {c = c₀} number out before after r is there) s a x = run_keeps P keeps start w ms c₀ r s.1 a x
run_keeps P keeps start whole moves c (by_handing {whole = w} {moves = ms} {c = c₀} out before after r is there) s a x = run_keeps P keeps start w ms c₀ r s a x
run_keeps P keeps start whole moves c (by_settling {whole = w} {moves = ms} {c = c₀} pairs all r ends) s a x = run_keeps P keeps start w ms c₀ r s.1 a x
run_keeps P keeps start whole moves c (by_advancing ms made r ends) s a x = absurd s.0

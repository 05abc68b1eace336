-- The marks of a run name its moves.
use Rattle.std.proofs.Common.{◌≡◌, ℕ, suc, Bool, true, false, cond, List, [], ◌∷◌, take, refl, sym, ◌∙◌, ap, subst, Option, Some, None}
use Rattle.cat_model.specs.declared.command.Command.{Command}
use Rattle.cat_model.specs.declared.request.Asked.TheVariants.{Good}
use Rattle.cat_model.specs.declared.request.Request.TheVariants.{Agent as OfAgent}
use Rattle.cat_model.specs.declared.request.Event.{Event}
use Rattle.cat_model.specs.declared.request.Event.TheVariants as event
use Rattle.cat_model.specs.declared.reply.Mark.{Mark}
use Rattle.cat_model.specs.declared.reply.Mark.TheVariants as mark
use Rattle.raft_model.specs.Log.{Log}
use Rattle.raft_model.specs.Node.{Store}
use Rattle.raft_model.specs.World.{World}
use Rattle.cluster_rules.specs.Replies.{Question}
use Rattle.cluster_rules.specs.Cluster.{Cluster, node_of, clock_of, agent_of, with_office, took_office, seated}
use Rattle.cluster_rules.specs.Agents.{Agent, change}
use Rattle.cluster_rules.specs.Offices.{office_from}
use Rattle.cluster_rules.specs.Proposals.{Proposals, none_left, breaks, enters, refuses, over_rows, with_ends, looked, Tends, idles, in_turn, cut_off, with_change, agent_did, adopted, Syncs, finds_none, plans, breaks_off, cut_first, did_own}
use Rattle.raft_model.proofs.Tests.{at_bool}
use Rattle.cluster_rules.specs.Due.{Work, Replies, Holds, Closes, Applies, did, Works, none, work}
use Rattle.cluster_rules.specs.Requests.{entries_past, halts_past, joined, moved_with, moved, halted_now, Handles, unready, full, proposes, stops, delays, probes, reads, renews}
use Rattle.cluster_rules.specs.Step.{Acts, takes, ticks, arms, restarts, handles, tends, syncs, Does, over, act, cut, cut_between, Passes, loses, replies, stays, leaderless, noted, marked, ClusterStep, done, passed, cut_early}
use Rattle.cluster_rules.specs.Reached.{IsBegun, IsStart, Move, Makes, Takes, Settles, Advances, moves_of, Reached, at_start, by_event, by_taking, by_handing, by_settling, by_advancing}
use Rattle.cluster_rules.proofs.Starting.{begun_of}

abbrev Same : Cluster → Cluster → Type 0
Same c c' = moves_of c'.past ≡ moves_of c.past

did_same : (i : ℕ) (w : Work) (c : Cluster) → Same c (did i w c)
unfolding did
did_same i (Replies q kind) c = refl
did_same i (Holds h) c = refl
did_same i (Closes number event) c = refl
did_same i Applies c = refl

works_same : (i : ℕ) (c c' : Cluster) → Works i c c' → Same c c'
works_same i c c' none = refl
works_same i c c' (work w e more) = works_same i (did i w c) c' more ∙ did_same i w c

entries_same : (es : Log) (past : List Mark) → moves_of (entries_past es past) ≡ moves_of past
entries_same [] past = refl
entries_same (e ∷ es) past = entries_same es (mark.Entry e ∷ past)

halts_same : (i : ℕ) (b : Bool) (past : List Mark) → moves_of (halts_past i b past) ≡ moves_of past
halts_same i true past = refl
halts_same i false past = refl

moved_same : (failed : Bool) (i : ℕ) (w' : World) (c : Cluster) → Same c (moved_with failed i w' c)
moved_same failed i w' c = entries_same (joined c.world w') (halts_past i failed c.past) ∙ halts_same i failed c.past

by_equal : (c a b : Cluster) → b ≡ a → Same c a → Same c b
by_equal c a b e s = subst (λ (z : Cluster). Same c z) (sym e) s

handles_same : (c : Cluster) (i : ℕ) (q : Question) (c' : Cluster) → Handles c i q c' → Same c c'
handles_same c i q c' (unready st r e) = by_equal c _ c' e refl
handles_same c i q c' (full command w' ask free go room b e) = by_equal c _ c' e (moved_same (halted_now c.world w' i) i w' c)
handles_same c i q c' (proposes command w' ask free go room b up e) = by_equal c _ c' e (moved_same (halted_now c.world w' i) i w' c)
handles_same c i q c' (stops command w' ask free go room b down e) = by_equal c _ c' e (moved_same (halted_now c.world w' i) i w' c)
handles_same c i q c' (delays command key ask go d e) = by_equal c _ c' e refl
handles_same c i q c' (renews id ask go e) = by_equal c _ c' e refl
handles_same c i q c' (probes wait w' look go b e) = by_equal c _ c' e (moved_same (halted_now c.world w' i) i w' c)
handles_same c i q c' (reads mode wait look d go e) = by_equal c _ c' e refl

seated_same : (w : World) (i : ℕ) (c : Cluster) → Same c (seated w i c)
seated_same w i c = at_bool (λ b. Same c (cond b (with_office i (office_from (clock_of c.world i)) c) c)) (took_office w c.world i) (λ _. refl) (λ _. refl)

proposals_same : (i : ℕ) (commands : List Command) (c : Cluster) (n : ℕ) (c' : Cluster) (whole : Bool) → Proposals i commands c n c' whole → Same c c'
proposals_same i commands c n c' whole none_left = refl
proposals_same i commands c n c' whole breaks = refl
proposals_same i (command ∷ commands) c n c' whole (enters {n = m} w' lead room a up more) = proposals_same i commands (moved i w' c) m c' whole more ∙ moved_same (halted_now c.world w' i) i w' c
proposals_same i (command ∷ commands) c n c' whole (refuses w' lead a why) = moved_same (halted_now c.world w' i) i w' c

tends_same : (i : ℕ) (c c' : Cluster) (whole : Bool) → Tends i c c' whole → Same c c'
tends_same i c c' whole (idles lead e) = by_equal c _ c' e refl
tends_same i c c' whole (in_turn n m c₁ c₂ lead p r e) = by_equal c _ c' e (proposals_same i _ (looked i (with_ends i (take n (over_rows c i)) c₁)) m c₂ whole r ∙ proposals_same i _ c n c₁ true p)
tends_same i c c' whole (cut_off n c₁ lead p e) = by_equal c _ c' e (proposals_same i _ c n c₁ false p)

change_same : (c : Cluster) (a : ℕ) (g : Option Agent) → Same c (with_change a g c)
change_same c a None = refl
change_same c a (Some g) = refl

agent_same : (c : Cluster) (made : Event) → Same c (agent_did made c)
agent_same c (event.AgentTick a ms) = refl
agent_same c (event.Ask a (Good (OfAgent op)) draw) = change_same c a (change a op (agent_of c a))
agent_same c other = refl

syncs_same : (i a : ℕ) (own : Bool) (c c' : Cluster) (whole : Bool) → Syncs i a own c c' whole → Same c c'
syncs_same i a own c c' whole (finds_none r e) = by_equal c _ c' e refl
syncs_same i a own c c' whole (plans n c₁ r p e) = by_equal c _ c' e (proposals_same i _ (adopted a i c) n c₁ true p)
syncs_same i a own c c' whole (breaks_off n some r p) = proposals_same i _ (adopted a i c) n c' false p
syncs_same i a own c c' whole (cut_first mine r e) = by_equal c _ c' e refl

acts_same : (n : ℕ) (c : Cluster) (i : ℕ) (made : Event) (c' : Cluster) → Acts n c i made c' → Same c c'
acts_same n c i made c' (takes input w' z is a e) = by_equal c _ c' e (seated_same c.world i (moved i w' c) ∙ moved_same (halted_now c.world w' i) i w' c)
acts_same n c i made c' (ticks ms w' z is st e) = by_equal c _ c' e (moved_same (halted_now c.world w' i) i w' c)
acts_same n c i made c' (arms nth w' z is st e) = by_equal c _ c' e (moved_same (halted_now c.world w' i) i w' c)
acts_same n c i made c' (restarts w' z is st e) = by_equal c _ c' e (moved_same (node_of w' i).halted i w' c)
acts_same n c i made c' (handles agent asked draw z is goes h) = handles_same c i _ c' h
acts_same n c i made c' (tends ms whole z is t) = tends_same i c c' whole t
acts_same n c i made c' (syncs a whole z is goes y) = syncs_same i a (did_own made) (agent_did made c) c' whole y ∙ agent_same c made

does_same : (i : ℕ) (made : Event) (n : ℕ) (c c' : Cluster) (whole : Bool) → Does i made n c c' whole → Same c c'
does_same i made n c c' whole (over e) = refl
does_same i made n c c' whole (act c₁ c₂ a r m more) = does_same i made (suc n) c₂ c' whole more ∙ works_same i c₁ c₂ m.0 ∙ acts_same n c i made c₁ a
does_same i made n c c' whole (cut c₁ a m short) = works_same i c₁ c' m ∙ acts_same n c i made c₁ a
does_same i made n c c' whole (cut_between l k) = refl

passes_same : (c : Cluster) (made : Event) (c' : Cluster) → Passes c made c' → Same c c'
passes_same c made c' (loses k w' is st e) = by_equal c _ c' e refl
passes_same c made c' (replies agent asked draw why is goes e) = by_equal c _ c' e refl
passes_same c made c' (stays own free e) = by_equal c _ c' e (agent_same c made)
passes_same c made c' (leaderless a why own is goes e) = by_equal c _ c' e (agent_same c made)

marked_moves : (made : Event) (c : Cluster) → moves_of (marked made c).past ≡ Makes made ∷ moves_of c.past
marked_moves (event.Ask agent asked draw) c = refl
marked_moves (event.Timeout i) c = refl
marked_moves (event.Beat i) c = refl
marked_moves (event.Tick i ms) c = refl
marked_moves (event.Deliver k) c = refl
marked_moves (event.Drop k) c = refl
marked_moves (event.Restart i) c = refl
marked_moves (event.FailKeep i n) c = refl
marked_moves (event.Sync a) c = refl
marked_moves (event.AgentTick a ms) c = refl

step_moves : (c c' : Cluster) (made : Event) (whole : Bool) → ClusterStep c made c' whole → moves_of c'.past ≡ Makes made ∷ moves_of c.past
step_moves c c' made whole (done i c₁ c₂ m d e) = ap (λ (z : Cluster). moves_of z.past) e ∙ does_same i made 0 c₁ c₂ whole d ∙ works_same i (marked made c) c₁ m.0 ∙ marked_moves made c
step_moves c c' made whole (passed c₁ w p e) = ap (λ (z : Cluster). moves_of z.past) e ∙ passes_same (marked made c) made c₁ p ∙ marked_moves made c
step_moves c c' made whole (cut_early i w c₁ short for d more e) = ap (λ (z : Cluster). moves_of z.past) e ∙ works_same i (noted made c) c₁ (work w d more)

pub begun_marks : (stores : List Store) (start c : Cluster) (whole : Bool) (moves : List Move) → IsBegun stores start → Reached start whole moves c → moves_of c.past ≡ moves
begun_marks stores start c whole moves i at_start = ap (λ (z : Cluster). moves_of z.past) i.is
begun_marks stores start c whole moves i (by_event {whole = w} {moves = ms} {c = b} made all r fits s) = step_moves b c made all s ∙ ap (λ z. Makes made ∷ z) (begun_marks stores start b w ms i r)
begun_marks stores start c whole moves i (by_taking {whole = w} {moves = ms} {c = b} number out before after r is e) = ap (λ z. Takes number ∷ z) (begun_marks stores start b w ms i r)
begun_marks stores start c whole moves i (by_handing {whole = w} {moves = ms} {c = b} out before after r is e) = begun_marks stores start b w ms i r
begun_marks stores start c whole moves i (by_settling {whole = w} {moves = ms} {c = b} pairs all r ends) = ap (λ z. Settles pairs all ∷ z) (begun_marks stores start b w ms i r)
begun_marks stores start c whole moves i (by_advancing {whole = w} {moves = ms} {c = b} time made r ends) = ap (λ z. Advances time made ∷ z) (begun_marks stores start b w ms i r)

pub marks_are_moves : (start : Cluster) → IsStart start → (whole : Bool) (moves : List Move) (c : Cluster) → Reached start whole moves c → moves_of c.past ≡ moves
marks_are_moves start i whole moves c r = begun_marks i.stores start c whole moves (begun_of start i) r

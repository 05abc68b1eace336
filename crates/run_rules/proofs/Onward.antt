-- A step of the cluster adds marks and starts, and its world goes on, whether it is whole or cut short.
use Rattle.std.proofs.Common.{◌≡◌, ℕ, suc, inr, Bool, true, false, cond, List, [], ◌∷◌, ◌++◌, length, take, refl, sym, ◌∙◌, ap, subst, Option, Some, None}
use Rattle.cat_model.specs.declared.request.Event.{Event}
use Rattle.cat_model.specs.declared.request.Event.TheVariants as event
use Rattle.cat_model.specs.declared.reply.Kind.TheVariants.{Refused}
use Rattle.cat_model.specs.declared.reply.Mark.{Mark}
use Rattle.cat_model.specs.declared.reply.Mark.TheVariants as mark
use Rattle.cat_model.specs.declared.reply.Refusal.{Refusal}
use Rattle.raft_model.specs.Rules.{Propose, Probe}
use Rattle.raft_model.specs.World.{World, Move, WorldStep, IsReached, Proposes, Probes, Ticks, Arms, Restarts, Drops, step as world_step}
use Rattle.raft_model.proofs.Logs.{front_take}
use Rattle.cluster_rules.specs.Replies.{Out, Question, entered, number_of}
use Rattle.cluster_rules.specs.Cluster.{Cluster, Stand, Start, Looked, node_of, applied_of, clock_of, agent_of, office_of, with_office, took_office, seated}
use Rattle.cluster_rules.specs.Agents.{Agent, change}
use Rattle.cluster_rules.specs.Offices.{Office, office_from, renew_in}
use Rattle.cluster_rules.specs.Proposals.{Proposals, none_left, breaks, enters, refuses, over_rows, with_ends, looked, Tends, idles, in_turn, cut_off, told, agent_did, did_own, synced, adopted, Syncs, finds_none, plans, breaks_off, cut_first}
use Rattle.raft_model.specs.Log.{Log}
use Rattle.raft_model.proofs.Tests.{at_bool}
use Rattle.cat_model.specs.declared.command.Command.{Command}
use Rattle.cat_model.specs.declared.request.AgentOp.{AgentOp}
use Rattle.cat_model.specs.declared.request.Asked.TheVariants.{Good}
use Rattle.cat_model.specs.declared.request.Request.TheVariants.{Agent as OfAgent}
use Rattle.cat_model.specs.declared.reply.Kind.{Kind}
use Rattle.cluster_rules.specs.Due.{Work, answered, Replies, Holds, Closes, Applies, did, Works, none, work}
use Rattle.cluster_rules.specs.Requests.{halted_now, holding, moved, moved_with, refused, Handles, unready, full, proposes, stops, delays, probes, reads, renews, session_of}
use Rattle.cluster_rules.specs.Step.{Acts, takes, ticks, arms, restarts, handles, tends, syncs, Does, over, act, cut, cut_between, Passes, loses, replies, stays, leaderless, noted, marked, ClusterStep, done, passed, cut_early}
use Rattle.cluster_rules.proofs.Boundary.{acts_proposes, input_is}
use Rattle.cluster_rules.proofs.Grows.{front_length, goes_by}
use Rattle.cluster_rules.proofs.Later.{Later, later_mark, later_nothing}
use Rattle.cluster_rules.proofs.Moved.{plain_later, plain_moved}
use Rattle.run_rules.specs.Plays.{all_taken, emptied, settled, taken}

pub later_then : (a b d : World) (p q r : List Mark) (s t u : List Start) → Later a b p q s t → Later b d q r t u → Later a d p r s u
later_then a b d p q r s t u x y = record {
  goes = record {
    grows = front_take (length a.agreed) b.agreed d.agreed y.goes.grows (front_length a.agreed b.agreed x.goes.grows) ∙ x.goes.grows;
    on = λ v z. x.goes.on v (y.goes.on v z);
  };
  was = λ m z. y.was m (x.was m z);
  restarted = λ e i z. y.restarted e i (x.restarted e i z);
  more = λ k z. y.more k (x.more k z);
}

-- from one cluster to a later one
pub record Onward (c c' : Cluster) : Type 0 where
  pub later : Later c.world c'.world c.past c'.past c.starts c'.starts
  pub reached : IsReached c.world → IsReached c'.world

pub on_then : (a b d : Cluster) → Onward a b → Onward b d → Onward a d
on_then a b d x y = record {
  later = later_then a.world b.world d.world a.past b.past d.past a.starts b.starts d.starts x.later y.later;
  reached = λ r. y.reached (x.reached r);
}

pub on_same : (c : Cluster) → Onward c c
on_same c = record { later = later_nothing c.world c.past c.starts; reached = λ r. r }

-- another mark, or none, with other things that are not told apart here
on_marks : (c c' : Cluster) (m : Mark) → c'.world ≡ c.world → c'.past ≡ m ∷ c.past → c'.starts ≡ c.starts → Onward c c'
on_marks c c' m w p s = record {
  later = subst (λ (v : World). Later c.world v c.past c'.past c.starts c'.starts) (sym w)
      (subst (λ (x : List Mark). Later c.world c.world c.past x c.starts c'.starts) (sym p)
      (subst (λ (x : List Start). Later c.world c.world c.past (m ∷ c.past) c.starts x) (sym s) (later_mark c.world m c.past c.starts)));
  reached = λ r. subst IsReached (sym w) r;
}

did_on : (i : ℕ) (w : Work) (c : Cluster) → Onward c (did i w c)
unfolding did
did_on i (Replies q kind) c = record { later = later_mark c.world (mark.Answered q.number kind _ _) c.past c.starts; reached = λ r. r }
did_on i (Holds h) c = record { later = later_nothing c.world c.past c.starts; reached = λ r. r }
did_on i (Closes number event) c = record { later = later_nothing c.world c.past c.starts; reached = λ r. r }
did_on i Applies c = record { later = later_nothing c.world c.past c.starts; reached = λ r. r }

works_on : (i : ℕ) (c c' : Cluster) → Works i c c' → Onward c c'
works_on i c c' none = on_same c
works_on i c c' (work w e more) = on_then c (did i w c) c' (did_on i w c) (works_on i (did i w c) c' more)

moved_on : (failed : Bool) (i : ℕ) (w' : World) (c : Cluster) (move : Move) → IsReached c.world → WorldStep c.world move w' → Onward c (moved_with failed i w' c)
moved_on failed i w' c move r s = record {
  later = plain_later c.world w' c.past (moved_with failed i w' c).past c.starts (goes_by c.world w' move r s) (plain_moved failed i w' c);
  reached = λ _. world_step move r s;
}

answered_on : (q : Question) (kind : Kind) (log : Log) (c : Cluster) → Onward c (answered q kind false 0 log c)
answered_on q kind log c = record { later = later_mark c.world (mark.Answered q.number kind _ _) c.past c.starts; reached = λ r. r }

-- what is told apart by nothing here
office_on : (i : ℕ) (o : Office) (c : Cluster) → Onward c (with_office i o c)
office_on i o c = record { later = later_nothing c.world c.past c.starts; reached = λ r. r }

seated_on : (w : World) (i : ℕ) (c : Cluster) → Onward c (seated w i c)
seated_on w i c = at_bool (λ b. Onward c (cond b (with_office i (office_from (clock_of c.world i)) c) c)) (took_office w c.world i) (λ _. office_on i _ c) (λ _. on_same c)

refused_on : (q : Question) (why : Refusal) (c : Cluster) → Onward c (refused q why c)
refused_on q why c = record { later = later_mark c.world (mark.Answered q.number (Refused why) _ _) c.past c.starts; reached = λ r. r }

holding_on : (q : Question) (i : ℕ) (stand : Stand) (start : Start) (c : Cluster) → Onward c (holding q i stand start c)
holding_on q i stand start c = record {
  later = let l = later_nothing c.world c.past c.starts in record { goes = l.goes; was = l.was; restarted = l.restarted; more = λ x m. inr m };
  reached = λ r. r;
}

on_to : (c a b : Cluster) → b ≡ a → Onward c a → Onward c b
on_to c a b e x = subst (λ (z : Cluster). Onward c z) (sym e) x

handles_on : (c : Cluster) → IsReached c.world → (i : ℕ) (q : Question) (c' : Cluster) → Handles c i q c' → Onward c c'
handles_on c r i q c' (unready st g e) = on_to c _ c' e (refused_on q _ c)
handles_on c r i q c' (full command w' ask free go room a e) =
    let m = moved i w' c in
    on_to c _ c' e (on_then c m _ (moved_on (halted_now c.world w' i) i w' c (Proposes i q.number (entered q command)) r (acts_proposes c.world i q.number (entered q command) w' a)) (refused_on q _ m))
handles_on c r i q c' (proposes command w' ask free go room a up e) =
    let m = moved i w' c in
    on_to c _ c' e (on_then c m _ (moved_on (halted_now c.world w' i) i w' c (Proposes i q.number (entered q command)) r (acts_proposes c.world i q.number (entered q command) w' a)) (holding_on q i _ _ m))
handles_on c r i q c' (stops command w' ask free go room a down e) =
    let m = moved i w' c in
    on_to c _ c' e (on_then c m _ (moved_on (halted_now c.world w' i) i w' c (Proposes i q.number (entered q command)) r (acts_proposes c.world i q.number (entered q command) w' a)) (refused_on q _ m))
handles_on c r i q c' (delays command key ask go d e) = on_to c _ c' e (answered_on q _ [] c)
handles_on c r i q c' (renews id ask go e) =
    let o = renew_in (session_of c i id) (clock_of c.world i) (office_of c i) in
    let b : Cluster = with_office i o (record c { starts = Looked q.number i (length (applied_of c i)) ∷ c.starts }) in
    on_to c _ c' e (on_then c b _ (record { later = let l = later_nothing c.world c.past c.starts in record { goes = l.goes; was = l.was; restarted = l.restarted; more = λ x m. inr m }; reached = λ r. r }) (answered_on q _ (applied_of c i) b))
handles_on c r i q c' (probes wait w' ask go a e) =
    let m = moved i w' c in
    on_to c _ c' e (on_then c m _ (moved_on (halted_now c.world w' i) i w' c (Probes i) r a) (holding_on q i _ _ m))
handles_on c r i q c' (reads mode wait ask d go e) = on_to c _ c' e (holding_on q i _ _ c)

proposed_on : (i : ℕ) (commands : List Command) (c : Cluster) (n : ℕ) (c' : Cluster) (whole : Bool) → Proposals i commands c n c' whole → IsReached c.world → Onward c c'
proposed_on i commands c n c' whole none_left r = on_same c
proposed_on i commands c n c' whole breaks r = on_same c
proposed_on i (command ∷ commands) c n c' whole (enters {n = m} w' lead room a up more) r =
    let x = moved_on (halted_now c.world w' i) i w' c (Proposes i 0 command) r (acts_proposes c.world i 0 command w' a) in
    on_then c (moved i w' c) c' x (proposed_on i commands (moved i w' c) m c' whole more (x.reached r))
proposed_on i (command ∷ commands) c n c' whole (refuses w' lead a why) r = moved_on (halted_now c.world w' i) i w' c (Proposes i 0 command) r (acts_proposes c.world i 0 command w' a)

tended_on : (i : ℕ) (c c' : Cluster) (whole : Bool) → Tends i c c' whole → IsReached c.world → Onward c c'
tended_on i c c' whole (idles lead e) r = on_to c _ c' e (on_same c)
tended_on i c c' whole (in_turn n m c₁ c₂ lead p q e) r =
    let b = with_ends i (take n (over_rows c i)) c₁ in
    let x = on_then c c₁ (looked i b) (proposed_on i _ c n c₁ true p r) (on_then c₁ b (looked i b) (office_on i _ c₁) (office_on i _ b)) in
    on_to c _ c' e (on_then c (looked i b) c₂ x (proposed_on i _ (looked i b) m c₂ whole q (x.reached r)))
tended_on i c c' whole (cut_off n c₁ lead p e) r = on_to c _ c' e (on_then c c₁ _ (proposed_on i _ c n c₁ false p r) (office_on i _ c₁))

told_on : (c : Cluster) (q : Question) (op : AgentOp) (g : Option Agent) → Onward c (told q op g c)
told_on c q op None = record { later = later_mark c.world (mark.Answered q.number _ _ _) c.past c.starts; reached = λ r. r }
told_on c q op (Some g) = record { later = later_mark c.world (mark.Answered q.number _ _ _) c.past c.starts; reached = λ r. r }

agent_on : (c : Cluster) (made : Event) → Onward c (agent_did made c)
agent_on c (event.AgentTick a ms) = record { later = later_nothing c.world c.past c.starts; reached = λ r. r }
agent_on c (event.Ask a (Good (OfAgent op)) draw) = told_on c (record { number = c.asked; agent = a; asked = Good (OfAgent op); draw = draw }) op (change a op (agent_of c a))
agent_on c other = on_same c

synced_on : (a : ℕ) (count : Option ℕ) (c : Cluster) → Onward c (synced a count c)
synced_on a count c = record { later = later_nothing c.world c.past c.starts; reached = λ r. r }

adopted_on : (a i : ℕ) (c : Cluster) → Onward c (adopted a i c)
adopted_on a i c = record { later = later_nothing c.world c.past c.starts; reached = λ r. r }

syncs_on : (i a : ℕ) (own : Bool) (c c' : Cluster) (whole : Bool) → Syncs i a own c c' whole → IsReached c.world → Onward c c'
syncs_on i a own c c' whole (finds_none g e) r = on_to c _ c' e (synced_on a None c)
syncs_on i a own c c' whole (plans n c₁ g p e) r = on_to c _ c' e (on_then c (adopted a i c) _ (adopted_on a i c) (on_then (adopted a i c) c₁ _ (proposed_on i _ (adopted a i c) n c₁ true p r) (synced_on a (Some n) c₁)))
syncs_on i a own c c' whole (breaks_off n some g p) r = on_then c (adopted a i c) c' (adopted_on a i c) (proposed_on i _ (adopted a i c) n c' false p r)
syncs_on i a own c c' whole (cut_first mine g e) r = on_to c _ c' e (on_same c)

acts_on : (n : ℕ) (c : Cluster) → IsReached c.world → (i : ℕ) (made : Event) (c' : Cluster) → Acts n c i made c' → Onward c c'
acts_on n c r i made c' (takes input w' z is a e) =
    let m = input_is c.world i made input w' is a in on_to c _ c' e (on_then c (moved i w' c) _ (moved_on (halted_now c.world w' i) i w' c m.move r m.step) (seated_on c.world i (moved i w' c)))
acts_on n c r i made c' (ticks ms w' z is st e) = on_to c _ c' e (moved_on (halted_now c.world w' i) i w' c (Ticks i ms) r st)
acts_on n c r i made c' (arms nth w' z is st e) = on_to c _ c' e (moved_on (halted_now c.world w' i) i w' c (Arms i nth) r st)
acts_on n c r i made c' (restarts w' z is st e) =
    let m = moved_on (node_of w' i).halted i w' c (Restarts i) r st in
    on_to c _ c' e (record { later = m.later; reached = m.reached })
acts_on n c r i made c' (handles agent asked draw z is goes h) = handles_on c r i _ c' h
acts_on n c r i made c' (tends ms whole z is t) = tended_on i c c' whole t r
acts_on n c r i made c' (syncs a whole z is goes y) = let x = agent_on c made in on_then c (agent_did made c) c' x (syncs_on i a (did_own made) (agent_did made c) c' whole y (x.reached r))

does_on : (i : ℕ) (made : Event) (n : ℕ) (c c' : Cluster) (whole : Bool) → Does i made n c c' whole → IsReached c.world → Onward c c'
does_on i made n c c' whole (over e) r = on_same c
does_on i made n c c' whole (act c₁ c₂ a f m more) r =
    let x = on_then c c₁ c₂ (acts_on n c r i made c₁ a) (works_on i c₁ c₂ m.0) in
    on_then c c₂ c' x (does_on i made (suc n) c₂ c' whole more (x.reached r))
does_on i made n c c' whole (cut c₁ a m short) r = on_then c c₁ c' (acts_on n c r i made c₁ a) (works_on i c₁ c' m)
does_on i made n c c' whole (cut_between l k) r = on_same c

passes_on : (c : Cluster) → IsReached c.world → (made : Event) (c' : Cluster) → Passes c made c' → Onward c c'
passes_on c r made c' (loses k w' is st e) =
    on_to c _ c' e (record { later = let l = later_nothing c.world c.past c.starts in record { goes = goes_by c.world w' (Drops k) r st; was = l.was; restarted = l.restarted; more = l.more }; reached = λ _. world_step (Drops k) r st })
passes_on c r made c' (replies agent asked draw why is goes e) = on_to c _ c' e (refused_on _ why c)
passes_on c r made c' (stays own free e) = on_to c _ c' e (agent_on c made)
passes_on c r made c' (leaderless a why own is goes e) = on_to c _ c' e (on_then c (agent_did made c) _ (agent_on c made) (synced_on a None (agent_did made c)))

noted_on : (made : Event) (c : Cluster) → Onward c (noted made c)
noted_on made c = record { later = later_mark c.world (mark.Made made) c.past c.starts; reached = λ r. r }

marked_on : (made : Event) (c : Cluster) → Onward c (marked made c)
marked_on (event.Ask agent asked draw) c = record { later = later_mark c.world (mark.Asked (suc c.asked) agent asked draw) c.past c.starts; reached = λ r. r }
marked_on (event.Timeout s) c = noted_on (event.Timeout s) c
marked_on (event.Beat s) c = noted_on (event.Beat s) c
marked_on (event.Tick s ms) c = noted_on (event.Tick s ms) c
marked_on (event.Deliver k) c = noted_on (event.Deliver k) c
marked_on (event.Drop k) c = noted_on (event.Drop k) c
marked_on (event.Restart s) c = noted_on (event.Restart s) c
marked_on (event.FailKeep s nth) c = noted_on (event.FailKeep s nth) c
marked_on (event.Sync agent) c = noted_on (event.Sync agent) c
marked_on (event.AgentTick agent ms) c = noted_on (event.AgentTick agent ms) c

-- the outs that join the tray are not told apart here
shelved_on : (c c' : Cluster) → Onward c c' → Onward c (record c' { tray = c'.tray ++ c'.fresh; fresh = [] })
shelved_on c c' x = record { later = x.later; reached = x.reached }

pub step_on : (c c' : Cluster) (made : Event) (whole : Bool) → ClusterStep c made c' whole → IsReached c.world → Onward c c'
step_on c c' made whole (done i c₁ c₂ m d e) r =
    let x = on_then c (marked made c) c₁ (marked_on made c) (works_on i (marked made c) c₁ m.0) in
    on_to c _ c' e (shelved_on c c₂ (on_then c c₁ c₂ x (does_on i made 0 c₁ c₂ whole d (x.reached r))))
step_on c c' made whole (passed c₁ w p e) r =
    let x = marked_on made c in
    on_to c _ c' e (shelved_on c c₁ (on_then c (marked made c) c₁ x (passes_on (marked made c) (x.reached r) made c₁ p)))
step_on c c' made whole (cut_early i w c₁ short for d more e) r =
    on_to c _ c' e (shelved_on c c₁ (on_then c (noted made c) c₁ (noted_on made c) (works_on i (noted made c) c₁ (work w d more))))

-- The taking of outs and the mark of a settling.
taken_later : (w : World) (number : Option ℕ) (past : List Mark) (starts : List Start) → Later w w past (taken number past) starts starts
taken_later w None past starts = later_nothing w past starts
taken_later w (Some n) past starts = later_mark w (mark.Taken n) past starts

all_taken_later : (w : World) (outs : List Out) (past : List Mark) (starts : List Start) → Later w w past (all_taken outs past) starts starts
all_taken_later w [] past starts = later_nothing w past starts
all_taken_later w (o ∷ outs) past starts =
    later_then w w w past (taken (number_of o) past) (all_taken outs (taken (number_of o) past)) starts starts starts
    (taken_later w (number_of o) past starts) (all_taken_later w outs (taken (number_of o) past) starts)

pub emptied_on : (c : Cluster) → Onward c (emptied c)
emptied_on c = record { later = all_taken_later c.world c.tray c.past c.starts; reached = λ r. r }

pub settled_on : (n : ℕ) (c : Cluster) → Onward c (settled n c)
settled_on n c = record { later = later_mark c.world (mark.Settled n _) c.past c.starts; reached = λ r. r }

-- The marks of a cluster only grow.
use Rattle.std.proofs.Common.{◌≡◌, ℕ, suc, inl, inr, Bool, true, false, cond, List, [], ◌∷◌, ◌++◌, take, refl, sym, ◌∙◌, ap, subst, append_assoc, Option, Some, None}
use Rattle.cat_model.specs.declared.command.Command.{Command}
use Rattle.cat_model.specs.declared.request.AgentOp.{AgentOp}
use Rattle.cat_model.specs.declared.request.Asked.TheVariants.{Good}
use Rattle.cat_model.specs.declared.request.Event.{Event}
use Rattle.cat_model.specs.declared.request.Event.TheVariants as event
use Rattle.cat_model.specs.declared.request.Request.TheVariants.{Agent as OfAgent}
use Rattle.cat_model.specs.declared.reply.Mark.{Mark}
use Rattle.cat_model.specs.declared.reply.Mark.TheVariants as mark
use Rattle.raft_model.specs.Log.{Log}
use Rattle.raft_model.specs.World.{World}
use Rattle.raft_model.proofs.Tests.{at_bool}
use Rattle.cluster_rules.specs.Agents.{Agent, change}
use Rattle.cluster_rules.specs.Offices.{office_from}
use Rattle.cluster_rules.specs.Replies.{Question}
use Rattle.cluster_rules.specs.Cluster.{Cluster, node_of, clock_of, agent_of, took_office, seated, with_office}
use Rattle.cluster_rules.specs.Due.{Work, Replies, Holds, Closes, Applies, did, Works, none, work}
use Rattle.cluster_rules.specs.Requests.{entries_past, halts_past, joined, moved_with, halted_now, moved, Handles, unready, full, proposes, stops, delays, probes, reads, renews}
use Rattle.cluster_rules.specs.Proposals.{Proposals, none_left, breaks, enters, refuses, over_rows, with_ends, looked, Tends, idles, in_turn, cut_off, told, agent_did, adopted, Syncs, finds_none, plans, breaks_off, cut_first, did_own}
use Rattle.cluster_rules.specs.Step.{Acts, takes, ticks, arms, restarts, handles, tends, syncs, Does, over, act, cut, cut_between, Passes, loses, replies, stays, leaderless, noted, marked, ClusterStep, done, passed, cut_early}
use Rattle.cluster_rules.specs.Reached.{moves_of}
use Rattle.cluster_rules.specs.Past.{Adds, AddsEvent, event_mark}

moves_append : (xs ys : List Mark) → moves_of xs ≡ [] → moves_of ys ≡ [] → moves_of (xs ++ ys) ≡ []
moves_append [] ys e f = f
moves_append (mark.Asked number agent asked draw ∷ xs) ys e f = cc e
moves_append (mark.Made made ∷ xs) ys e f = cc e
moves_append (mark.Taken number ∷ xs) ys e f = cc e
moves_append (mark.Settled pairs whole ∷ xs) ys e f = cc e
moves_append (mark.Advanced ms made ∷ xs) ys e f = cc e
moves_append (mark.Halted server ∷ xs) ys e f = moves_append xs ys e f
moves_append (mark.Entry entry ∷ xs) ys e f = moves_append xs ys e f
moves_append (mark.Answered number kind known contact ∷ xs) ys e f = moves_append xs ys e f

adds_none : (past : List Mark) → Adds past past
adds_none past = record { more = []; are = refl; quiet = refl }

adds_on : (a b c : List Mark) → Adds a b → Adds b c → Adds a c
adds_on a b c x y = record { more = y.more ++ x.more; are = y.are ∙ (ap (λ (l : List Mark). y.more ++ l) x.are ∙ sym (append_assoc y.more x.more a)); quiet = moves_append y.more x.more y.quiet x.quiet }

adds_one : (m : Mark) (past : List Mark) → moves_of (m ∷ []) ≡ [] → Adds past (m ∷ past)
adds_one m past e = record { more = m ∷ []; are = refl; quiet = e }

abbrev Grows : Cluster → Cluster → Type 0
Grows c c' = Adds c.past c'.past

did_grows : (i : ℕ) (w : Work) (c : Cluster) → Grows c (did i w c)
unfolding did
did_grows i (Replies q kind) c = adds_one _ c.past refl
did_grows i (Holds h) c = adds_none c.past
did_grows i (Closes number event) c = adds_none c.past
did_grows i Applies c = adds_none c.past

works_grow : (i : ℕ) (c c' : Cluster) → Works i c c' → Grows c c'
works_grow i c c' none = adds_none c.past
works_grow i c c' (work w e more) = adds_on c.past (did i w c).past c'.past (did_grows i w c) (works_grow i (did i w c) c' more)

entries_grow : (es : Log) (past : List Mark) → Adds past (entries_past es past)
entries_grow [] past = adds_none past
entries_grow (e ∷ es) past = adds_on past (mark.Entry e ∷ past) (entries_past es (mark.Entry e ∷ past)) (adds_one (mark.Entry e) past refl) (entries_grow es (mark.Entry e ∷ past))

halts_grow : (i : ℕ) (b : Bool) (past : List Mark) → Adds past (halts_past i b past)
halts_grow i true past = adds_one (mark.Halted i) past refl
halts_grow i false past = adds_none past

moved_grows : (failed : Bool) (i : ℕ) (w' : World) (c : Cluster) → Grows c (moved_with failed i w' c)
moved_grows failed i w' c = adds_on c.past (halts_past i failed c.past) _ (halts_grow i failed c.past) (entries_grow (joined c.world w') (halts_past i failed c.past))

by_equal : (c a b : Cluster) → b ≡ a → Grows c a → Grows c b
by_equal c a b e s = subst (λ (z : Cluster). Grows c z) (sym e) s

answered_grows : (c a : Cluster) (m : Mark) → moves_of (m ∷ []) ≡ [] → Grows c a → Adds c.past (m ∷ a.past)
answered_grows c a m e g = adds_on c.past a.past (m ∷ a.past) g (adds_one m a.past e)

handles_grow : (c : Cluster) (i : ℕ) (q : Question) (c' : Cluster) → Handles c i q c' → Grows c c'
handles_grow c i q c' (unready st r e) = by_equal c _ c' e (adds_one _ c.past refl)
handles_grow c i q c' (full command w' ask free go room b e) = by_equal c _ c' e (answered_grows c (moved_with (halted_now c.world w' i) i w' c) _ refl (moved_grows (halted_now c.world w' i) i w' c))
handles_grow c i q c' (proposes command w' ask free go room b up e) = by_equal c _ c' e (moved_grows (halted_now c.world w' i) i w' c)
handles_grow c i q c' (stops command w' ask free go room b down e) = by_equal c _ c' e (answered_grows c (moved_with (halted_now c.world w' i) i w' c) _ refl (moved_grows (halted_now c.world w' i) i w' c))
handles_grow c i q c' (delays command key ask go d e) = by_equal c _ c' e (adds_one _ c.past refl)
handles_grow c i q c' (probes wait w' ask go b e) = by_equal c _ c' e (moved_grows (halted_now c.world w' i) i w' c)
handles_grow c i q c' (reads mode wait ask d go e) = by_equal c _ c' e (adds_none c.past)
handles_grow c i q c' (renews id ask go e) = by_equal c _ c' e (adds_one _ c.past refl)

seated_grows : (w : World) (i : ℕ) (c a : Cluster) → Grows c a → Grows c (seated w i a)
seated_grows w i c a g = at_bool (λ b. Grows c (cond b (with_office i (office_from (clock_of a.world i)) a) a)) (took_office w a.world i) (λ _. g) (λ _. g)

-- commands that are proposed for no request
proposals_grow : (i : ℕ) (commands : List Command) (c : Cluster) (n : ℕ) (c' : Cluster) (whole : Bool) → Proposals i commands c n c' whole → Grows c c'
proposals_grow i commands c n c' whole none_left = adds_none c.past
proposals_grow i commands c n c' whole breaks = adds_none c.past
proposals_grow i (command ∷ commands) c n c' whole (enters {n = m} w' lead room a up more) =
    adds_on c.past (moved i w' c).past c'.past (moved_grows (halted_now c.world w' i) i w' c) (proposals_grow i commands (moved i w' c) m c' whole more)
proposals_grow i (command ∷ commands) c n c' whole (refuses w' lead a why) = moved_grows (halted_now c.world w' i) i w' c

tends_grow : (i : ℕ) (c c' : Cluster) (whole : Bool) → Tends i c c' whole → Grows c c'
tends_grow i c c' whole (idles lead e) = by_equal c _ c' e (adds_none c.past)
tends_grow i c c' whole (in_turn n m c₁ c₂ lead p r e) = by_equal c c₂ c' e
    (adds_on c.past c₁.past c₂.past (proposals_grow i _ c n c₁ true p) (proposals_grow i _ (looked i (with_ends i (take n (over_rows c i)) c₁)) m c₂ whole r))
tends_grow i c c' whole (cut_off n c₁ lead p e) = by_equal c _ c' e (proposals_grow i _ c n c₁ false p)

told_grows : (c : Cluster) (q : Question) (op : AgentOp) (g : Option Agent) → Grows c (told q op g c)
told_grows c q op None = adds_one _ c.past refl
told_grows c q op (Some g) = adds_one _ c.past refl

agents_grow : (c : Cluster) (made : Event) → Grows c (agent_did made c)
agents_grow c (event.AgentTick a ms) = adds_none c.past
agents_grow c (event.Ask a (Good (OfAgent op)) draw) = told_grows c (record { number = c.asked; agent = a; asked = Good (OfAgent op); draw = draw }) op (change a op (agent_of c a))
agents_grow c other = adds_none c.past

syncs_grow : (i a : ℕ) (own : Bool) (c c' : Cluster) (whole : Bool) → Syncs i a own c c' whole → Grows c c'
syncs_grow i a own c c' whole (finds_none r e) = by_equal c _ c' e (adds_none c.past)
syncs_grow i a own c c' whole (plans n c₁ r p e) = by_equal c _ c' e (proposals_grow i _ (adopted a i c) n c₁ true p)
syncs_grow i a own c c' whole (breaks_off n some r p) = proposals_grow i _ (adopted a i c) n c' false p
syncs_grow i a own c c' whole (cut_first mine r e) = by_equal c _ c' e (adds_none c.past)

acts_grow : (n : ℕ) (c : Cluster) (i : ℕ) (made : Event) (c' : Cluster) → Acts n c i made c' → Grows c c'
acts_grow n c i made c' (takes input w' z is a e) = by_equal c _ c' e (seated_grows c.world i c (moved i w' c) (moved_grows (halted_now c.world w' i) i w' c))
acts_grow n c i made c' (ticks ms w' z is st e) = by_equal c _ c' e (moved_grows (halted_now c.world w' i) i w' c)
acts_grow n c i made c' (arms nth w' z is st e) = by_equal c _ c' e (moved_grows (halted_now c.world w' i) i w' c)
acts_grow n c i made c' (restarts w' z is st e) = by_equal c _ c' e (moved_grows (node_of w' i).halted i w' c)
acts_grow n c i made c' (handles agent asked draw z is goes h) = handles_grow c i _ c' h
acts_grow n c i made c' (tends ms whole z is t) = tends_grow i c c' whole t
acts_grow n c i made c' (syncs a whole z is goes y) = adds_on c.past (agent_did made c).past c'.past (agents_grow c made) (syncs_grow i a (did_own made) (agent_did made c) c' whole y)

does_grow : (i : ℕ) (made : Event) (n : ℕ) (c c' : Cluster) (whole : Bool) → Does i made n c c' whole → Grows c c'
does_grow i made n c c' whole (over e) = adds_none c.past
does_grow i made n c c' whole (act c₁ c₂ a r m more) = adds_on c.past c₁.past c'.past (acts_grow n c i made c₁ a) (adds_on c₁.past c₂.past c'.past (works_grow i c₁ c₂ m.0) (does_grow i made (suc n) c₂ c' whole more))
does_grow i made n c c' whole (cut c₁ a m short) = adds_on c.past c₁.past c'.past (acts_grow n c i made c₁ a) (works_grow i c₁ c' m)
does_grow i made n c c' whole (cut_between l k) = adds_none c.past

passes_grow : (c : Cluster) (made : Event) (c' : Cluster) → Passes c made c' → Grows c c'
passes_grow c made c' (loses k w' is st e) = by_equal c _ c' e (adds_none c.past)
passes_grow c made c' (replies agent asked draw why is goes e) = by_equal c _ c' e (adds_one _ c.past refl)
passes_grow c made c' (stays own free e) = by_equal c _ c' e (agents_grow c made)
passes_grow c made c' (leaderless a why own is goes e) = by_equal c _ c' e (agents_grow c made)

marked_past : (made : Event) (c : Cluster) → (marked made c).past ≡ event_mark made c.asked ∷ c.past
marked_past (event.Ask agent asked draw) c = refl
marked_past (event.Timeout i) c = refl
marked_past (event.Beat i) c = refl
marked_past (event.Tick i ms) c = refl
marked_past (event.Deliver k) c = refl
marked_past (event.Drop k) c = refl
marked_past (event.Restart i) c = refl
marked_past (event.FailKeep i n) c = refl
marked_past (event.Sync a) c = refl
marked_past (event.AgentTick a ms) c = refl

whole_event : (made : Event) (c a c' : Cluster) → Grows (marked made c) a → c'.past ≡ a.past → AddsEvent made c c'
whole_event made c a c' g e = record {
  own = event_mark made c.asked;
  more = g.more;
  own_is = inl refl;
  are = e ∙ (g.are ∙ ap (λ (l : List Mark). g.more ++ l) (marked_past made c));
  quiet = g.quiet;
}

pub step_adds : (c c' : Cluster) (made : Event) (whole : Bool) → ClusterStep c made c' whole → AddsEvent made c c'
step_adds c c' made whole (done i c₁ c₂ m d e) =
    whole_event made c c₂ c' (adds_on (marked made c).past c₁.past c₂.past (works_grow i (marked made c) c₁ m.0) (does_grow i made 0 c₁ c₂ whole d)) (ap (λ (z : Cluster). z.past) e)
step_adds c c' made whole (passed c₁ w p e) = whole_event made c c₁ c' (passes_grow (marked made c) made c₁ p) (ap (λ (z : Cluster). z.past) e)
step_adds c c' made whole (cut_early i w c₁ short for d more e) =
    let g = works_grow i (noted made c) c₁ (work w d more) in
    record { own = mark.Made made; more = g.more; own_is = inr refl; are = ap (λ (z : Cluster). z.past) e ∙ g.are; quiet = g.quiet }

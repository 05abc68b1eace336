-- A step keeps how many agents there are, and gives no request a number but its own.
use Rattle.std.proofs.Common.{◌≡◌, ℕ, suc, inl, inr, ◌⊎◌, Bool, true, false, cond, List, [], ◌∷◌, ◌++◌, length, take, refl, sym, ◌∙◌, ap, subst, append_assoc, Option, Some, None}
use Rattle.cat_model.specs.declared.command.Command.{Command}
use Rattle.cat_model.specs.declared.request.AgentOp.{AgentOp}
use Rattle.cat_model.specs.declared.request.Asked.TheVariants.{Good}
use Rattle.cat_model.specs.declared.request.Event.{Event}
use Rattle.cat_model.specs.declared.request.Event.TheVariants as event
use Rattle.cat_model.specs.declared.request.Request.TheVariants.{Agent as OfAgent}
use Rattle.cat_model.specs.declared.reply.Kind.{Kind}
use Rattle.cat_model.specs.declared.reply.Mark.{Mark}
use Rattle.cat_model.specs.declared.reply.Mark.TheVariants as mark
use Rattle.raft_model.specs.Log.{Log}
use Rattle.raft_model.specs.World.{World}
use Rattle.raft_model.proofs.Tests.{at_bool}
use Rattle.cluster_rules.specs.Agents.{Agent, change}
use Rattle.cluster_rules.specs.Offices.{office_from}
use Rattle.cluster_rules.specs.Replies.{Question}
use Rattle.cluster_rules.specs.Cluster.{Cluster, node_of, clock_of, agent_of, took_office, seated, with_office}
use Rattle.cluster_rules.specs.Due.{Work, Replies, Holds, Closes, Applies, did, answered, Works, none, work}
use Rattle.cluster_rules.specs.Requests.{entries_past, halts_past, joined, moved_with, halted_now, moved, Handles, unready, full, proposes, stops, delays, probes, reads, renews}
use Rattle.cluster_rules.specs.Proposals.{Proposals, none_left, breaks, enters, refuses, over_rows, with_ends, looked, Tends, idles, in_turn, cut_off, told, agent_did, adopted, Syncs, finds_none, plans, breaks_off, cut_first, did_own}
use Rattle.cluster_rules.specs.Step.{Acts, takes, ticks, arms, restarts, handles, tends, syncs, Does, over, act, cut, cut_between, Passes, loses, replies, stays, leaderless, noted, marked, ClusterStep, done, passed, cut_early}
use Rattle.cluster_rules.specs.Reached.{moves_of}
use Rattle.cluster_rules.proofs.Tools.{length_set_server}
use Rattle.run_rules.specs.Keeping.{Keeps}
use Rattle.run_rules.proofs.Moves.{quiet_append}

pub keeps_all : (c : Cluster) → Keeps c c
keeps_all c = record { agents = refl; asked = refl; more = []; past = refl; quiet = refl }

pub keeps_on : (a b c : Cluster) → Keeps a b → Keeps b c → Keeps a c
keeps_on a b c x y = record {
  agents = y.agents ∙ x.agents;
  asked = y.asked ∙ x.asked;
  more = y.more ++ x.more;
  past = y.past ∙ (ap (λ (l : List Mark). y.more ++ l) x.past ∙ sym (append_assoc y.more x.more a.past));
  quiet = quiet_append y.more x.more y.quiet x.quiet;
}

by_equal : (c a b : Cluster) → b ≡ a → Keeps c a → Keeps c b
by_equal c a b e s = subst (λ (z : Cluster). Keeps c z) (sym e) s

-- one mark more
with_answer : (q : Question) (kind : Kind) (known : Bool) (contact : ℕ) (log : Log) (c : Cluster) → Keeps c (answered q kind known contact log c)
with_answer q kind known contact log c = record { agents = refl; asked = refl; more = mark.Answered q.number kind known contact ∷ []; past = refl; quiet = refl }

did_keeps : (i : ℕ) (w : Work) (c : Cluster) → Keeps c (did i w c)
unfolding did
did_keeps i (Replies q kind) c = with_answer q kind _ _ _ c
did_keeps i (Holds h) c = record { agents = refl; asked = refl; more = []; past = refl; quiet = refl }
did_keeps i (Closes number event) c = record { agents = refl; asked = refl; more = []; past = refl; quiet = refl }
did_keeps i Applies c = record { agents = refl; asked = refl; more = []; past = refl; quiet = refl }

works_keep : (i : ℕ) (c c' : Cluster) → Works i c c' → Keeps c c'
works_keep i c c' none = keeps_all c
works_keep i c c' (work w e more) = keeps_on c (did i w c) c' (did_keeps i w c) (works_keep i (did i w c) c' more)

-- entries and halts
pub record Grows (past past' : List Mark) : Type 0 where
  pub more : List Mark
  pub are : past' ≡ more ++ past
  pub quiet : moves_of more ≡ []

grows_on : (a b c : List Mark) → Grows a b → Grows b c → Grows a c
grows_on a b c x y = record { more = y.more ++ x.more; are = y.are ∙ (ap (λ (l : List Mark). y.more ++ l) x.are ∙ sym (append_assoc y.more x.more a)); quiet = quiet_append y.more x.more y.quiet x.quiet }

entries_grow : (es : Log) (past : List Mark) → Grows past (entries_past es past)
entries_grow [] past = record { more = []; are = refl; quiet = refl }
entries_grow (e ∷ es) past = grows_on past (mark.Entry e ∷ past) (entries_past es (mark.Entry e ∷ past)) (record { more = mark.Entry e ∷ []; are = refl; quiet = refl }) (entries_grow es (mark.Entry e ∷ past))

halts_grow : (i : ℕ) (b : Bool) (past : List Mark) → Grows past (halts_past i b past)
halts_grow i true past = record { more = mark.Halted i ∷ []; are = refl; quiet = refl }
halts_grow i false past = record { more = []; are = refl; quiet = refl }

moved_keeps : (failed : Bool) (i : ℕ) (w' : World) (c : Cluster) → Keeps c (moved_with failed i w' c)
moved_keeps failed i w' c =
    let g = grows_on c.past (halts_past i failed c.past) _ (halts_grow i failed c.past) (entries_grow (joined c.world w') (halts_past i failed c.past)) in
    record { agents = refl; asked = refl; more = g.more; past = g.are; quiet = g.quiet }

handles_keep : (c : Cluster) (i : ℕ) (q : Question) (c' : Cluster) → Handles c i q c' → Keeps c c'
handles_keep c i q c' (unready st r e) = by_equal c _ c' e (with_answer q _ _ _ _ c)
handles_keep c i q c' (full command w' ask free go room b e) =
    by_equal c _ c' e (keeps_on c (moved_with (halted_now c.world w' i) i w' c) _ (moved_keeps (halted_now c.world w' i) i w' c) (with_answer q _ _ _ _ (moved_with (halted_now c.world w' i) i w' c)))
handles_keep c i q c' (proposes command w' ask free go room b up e) =
    let k = moved_keeps (halted_now c.world w' i) i w' c in
    by_equal c _ c' e (record { agents = refl; asked = refl; more = k.more; past = k.past; quiet = k.quiet })
handles_keep c i q c' (stops command w' ask free go room b down e) =
    by_equal c _ c' e (keeps_on c (moved_with (halted_now c.world w' i) i w' c) _ (moved_keeps (halted_now c.world w' i) i w' c) (with_answer q _ _ _ _ (moved_with (halted_now c.world w' i) i w' c)))
handles_keep c i q c' (delays command key ask go d e) = by_equal c _ c' e (with_answer q _ _ _ _ c)
handles_keep c i q c' (probes wait w' ask go b e) =
    let k = moved_keeps (halted_now c.world w' i) i w' c in
    by_equal c _ c' e (record { agents = refl; asked = refl; more = k.more; past = k.past; quiet = k.quiet })
handles_keep c i q c' (reads mode wait ask d go e) = by_equal c _ c' e (record { agents = refl; asked = refl; more = []; past = refl; quiet = refl })
handles_keep c i q c' (renews id ask go e) = by_equal c _ c' e (record { agents = refl; asked = refl; more = mark.Answered q.number _ _ _ ∷ []; past = refl; quiet = refl })

seated_keeps : (w : World) (i : ℕ) (c a : Cluster) → Keeps c a → Keeps c (seated w i a)
seated_keeps w i c a g = at_bool (λ b. Keeps c (cond b (with_office i (office_from (clock_of a.world i)) a) a)) (took_office w a.world i)
    (λ _. record { agents = g.agents; asked = g.asked; more = g.more; past = g.past; quiet = g.quiet }) (λ _. g)

-- commands that are proposed for no request
proposals_keep : (i : ℕ) (commands : List Command) (c : Cluster) (n : ℕ) (c' : Cluster) (whole : Bool) → Proposals i commands c n c' whole → Keeps c c'
proposals_keep i commands c n c' whole none_left = keeps_all c
proposals_keep i commands c n c' whole breaks = keeps_all c
proposals_keep i (command ∷ commands) c n c' whole (enters {n = m} w' lead room a up more) =
    keeps_on c (moved i w' c) c' (moved_keeps (halted_now c.world w' i) i w' c) (proposals_keep i commands (moved i w' c) m c' whole more)
proposals_keep i (command ∷ commands) c n c' whole (refuses w' lead a why) = moved_keeps (halted_now c.world w' i) i w' c

-- another office of a server
of_office : (a b c : Cluster) → c.agents ≡ b.agents → c.asked ≡ b.asked → c.past ≡ b.past → Keeps a b → Keeps a c
of_office a b c g q p k = record { agents = ap (λ z. length z) g ∙ k.agents; asked = q ∙ k.asked; more = k.more; past = p ∙ k.past; quiet = k.quiet }

tends_keep : (i : ℕ) (c c' : Cluster) (whole : Bool) → Tends i c c' whole → Keeps c c'
tends_keep i c c' whole (idles lead e) = by_equal c _ c' e (keeps_all c)
tends_keep i c c' whole (in_turn n m c₁ c₂ lead p r e) = by_equal c c₂ c' e
    (keeps_on c (looked i (with_ends i (take n (over_rows c i)) c₁)) c₂ (of_office c c₁ _ refl refl refl (proposals_keep i _ c n c₁ true p)) (proposals_keep i _ (looked i (with_ends i (take n (over_rows c i)) c₁)) m c₂ whole r))
tends_keep i c c' whole (cut_off n c₁ lead p e) = by_equal c _ c' e (of_office c c₁ _ refl refl refl (proposals_keep i _ c n c₁ false p))

-- another agent's state in its place
of_agent : (a : ℕ) (g : Agent) (c c' : Cluster) → length c'.agents ≡ length c.agents → c'.asked ≡ c.asked → c'.past ≡ c.past → Keeps c c'
of_agent a g c c' n q p = record { agents = n; asked = q; more = []; past = p; quiet = refl }

told_keeps : (c : Cluster) (q : Question) (op : AgentOp) (g : Option Agent) → Keeps c (told q op g c)
told_keeps c q op None = record { agents = refl; asked = refl; more = mark.Answered q.number _ _ _ ∷ []; past = refl; quiet = refl }
told_keeps c q op (Some g) = record { agents = length_set_server c.agents q.agent g; asked = refl; more = mark.Answered q.number _ _ _ ∷ []; past = refl; quiet = refl }

agents_keep : (c : Cluster) (made : Event) → Keeps c (agent_did made c)
agents_keep c (event.AgentTick a ms) = record { agents = length_set_server c.agents a _; asked = refl; more = []; past = refl; quiet = refl }
agents_keep c (event.Ask a (Good (OfAgent op)) draw) = told_keeps c (record { number = c.asked; agent = a; asked = Good (OfAgent op); draw = draw }) op (change a op (agent_of c a))
agents_keep c other = keeps_all c

adopted_keeps : (a i : ℕ) (c : Cluster) → Keeps c (adopted a i c)
adopted_keeps a i c = record { agents = length_set_server c.agents a _; asked = refl; more = []; past = refl; quiet = refl }

syncs_keep : (i a : ℕ) (own : Bool) (c c' : Cluster) (whole : Bool) → Syncs i a own c c' whole → Keeps c c'
syncs_keep i a own c c' whole (finds_none r e) = by_equal c _ c' e (of_office c c _ refl refl refl (keeps_all c))
syncs_keep i a own c c' whole (plans n c₁ r p e) = by_equal c _ c' e (of_office c c₁ _ refl refl refl (keeps_on c (adopted a i c) c₁ (adopted_keeps a i c) (proposals_keep i _ (adopted a i c) n c₁ true p)))
syncs_keep i a own c c' whole (breaks_off n some r p) = keeps_on c (adopted a i c) c' (adopted_keeps a i c) (proposals_keep i _ (adopted a i c) n c' false p)
syncs_keep i a own c c' whole (cut_first mine r e) = by_equal c _ c' e (keeps_all c)

acts_keep : (n : ℕ) (c : Cluster) (i : ℕ) (made : Event) (c' : Cluster) → Acts n c i made c' → Keeps c c'
acts_keep n c i made c' (takes input w' z is a e) = by_equal c _ c' e (seated_keeps c.world i c (moved i w' c) (moved_keeps (halted_now c.world w' i) i w' c))
acts_keep n c i made c' (ticks ms w' z is st e) = by_equal c _ c' e (moved_keeps (halted_now c.world w' i) i w' c)
acts_keep n c i made c' (arms nth w' z is st e) = by_equal c _ c' e (moved_keeps (halted_now c.world w' i) i w' c)
acts_keep n c i made c' (restarts w' z is st e) =
    let k = moved_keeps (node_of w' i).halted i w' c in
    by_equal c _ c' e (record { agents = refl; asked = refl; more = k.more; past = k.past; quiet = k.quiet })
acts_keep n c i made c' (handles agent asked draw z is goes h) = handles_keep c i _ c' h
acts_keep n c i made c' (tends ms whole z is t) = tends_keep i c c' whole t
acts_keep n c i made c' (syncs a whole z is goes y) = keeps_on c (agent_did made c) c' (agents_keep c made) (syncs_keep i a (did_own made) (agent_did made c) c' whole y)

does_keep : (i : ℕ) (made : Event) (n : ℕ) (c c' : Cluster) (whole : Bool) → Does i made n c c' whole → Keeps c c'
does_keep i made n c c' whole (over e) = keeps_all c
does_keep i made n c c' whole (act c₁ c₂ a r m more) = keeps_on c c₁ c' (acts_keep n c i made c₁ a) (keeps_on c₁ c₂ c' (works_keep i c₁ c₂ m.0) (does_keep i made (suc n) c₂ c' whole more))
does_keep i made n c c' whole (cut c₁ a m short) = keeps_on c c₁ c' (acts_keep n c i made c₁ a) (works_keep i c₁ c' m)
does_keep i made n c c' whole (cut_between l k) = keeps_all c

passes_keep : (c : Cluster) (made : Event) (c' : Cluster) → Passes c made c' → Keeps c c'
passes_keep c made c' (loses k w' is st e) = by_equal c _ c' e (record { agents = refl; asked = refl; more = []; past = refl; quiet = refl })
passes_keep c made c' (replies agent asked draw why is goes e) = by_equal c _ c' e (record { agents = refl; asked = refl; more = mark.Answered c.asked _ _ _ ∷ []; past = refl; quiet = refl })
passes_keep c made c' (stays own free e) = by_equal c _ c' e (agents_keep c made)
passes_keep c made c' (leaderless a why own is goes e) = by_equal c _ c' e (of_office c (agent_did made c) _ refl refl refl (agents_keep c made))

-- the outs join the tray
shelved_keeps : (a b c : Cluster) → c ≡ record b { tray = b.tray ++ b.fresh; fresh = [] } → Keeps a b → Keeps a c
shelved_keeps a b c e k = by_equal a _ c e (record { agents = k.agents; asked = k.asked; more = k.more; past = k.past; quiet = k.quiet })

-- What a step does beside its event's mark; one that was cut while it caught up on earlier work has the plain mark.
pub step_keeps : (c c' : Cluster) (made : Event) (whole : Bool) → ClusterStep c made c' whole → Keeps (marked made c) c' ⊎ (Keeps (noted made c) c' × (whole ≡ false))
step_keeps c c' made whole (done i c₁ c₂ m d e) = inl (shelved_keeps (marked made c) c₂ c' e (keeps_on (marked made c) c₁ c₂ (works_keep i (marked made c) c₁ m.0) (does_keep i made 0 c₁ c₂ whole d)))
step_keeps c c' made whole (passed c₁ w p e) = inl (shelved_keeps (marked made c) c₁ c' e (passes_keep (marked made c) made c₁ p))
step_keeps c c' made whole (cut_early i w c₁ short for d more e) = inr (shelved_keeps (noted made c) c₁ c' e (works_keep i (noted made c) c₁ (work w d more)), short)

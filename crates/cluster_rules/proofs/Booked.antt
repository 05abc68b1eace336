-- The books of each cluster of a run hold, whatever its stores held at the beginning.
use Rattle.std.proofs.Common.{◌≡◌, ℕ, suc, ◌+◌, inl, Bool, true, false, cond, List, [], ◌∷◌, ◌++◌, take, refl, sym, ap, subst, arith, Option, Some, None}
use Rattle.std.specs.Prelude.{nat_lt, nat_le, ◌&&◌}
use Rattle.std.specs.List.{AllByRecursion as Each}
use Rattle.std.proofs.lemmas.Bool.Decides.{nat_tests}
use Rattle.cat_model.specs.declared.command.Command.{Command}
use Rattle.cat_model.specs.declared.request.AgentOp.{AgentOp}
use Rattle.cat_model.specs.declared.request.Asked.{Asked}
use Rattle.cat_model.specs.declared.request.Asked.TheVariants.{Good}
use Rattle.cat_model.specs.declared.request.Draw.{Draw}
use Rattle.cat_model.specs.declared.request.Event.{Event}
use Rattle.cat_model.specs.declared.request.Event.TheVariants as event
use Rattle.cat_model.specs.declared.request.Request.TheVariants.{Agent as OfAgent}
use Rattle.cat_model.specs.declared.reply.Kind.{Kind}
use Rattle.cat_model.specs.declared.reply.Mark.TheVariants as mark
use Rattle.raft_model.specs.Log.{Log}
use Rattle.raft_model.specs.Node.{Store}
use Rattle.raft_model.specs.World.{World}
use Rattle.raft_model.proofs.Tests.{at_bool}
use Rattle.cluster_rules.specs.Agents.{Agent, change}
use Rattle.cluster_rules.specs.Offices.{office_from}
use Rattle.cluster_rules.specs.Replies.{Question, came, Out, number_of}
use Rattle.cluster_rules.specs.Cluster.{Stand, Ended, Cluster, agent_of, clock_of, node_of, with_office, took_office, seated}
use Rattle.cluster_rules.specs.Due.{answered, Works, work}
use Rattle.cluster_rules.specs.Requests.{halted_now, moved, moved_with, Handles, unready, full, proposes, stops, delays, probes, reads, renews}
use Rattle.cluster_rules.specs.Proposals.{Proposals, none_left, breaks, enters, refuses, over_rows, with_ends, looked, Tends, idles, in_turn, cut_off, with_change, told, agent_did, adopted, Syncs, finds_none, plans, breaks_off, cut_first, did_own}
use Rattle.cluster_rules.specs.Step.{events_in, Acts, takes, ticks, arms, restarts, handles, tends, syncs, Does, over, act, cut, cut_between, Passes, loses, replies, stays, leaderless, noted, marked, ClusterStep, done, passed, cut_early}
use Rattle.cluster_rules.specs.Reached.{IsBegun, Move, Reached, at_start, by_event, by_taking, by_handing, by_settling, by_advancing}
use Rattle.cluster_rules.specs.Sound.{RestartedAt, one_if, is_of, out_times, Sound}
use Rattle.cluster_rules.specs.Booked.{OutIsBooked, Books, IsBookedAtWork, Booked}
use Rattle.cluster_rules.proofs.Asking.{IsJustAsked, works_asked}
use Rattle.cluster_rules.proofs.Booking.{booked_at_work, plain_books, moved_books, answered_books, holding_books, synced_books, shelved_books, restart_books, works_books, asks_books, just_asked, works_events}
use Rattle.cluster_rules.proofs.Counting.{outs_times}
use Rattle.cluster_rules.proofs.Keeping.{step_places, step_shelves}
use Rattle.cluster_rules.proofs.Moved.{plain_made, plain_moved, plain_taken, plain_settled, plain_advanced}
use Rattle.cluster_rules.proofs.Tools.{each_but}

-- What an act knows of its event: a request was just asked, a restart was just marked.
record Notes (c : Cluster) (made : Event) : Type 0 where
  pub asked : (agent : ℕ) (asked : Asked) (draw : Draw) → made ≡ event.Ask agent asked draw → IsJustAsked c (record { number = c.asked; agent = agent; asked = asked; draw = draw })
  pub restarted : (i : ℕ) → made ≡ event.Restart i → RestartedAt (events_in c.past) i c.past

-- A request's part at its server.
handles_books : (c : Cluster) → IsBookedAtWork c → (i : ℕ) (q : Question) → IsJustAsked c q → (c' : Cluster) → Handles c i q c' → IsBookedAtWork c'
handles_books c b i q a c' p = by p
  where
    -- the step of a node puts no mark of a request
    answers : (failed : Bool) (w' : World) (kind : Kind) (log : Log) → IsBookedAtWork (answered q kind false 0 log (moved_with failed i w' c))
    answers failed w' kind log = let p = plain_moved failed i w' c in answered_books (moved_with failed i w' c) (moved_books failed i w' c b) q kind false 0 log (p.was (came q) a.was) (p.open_ q.number a.open_)

    holds : (failed : Bool) (w' : World) (stand : Stand) → ((event : ℕ) → stand ≡ Ended event → ⊥) → Books c.asked (c.held ++ record { question = q; server = i; stand = stand } ∷ []) c.fresh c.tray (moved_with failed i w' c).past
    holds failed w' stand n = let p = plain_moved failed i w' c in
        holding_books (moved_with failed i w' c) (moved_books failed i w' c b) (record { question = q; server = i; stand = stand })
        (record { asked = p.was (came q) a.was; open_ = p.open_ q.number a.open_; ended = λ event e. absurd (n event e) }) a.above

    by : Handles c i q c' → IsBookedAtWork c'
    by (unready st r e) = subst IsBookedAtWork (sym e) (answered_books c b q _ false 0 [] a.was a.open_)
    by (full command w' ask free go room n e) = subst IsBookedAtWork (sym e) (answers (halted_now c.world w' i) w' _ [])
    by (stops command w' ask free go room n down e) = subst IsBookedAtWork (sym e) (answers (halted_now c.world w' i) w' _ [])
    by (proposes command w' ask free go room n up e) = subst IsBookedAtWork (sym e) (holds (halted_now c.world w' i) w' _ (λ event z. cc z))
    by (delays command key ask go d e) = subst IsBookedAtWork (sym e) (answered_books c b q _ false 0 [] a.was a.open_)
    by (renews id ask go e) = subst IsBookedAtWork (sym e) (answered_books c b q _ false 0 _ a.was a.open_)
    by (probes wait w' look go n e) = subst IsBookedAtWork (sym e) (holds (halted_now c.world w' i) w' _ (λ event z. cc z))
    by (reads mode wait look d go e) = subst IsBookedAtWork (sym e) (holding_books c b _ (record { asked = a.was; open_ = a.open_; ended = λ event z. absurd (cc z) }) a.above)

-- What is done for no request.
seated_books : (w : World) (i : ℕ) (c : Cluster) → IsBookedAtWork c → IsBookedAtWork (seated w i c)
seated_books w i c b = at_bool (λ t. IsBookedAtWork (cond t (with_office i (office_from (clock_of c.world i)) c) c)) (took_office w c.world i) (λ _. b) (λ _. b)

proposals_books : (i : ℕ) (commands : List Command) (c : Cluster) (n : ℕ) (c' : Cluster) (whole : Bool) → Proposals i commands c n c' whole → IsBookedAtWork c → IsBookedAtWork c'
proposals_books i commands c n c' whole none_left b = b
proposals_books i commands c n c' whole breaks b = b
proposals_books i (command ∷ commands) c n c' whole (enters {n = m} w' lead room a up more) b = proposals_books i commands (moved i w' c) m c' whole more (moved_books (halted_now c.world w' i) i w' c b)
proposals_books i (command ∷ commands) c n c' whole (refuses w' lead a why) b = moved_books (halted_now c.world w' i) i w' c b

tends_books : (i : ℕ) (c c' : Cluster) (whole : Bool) → Tends i c c' whole → IsBookedAtWork c → IsBookedAtWork c'
tends_books i c c' whole (idles lead e) b = subst IsBookedAtWork (sym e) b
tends_books i c c' whole (in_turn n m c₁ c₂ lead p r e) b = subst IsBookedAtWork (sym e) (proposals_books i _ (looked i (with_ends i (take n (over_rows c i)) c₁)) m c₂ whole r (proposals_books i _ c n c₁ true p b))
tends_books i c c' whole (cut_off n c₁ lead p e) b = subst IsBookedAtWork (sym e) (proposals_books i _ c n c₁ false p b)

told_books : (c : Cluster) → IsBookedAtWork c → (q : Question) (op : AgentOp) (g : Option Agent) → IsJustAsked c q → IsBookedAtWork (told q op g c)
told_books c b q op None a = answered_books c b q _ false 0 [] a.was a.open_
told_books c b q op (Some g) a = answered_books (with_change q.agent (Some g) c) b q _ false 0 [] a.was a.open_

agent_books : (c : Cluster) → IsBookedAtWork c → (made : Event) → Notes c made → IsBookedAtWork (agent_did made c)
agent_books c b (event.AgentTick a ms) f = b
agent_books c b (event.Ask a (Good (OfAgent op)) draw) f = told_books c b (record { number = c.asked; agent = a; asked = Good (OfAgent op); draw = draw }) op (change a op (agent_of c a)) (f.asked a (Good (OfAgent op)) draw refl)
agent_books c b other f = b

syncs_books : (i a : ℕ) (own : Bool) (c c' : Cluster) (whole : Bool) → Syncs i a own c c' whole → IsBookedAtWork c → IsBookedAtWork c'
syncs_books i a own c c' whole (finds_none r e) b = subst IsBookedAtWork (sym e) (synced_books c b a None)
syncs_books i a own c c' whole (plans n c₁ r p e) b = subst IsBookedAtWork (sym e) (synced_books c₁ (proposals_books i _ (adopted a i c) n c₁ true p b) a (Some n))
syncs_books i a own c c' whole (breaks_off n some r p) b = proposals_books i _ (adopted a i c) n c' false p b
syncs_books i a own c c' whole (cut_first mine r e) b = subst IsBookedAtWork (sym e) b

-- The acts of an event.
acts_books : (n : ℕ) (c : Cluster) → IsBookedAtWork c → (i : ℕ) (made : Event) → (n ≡ 0 → Notes c made) → (c' : Cluster) → Acts n c i made c' → IsBookedAtWork c'
acts_books n c b i made f c' (takes input w' z is a e) = subst IsBookedAtWork (sym e) (seated_books c.world i (moved i w' c) (moved_books (halted_now c.world w' i) i w' c b))
acts_books n c b i made f c' (ticks ms w' z is st e) = subst IsBookedAtWork (sym e) (moved_books (halted_now c.world w' i) i w' c b)
acts_books n c b i made f c' (arms nth w' z is st e) = subst IsBookedAtWork (sym e) (moved_books (halted_now c.world w' i) i w' c b)
acts_books n c b i made f c' (restarts w' z is st e) = subst IsBookedAtWork (sym e) (restart_books (node_of w' i).halted i w' c b ((f z).restarted i is))
acts_books n c b i made f c' (handles agent asked draw z is goes h) = handles_books c b i (record { number = c.asked; agent = agent; asked = asked; draw = draw }) ((f z).asked agent asked draw is) c' h
acts_books n c b i made f c' (tends ms whole z is t) = tends_books i c c' whole t b
acts_books n c b i made f c' (syncs a whole z is goes y) = syncs_books i a (did_own made) (agent_did made c) c' whole y (agent_books c b made (f z))

passes_books : (c : Cluster) → IsBookedAtWork c → (made : Event) → Notes c made → (c' : Cluster) → Passes c made c' → IsBookedAtWork c'
passes_books c b made f c' (loses k w' is st e) = subst IsBookedAtWork (sym e) b
passes_books c b made f c' (replies agent asked draw why is goes e) = let a = f.asked agent asked draw is in subst IsBookedAtWork (sym e) (answered_books c b _ _ false 0 [] a.was a.open_)
passes_books c b made f c' (stays own free e) = subst IsBookedAtWork (sym e) (agent_books c b made f)
passes_books c b made f c' (leaderless a why own is goes e) = subst IsBookedAtWork (sym e) (synced_books (agent_did made c) (agent_books c b made f) a None)

-- The mark of an event.
noted_books : (c : Cluster) → IsBookedAtWork c → (made : Event) → IsBookedAtWork (noted made c)
noted_books c b made = plain_books c.asked c.held c.fresh c.tray c.past (mark.Made made ∷ c.past) (plain_made made c.past) b

marked_books : (c : Cluster) → IsBookedAtWork c → (made : Event) → IsBookedAtWork (marked made c)
marked_books c b (event.Ask agent asked draw) = asks_books c b agent asked draw
marked_books c b (event.Timeout i) = noted_books c b (event.Timeout i)
marked_books c b (event.Beat i) = noted_books c b (event.Beat i)
marked_books c b (event.Tick i ms) = noted_books c b (event.Tick i ms)
marked_books c b (event.Deliver k) = noted_books c b (event.Deliver k)
marked_books c b (event.Drop k) = noted_books c b (event.Drop k)
marked_books c b (event.Restart i) = noted_books c b (event.Restart i)
marked_books c b (event.FailKeep i n) = noted_books c b (event.FailKeep i n)
marked_books c b (event.Sync a) = noted_books c b (event.Sync a)
marked_books c b (event.AgentTick a ms) = noted_books c b (event.AgentTick a ms)

notes_marked : (c : Cluster) → IsBookedAtWork c → (made : Event) → Notes (marked made c) made
notes_marked c b made = record {
  asked = λ agent asked draw e. subst (λ (z : Event). IsJustAsked (marked z c) (record { number = (marked z c).asked; agent = agent; asked = asked; draw = draw })) (sym e) (just_asked c b agent asked draw);
  restarted = λ i e. subst (λ (z : Event). RestartedAt (events_in (marked z c).past) i (marked z c).past) (sym e) (inl (refl, refl));
}

notes_worked : (j : ℕ) (c c' : Cluster) (made : Event) → Works j c c' → Notes c made → Notes c' made
notes_worked j c c' made works f = record {
  asked = λ agent asked draw e. let a = works_asked j c c' works (record { number = c.asked; agent = agent; asked = asked; draw = draw }) (f.asked agent asked draw e) in
      subst (λ z. IsJustAsked c' (record { number = z; agent = agent; asked = asked; draw = draw })) a.number a;
  restarted = λ i e. works_events j c c' works i (f.restarted i e);
}

does_books : (i : ℕ) (made : Event) (n : ℕ) (c c' : Cluster) (whole : Bool) → Does i made n c c' whole → IsBookedAtWork c → (n ≡ 0 → Notes c made) → IsBookedAtWork c'
does_books i made n c c' whole (over e) b f = b
does_books i made n c c' whole (act c₁ c₂ a r m more) b f = does_books i made (suc n) c₂ c' whole more (works_books i c₁ c₂ m.0 (acts_books n c b i made f c₁ a)) (λ z. absurd (omega arith))
does_books i made n c c' whole (cut c₁ a m short) b f = works_books i c₁ c' m (acts_books n c b i made f c₁ a)
does_books i made n c c' whole (cut_between l k) b f = b

at_work : (c c' : Cluster) (made : Event) (whole : Bool) → ClusterStep c made c' whole → IsBookedAtWork c → IsBookedAtWork c'
at_work c c' made whole (done i c₁ c₂ m d e) b =
    let b₁ = works_books i (marked made c) c₁ m.0 (marked_books c b made) in
    subst IsBookedAtWork (sym e) (shelved_books c₂ (does_books i made 0 c₁ c₂ whole d b₁ (λ _. notes_worked i (marked made c) c₁ made m.0 (notes_marked c b made))))
at_work c c' made whole (passed c₁ w p e) b = subst IsBookedAtWork (sym e) (shelved_books c₁ (passes_books (marked made c) (marked_books c b made) made (notes_marked c b made) c₁ p))
at_work c c' made whole (cut_early i w c₁ short for d more e) b = subst IsBookedAtWork (sym e) (shelved_books c₁ (works_books i (noted made c) c₁ (work w d more) (noted_books c b made)))

-- Each step, whole or cut short, keeps the books.
pub step_books : (c c' : Cluster) (made : Event) (whole : Bool) → ClusterStep c made c' whole → Booked c → Booked c'
step_books c c' made whole st b = record { parts = at_work c c' made whole st b.parts; none_lost = step_places c c' made whole st b.none_lost; shelved = step_shelves c c' made whole st }

-- A sound cluster's books hold.
pub sound_books : (c : Cluster) → Sound c → Booked c
sound_books c s = record { parts = booked_at_work c s.parts; none_lost = s.none_lost; shelved = s.shelved }

-- The beginning.
none_asked : (k : ℕ) → one_if (nat_lt 0 k && nat_le k 0) ≡ 0
none_asked k = at_bool (λ b. nat_lt 0 k ≡ b → one_if (b && nat_le k 0) ≡ 0) (nat_lt 0 k) (λ _ e. ap one_if (above k e)) (λ _ _. refl) refl
  where
    above : (k : ℕ) → nat_lt 0 k ≡ true → nat_le k 0 ≡ false
    above k e = grind (arith, nat_tests)

pub begun_books : (stores : List Store) (c : Cluster) → IsBegun stores c → Booked c
begun_books stores c s = subst Booked (sym s.is) (record {
  parts = record { asked_is = refl; held = tt; ascends = tt; marks = tt; fresh = tt; tray = tt };
  none_lost = λ k. sym (none_asked k);
  shelved = refl;
})

-- One out less.
less_tray : (c : Cluster) → IsBookedAtWork c → (out : Out) (before after : List Out) → c.tray ≡ before ++ out ∷ after → IsBookedAtWork (record c { tray = before ++ after })
less_tray c b out before after e = record { asked_is = b.asked_is; held = b.held; ascends = b.ascends; marks = b.marks; fresh = b.fresh; tray = each_but (OutIsBooked c.past) before out after (subst (Each (OutIsBooked c.past)) e b.tray) }

tray_times : (k : ℕ) (tray before : List Out) (out : Out) (after : List Out) → tray ≡ before ++ out ∷ after → out_times k tray ≡ one_if (is_of k (number_of out)) + out_times k (before ++ after)
tray_times k tray before out after e =
    let a = ap (out_times k) e in let b = outs_times k before (out ∷ after) in let d = outs_times k before after in omega (arith, a, b, d)

pub run_books : (stores : List Store) (start c : Cluster) (whole : Bool) (moves : List Move) → IsBegun stores start → Reached start whole moves c → Booked c
run_books stores start c whole moves i at_start = begun_books stores start i
run_books stores start c whole moves i (by_event {whole = w} {moves = ms} {c = b} made all r fits s) = step_books b c made all s (run_books stores start b w ms i r)
run_books stores start c whole moves i (by_taking {whole = w} {moves = ms} {c = b} number out before after r is e) =
    let s = run_books stores start b w ms i r in
    record {
      parts = plain_books b.asked b.held b.fresh (before ++ after) b.past (mark.Taken number ∷ b.past) (plain_taken number b.past) (less_tray b s.parts out before after e);
      none_lost = λ k. let t = tray_times k b.tray before out after e in let n = ap (λ z. one_if (is_of k z)) is in let f = s.none_lost k in omega (arith, t, n, f);
      shelved = s.shelved;
    }
run_books stores start c whole moves i (by_handing {whole = w} {moves = ms} {c = b} out before after r is e) =
    let s = run_books stores start b w ms i r in
    record {
      parts = less_tray b s.parts out before after e;
      none_lost = λ k. let t = tray_times k b.tray before out after e in let n = ap (λ z. one_if (is_of k z)) is in let f = s.none_lost k in omega (arith, t, n, f);
      shelved = s.shelved;
    }
run_books stores start c whole moves i (by_settling {whole = w} {moves = ms} {c = b} pairs all r ends) =
    let s = run_books stores start b w ms i r in
    record { parts = plain_books b.asked b.held b.fresh b.tray b.past (mark.Settled pairs all ∷ b.past) (plain_settled pairs all b.past) s.parts; none_lost = s.none_lost; shelved = s.shelved }
run_books stores start c whole moves i (by_advancing {whole = w} {moves = ms} {c = b} time made r ends) =
    let s = run_books stores start b w ms i r in
    record { parts = plain_books b.asked b.held b.fresh b.tray b.past (mark.Advanced time made ∷ b.past) (plain_advanced time made b.past) s.parts; none_lost = s.none_lost; shelved = s.shelved }

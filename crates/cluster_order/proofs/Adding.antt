-- What the acts of events add to what is still to be looked for, and to the reads that were answered.
use Rattle.std.proofs.Common.{◌≡◌, inl, inr, ℕ, suc, ◌+◌, ◌≤◌, Bool, true, false, cond, not, List, [], ◌∷◌, ◌++◌, length, map, filter, Option, Some, None, refl, sym, ◌∙◌, ap, subst, arith}
use Rattle.std.specs.Prelude.{◌==◌}
use Rattle.cat_model.specs.declared.command.Command.{Command}
use Rattle.cat_model.specs.declared.reply.Kind.{Kind}
use Rattle.cat_model.specs.declared.reply.Mark.{Mark}
use Rattle.cat_model.specs.declared.reply.Mark.TheVariants as mark
use Rattle.cat_model.specs.declared.reply.Refusal.{Refusal}
use Rattle.cat_model.specs.declared.request.Asked.{Asked}
use Rattle.cat_model.specs.declared.request.Asked.TheVariants.{Good, Bad}
use Rattle.cat_model.specs.declared.request.Draw.{Draw}
use Rattle.cat_model.specs.declared.request.Event.{Event}
use Rattle.cat_model.specs.declared.request.Event.TheVariants as event
use Rattle.cat_model.specs.declared.request.Mode.{Mode}
use Rattle.cat_model.specs.declared.request.Mode.TheVariants.{Consistent}
use Rattle.cat_model.specs.declared.request.Request.TheVariants.{Read, Execute, Write, Renew, Agent as OfAgent}
use Rattle.raft_model.specs.Log.{Log}
use Rattle.raft_model.specs.Facts.{next_round}
use Rattle.raft_model.specs.World.{World}
use Rattle.raft_model.proofs.Tests.{at_bool}
use Rattle.cluster_rules.specs.Agents.{Agent, change}
use Rattle.cluster_rules.specs.Offices.{Office, office_from}
use Rattle.cluster_rules.specs.Cluster.{Cluster, Pending, Stand, AtPlace, InRound, ForIndex, Ended, agent_of, clock_of, node_of, took_office, seated, with_office}
use Rattle.cluster_rules.specs.Due.{answered, without}
use Rattle.cluster_rules.specs.Proposals.{Proposals, none_left, breaks, enters, refuses, Tends, idles, in_turn, cut_off, kind_told, agent_did, did_own, adopted, Syncs, finds_none, plans, breaks_off, cut_first, synced, with_change}
use Rattle.cluster_rules.specs.Replies.{Question}
use Rattle.cluster_rules.specs.Requests.{Handles, unready, full, proposes, stops, delays, probes, reads, renews, entries_past, halts_past, joined, look_of, moved, moved_with, halted_now, refused, wait_of}
use Rattle.cluster_rules.specs.Step.{Acts, takes, ticks, arms, restarts, handles, tends, syncs, begun_anew, ended, events_in, marked, noted, shelved}
use Rattle.cluster_order.specs.declared.cut.Cut.{Cut}
use Rattle.cluster_order.specs.declared.cut.Cut.TheVariants.{Before, Within}
use Rattle.cluster_order.specs.AgentEvents.{SyncsAt, SyncsInPart, agent_in, alone, with_number}
use Rattle.cluster_order.specs.Evaluations.{Adds, answers_read, asked_reads, is_unlooked, own_reads, reads_answered, reads_in, unlooked, unlooked_in}
use Rattle.cluster_order.specs.Pairs.{settled}
use Rattle.cluster_order.specs.Turns.{ActsCut, ActsWhole, HandlesNewest, Loses, TendsInPart, Ticks, in_place, newest, numbered}
use Rattle.cluster_order.proofs.Evaluating.{adds_none, adds_on, adds_same}

-- Lists.
abbrev pub one : Stand → ℕ
one stand = cond (is_unlooked stand) 1 0

pub unlooked_more : (h : Pending) (hs : List Pending) → unlooked_in (h ∷ hs) ≡ one h.stand + unlooked_in hs
unlooked_more h hs =
    at_bool (λ b. length (cond b (h ∷ filter (λ (g : Pending). is_unlooked g.stand) hs) (filter (λ (g : Pending). is_unlooked g.stand) hs)) ≡ cond b 1 0 + unlooked_in hs) (is_unlooked h.stand)
    (λ _. omega arith) (λ _. omega arith)

pub reads_more : (m : Mark) (past : List Mark) → reads_in (m ∷ past) ≡ cond (answers_read m) 1 0 + reads_in past
reads_more m past =
    at_bool (λ b. length (cond b (m ∷ filter answers_read past) (filter answers_read past)) ≡ cond b 1 0 + reads_in past) (answers_read m) (λ _. omega arith) (λ _. omega arith)

-- the last of a list
unlooked_last : (hs : List Pending) (h : Pending) → unlooked_in (hs ++ h ∷ []) ≡ one h.stand + unlooked_in hs
unlooked_last [] h = unlooked_more h []
unlooked_last (g ∷ hs) h =
    let x = unlooked_last hs h in
    let y = unlooked_more g (hs ++ h ∷ []) in
    let z = unlooked_more g hs in
    omega (arith, x, y, z)

pub without_most : (n : ℕ) (hs : List Pending) → unlooked_in (without n hs) ≤ unlooked_in hs
without_most n [] = omega arith
without_most n (h ∷ hs) =
    let r = without_most n hs in
    let e = unlooked_more h hs in
    let f = unlooked_more h (without n hs) in
    at_bool (λ b. unlooked_in (cond (not b) (h ∷ without n hs) (without n hs)) ≤ unlooked_in (h ∷ hs)) (h.question.number == n) (λ _. omega (arith, r, e)) (λ _. omega (arith, r, e, f))

-- what is to be closed is looked for no more
ended_most : (i e : ℕ) (hs : List Pending) → unlooked_in (map (ended i e) hs) ≤ unlooked_in hs
ended_most i e [] = omega arith
ended_most i e (h ∷ hs) =
    let r = ended_most i e hs in
    let x = unlooked_more h hs in
    at_bool (λ b. unlooked_in (cond b (record h { stand = Ended e }) h ∷ map (ended i e) hs) ≤ unlooked_in (h ∷ hs)) (h.server == i)
    (λ _. let y = unlooked_more (record h { stand = Ended e }) (map (ended i e) hs) in omega (arith, r, x, y))
    (λ _. let y = unlooked_more h (map (ended i e) hs) in omega (arith, r, x, y))

entries_read : (es : Log) (past : List Mark) → reads_in (entries_past es past) ≡ reads_in past
entries_read [] past = refl
entries_read (e ∷ es) past = entries_read es (mark.Entry e ∷ past)

halts_read : (i : ℕ) (b : Bool) (past : List Mark) → reads_in (halts_past i b past) ≡ reads_in past
halts_read i true past = refl
halts_read i false past = refl

placed_read : (n agent : ℕ) (asked : Asked) (draw : Draw) (past : List Mark) → reads_in (in_place (mark.Asked n agent asked draw) past) ≡ reads_in past
placed_read n agent asked draw [] = refl
placed_read n agent asked draw (mark.Answered number kind known contact ∷ past) =
    let r = placed_read n agent asked draw past in
    let x = reads_more (mark.Answered number kind known contact) (in_place (mark.Asked n agent asked draw) past) in
    let y = reads_more (mark.Answered number kind known contact) past in
    omega (arith, r, x, y)
placed_read n agent asked draw (mark.Asked m b other d ∷ past) = refl
placed_read n agent asked draw (mark.Made made ∷ past) = refl
placed_read n agent asked draw (mark.Advanced ms made ∷ past) = refl
placed_read n agent asked draw (mark.Settled pairs whole ∷ past) = refl
placed_read n agent asked draw (mark.Halted server ∷ past) = refl
placed_read n agent asked draw (mark.Entry e ∷ past) = refl
placed_read n agent asked draw (mark.Taken number ∷ past) = refl

-- What leaves the requests that are held, and the answers.
pub record Leaves (c c' : Cluster) : Type 0 where
  pub held : c'.held ≡ c.held
  pub read : reads_answered c' ≡ reads_answered c

pub leaves_on : (a b c : Cluster) → Leaves a b → Leaves b c → Leaves a c
leaves_on a b c x y = record { held = y.held ∙ x.held; read = y.read ∙ x.read }

pub leaves_same : (a b : Cluster) → b ≡ a → Leaves a b
leaves_same a b e = record { held = ap (λ (z : Cluster). z.held) e; read = ap reads_answered e }

pub leaves_to : (a b c : Cluster) → c ≡ b → Leaves a b → Leaves a c
leaves_to a b c e x = subst (Leaves a) (sym e) x

left_over : (n u v r s : ℕ) → v ≡ u → s ≡ r → v + r ≤ n + u + s
left_over n u v r s x y = omega (arith, x, y)

pub leaves_adds : (n : ℕ) (a b : Cluster) → Leaves a b → Adds n a b
leaves_adds n a b x = left_over n (unlooked a) (unlooked b) (reads_answered a) (reads_answered b) (ap unlooked_in x.held) x.read

moved_leaves : (failed : Bool) (i : ℕ) (w' : World) (c : Cluster) → Leaves c (moved_with failed i w' c)
moved_leaves failed i w' c = record { held = refl; read = entries_read (joined c.world w') (halts_past i failed c.past) ∙ halts_read i failed c.past }

pub steps_leave : (i : ℕ) (w' : World) (c : Cluster) → Leaves c (moved i w' c)
steps_leave i w' c = moved_leaves (halted_now c.world w' i) i w' c

seats_leave : (w : World) (i : ℕ) (c : Cluster) → Leaves c (seated w i c)
seats_leave w i c = at_bool (λ b. Leaves c (cond b (with_office i (office_from (clock_of c.world i)) c) c)) (took_office w c.world i) (λ _. record { held = refl; read = refl }) (λ _. record { held = refl; read = refl })

pub notes_leave : (made : Event) (c : Cluster) → Leaves c (noted made c)
notes_leave made c = record { held = refl; read = refl }

pub shelves_leave : (c : Cluster) → Leaves c (shelved c)
shelves_leave c = record { held = refl; read = refl }

pub numbers_leave : (agent : ℕ) (asked : Asked) (draw : Draw) (c : Cluster) → Leaves c (numbered agent asked draw c)
numbers_leave agent asked draw c = record { held = refl; read = placed_read _ agent asked draw c.past }

marks_leave : (made : Event) (c : Cluster) → Leaves c (marked made c)
marks_leave (event.Ask agent asked draw) c = record { held = refl; read = refl }
marks_leave other c = record { held = refl; read = refl }

given_leaves : (made : Event) (c : Cluster) → Leaves c (with_number made c)
given_leaves (event.Ask agent asked draw) c = numbers_leave agent asked draw c
given_leaves other c = record { held = refl; read = refl }

-- Answers.
answers_more : (n : ℕ) (m : Mark) (c : Cluster) → unlooked_in (without n c.held) + reads_in c.past ≤ 0 + unlooked c + reads_in (m ∷ c.past)
answers_more n m c =
    let x = without_most n c.held in
    let y = reads_more m c.past in
    omega (arith, x, y)

pub answered_adds : (q : Question) (kind : Kind) (known : Bool) (contact : ℕ) (log : Log) (c : Cluster) → Adds 0 c (answered q kind known contact log c)
answered_adds q kind known contact log c = answers_more q.number (mark.Answered q.number kind known contact) c

answered_after : (q : Question) (kind : Kind) (known : Bool) (contact : ℕ) (log : Log) (a b : Cluster) → Leaves a b → Adds 0 a (answered q kind known contact log b)
answered_after q kind known contact log a b x = adds_on 0 0 0 a b (answered q kind known contact log b) (omega arith) (leaves_adds 0 a b x) (answered_adds q kind known contact log b)

-- A request that is dropped, and one that begins to be held.
goes_down : (n u v r s : ℕ) → v ≤ u → s ≡ r → v + r ≤ n + u + s
goes_down n u v r s x y = omega (arith, x, y)

lets_go : (n number : ℕ) (a c : Cluster) → c.held ≡ without number a.held → reads_answered c ≡ reads_answered a → Adds n a c
lets_go n number a c e f =
    goes_down n (unlooked a) (unlooked c) (reads_answered a) (reads_answered c) (subst (λ z. unlooked_in z ≤ unlooked a) (sym e) (without_most number a.held)) f

goes_up : (n u v o r s : ℕ) → v ≡ o + u → o ≤ n → s ≡ r → v + r ≤ n + u + s
goes_up n u v o r s x y z = omega (arith, x, y, z)

holds_one : (n : ℕ) (h : Pending) (a c : Cluster) → c.held ≡ a.held ++ h ∷ [] → one h.stand ≤ n → reads_answered c ≡ reads_answered a → Adds n a c
holds_one n h a c e l f =
    goes_up n (unlooked a) (unlooked c) (one h.stand) (reads_answered a) (reads_answered c) (ap unlooked_in e ∙ unlooked_last a.held h) l f

pub adds_to : (n : ℕ) (a b c : Cluster) → c ≡ b → Adds n a b → Adds n a c
adds_to n a b c e x = subst (λ z. Adds n a z) (sym e) x

pub adds_most : (m n : ℕ) (a b : Cluster) → m ≤ n → Adds m a b → Adds n a b
adds_most m n a b l x = adds_on m 0 n a b b (omega (arith, l)) x (adds_none 0 b)

-- only what is answered from what its server has applied is looked for
looks : (asked : Asked) (mode : Mode) (wait : ℕ) → look_of asked ≡ Some (mode, wait) → 1 ≤ asked_reads asked
looks (Good (Read query m least w raw)) mode wait e = omega arith
looks (Good (Execute name limit m)) mode wait e = omega arith
looks (Good (Write command)) mode wait e = absurd (cc e)
looks (Good (Renew id)) mode wait e = absurd (cc e)
looks (Good (OfAgent op)) mode wait e = absurd (cc e)
looks (Bad why) mode wait e = absurd (cc e)

module _ (i : ℕ) (q : Question) (c c' : Cluster) where
  step_read : (w' : World) → reads_answered c' ≡ reads_answered (moved i w' c) → reads_answered c' ≡ reads_answered c
  step_read w' e = e ∙ (steps_leave i w' c).read

  pub handled_adds : Handles c i q c' → Adds (asked_reads q.asked) c c'
  handled_adds (unready s r e) = lets_go (asked_reads q.asked) q.number c c' (ap (λ (z : Cluster). z.held) e) (ap reads_answered e)
  handled_adds (full command w' a l m h n e) = lets_go (asked_reads q.asked) q.number c c' (ap (λ (z : Cluster). z.held) e) (step_read w' (ap reads_answered e))
  handled_adds (proposes command w' a l m h n t e) =
      holds_one (asked_reads q.asked) (record { question = q; server = i; stand = AtPlace (suc (length (node_of c.world i).log)) (node_of c.world i).term }) c c' (ap (λ (z : Cluster). z.held) e) (omega arith) (step_read w' (ap reads_answered e))
  handled_adds (stops command w' a l m h n t e) = lets_go (asked_reads q.asked) q.number c c' (ap (λ (z : Cluster). z.held) e) (step_read w' (ap reads_answered e))
  handled_adds (delays command key a m d e) = lets_go (asked_reads q.asked) q.number c c' (ap (λ (z : Cluster). z.held) e) (ap reads_answered e)
  handled_adds (probes wait w' a m n e) =
      holds_one (asked_reads q.asked) (record { question = q; server = i; stand = InRound (next_round (node_of c.world i)) (clock_of c.world i + wait_of wait) }) c c' (ap (λ (z : Cluster). z.held) e)
      (looks q.asked Consistent wait a) (step_read w' (ap reads_answered e))
  handled_adds (reads mode wait a m n e) =
      holds_one (asked_reads q.asked) (record { question = q; server = i; stand = ForIndex (clock_of c.world i + wait_of wait) false }) c c' (ap (λ (z : Cluster). z.held) e)
      (looks q.asked mode wait a) (ap reads_answered e)
  handled_adds (renews id a m e) = lets_go (asked_reads q.asked) q.number c c' (ap (λ (z : Cluster). z.held) e) (ap reads_answered e)

pub newest_adds : (i agent : ℕ) (asked : Asked) (draw : Draw) (c c' : Cluster) → HandlesNewest i agent asked draw c c' → Adds (asked_reads asked) c c'
newest_adds i agent asked draw c c' h =
    adds_on 0 (asked_reads asked) (asked_reads asked) c (numbered agent asked draw c) c' (omega arith) (leaves_adds 0 c _ (numbers_leave agent asked draw c))
    (handled_adds i (newest agent asked draw (numbered agent asked draw c)) (numbered agent asked draw c) c' h)

-- Proposals of no request.
proposals_leave : (i : ℕ) (commands : List Command) (c : Cluster) (n : ℕ) (c' : Cluster) (whole : Bool) → Proposals i commands c n c' whole → Leaves c c'
proposals_leave i commands c n c' whole none_left = record { held = refl; read = refl }
proposals_leave i commands c n c' whole breaks = record { held = refl; read = refl }
proposals_leave i (command ∷ commands) c n c' whole (enters {n = m} w' lead room a up more) = leaves_on c (moved i w' c) c' (steps_leave i w' c) (proposals_leave i commands (moved i w' c) m c' whole more)
proposals_leave i (command ∷ commands) c n c' whole (refuses w' lead a why) = steps_leave i w' c

office_leaves : (i : ℕ) (o : Office) (c : Cluster) → Leaves c (with_office i o c)
office_leaves i o c = record { held = refl; read = refl }

tended_leaves : (i : ℕ) (c c' : Cluster) (whole : Bool) → Tends i c c' whole → Leaves c c'
tended_leaves i c c' whole (idles lead e) = leaves_same c c' e
tended_leaves i c c' whole (in_turn n m c₁ c₂ lead p r e) =
    leaves_to c c₂ c' e (leaves_on c c₁ c₂ (proposals_leave i _ c n c₁ true p) (leaves_on c₁ _ c₂ (record { held = refl; read = refl }) (proposals_leave i _ _ m c₂ whole r)))
tended_leaves i c c' whole (cut_off n c₁ lead p e) = leaves_to c _ c' e (leaves_on c c₁ _ (proposals_leave i _ c n c₁ false p) (record { held = refl; read = refl }))

pub tended_adds : (i : ℕ) (c c' : Cluster) (whole : Bool) → Tends i c c' whole → Adds 0 c c'
tended_adds i c c' whole t = leaves_adds 0 c c' (tended_leaves i c c' whole t)

pub tended_part_adds : (i : ℕ) (c c' : Cluster) → TendsInPart i c c' → Adds 0 c c'
tended_part_adds i c c' (inl e) = adds_same 0 c c' e
tended_part_adds i c c' (inr t) = tended_adds i c c' false t

-- Agents.
told_adds : (q : Question) (kind : Kind) (g : Option Agent) (c : Cluster) → Adds 0 c (answered q kind false 0 [] (with_change q.agent g c))
told_adds q kind None c = answered_adds q kind false 0 [] c
told_adds q kind (Some g) c = answered_after q kind false 0 [] c (with_change q.agent (Some g) c) (record { held = refl; read = refl })

agent_adds : (made : Event) (c : Cluster) → Adds 0 c (agent_did made c)
agent_adds (event.AgentTick a ms) c = adds_none 0 c
agent_adds (event.Ask a (Good (OfAgent op)) draw) c =
    let q : Question = record { number = c.asked; agent = a; asked = Good (OfAgent op); draw = draw } in
    told_adds q (kind_told a op (change a op (agent_of c a))) (change a op (agent_of c a)) c
agent_adds other c = adds_none 0 c

synced_leaves : (i a : ℕ) (own : Bool) (c c' : Cluster) (whole : Bool) → Syncs i a own c c' whole → Leaves c c'
synced_leaves i a own c c' whole (finds_none r e) = leaves_to c (synced a None c) c' e (record { held = refl; read = refl })
synced_leaves i a own c c' whole (plans n c₁ r p e) =
    leaves_to c (synced a (Some n) c₁) c' e (leaves_on c c₁ (synced a (Some n) c₁) (leaves_on c (adopted a i c) c₁ (record { held = refl; read = refl }) (proposals_leave i _ (adopted a i c) n c₁ true p)) (record { held = refl; read = refl }))
synced_leaves i a own c c' whole (breaks_off n some r p) = leaves_on c (adopted a i c) c' (record { held = refl; read = refl }) (proposals_leave i _ (adopted a i c) n c' false p)
synced_leaves i a own c c' whole (cut_first mine r e) = leaves_same c c' e

pub synced_adds : (i : ℕ) (made : Event) (c c' : Cluster) (whole : Bool) → SyncsAt i made c c' whole → Adds 0 c c'
synced_adds i made c c' whole y =
    adds_on 0 0 0 c (agent_did made (with_number made c)) c' (omega arith)
    (adds_on 0 0 0 c (with_number made c) (agent_did made (with_number made c)) (omega arith) (leaves_adds 0 c (with_number made c) (given_leaves made c)) (agent_adds made (with_number made c)))
    (leaves_adds 0 (agent_did made (with_number made c)) c' (synced_leaves i (agent_in made) (did_own made) (agent_did made (with_number made c)) c' whole y))

pub synced_part_adds : (i : ℕ) (made : Event) (found : Cut) (c c' : Cluster) → SyncsInPart i made found c c' → Adds 0 c c'
synced_part_adds i made Before c c' e = adds_same 0 c c' e
synced_part_adds i made Within c c' y = synced_adds i made c c' false y

pub alone_adds : (leaderless : Bool) (made : Event) (c : Cluster) → Adds 0 c (alone leaderless made c)
alone_adds false made c = adds_on 0 0 0 c (marked made c) (agent_did made (marked made c)) (omega arith) (leaves_adds 0 c (marked made c) (marks_leave made c)) (agent_adds made (marked made c))
alone_adds true made c = adds_on 0 0 0 c (marked made c) (agent_did made (marked made c)) (omega arith) (leaves_adds 0 c (marked made c) (marks_leave made c)) (agent_adds made (marked made c))

-- Acts.
begun_adds : (i : ℕ) (c : Cluster) → Adds 0 c (begun_anew i c)
begun_adds i c = let x = ended_most i (events_in c.past) c.held in omega (arith, x)

pub acted_adds : (n i : ℕ) (made : Event) (c c' : Cluster) → Acts n c i made c' → Adds (own_reads made) c c'
acted_adds n i made c c' (takes input w' z is acts e) =
    leaves_adds (own_reads made) c c' (leaves_to c (seated c.world i (moved i w' c)) c' e (leaves_on c (moved i w' c) (seated c.world i (moved i w' c)) (steps_leave i w' c) (seats_leave c.world i (moved i w' c))))
acted_adds n i made c c' (ticks ms w' z is s e) = leaves_adds (own_reads made) c c' (leaves_to c (moved i w' c) c' e (steps_leave i w' c))
acted_adds n i made c c' (arms nth w' z is s e) = leaves_adds (own_reads made) c c' (leaves_to c (moved i w' c) c' e (steps_leave i w' c))
acted_adds n i made c c' (restarts w' z is s e) =
    let failed = (node_of w' i).halted in
    adds_to (own_reads made) c (begun_anew i (moved_with failed i w' c)) c' e
    (adds_on 0 0 (own_reads made) c (moved_with failed i w' c) (begun_anew i (moved_with failed i w' c)) (omega arith) (leaves_adds 0 c (moved_with failed i w' c) (moved_leaves failed i w' c)) (begun_adds i (moved_with failed i w' c)))
acted_adds n i made c c' (handles agent asked draw z is g x) =
    subst (λ z. Adds (own_reads z) c c') (sym is) (handled_adds i (record { number = c.asked; agent = agent; asked = asked; draw = draw }) c c' x)
acted_adds n i made c c' (tends ms whole z is t) = adds_most 0 (own_reads made) c c' (omega arith) (tended_adds i c c' whole t)
acted_adds n i made c c' (syncs a whole z is g y) =
    adds_on 0 0 (own_reads made) c (agent_did made c) c' (omega arith) (agent_adds made c) (leaves_adds 0 (agent_did made c) c' (synced_leaves i a (did_own made) (agent_did made c) c' whole y))

pub whole_adds : (i : ℕ) (made : Event) (c c' : Cluster) → ActsWhole i made c c' → Adds (own_reads made) c c'
whole_adds i made c c' x = acted_adds 0 i made c c' x.0

pub cut_adds : (i : ℕ) (made : Event) (found : Cut) (c c' : Cluster) → ActsCut i made found c c' → Adds (own_reads made) c c'
cut_adds i made Before c c' e = adds_same (own_reads made) c c' e
cut_adds i made Within c c' x = acted_adds 0 i made c c' x.0

pub ticked_adds : (i ms : ℕ) (c c' : Cluster) → Ticks i ms c c' → Adds 0 c c'
ticked_adds i ms c c' (w', s, e) = leaves_adds 0 c c' (leaves_to c (moved i w' c) c' e (steps_leave i w' c))

pub lost_leaves : (k : ℕ) (c c' : Cluster) → Loses k c c' → Leaves c c'
lost_leaves k c c' (w', s, e) = leaves_to c (record c { world = w' }) c' e (record { held = refl; read = refl })

-- What is marked of an event, and its outs, add nothing.
pub noted_adds : (made : Event) (a b : Cluster) → b ≡ noted made a → Adds 0 a b
noted_adds made a b e = leaves_adds 0 a b (leaves_to a (noted made a) b e (notes_leave made a))

pub shelved_adds : (a b : Cluster) → b ≡ shelved a → Adds 0 a b
shelved_adds a b e = leaves_adds 0 a b (leaves_to a (shelved a) b e (shelves_leave a))

pub settled_adds : (pairs : ℕ) (a b : Cluster) → b ≡ settled pairs a → Adds 0 a b
settled_adds pairs a b e = leaves_adds 0 a b (leaves_to a (settled pairs a) b e (record { held = refl; read = refl }))

leaves_back : (a b : Cluster) → Leaves a b → Leaves b a
leaves_back a b x = record { held = sym x.held; read = sym x.read }

-- the mark is taken back
pub forgot_adds : (made : Event) (a b c : Cluster) → b ≡ noted made a → c ≡ a → Adds 0 b c
forgot_adds made a b c e f = leaves_adds 0 b c (leaves_to b a c f (leaves_back a b (leaves_to a (noted made a) b e (notes_leave made a))))

-- a request that is refused at once
pub refused_adds : (agent : ℕ) (asked : Asked) (draw : Draw) (why : Refusal) (a b c : Cluster)
    → b ≡ (let come = marked (event.Ask agent asked draw) a in refused (newest agent asked draw come) why come) → c ≡ shelved b → Adds 0 a c
refused_adds agent asked draw why a b c e f =
    adds_on 0 0 0 a b c (omega arith) (lets_go 0 (suc a.asked) a b (ap (λ (z : Cluster). z.held) e) (ap reads_answered e)) (shelved_adds b c f)

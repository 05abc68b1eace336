-- Steps of a run whose stores work, as functions: what is due is caught up on by so many works at most.
use Rattle.std.proofs.Common.{◌≡◌, ◌≢◌, ℕ, zero, suc, ◌+◌, ◌<◌, inl, inr, true, false, cond, ◌≤◌, List, [], ◌∷◌, ◌++◌, length, refl, sym, ◌∙◌, ap, subst, arith, Option, Some, None}
use Rattle.cat_model.specs.declared.command.Command.{Command}
use Rattle.cat_model.specs.declared.request.Asked.{Asked}
use Rattle.cat_model.specs.declared.request.Asked.TheVariants.{Good}
use Rattle.cat_model.specs.declared.request.AgentOp.{AgentOp}
use Rattle.cat_model.specs.declared.request.Draw.{Draw}
use Rattle.cat_model.specs.declared.request.Event.{Event}
use Rattle.cat_model.specs.declared.request.Event.TheVariants as event
use Rattle.cat_model.specs.declared.request.Mode.{Mode}
use Rattle.cat_model.specs.declared.request.Mode.TheVariants.{Default, Consistent}
use Rattle.cat_model.specs.declared.request.Request.TheVariants.{Write, Renew, Agent as OfAgent}
use Rattle.cat_model.specs.declared.reply.Kind.TheVariants.{Seen, Delayed}
use Rattle.raft_model.specs.Node.{Node, set_server, of_server}
use Rattle.raft_model.specs.Rules.{Input, Timeout, Propose, done, has_room, proposal, Receive}
use Rattle.raft_model.specs.Runs.{given, saved, server}
use Rattle.raft_model.specs.Step.{Works as StoreWorks, RestartWorks, restarted, changed, as_before}
use Rattle.raft_model.proofs.Sound.{kept_of}
use Rattle.raft_model.specs.World.{World, Acts as NodeActs, IsServer, IsNew, Packet, numbered}
use Rattle.cluster_rules.specs.Replies.{Question, entered}
use Rattle.cluster_rules.specs.Offices.{office_from, renew_in}
use Rattle.cluster_rules.specs.Cluster.{AtPlace, ForIndex, Proposed, Looked, Cluster, node_of, applied_of, clock_of, agent_of, until_at, office_of, with_office, took_office, seated}
use Rattle.cluster_rules.specs.Due.{Work, Replies, Holds, Closes, Applies, answered, did, due, or_work, first_work, early_work, late_work, next_work, IsDue, early, next_one, late, Works, none, work}
use Rattle.cluster_rules.specs.Requests.{Goes, way, way_of, asked_server, is_ready, look_of, wait_of, delayed_at, session_of, holding, moved, moved_with, proposes, delays, reads, renews}
use Rattle.cluster_rules.specs.Agents.{Agent, change}
use Rattle.cluster_rules.specs.Proposals.{Tends, Syncs, did_own, sync_of, agent_did, is_agents, told}
use Rattle.cluster_rules.specs.Step.{Acts, takes, ticks, restarts, begun_anew, handles, tends, syncs, Remembers, acts_of, over, act, stays, marked, shelved, ClusterStep, done as whole_step, passed, input_of}
use Rattle.raft_model.proofs.Tests.{at_bool}
use Rattle.cluster_rules.proofs.PlainSteps.{IsPlain, plain_step}
use Rattle.cluster_rules.proofs.Tools.{get_default, set_same, set_other, length_set_server}
use Rattle.cluster_rules.specs.Cluster.{Pending}

-- The first of what is due is due.
record IsFirst (f : Pending → Option Work) (hs : List Pending) (w : Work) : Type 0 where
  before : List Pending
  after : List Pending
  held : Pending
  there : hs ≡ before ++ held ∷ after
  gives : f held ≡ Some w

first_from : (f : Pending → Option Work) (h : Pending) (hs : List Pending) (w : Work) → (first_work f hs ≡ Some w → IsFirst f hs w) → (x : Option Work) → f h ≡ x → or_work x (first_work f hs) ≡ Some w → IsFirst f (h ∷ hs) w
first_from f h hs w rest None is e = let r = rest e in record { before = h ∷ r.before; after = r.after; held = r.held; there = ap (λ l. h ∷ l) r.there; gives = r.gives }
first_from f h hs w rest (Some v) is e = record { before = []; after = hs; held = h; there = refl; gives = is ∙ e }

first_is : (f : Pending → Option Work) (hs : List Pending) (w : Work) → first_work f hs ≡ Some w → IsFirst f hs w
first_is f [] w e = absurd (cc e)
first_is f (h ∷ hs) w e = first_from f h hs w (λ d. first_is f hs w d) (f h) refl e

pub due_is : (i : ℕ) (c : Cluster) (w : Work) → due i c ≡ Some w → IsDue i c w
due_is i c w e = go (first_work (early_work c i) c.held) refl e
  where
    last : (x : Option Work) → next_work c i ≡ x → first_work (early_work c i) c.held ≡ None → or_work x (first_work (late_work c i) c.held) ≡ Some w → IsDue i c w
    last None is free e = let r = first_is (late_work c i) c.held w e in late free is r.before r.after r.held r.there r.gives
    last (Some v) is free e = next_one free (is ∙ e)

    go : (x : Option Work) → first_work (early_work c i) c.held ≡ x → or_work x (or_work (next_work c i) (first_work (late_work c i) c.held)) ≡ Some w → IsDue i c w
    go None is e = last (next_work c i) refl is e
    go (Some v) is e = let r = first_is (early_work c i) c.held w (is ∙ e) in early r.before r.after r.held r.there r.gives

-- so many works, or fewer where nothing is due any more
abbrev pub made_on : Option Work → (Work → Cluster) → Cluster → Cluster
made_on None f c = c
made_on (Some w) f c = f w

abbrev pub made_up : ℕ → ℕ → Cluster → Cluster
made_up zero i c = c
made_up (suc n) i c = made_on (due i c) (λ w. made_up n i (did i w c)) c

pub works_up : (n i : ℕ) (c : Cluster) → Works i c (made_up n i c)
works_up zero i c = none
works_up (suc n) i c = one (due i c) refl (λ w. works_up n i (did i w c))
  where
    one : (o : Option Work) → due i c ≡ o → ((w : Work) → Works i (did i w c) (made_up n i (did i w c))) → Works i c (made_on o (λ w. made_up n i (did i w c)) c)
    one None e f = none
    one (Some w) e f = work w (due_is i c w e) (f w)

-- a node whose store works takes its input
pub plain_acts : (w : World) (i : ℕ) (input : Input) → IsServer w i (server w i) → IsPlain (server w i) → IsNew w input → NodeActs w i input (given w i input)
unfolding given
plain_acts w i input at plain new = record {
  old = server w i;
  outcome = StoreWorks;
  new = saved (server w i) (done (server w i) input).node;
  sent = (done (server w i) input).sent;
  server = at;
  fresh = new;
  step = plain_step (server w i) input plain;
  becomes = refl;
}

-- An event of one act.
abbrev pub after_act : ℕ → ℕ → Cluster → Cluster
after_act k i c = shelved (made_up k i c)

one_act : (c : Cluster) (made : Event) (i k : ℕ) (c₁ : Cluster) → due i (marked made c) ≡ None → (a : Acts 0 (marked made c) i made c₁) → Remembers a → acts_of made ≡ 1 → due i (made_up k i c₁) ≡ None → ClusterStep c made (after_act k i c₁) true
one_act c made i k c₁ before a r one after = whole_step i (marked made c) (made_up k i c₁) (none, before) (act c₁ (made_up k i c₁) a r (works_up k i c₁, after) (over (sym one))) refl

-- a timeout, or another input
abbrev pub input_step : World → ℕ → Input → Cluster → Cluster
input_step w i input c = seated w i (moved i (given w i input) c)

pub times_out : (c : Cluster) (i k : ℕ) → due i (marked (event.Timeout i) c) ≡ None → IsServer c.world i (server c.world i) → IsPlain (server c.world i) → (i ≡ i → input_of c.world i (event.Timeout i) ≡ Some Timeout) →
    due i (made_up k i (input_step c.world i Timeout (marked (event.Timeout i) c))) ≡ None → ClusterStep c (event.Timeout i) (after_act k i (input_step c.world i Timeout (marked (event.Timeout i) c))) true
unfolding plain_acts
times_out c i k before at plain is after =
    one_act c (event.Timeout i) i k (input_step c.world i Timeout (marked (event.Timeout i) c)) before
    (takes Timeout (given c.world i Timeout) refl (is refl) (plain_acts c.world i Timeout at plain tt) refl) (λ e. absurd (cc e)) refl after

-- The question of the next request.
abbrev pub next_question : Cluster → ℕ → Asked → Draw → Question
next_question c agent asked draw = record { number = suc c.asked; agent = agent; asked = asked; draw = draw }

-- a write that is proposed
abbrev pub wrote : Cluster → ℕ → Question → Command → Cluster
wrote c i q command = holding q i (AtPlace (suc (length (node_of c.world i).log)) (node_of c.world i).term) (Proposed (suc (length (node_of c.world i).log)) (proposal (node_of c.world i) q.number (entered q command))) (moved i (given c.world i (Propose q.number (entered q command))) c)

abbrev pub after_write : ℕ → ℕ → Cluster → ℕ → Command → Draw → Cluster
after_write k i c agent command draw =
    after_act k i (wrote (marked (event.Ask agent (Good (Write command)) draw) c) i (next_question c agent (Good (Write command)) draw) command)

pub writes : (k i : ℕ) (c : Cluster) (agent : ℕ) (command : Command) (draw : Draw) → due i (marked (event.Ask agent (Good (Write command)) draw) c) ≡ None →
    way c.world (asked_server (length c.servers) agent) (Good (Write command)) ≡ Some (Goes i) → is_ready c i ≡ true → delayed_at c i command ≡ None →
    has_room (node_of c.world i) (suc c.asked) (entered (next_question c agent (Good (Write command)) draw) command) ≡ true →
    IsServer c.world i (server c.world i) → IsPlain (server c.world i) → c.world.greatest < suc c.asked →
    (node_of (given c.world i (Propose (suc c.asked) (entered (next_question c agent (Good (Write command)) draw) command))) i).halted ≡ false →
    due i (made_up k i (wrote (marked (event.Ask agent (Good (Write command)) draw) c) i (next_question c agent (Good (Write command)) draw) command)) ≡ None →
    ClusterStep c (event.Ask agent (Good (Write command)) draw) (after_write k i c agent command draw) true
writes k i c agent command draw before goes ready free room at plain new up after =
    one_act c (event.Ask agent (Good (Write command)) draw) i k _ before
    (handles agent (Good (Write command)) draw refl refl goes
    (proposes command (given c.world i (Propose (suc c.asked) (entered (next_question c agent (Good (Write command)) draw) command))) refl free (inr ready) room (plain_acts c.world i _ at plain (inr new)) up refl)) tt refl after

-- a write that a lock delay refuses
abbrev pub after_delay : Cluster → ℕ → ℕ → Command → Draw → List ℕ → Cluster
after_delay c i agent command draw key =
    let m = marked (event.Ask agent (Good (Write command)) draw) c in
    shelved (answered (next_question c agent (Good (Write command)) draw) (Delayed key (until_at m i key) (clock_of m.world i)) false 0 [] m)

pub is_delayed : (i : ℕ) (c : Cluster) (agent : ℕ) (command : Command) (draw : Draw) (key : List ℕ) → due i (marked (event.Ask agent (Good (Write command)) draw) c) ≡ None →
    way c.world (asked_server (length c.servers) agent) (Good (Write command)) ≡ Some (Goes i) → is_ready c i ≡ true → delayed_at c i command ≡ Some key →
    due i (answered (next_question c agent (Good (Write command)) draw) (Delayed key (until_at c i key) (clock_of c.world i)) false 0 [] (marked (event.Ask agent (Good (Write command)) draw) c)) ≡ None →
    ClusterStep c (event.Ask agent (Good (Write command)) draw) (after_delay c i agent command draw key) true
is_delayed i c agent command draw key before goes ready still after =
    one_act c (event.Ask agent (Good (Write command)) draw) i 0 _ before (handles agent (Good (Write command)) draw refl refl goes (delays command key refl (inr ready) still refl)) tt refl after

-- a read or an execution that is answered at once
abbrev pub after_look : ℕ → ℕ → Cluster → ℕ → Asked → Draw → ℕ → Cluster
after_look k i c agent asked draw wait =
    let m = marked (event.Ask agent asked draw) c in
    after_act k i (holding (next_question c agent asked draw) i (ForIndex (clock_of c.world i + wait_of wait) false) (Looked (suc c.asked) i (length (applied_of c i))) m)

pub looks : (k i : ℕ) (c : Cluster) (agent : ℕ) (asked : Asked) (draw : Draw) (mode : Mode) (wait : ℕ) → due i (marked (event.Ask agent asked draw) c) ≡ None →
    way c.world (asked_server (length c.servers) agent) asked ≡ Some (Goes i) → is_ready c i ≡ true → look_of asked ≡ Some (mode, wait) → mode ≢ Consistent →
    due i (made_up k i (holding (next_question c agent asked draw) i (ForIndex (clock_of c.world i + wait_of wait) false) (Looked (suc c.asked) i (length (applied_of c i))) (marked (event.Ask agent asked draw) c))) ≡ None →
    ClusterStep c (event.Ask agent asked draw) (after_look k i c agent asked draw wait) true
looks k i c agent asked draw mode wait before goes ready look other after =
    one_act c (event.Ask agent asked draw) i k _ before (handles agent asked draw refl refl goes (reads mode wait look other (inr ready) refl)) tt refl after

-- a renewal
abbrev pub renewed_at : Cluster → ℕ → Question → ℕ → Cluster
renewed_at c i q id = answered q (Seen Default (length (applied_of c i))) false 0 (applied_of c i) (with_office i (renew_in (session_of c i id) (clock_of c.world i) (office_of c i)) (record c { starts = Looked q.number i (length (applied_of c i)) ∷ c.starts }))

abbrev pub after_renewal : Cluster → ℕ → ℕ → ℕ → Draw → Cluster
after_renewal c i agent id draw = shelved (renewed_at (marked (event.Ask agent (Good (Renew id)) draw) c) i (next_question c agent (Good (Renew id)) draw) id)

pub is_renewed : (i : ℕ) (c : Cluster) (agent id : ℕ) (draw : Draw) → due i (marked (event.Ask agent (Good (Renew id)) draw) c) ≡ None →
    way c.world (asked_server (length c.servers) agent) (Good (Renew id)) ≡ Some (Goes i) → is_ready c i ≡ true →
    due i (renewed_at (marked (event.Ask agent (Good (Renew id)) draw) c) i (next_question c agent (Good (Renew id)) draw) id) ≡ None →
    ClusterStep c (event.Ask agent (Good (Renew id)) draw) (after_renewal c i agent id draw) true
is_renewed i c agent id draw before goes ready after =
    one_act c (event.Ask agent (Good (Renew id)) draw) i 0 _ before (handles agent (Good (Renew id)) draw refl refl goes (renews id refl (inr ready) refl)) tt refl after

-- a tick, with what its second act leaves
abbrev pub ticked_world : World → ℕ → ℕ → World
ticked_world w i ms = record w { clocks = set_server w.clocks i (of_server w.clocks i + ms) }

pub ticks_on : (k m i ms : ℕ) (c c₁ c₂ : Cluster) → due i (marked (event.Tick i ms) c) ≡ None → IsServer c.world i (server c.world i) → c₁ ≡ made_up k i (moved i (ticked_world c.world i ms) (marked (event.Tick i ms) c)) → due i c₁ ≡ None →
    Tends i c₁ c₂ true → due i (made_up m i c₂) ≡ None → ClusterStep c (event.Tick i ms) (after_act m i c₂) true
ticks_on k m i ms c c₁ c₂ before at is middle t after = whole_step i (marked (event.Tick i ms) c) (made_up m i c₂) (none, before)
    (act (moved i (ticked_world c.world i ms) (marked (event.Tick i ms) c)) (made_up k i (moved i (ticked_world c.world i ms) (marked (event.Tick i ms) c))) (ticks ms (ticked_world c.world i ms) refl refl (server c.world i, at, refl) refl) tt
    (works_up k i (moved i (ticked_world c.world i ms) (marked (event.Tick i ms) c)), ap (due i) (sym is) ∙ middle)
    (act c₂ (made_up m i c₂) (tends ms true refl refl (subst (λ z. Tends i z c₂ true) is t)) refl (works_up m i c₂, after) (over refl))) refl

-- an agent's event without a sync
pub stays_on : (c : Cluster) (made : Event) → is_agents made ≡ true → sync_of (marked made c) made ≡ None → ClusterStep c made (shelved (agent_did made (marked made c))) true
stays_on c made own free = passed (agent_did made (marked made c)) refl (stays own free refl) refl

-- and with one
pub syncs_on : (k i a : ℕ) (c : Cluster) (made : Event) (c₁ : Cluster) → due i (marked made c) ≡ None → sync_of (marked made c) made ≡ Some a → way_of (marked made c).world (asked_server (length (marked made c).servers) a) false ≡ Goes i →
    Syncs i a (did_own made) (agent_did made (marked made c)) c₁ true → acts_of made ≡ 1 → due i (made_up k i c₁) ≡ None → ClusterStep c made (after_act k i c₁) true
syncs_on k i a c made c₁ before is goes y one after = one_act c made i k c₁ before (syncs a true refl is goes y) refl one after

-- A server whose store works goes on so.
pub is_there : (w : World) (i : ℕ) → 0 < i → i ≤ length w.nodes → IsServer w i (server w i)
is_there w zero p l = absurd (omega arith)
is_there w (suc i) p l = (omega arith, get_default w.nodes i _ _ (omega arith))

pub given_plain : (w : World) (i : ℕ) (input : Input) → 0 < i → i ≤ length w.nodes → IsPlain (server w i) → IsPlain (server (given w i input) i)
unfolding given
given_plain w zero input p l x = absurd (omega arith)
given_plain w (suc i) input p l x = subst IsPlain (sym (set_same w.nodes i (saved (server w (suc i)) (done (server w (suc i)) input).node) _ (omega arith))) (refl, x.1)

did_world : (i : ℕ) (w : Work) (c : Cluster) → (did i w c).world ≡ c.world
unfolding did
did_world i (Replies q kind) c = refl
did_world i (Holds h) c = refl
did_world i (Closes number event) c = refl
did_world i Applies c = refl

up_world : (k i : ℕ) (c : Cluster) → (made_up k i c).world ≡ c.world
up_world zero i c = refl
up_world (suc k) i c = one (due i c) (λ w. up_world k i (did i w c) ∙ did_world i w c)
  where
    one : (o : Option Work) → ((w : Work) → (made_up k i (did i w c)).world ≡ c.world) → (made_on o (λ w. made_up k i (did i w c)) c).world ≡ c.world
    one None f = refl
    one (Some w) f = f w

pub plain_after : (k i : ℕ) (c : Cluster) → IsPlain (server c.world i) → IsPlain (server (after_act k i c).world i)
plain_after k i c x = subst (λ (w : World). IsPlain (server w i)) (sym (up_world k i c)) x

pub seated_plain : (w : World) (i : ℕ) (c : Cluster) → IsPlain (server c.world i) → IsPlain (server (seated w i c).world i)
seated_plain w i c x = at_bool (λ b. IsPlain (server (cond b (with_office i (office_from (clock_of c.world i)) c) c).world i)) (took_office w c.world i) (λ _. x) (λ _. x)

-- A server that is there and whose store works.
abbrev pub GoesOn : World → ℕ → Type 0
GoesOn w i = (0 < i) × (i ≤ length w.nodes) × IsPlain (server w i)

pub at_on : (w : World) (i : ℕ) → GoesOn w i → IsServer w i (server w i)
at_on w i g = is_there w i g.0 g.1

pub given_on : (w : World) (i : ℕ) (input : Input) → GoesOn w i → GoesOn (given w i input) i
unfolding given
given_on w zero input g = absurd (let k = g.0 in omega arith)
given_on w (suc i) input g = (omega arith, let k = g.1 in let l = length_set_server w.nodes (suc i) (saved (server w (suc i)) (done (server w (suc i)) input).node) in omega (arith, l), given_plain w (suc i) input g.0 g.1 g.2)

pub after_on : (k i : ℕ) (c : Cluster) → GoesOn c.world i → GoesOn (after_act k i c).world i
after_on k i c g = subst (λ (w : World). GoesOn w i) (sym (up_world k i c)) g

pub seated_on : (w : World) (i : ℕ) (c : Cluster) → GoesOn c.world i → GoesOn (seated w i c).world i
seated_on w i c g = at_bool (λ b. GoesOn (cond b (with_office i (office_from (clock_of c.world i)) c) c).world i) (took_office w c.world i) (λ _. g) (λ _. g)

pub acts_on : (w : World) (i : ℕ) (input : Input) → GoesOn w i → IsNew w input → NodeActs w i input (given w i input)
acts_on w i input g new = plain_acts w i input (at_on w i g) g.2 new

pub look_on : (k i : ℕ) (c : Cluster) (agent : ℕ) (asked : Asked) (draw : Draw) (wait : ℕ) → GoesOn c.world i → GoesOn (after_look k i c agent asked draw wait).world i
look_on k i c agent asked draw wait g = after_on k i (holding (next_question c agent asked draw) i (ForIndex (clock_of c.world i + wait_of wait) false) (Looked (suc c.asked) i (length (applied_of c i))) (marked (event.Ask agent asked draw) c)) g

told_on : (i : ℕ) (c : Cluster) (q : Question) (op : AgentOp) (g : Option Agent) → GoesOn c.world i → GoesOn (told q op g c).world i
told_on i c q op None x = x
told_on i c q op (Some g) x = x

pub agent_on : (made : Event) (i : ℕ) (c : Cluster) → GoesOn c.world i → GoesOn (agent_did made c).world i
agent_on (event.AgentTick a ms) i c x = x
agent_on (event.Ask a (Good (OfAgent op)) draw) i c x = told_on i c (record { number = c.asked; agent = a; asked = Good (OfAgent op); draw = draw }) op (change a op (agent_of c a)) x
agent_on other i c x = x

pub marked_on : (made : Event) (i : ℕ) (c : Cluster) → GoesOn c.world i → GoesOn (marked made c).world i
marked_on (event.Ask a asked draw) i c x = x
marked_on other i c x = x

-- A restart that reads what the store holds.
abbrev pub restarted_world : World → ℕ → World
restarted_world w i = record w { nodes = set_server w.nodes i (restarted (server w i) (server w i).store (kept_of (server w i))); contacts = set_server w.contacts i None }

reads_same : (n : Node) → IsPlain n → RestartWorks n (restarted n n.store (kept_of n))
reads_same n (told, free) = (kept_of n, record { unarmed = λ e. absurd (omega arith); armed = omega arith; faults = omega arith; contents = told ∙ sym (ap (changed as_before) told); sure = refl }, inr told, refl)

abbrev pub begun : Cluster → ℕ → Cluster
begun c i = begun_anew i (moved_with (node_of (restarted_world c.world i) i).halted i (restarted_world c.world i) (marked (event.Restart i) c))

pub restarts_at : (k i : ℕ) (c : Cluster) → due i (marked (event.Restart i) c) ≡ None → GoesOn c.world i → due i (made_up k i (begun c i)) ≡ None → ClusterStep c (event.Restart i) (after_act k i (begun c i)) true
restarts_at k i c before g after =
    one_act c (event.Restart i) i k (begun c i) before
    (restarts (restarted_world c.world i) refl refl (server c.world i, restarted (server c.world i) (server c.world i).store (kept_of (server c.world i)), at_on c.world i g, inl (reads_same (server c.world i) g.2), refl) refl) tt refl after

pub restarted_on : (w : World) (i : ℕ) → GoesOn w i → GoesOn (restarted_world w i) i
restarted_on w zero g = absurd (let k = g.0 in omega arith)
restarted_on w (suc i) g = (
  omega arith,
  let k = g.1 in let l = length_set_server w.nodes (suc i) (restarted (server w (suc i)) (server w (suc i)).store (kept_of (server w (suc i)))) in omega (arith, l),
  subst IsPlain (sym (set_same w.nodes i (restarted (server w (suc i)) (server w (suc i)).store (kept_of (server w (suc i)))) _ (let k = g.1 in omega arith))) (g.2.0, g.2.1),
)

-- What a delivery gives the receiver of the message.
abbrev pub input_in : Option Packet → Input
input_in None = Timeout
input_in (Some p) = Receive p.from p.message

abbrev pub delivered : Cluster → ℕ → ℕ → Cluster
delivered c i k = input_step c.world i (input_in (numbered k c.world.bag.packets)) (marked (event.Deliver k) c)

pub delivers : (n i k : ℕ) (c : Cluster) → due i (marked (event.Deliver k) c) ≡ None → GoesOn c.world i → input_of c.world i (event.Deliver k) ≡ Some (input_in (numbered k c.world.bag.packets)) →
    IsNew c.world (input_in (numbered k c.world.bag.packets)) → due i (made_up n i (delivered c i k)) ≡ None → ClusterStep c (event.Deliver k) (after_act n i (delivered c i k)) true
unfolding plain_acts
delivers n i k c before g is new after =
    one_act c (event.Deliver k) i n (delivered c i k) before
    (takes (input_in (numbered k c.world.bag.packets)) (given c.world i (input_in (numbered k c.world.bag.packets))) refl is (plain_acts c.world i (input_in (numbered k c.world.bag.packets)) (at_on c.world i g) g.2 new) refl) (λ e. absurd (cc e)) refl after

-- another server goes on as it was
pub other_on : (w : World) (i j : ℕ) (input : Input) → j ≢ i → GoesOn w j → GoesOn (given w i input) j
unfolding given
other_on w i zero input d g = absurd (let k = g.0 in omega arith)
other_on w zero (suc j) input d g = g
other_on w (suc i) (suc j) input d g = (
  omega arith,
  let k = g.1 in let l = length_set_server w.nodes (suc i) (saved (server w (suc i)) (done (server w (suc i)) input).node) in omega (arith, l),
  subst IsPlain (sym (set_other w.nodes i j (saved (server w (suc i)) (done (server w (suc i)) input).node) _ (λ e. d (ap suc e)))) g.2,
)

pub after_other : (k i j : ℕ) (c : Cluster) → GoesOn c.world j → GoesOn (after_act k i c).world j
after_other k i j c g = subst (λ (w : World). GoesOn w j) (sym (up_world k i c)) g

pub seated_other_on : (w : World) (i j : ℕ) (c : Cluster) → GoesOn c.world j → GoesOn (seated w i c).world j
seated_other_on w i j c g = at_bool (λ b. GoesOn (cond b (with_office i (office_from (clock_of c.world i)) c) c).world j) (took_office w c.world i) (λ _. g) (λ _. g)

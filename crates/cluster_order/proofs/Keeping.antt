-- What catching up leaves as it was.
use Rattle.std.proofs.Common.{◌≡◌, ℕ, zero, suc, ◌+◌, ◌^◌, ◌≤◌, Bool, true, false, cond, take, List, ◌∷◌, length, Option, Some, None, refl, sym, ◌∙◌, ap, subst, arith}
use Rattle.std.proofs.lemmas.List.{length-set}
use Rattle.cat_model.specs.declared.request.Asked.{Asked}
use Rattle.cat_model.specs.declared.request.Event.{Event}
use Rattle.cat_model.specs.declared.request.Event.TheVariants as event
use Rattle.raft_model.specs.Node.{set_server}
use Rattle.raft_model.specs.World.{World, Packet, numbered}
use Rattle.cluster_rules.specs.Cluster.{Cluster, clock_of, no_server, agent_of, with_office, took_office, seated}
use Rattle.cluster_rules.specs.Replies.{Question}
use Rattle.cluster_rules.specs.Due.{Work, Replies, Holds, Closes, Applies, did, Works, none, work}
use Rattle.cluster_rules.specs.Reached.{Fits, IsServerNumber}
use Rattle.cluster_rules.specs.Requests.{Way, way, asked_server, moved, Handles, unready, full, proposes, stops, delays, probes, reads, renews}
use Rattle.cat_model.specs.declared.command.Command.{Command}
use Rattle.cat_model.specs.declared.request.AgentOp.{AgentOp}
use Rattle.cat_model.specs.declared.request.Asked.TheVariants.{Good}
use Rattle.cat_model.specs.declared.request.Request.TheVariants.{Agent as OfAgent}
use Rattle.raft_model.proofs.Tests.{at_bool}
use Rattle.cluster_rules.specs.Agents.{Agent, change}
use Rattle.cluster_rules.specs.Offices.{office_from}
use Rattle.cluster_rules.specs.Proposals.{Proposals, none_left, breaks, enters, refuses, over_rows, with_ends, looked, Tends, idles, in_turn, cut_off, told, agent_did, did_own, adopted, Syncs, finds_none, plans, breaks_off, cut_first}
use Rattle.cluster_rules.specs.Step.{goes_to, receiver, noted, Acts, takes, ticks, arms, restarts, handles, tends, syncs}
use Rattle.cluster_order.specs.declared.impulse.Impulse.{Impulse}
use Rattle.cluster_order.specs.declared.impulse.Impulse.TheVariants as impulse
use Rattle.cluster_order.specs.Turns.{event_of, GoesBy}

pub record Keeps (c c' : Cluster) : Type 0 where
  pub world : c'.world ≡ c.world
  pub servers : length c'.servers ≡ length c.servers
  pub agents : c'.agents ≡ c.agents
  pub asked : c'.asked ≡ c.asked

pub keeps_same : (c : Cluster) → Keeps c c
keeps_same c = record { world = refl; servers = refl; agents = refl; asked = refl }

pub keeps_on : (a b c : Cluster) → Keeps a b → Keeps b c → Keeps a c
keeps_on a b c p q = record { world = q.world ∙ p.world; servers = q.servers ∙ p.servers; agents = q.agents ∙ p.agents; asked = q.asked ∙ p.asked }

pub set_length : {A : Type 0} (items : List A) (s : ℕ) (x : A) → length (set_server items s x) ≡ length items
set_length items zero x = refl
set_length items (suc s) x = length-set items s x

did_keeps : (i : ℕ) (w : Work) (c : Cluster) → Keeps c (did i w c)
unfolding did
did_keeps i (Replies q kind) c = record { world = refl; servers = refl; agents = refl; asked = refl }
did_keeps i (Holds h) c = record { world = refl; servers = refl; agents = refl; asked = refl }
did_keeps i (Closes number made) c = record { world = refl; servers = refl; agents = refl; asked = refl }
did_keeps i Applies c = record { world = refl; servers = set_length c.servers i _; agents = refl; asked = refl }

pub works_keep : (i : ℕ) (c c' : Cluster) → Works i c c' → Keeps c c'
works_keep i c c' none = keeps_same c
works_keep i c c' (work w d more) = keeps_on c (did i w c) c' (did_keeps i w c) (works_keep i (did i w c) c' more)

pub server_kept : (c c' : Cluster) (s : ℕ) → Keeps c c' → IsServerNumber c s → IsServerNumber c' s
server_kept c c' s k p = (p.0, omega (arith, k.servers, p.1))

pub fits_kept : (made : Event) (c c' : Cluster) → Keeps c c' → Fits c made → Fits c' made
fits_kept (event.Timeout s) c c' k f = server_kept c c' s k f
fits_kept (event.Beat s) c c' k f = server_kept c c' s k f
fits_kept (event.Tick s ms) c c' k f = (server_kept c c' s k f.0, subst (λ (w : World). clock_of w s + ms ≤ 2 ^ 53) (sym k.world) f.1)
fits_kept (event.Deliver n) c c' k f = subst (λ (w : World). (p : Packet) × (numbered n w.bag.packets ≡ Some p)) (sym k.world) f
fits_kept (event.Drop n) c c' k f = subst (λ (w : World). (p : Packet) × (numbered n w.bag.packets ≡ Some p)) (sym k.world) f
fits_kept (event.Restart s) c c' k f = server_kept c c' s k f
fits_kept (event.FailKeep s nth) c c' k f = server_kept c c' s k f
fits_kept (event.Ask agent asked draw) c c' k f = (f.0, let e = ap (λ z. length z) k.agents in omega (arith, e, f.1))
fits_kept (event.Sync agent) c c' k f = (f.0, let e = ap (λ z. length z) k.agents in omega (arith, e, f.1))
fits_kept (event.AgentTick agent ms) c c' k f = (f.0, let e = ap (λ z. length z) k.agents in omega (arith, e, f.1))

pub goes_kept : (made : Impulse) (s : ℕ) (c c' : Cluster) → Keeps c c' → goes_to c (event_of made) ≡ Some s → goes_to c' (event_of made) ≡ Some s
goes_kept (impulse.Timeout server) s c c' k g = g
goes_kept (impulse.Beat server) s c c' k g = g
goes_kept (impulse.Deliver n) s c c' k g = subst (λ (w : World). receiver (numbered n w.bag.packets) ≡ Some s) (sym k.world) g
goes_kept (impulse.Restart server) s c c' k g = g
goes_kept (impulse.FailKeep server nth) s c c' k g = g

pub way_kept : (agent : ℕ) (asked : Asked) (found : Way) (c c' : Cluster) → Keeps c c' → GoesBy agent asked found c → GoesBy agent asked found c'
way_kept agent asked found c c' k g =
    subst (λ (n : ℕ). way c'.world (asked_server n agent) asked ≡ Some found) (sym k.servers)
    (subst (λ (w : World). way w (asked_server (length c.servers) agent) asked ≡ Some found) (sym k.world) g)

pub noted_keeps : (made : Event) (a b : Cluster) → b ≡ noted made a → Keeps a b
noted_keeps made a b e = subst (Keeps a) (sym e) (record { world = refl; servers = refl; agents = refl; asked = refl })

handled_servers : (i : ℕ) (q : Question) (c c' : Cluster) → Handles c i q c' → length c'.servers ≡ length c.servers
handled_servers i q c c' (unready s r e) = ap (λ (d : Cluster). length d.servers) e
handled_servers i q c c' (full command w' a l m h n e) = ap (λ (d : Cluster). length d.servers) e
handled_servers i q c c' (proposes command w' a l m h n t e) = ap (λ (d : Cluster). length d.servers) e
handled_servers i q c c' (stops command w' a l m h n t e) = ap (λ (d : Cluster). length d.servers) e
handled_servers i q c c' (delays command key a m d e) = ap (λ (d : Cluster). length d.servers) e
handled_servers i q c c' (probes wait w' a m n e) = ap (λ (d : Cluster). length d.servers) e
handled_servers i q c c' (reads mode wait a m n e) = ap (λ (d : Cluster). length d.servers) e
handled_servers i q c c' (renews id a m e) = ap (λ (d : Cluster). length d.servers) e ∙ set_length c.servers i _

seated_servers : (w : World) (i : ℕ) (c : Cluster) → length (seated w i c).servers ≡ length c.servers
seated_servers w i c = at_bool (λ b. length (cond b (with_office i (office_from (clock_of c.world i)) c) c).servers ≡ length c.servers) (took_office w c.world i) (λ _. set_length c.servers i _) (λ _. refl)

proposed_servers : (i : ℕ) (commands : List Command) (c : Cluster) (n : ℕ) (c' : Cluster) (whole : Bool) → Proposals i commands c n c' whole → length c'.servers ≡ length c.servers
proposed_servers i commands c n c' whole none_left = refl
proposed_servers i commands c n c' whole breaks = refl
proposed_servers i (command ∷ commands) c n c' whole (enters {n = m} w' lead room a up more) = proposed_servers i commands (moved i w' c) m c' whole more
proposed_servers i (command ∷ commands) c n c' whole (refuses w' lead a why) = refl

pub tended_servers : (i : ℕ) (c c' : Cluster) (whole : Bool) → Tends i c c' whole → length c'.servers ≡ length c.servers
tended_servers i c c' whole (idles lead e) = ap (λ (d : Cluster). length d.servers) e
tended_servers i c c' whole (in_turn n m c₁ c₂ lead p r e) =
    let b = with_ends i (take n (over_rows c i)) c₁ in
    ap (λ (d : Cluster). length d.servers) e ∙ proposed_servers i _ (looked i b) m c₂ whole r ∙ set_length b.servers i _ ∙ set_length c₁.servers i _ ∙ proposed_servers i _ c n c₁ true p
tended_servers i c c' whole (cut_off n c₁ lead p e) = ap (λ (d : Cluster). length d.servers) e ∙ set_length c₁.servers i _ ∙ proposed_servers i _ c n c₁ false p

told_servers : (c : Cluster) (q : Question) (op : AgentOp) (g : Option Agent) → length (told q op g c).servers ≡ length c.servers
told_servers c q op None = refl
told_servers c q op (Some g) = refl

pub agent_servers : (c : Cluster) (made : Event) → length (agent_did made c).servers ≡ length c.servers
agent_servers c (event.AgentTick a ms) = refl
agent_servers c (event.Ask a (Good (OfAgent op)) draw) = told_servers c (record { number = c.asked; agent = a; asked = Good (OfAgent op); draw = draw }) op (change a op (agent_of c a))
agent_servers c other = refl

pub synced_servers : (i a : ℕ) (own : Bool) (c c' : Cluster) (whole : Bool) → Syncs i a own c c' whole → length c'.servers ≡ length c.servers
synced_servers i a own c c' whole (finds_none r e) = ap (λ (d : Cluster). length d.servers) e
synced_servers i a own c c' whole (plans n c₁ r p e) = ap (λ (d : Cluster). length d.servers) e ∙ proposed_servers i _ (adopted a i c) n c₁ true p
synced_servers i a own c c' whole (breaks_off n some r p) = proposed_servers i _ (adopted a i c) n c' false p
synced_servers i a own c c' whole (cut_first mine r e) = ap (λ (d : Cluster). length d.servers) e

acted_servers : (n i : ℕ) (made : Event) (c c' : Cluster) → Acts n c i made c' → length c'.servers ≡ length c.servers
acted_servers n i made c c' (takes input w' z is acts e) = ap (λ (d : Cluster). length d.servers) e ∙ seated_servers c.world i (moved i w' c)
acted_servers n i made c c' (ticks ms w' z is s e) = ap (λ (d : Cluster). length d.servers) e
acted_servers n i made c c' (arms nth w' z is s e) = ap (λ (d : Cluster). length d.servers) e
acted_servers n i made c c' (restarts w' z is s e) = ap (λ (d : Cluster). length d.servers) e ∙ set_length c.servers i no_server
acted_servers n i made c c' (handles agent asked draw z is g x) = handled_servers i _ c c' x
acted_servers n i made c c' (tends ms whole z is t) = tended_servers i c c' whole t
acted_servers n i made c c' (syncs a whole z is g y) = synced_servers i a (did_own made) (agent_did made c) c' whole y ∙ agent_servers c made

pub acted_server : (n i s : ℕ) (made : Event) (c c' : Cluster) → Acts n c i made c' → IsServerNumber c s → IsServerNumber c' s
acted_server n i s made c c' a p = let e = acted_servers n i made c c' a in (p.0, omega (arith, e, p.1))

pub handled_server : (i s : ℕ) (q : Question) (c c' : Cluster) → Handles c i q c' → IsServerNumber c s → IsServerNumber c' s
handled_server i s q c c' h p = let e = handled_servers i q c c' h in (p.0, omega (arith, e, p.1))

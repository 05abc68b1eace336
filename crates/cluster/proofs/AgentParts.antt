-- An agent's own part of an event, in the terms of the rules' cluster.
use Rattle.std.proofs.Common.{◌≡◌, ℕ, suc, ◌+◌, Bool, true, false, cond, not, nat_lt, List, [], ◌∷◌, length, Option, None, Some, Result, Ok, Err, refl, sym, ◌∙◌, ap, subst, arith}
use Rattle.std.specs.Prelude.{OnErr, OnOk, if◌then◌else◌, is_err}
use Rattle.cat_model.specs.declared.command.Command.TheVariants.{Reap}
use Rattle.cat_model.specs.declared.reply.Kind.{Kind}
use Rattle.cat_model.specs.declared.request.AgentOp.{AgentOp}
use Rattle.cat_model.specs.declared.request.Asked.{Asked}
use Rattle.cat_model.specs.declared.request.Asked.TheVariants.{Bad, Good}
use Rattle.cat_model.specs.declared.request.Draw.{Draw}
use Rattle.cat_model.specs.declared.request.Event.{Event}
use Rattle.cat_model.specs.declared.request.Event.TheVariants as event
use Rattle.cat_model.specs.declared.request.Request.TheVariants.{Agent as AsksAgent, Execute, Read, Renew, Write}
use Rattle.raft_model.specs.Log.{last_term}
use Rattle.raft_model.specs.World.{World}
use Rattle.cluster_rules.specs.Agents.{Agent, change, ticked}
use Rattle.cluster_rules.specs.Cluster.{Cluster, Server, node_of, runs_leading, server_of}
use Rattle.cluster_rules.specs.Due.{answered, is_before, put_out}
use Rattle.cluster_rules.specs.Proposals as proposals
use Rattle.cluster_rules.specs.Proposals.{agent_did, breaks_off, did_own, finds_none, is_agents, kind_told, plans, synced, told, with_change}
use Rattle.cluster_rules.specs.Reached.{Fits, IsAgentNumber, IsServerNumber}
use Rattle.cluster_rules.specs.Replies.{Content, Out, Question, Replied, Reply, Synced, number_of, reply_of, shown}
use Rattle.cluster_rules.specs.Requests.{Goes, asked_server, is_ready}
use Rattle.cluster_rules.specs.Step.{marked, noted}
use Rattle.cluster_rules.proofs.Asking.{goes_leading}
use Rattle.cluster_rules.proofs.Tools.{length_set_server}
use Rattle.cluster_order.specs.AgentEvents.{IsNoted, SyncsAt, SyncsInPart, agent_in, alone, event_of_agent, sync_way}
use Rattle.cluster_order.specs.Turns.{IsCome, numbered}
use Rattle.cluster_order.specs.declared.agent_event.AgentEvent.{AgentEvent}
use Rattle.cluster_order.specs.declared.agent_event.AgentEvent.TheVariants as agents
use Rattle.cluster_order.specs.declared.cut.Cut.{Cut}
use Rattle.cluster_order.specs.declared.cut.Cut.TheVariants.{Before, Within}
use Rattle.cluster_requests.specs.Requests.{Requests, answered_with, cluster_of as whole_of, numbered_with, used}
use Rattle.cluster_works.specs.Agents.{agent_at, agents_with, content_told, own_reply}
use Rattle.cluster_works.specs.Watching.{Watching}
use Rattle.cluster_works.specs.Standing.{Stands}
use Rattle.cluster_works.specs.Newest.{answered_newest}
use Rattle.cluster.specs.Syncing.{PlansInPart, PlansWhole, cut_first, noted_alone, own_done}
use Rattle.cluster.proofs.Handled.{Comes, numbered_cluster, numbered_stands}
use Rattle.cluster.proofs.Results.{stands_alike}
use Rattle.cluster_works.proofs.Kept.{answer_stands}

-- a call that was no error did what it does then
pub when_ok : {A B P : Type 0} (r : Result A B) → is_err r ≡ false → OnOk r P → P
when_ok (Ok a) e p = p
when_ok (Err b) e p = absurd (cc e)

-- and one that was an error, what it does then
pub when_err : {A B P : Type 0} (r : Result A B) → is_err r ≡ true → OnErr r P → P
when_err (Ok a) e p = absurd (cc e)
when_err (Err b) e p = p

-- what an agent's answer shows
content_shown : (q : Question) (a : ℕ) (op : AgentOp) (g : Option Agent) → content_told (kind_told a op g) ≡ shown q (kind_told a op g) []
unfolding shown
content_shown q a op None = refl
content_shown q a op (Some g) = refl

changed : (a : ℕ) (g : Option Agent) (c : Cluster) → with_change a g c ≡ record c { agents = agents_with a g c.agents }
changed a None c = refl
changed a (Some g) c = refl

-- a request to an agent
asked_so : (agent : ℕ) (op : AgentOp) (asked : Asked) (draw : Draw) (c : Cluster) → asked ≡ Good (AsksAgent op)
    → (let c₁ = numbered agent asked draw c in let g = change agent op (agent_at c.agents agent) in
    agent_did (event.Ask agent asked draw) c₁ ≡ answered (record { number = c₁.asked; agent = agent; asked = asked; draw = draw }) (kind_told agent op g) false 0 [] (with_change agent g c₁))
asked_so agent op asked draw c e =
    let Goal : Asked → Type 0 = λ a. (let c₁ = numbered agent a draw c in let g = change agent op (agent_at c.agents agent) in
    agent_did (event.Ask agent a draw) c₁ ≡ answered (record { number = c₁.asked; agent = agent; asked = a; draw = draw }) (kind_told agent op g) false 0 [] (with_change agent g c₁)) in
    subst Goal (sym e) refl

module _ (gs gs' : List Agent) (wt : Watching) (w : World) (servers : List Server) (r r' : Requests) (c : Cluster) (agent : ℕ) (op : AgentOp) (asked : Asked) (draw : Draw)
    (at : Comes gs wt w servers r c agent asked draw) (is : asked ≡ Good (AsksAgent op))
    (grown : gs' ≡ agents_with agent (change agent op (agent_at gs agent)) gs)
    (given : r' ≡ answered_newest agent asked draw (own_reply (r.asked + 1) agent op gs) r) where
  abbrev g : Option Agent
  g = change agent op (agent_at gs agent)

  abbrev kind : Kind
  kind = kind_told agent op g

  abbrev own : Cluster
  own = whole_of w servers gs r

  abbrev c₁ : Cluster
  c₁ = numbered agent asked draw own

  abbrev r₁ : Requests
  r₁ = used (numbered_with agent asked draw (record r { room = 4 }))

  abbrev q : Question
  q = record { number = c₁.asked; agent = agent; asked = asked; draw = draw }

  here : Comes gs wt w servers r own agent asked draw
  here = record { stands = at.stands; view = refl; come = subst (λ (d : Cluster). IsCome agent asked draw d.past) (sym at.view) at.come }

  given_is : r' ≡ used (answered_with (r.asked + 1) kind false 0 (content_told kind) r₁)
  given_is = given

  others : whole_of w servers gs' r₁ ≡ with_change agent g c₁
  others =
      ap (λ (d : Cluster). record d { agents = gs' }) (numbered_cluster gs wt w servers r own agent asked draw here)
      ∙ ap (λ (l : List Agent). record c₁ { agents = l }) grown ∙ sym (changed agent g c₁)

  did : whole_of w servers gs' r' ≡ agent_did (event.Ask agent asked draw) c₁
  did =
      let next : r.asked + 1 ≡ suc r.asked = omega arith in
      ap (whole_of w servers gs') given_is
      ∙ ap (λ n. whole_of w servers gs' (used (answered_with n kind false 0 (content_told kind) r₁))) next
      ∙ ap (λ (x : Content). whole_of w servers gs' (used (answered_with (suc r.asked) kind false 0 x r₁))) (content_shown q agent op g)
      ∙ ap (answered q kind false 0 []) others
      ∙ sym (asked_so agent op asked draw own is)

  -- it is answered by the rules
  pub answer_done : whole_of w servers gs' r' ≡ agent_did (event.Ask agent asked draw) (numbered agent asked draw c)
  answer_done = did ∙ ap (λ (d : Cluster). agent_did (event.Ask agent asked draw) (numbered agent asked draw d)) at.view

  pub answered_stands : Stands wt w servers r'
  answered_stands =
      stands_alike (answer_stands wt w servers r₁ (r.asked + 1) kind false 0 (content_told kind) (numbered_stands gs wt w servers r own agent asked draw here)) given_is refl refl

-- A reply stands before a sync's out.
swapped : (b : Bool) (out s o : Out) (outs back : List Out) → put_out s (cond b (out ∷ o ∷ outs) (o ∷ back)) ≡ cond b (put_out s (out ∷ o ∷ outs)) (put_out s (o ∷ back))
swapped true out s o outs back = refl
swapped false out s o outs back = refl

put_either : (reply : Reply) (a : ℕ) (count : Option ℕ) (outs : List Out) → put_out (Replied reply) (put_out (Synced a count) outs) ≡ put_out (Synced a count) (put_out (Replied reply) outs)
put_either reply a count [] = refl
put_either reply a count (o ∷ outs) =
    ap (λ (l : List Out). cond (is_before (Some reply.number) (number_of o)) (Replied reply ∷ o ∷ put_out (Synced a count) outs) (o ∷ l)) (put_either reply a count outs)
    ∙ sym (swapped (is_before (Some reply.number) (number_of o)) (Replied reply) (Synced a count) o outs (put_out (Replied reply) outs))

-- An agent's own part neither reads nor changes the out of a sync.
told_apart : (q : Question) (op : AgentOp) (g : Option Agent) (a : ℕ) (count : Option ℕ) (c : Cluster) → told q op g (synced a count c) ≡ synced a count (told q op g c)
told_apart q op None a count c =
    let d = told q op None c in
    ap (λ (outs : List Out). record d { fresh = outs }) (put_either (reply_of q (kind_told q.agent op None) false 0 []) a count c.fresh)
told_apart q op (Some g) a count c =
    let d = told q op (Some g) c in
    ap (λ (outs : List Out). record d { fresh = outs }) (put_either (reply_of q (kind_told q.agent op (Some g)) false 0 []) a count c.fresh)

pub own_apart : (e : AgentEvent) (a : ℕ) (count : Option ℕ) (c : Cluster) → is_agents (event_of_agent e) ≡ true → own_done (event_of_agent e) (synced a count c) ≡ synced a count (own_done (event_of_agent e) c)
own_apart (agents.Sync agent) a count c is = refl
own_apart (agents.Tick agent ms) a count c is = refl
own_apart (agents.Ask agent asked draw) a count c is = go asked.now is
  where
    go : (x : Asked) → is_agents (event.Ask agent x draw) ≡ true → own_done (event.Ask agent x draw) (synced a count c) ≡ synced a count (own_done (event.Ask agent x draw) c)
    go (Good (AsksAgent op)) is =
        let q : Question = record { number = suc c.asked; agent = agent; asked = Good (AsksAgent op); draw = draw } in
        told_apart q op (change agent op (agent_at c.agents agent)) a count (numbered agent (Good (AsksAgent op)) draw c)
    go (Good (Read query mode least wait raw)) is = absurd (cc is)
    go (Good (Write command)) is = absurd (cc is)
    go (Good (Execute name limit mode)) is = absurd (cc is)
    go (Good (Renew id)) is = absurd (cc is)
    go (Bad why) is = absurd (cc is)

-- It changes neither the world nor a server, and as many agents are there.
pub record IsBeside (c c' : Cluster) : Type 0 where
  pub world : c'.world ≡ c.world
  pub servers : c'.servers ≡ c.servers
  pub agents : length c'.agents ≡ length c.agents

told_beside : (q : Question) (op : AgentOp) (g : Option Agent) (c : Cluster) → IsBeside c (told q op g c)
told_beside q op None c = record { world = refl; servers = refl; agents = refl }
told_beside q op (Some g) c = record { world = refl; servers = refl; agents = length_set_server c.agents q.agent g }

pub own_beside : (e : AgentEvent) (c : Cluster) → is_agents (event_of_agent e) ≡ true → IsBeside c (own_done (event_of_agent e) c)
own_beside (agents.Sync agent) c is = record { world = refl; servers = refl; agents = refl }
own_beside (agents.Tick agent ms) c is = record { world = refl; servers = refl; agents = length_set_server c.agents agent (ticked ms (agent_at c.agents agent)) }
own_beside (agents.Ask agent asked draw) c is = go asked.now is
  where
    go : (x : Asked) → is_agents (event.Ask agent x draw) ≡ true → IsBeside c (own_done (event.Ask agent x draw) c)
    go (Good (AsksAgent op)) is =
        let q : Question = record { number = suc c.asked; agent = agent; asked = Good (AsksAgent op); draw = draw } in
        let t = told_beside q op (change agent op (agent_at c.agents agent)) (numbered agent (Good (AsksAgent op)) draw c) in
        record { world = t.world; servers = t.servers; agents = t.agents }
    go (Good (Read query mode least wait raw)) is = absurd (cc is)
    go (Good (Write command)) is = absurd (cc is)
    go (Good (Execute name limit mode)) is = absurd (cc is)
    go (Good (Renew id)) is = absurd (cc is)
    go (Bad why) is = absurd (cc is)

pub ready_beside : (i : ℕ) (c c' : Cluster) → IsBeside c c' → is_ready c' i ≡ is_ready c i
ready_beside i c c' b = ap (λ (w : World). not (nat_lt (last_term (server_of c'.servers i).applied) (node_of w i).term)) b.world ∙ ap (λ (ss : List Server). not (nat_lt (last_term (server_of ss i).applied) (node_of c.world i).term)) b.servers

pub leads_beside : (i : ℕ) (c c' : Cluster) → IsBeside c c' → runs_leading c.world i ≡ true → runs_leading c'.world i ≡ true
leads_beside i c c' b leads = ap (λ (w : World). runs_leading w i) b.world ∙ leads

pub server_beside : (i : ℕ) (c c' : Cluster) → IsBeside c c' → IsServerNumber c i → IsServerNumber c' i
server_beside i c c' b there = let size : length c'.servers ≡ length c.servers = ap length b.servers in (there.0, omega (arith, there.1, size))

pub agent_beside : (a : ℕ) (c c' : Cluster) → IsBeside c c' → IsAgentNumber c a → IsAgentNumber c' a
agent_beside a c c' b there = let size = b.agents in (there.0, omega (arith, there.1, size))

-- the agent of an event that fits
pub agent_fits : (e : AgentEvent) (c : Cluster) → Fits c (event_of_agent e) → IsAgentNumber c (agent_in (event_of_agent e))
agent_fits (agents.Sync agent) c fits = fits
agent_fits (agents.Tick agent ms) c fits = fits
agent_fits (agents.Ask agent asked draw) c fits = fits

-- a sync that goes to a server goes to one that leads
pub sync_leads : (c : Cluster) (a i : ℕ) → sync_way a c ≡ Goes i → runs_leading c.world i ≡ true
sync_leads c a i goes = goes_leading c.world (asked_server (length c.servers) a) i (Good (Write Reap)) (ap Some goes) refl

-- Where an event was noted, the agent's part is that of an event that was marked.
pub noted_marked : (e : AgentEvent) (c : Cluster) → is_agents (event_of_agent e) ≡ true → own_done (event_of_agent e) (noted (event_of_agent e) c) ≡ agent_did (event_of_agent e) (marked (event_of_agent e) c)
noted_marked (agents.Sync agent) c is = refl
noted_marked (agents.Tick agent ms) c is = refl
noted_marked (agents.Ask agent asked draw) c is = refl

pub noted_come : (e : AgentEvent) (c : Cluster) → IsNoted (event_of_agent e) (noted (event_of_agent e) c).past
noted_come (agents.Sync agent) c = tt
noted_come (agents.Tick agent ms) c = tt
noted_come (agents.Ask agent asked draw) c = refl

pub alone_done : (leaderless : Bool) (e : AgentEvent) (c : Cluster) → is_agents (event_of_agent e) ≡ true → noted_alone leaderless (event_of_agent e) (noted (event_of_agent e) c) ≡ alone leaderless (event_of_agent e) c
alone_done false e c is = noted_marked e c is
alone_done true e c is = ap (synced (agent_in (event_of_agent e)) None) (noted_marked e c is)

-- A sync behind the agent's own part, at a server that is ready, and one at a server that is not.
module _ (e : AgentEvent) (i a : ℕ) (c c₁ c' : Cluster) (same : a ≡ agent_in (event_of_agent e)) (own : c₁ ≡ own_done (event_of_agent e) c) (is : is_agents (event_of_agent e) ≡ true) where
  abbrev made : Event
  made = event_of_agent e

  ready_so : (b : Bool) → is_ready c i ≡ b → is_ready (own_done made c) i ≡ b
  ready_so b r = ready_beside i c (own_done made c) (own_beside e c is) ∙ r

  pub synced_whole : is_ready c i ≡ true → PlansWhole i a c₁ c' → SyncsAt i made c c' true
  synced_whole ready planned =
      let here : PlansWhole i (agent_in made) (own_done made c) c' = subst (λ k. PlansWhole i k (own_done made c) c') same (subst (λ (d : Cluster). PlansWhole i a d c') own planned) in
      plans here.0 here.1 (ready_so true ready) here.2 here.3

  pub synced_part : (cut : Cut) → cut ≡ Within → is_ready c i ≡ true → PlansInPart i a cut c₁ c' → SyncsAt i made c c' false
  synced_part cut within ready planned =
      let part : PlansInPart i a Within c₁ c' = subst (λ (z : Cut). PlansInPart i a z c₁ c') within planned in
      let here : PlansInPart i (agent_in made) Within (own_done made c) c' = subst (λ k. PlansInPart i k Within (own_done made c) c') same (subst (λ (d : Cluster). PlansInPart i a Within d c') own part) in
      breaks_off here.0 here.1 (ready_so true ready) here.2

  pub synced_none : is_ready c i ≡ false → c' ≡ synced (agent_in made) None (own_done made c) → SyncsAt i made c c' true
  synced_none unready told = finds_none (ready_so false unready) told

  -- the sync has not begun
  pub synced_not : (cut : Cut) → cut ≡ Before → is_ready c i ≡ true → PlansInPart i a cut c₁ c' → c' ≡ own_done made c
  synced_not cut before ready planned = subst (λ (z : Cut). PlansInPart i a z c₁ c') before planned ∙ own

pub cut_at : (e : AgentEvent) (i : ℕ) (c c' : Cluster) → is_agents (event_of_agent e) ≡ true → is_ready (own_done (event_of_agent e) c) i ≡ true → c' ≡ own_done (event_of_agent e) c → SyncsInPart i (event_of_agent e) (cut_first e) c c'
cut_at (agents.Sync agent) i c c' is ready e = e
cut_at (agents.Tick agent ms) i c c' is ready e = proposals.cut_first refl ready e
cut_at (agents.Ask agent asked draw) i c c' is ready e = go asked.now is ready e
  where
    go : (x : Asked) → is_agents (event.Ask agent x draw) ≡ true → is_ready (own_done (event.Ask agent x draw) c) i ≡ true → c' ≡ own_done (event.Ask agent x draw) c
        → SyncsInPart i (event.Ask agent x draw) (if did_own (event.Ask agent x draw) then Within else Before) c c'
    go (Good (AsksAgent op)) is ready e = proposals.cut_first refl ready e
    go (Good (Read query mode least wait raw)) is ready e = absurd (cc is)
    go (Good (Write command)) is ready e = absurd (cc is)
    go (Good (Execute name limit mode)) is ready e = absurd (cc is)
    go (Good (Renew id)) is ready e = absurd (cc is)
    go (Bad why) is ready e = absurd (cc is)

pub cut_told : (e : AgentEvent) (i a : ℕ) (c c₁ c' : Cluster) (cut first : Cut) → a ≡ agent_in (event_of_agent e) → c₁ ≡ own_done (event_of_agent e) c → is_agents (event_of_agent e) ≡ true → is_ready c i ≡ true → cut ≡ Before → first ≡ cut_first e
    → PlansInPart i a cut c₁ c' → SyncsInPart i (event_of_agent e) first c c'
cut_told e i a c c₁ c' cut first same own is ready before at planned =
    subst (λ (z : Cut). SyncsInPart i (event_of_agent e) z c c') (sym at)
    (cut_at e i c c' is (ready_beside i c (own_done (event_of_agent e) c) (own_beside e c is) ∙ ready) (synced_not e i a c c₁ c' same own is cut before ready planned))

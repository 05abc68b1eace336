-- What an agent's answer shows, and what a sync does at a server that is ready.
use Rattle.std.specs.Prelude.{◌≡◌, ℕ, ◌<◌, Bool, true, false, if◌then◌else◌, List, None, Some}
use Rattle.cat_model.specs.declared.request.Event.{Event}
use Rattle.cat_model.specs.Syncs.{plan}
use Rattle.node_rows.specs.Tags.{all_tagged}
use Rattle.node_rows.specs.declared.tags.Retag.{Retag}
use Rattle.cluster_rules.specs.Agents.{Agent}
use Rattle.anti_entropy.specs.declared.plan.RowPlan.{RowPlan}
use Rattle.cluster_rules.specs.Cluster.{Cluster, agent_of}
use Rattle.cluster_rules.specs.Proposals.{Proposals, adopted, agent_did, did_own, merged_at, remote_at, synced}
use Rattle.cluster_order.specs.AgentEvents.{agent_in, event_of_agent, with_number}
use Rattle.cluster_order.specs.declared.agent_event.AgentEvent.{AgentEvent}
use Rattle.cluster_order.specs.declared.cut.Cut.{Cut}
use Rattle.cluster_order.specs.declared.cut.Cut.TheVariants.{Before, Within}

-- The agent does its own part, once a request has its number.
abbrev pub own_done : Event → Cluster → Cluster
own_done made c = agent_did made (with_number made c)

-- The same, and a sync that finds no leader where it is a part of the event.
abbrev pub noted_alone : Bool → Event → Cluster → Cluster
noted_alone false made c = own_done made c
noted_alone true made c = synced (agent_in made) None (own_done made c)

-- the agent with these tags
abbrev pub retagged : List Retag → Agent → Agent
retagged tags g = record g { services = all_tagged tags g.services }

-- What agent a takes over in a sync at server i, and what it proposes there.
pub record IsPlan (i a : ℕ) (c : Cluster) (p : RowPlan) : Type 0 where
  pub tags : all_tagged p.tags.items (agent_of c a).services ≡ (merged_at a i c).services
  pub commands : p.commands ≡ plan (merged_at a i c) (remote_at a i c)

-- Agent a's sync at server i, which is ready, proposed all of its plan.
abbrev pub PlansWhole : ℕ → ℕ → Cluster → Cluster → Type 0
PlansWhole i a c c' = (n : ℕ) × (c₁ : Cluster) × Proposals i (plan (merged_at a i c) (remote_at a i c)) (adopted a i c) n c₁ true × (c' ≡ synced a (Some n) c₁)

-- Memory ran out: before anything was done, or behind some of its proposals.
abbrev pub PlansInPart : ℕ → ℕ → Cut → Cluster → Cluster → Type 0
PlansInPart i a Before c c' = c' ≡ c
PlansInPart i a Within c c' = (n : ℕ) × (0 < n) × Proposals i (plan (merged_at a i c) (remote_at a i c)) (adopted a i c) n c' false

-- what the event's cut is where its sync has not begun
abbrev pub cut_first : AgentEvent → Cut
cut_first event = if did_own (event_of_agent event) then Within else Before

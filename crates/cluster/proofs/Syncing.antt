-- The outs of syncs, and what a sync proposes, in the terms of the rules' cluster.
use Rattle.std.proofs.Common.{◌≡◌, ℕ, ◌<◌, Bool, true, false, List, [], ◌∷◌, length, Option, None, Some, refl, sym, ◌∙◌, ap, subst, arith}
use Rattle.cat_model.specs.declared.command.Command.{Command}
use Rattle.cat_model.specs.Syncs.{merged, plan}
use Rattle.cat_model.specs.declared.row.ServiceRow.{ServiceRow}
use Rattle.raft_model.specs.Node.{set_server}
use Rattle.raft_model.specs.World.{World}
use Rattle.cat_model.specs.declared.fired.Local.{Local}
use Rattle.cat_model.specs.declared.fired.Remote.{Remote}
use Rattle.cat_model.specs.declared.row.NodeRow.{NodeRow}
use Rattle.cluster_rules.specs.Agents.{Agent, agent_node, local_of}
use Rattle.agent_state.specs.Own.{AreOwn}
use Rattle.agent_state.specs.declared.looks.OwnParts.{OwnParts}
use Rattle.node_rows.specs.Tags.{all_tagged}
use Rattle.node_rows.specs.declared.tags.Retag.{Retag}
use Rattle.anti_entropy.specs.declared.plan.RowPlan.{RowPlan}
use Rattle.cluster_rules.specs.Cluster.{Cluster, Server, agent_of}
use Rattle.cluster_rules.specs.Due.{put_out}
use Rattle.cluster_rules.specs.Proposals.{Proposals, none_left, breaks, enters, refuses, adopted, merged_at, remote_at, synced, with_agent}
use Rattle.cluster_rules.specs.Reached.{IsAgentNumber}
use Rattle.cluster_rules.specs.Replies.{Out, Synced}
use Rattle.cluster_rules.specs.Requests.{moved}
use Rattle.cluster_requests.specs.Requests.{Requests, cluster_of as whole_of, told_sync}
use Rattle.cluster_works.specs.Watching.{Watching}
use Rattle.cluster_works.specs.Agents.{agent_at}
use Rattle.cluster_works.specs.Standing.{Stands}
use Rattle.cluster.specs.Syncing.{IsPlan, PlansWhole, retagged}
use Rattle.cluster.proofs.Results.{stands_alike}

-- An out that was told last.
pub told_there : (gs : List Agent) (w : World) (servers : List Server) (r : Requests) (agent : ℕ) (c : Cluster) → whole_of w servers gs r ≡ synced agent None c → r ≡ told_sync agent None (record r { fresh = c.fresh })
told_there gs w servers r agent c e = ap (λ (outs : List Out). record r { fresh = outs }) (ap (λ (d : Cluster). d.fresh) e)

pub taken_back : (gs : List Agent) (w : World) (servers : List Server) (r new : Requests) (agent : ℕ) (c : Cluster) → whole_of w servers gs r ≡ synced agent None c → new ≡ record r { fresh = c.fresh } → whole_of w servers gs new ≡ c
taken_back gs w servers r new agent c e is = ap (whole_of w servers gs) is ∙ ap (λ (d : Cluster). record d { fresh = c.fresh }) e

pub counted : (gs : List Agent) (w : World) (servers : List Server) (r new : Requests) (agent n : ℕ) (c : Cluster) → whole_of w servers gs r ≡ synced agent None c → new ≡ told_sync agent (Some n) (record r { fresh = c.fresh })
    → whole_of w servers gs new ≡ synced agent (Some n) c
counted gs w servers r new agent n c e is = ap (whole_of w servers gs) is ∙ ap (λ (d : Cluster). synced agent (Some n) (record d { fresh = c.fresh })) e

pub fresh_stands : (wt : Watching) (w : World) (servers : List Server) (r new : Requests) (outs : List Out) → Stands wt w servers r → new ≡ record r { fresh = outs } → Stands wt w servers new
fresh_stands wt w servers r new outs s e =
    stands_alike s e refl refl

-- Proposals neither read nor change agents and outs.
abbrev beside : List Agent → List Out → Cluster → Cluster
beside gs outs c = record c { agents = gs; fresh = outs }

proposals_beside : (i : ℕ) (gs : List Agent) (outs : List Out) (commands : List Command) (c : Cluster) (n : ℕ) (c' : Cluster) (whole : Bool) → Proposals i commands c n c' whole → Proposals i commands (beside gs outs c) n (beside gs outs c') whole
proposals_beside i gs outs [] c n c' whole none_left = none_left
proposals_beside i gs outs commands c n c' whole breaks = breaks
proposals_beside i gs outs (command ∷ commands) c n c' whole (enters {n = m} w' lead room a up more) = enters w' lead room a up (proposals_beside i gs outs commands (moved i w' c) m c' whole more)
proposals_beside i gs outs (command ∷ commands) c n c' whole (refuses w' lead a why) = refuses w' lead a why

proposals_keep : (i : ℕ) (commands : List Command) (c : Cluster) (n : ℕ) (c' : Cluster) (whole : Bool) → Proposals i commands c n c' whole → (c'.agents ≡ c.agents) × (c'.fresh ≡ c.fresh)
proposals_keep i [] c n c' whole none_left = (refl, refl)
proposals_keep i commands c n c' whole breaks = (refl, refl)
proposals_keep i (command ∷ commands) c n c' whole (enters {n = m} w' lead room a up more) = proposals_keep i commands (moved i w' c) m c' whole more
proposals_keep i (command ∷ commands) c n c' whole (refuses w' lead a why) = (refl, refl)

none_entered : (i : ℕ) (commands : List Command) (c : Cluster) (n : ℕ) (c' : Cluster) (whole : Bool) → Proposals i commands c n c' whole → n ≡ 0 → whole ≡ false → c' ≡ c
none_entered i [] c n c' whole none_left z b = refl
none_entered i commands c n c' whole breaks z b = refl
none_entered i (command ∷ commands) c n c' whole (enters {n = m} w' lead room a up more) z b = absurd (omega (arith, z))
none_entered i (command ∷ commands) c n c' whole (refuses w' lead a why) z b = absurd (cc b)

-- A sync that was told before it proposed.
module _ (i a n : ℕ) (commands : List Command) (whole : Bool) (c c₀ c₂ : Cluster) (told : c₀ ≡ synced a None c) (proposed : Proposals i commands c₀ n c₂ whole) where
  from_told : Proposals i commands (synced a None c) n c₂ whole
  from_told = subst (λ (d : Cluster). Proposals i commands d n c₂ whole) told proposed

  same_agents : c₂.agents ≡ c.agents
  same_agents = (proposals_keep i commands (synced a None c) n c₂ whole from_told).0

  pub still_told : c₂ ≡ synced a None (record c₂ { fresh = c.fresh })
  still_told = ap (λ (outs : List Out). record c₂ { fresh = outs }) (proposals_keep i commands (synced a None c) n c₂ whole from_told).1

  pub none_told : n ≡ 0 → whole ≡ false → c₂ ≡ synced a None c
  none_told z b = none_entered i commands (synced a None c) n c₂ whole from_told z b

  pub agent_there : (c₃ : Cluster) (count : Option ℕ) → c₃ ≡ synced a count (record c₂ { fresh = c.fresh }) → IsAgentNumber c a → IsAgentNumber c₃ a
  agent_there c₃ count e there = let size : length c₃.agents ≡ length c.agents = ap (λ (d : Cluster). length d.agents) e ∙ ap length same_agents in (there.0, omega (arith, there.1, size))

  pub agent_back : (c₃ : Cluster) → c₃ ≡ record c₂ { fresh = c.fresh } → IsAgentNumber c a → IsAgentNumber c₃ a
  agent_back c₃ e there = let size : length c₃.agents ≡ length c.agents = ap (λ (d : Cluster). length d.agents) e ∙ ap length same_agents in (there.0, omega (arith, there.1, size))

  module _ (tags : List Retag) (plan_tags : all_tagged tags (agent_of c a).services ≡ (merged_at a i c).services) where
    abbrev others : List Agent
    others = set_server c.agents a (record (agent_of c a) { services = (merged_at a i c).services })

    -- the agent takes the tags over
    taken_over : (outs : List Out) → with_agent a (retagged tags (agent_of c₂ a)) (record c₂ { fresh = outs }) ≡ record c₂ { agents = others; fresh = outs }
    taken_over outs =
        ap (λ (gs : List Agent). record c₂ { agents = set_server gs a (retagged tags (agent_at gs a)); fresh = outs }) same_agents
        ∙ ap (λ (l : List ServiceRow). record c₂ { agents = set_server c.agents a (record (agent_of c a) { services = l }); fresh = outs }) plan_tags

    adopted_first : Proposals i commands (adopted a i c) n (beside others c.fresh c₂) whole
    adopted_first = proposals_beside i others c.fresh commands (synced a None c) n c₂ whole from_told

    told_last : (c₃ c₄ : Cluster) (count : Option ℕ) → c₃ ≡ synced a count (record c₂ { fresh = c.fresh }) → c₄ ≡ with_agent a (retagged tags (agent_of c₃ a)) c₃ → c₄ ≡ synced a count (beside others c.fresh c₂)
    told_last c₃ c₄ count is e = e ∙ ap (λ (d : Cluster). with_agent a (retagged tags (agent_of d a)) d) is ∙ taken_over (put_out (Synced a count) c.fresh)

    told_not : (c₃ c₄ : Cluster) → c₃ ≡ record c₂ { fresh = c.fresh } → c₄ ≡ with_agent a (retagged tags (agent_of c₃ a)) c₃ → c₄ ≡ beside others c.fresh c₂
    told_not c₃ c₄ is e = e ∙ ap (λ (d : Cluster). with_agent a (retagged tags (agent_of d a)) d) is ∙ taken_over c.fresh

pub plans_whole : (i a n : ℕ) (p : RowPlan) (whole : Bool) (c c₀ c₂ c₃ c₄ : Cluster) → whole ≡ true → c₀ ≡ synced a None c → Proposals i p.commands c₀ n c₂ whole → IsPlan i a c p
    → c₃ ≡ synced a (Some n) (record c₂ { fresh = c.fresh }) → c₄ ≡ with_agent a (retagged p.tags.items (agent_of c₃ a)) c₃ → PlansWhole i a c c₄
plans_whole i a n p whole c c₀ c₂ c₃ c₄ b told proposed is counts adopts =
    let gs = others i a n p.commands whole c c₀ c₂ told proposed p.tags.items is.tags in (
      n,
      beside gs c.fresh c₂,
      subst (λ (commands : List Command). Proposals i commands (adopted a i c) n (beside gs c.fresh c₂) true) is.commands
          (subst (λ (z : Bool). Proposals i p.commands (adopted a i c) n (beside gs c.fresh c₂) z) b (adopted_first i a n p.commands whole c c₀ c₂ told proposed p.tags.items is.tags)),
      told_last i a n p.commands whole c c₀ c₂ told proposed p.tags.items is.tags c₃ c₄ (Some n) counts adopts,
    )

pub plans_part : (i a n : ℕ) (p : RowPlan) (whole : Bool) (c c₀ c₂ c₃ c₄ : Cluster) → whole ≡ false → 0 < n → c₀ ≡ synced a None c → Proposals i p.commands c₀ n c₂ whole → IsPlan i a c p
    → c₃ ≡ record c₂ { fresh = c.fresh } → c₄ ≡ with_agent a (retagged p.tags.items (agent_of c₃ a)) c₃
    → (m : ℕ) × (0 < m) × Proposals i (plan (merged_at a i c) (remote_at a i c)) (adopted a i c) m c₄ false
plans_part i a n p whole c c₀ c₂ c₃ c₄ b some told proposed is back adopts =
    let gs = others i a n p.commands whole c c₀ c₂ told proposed p.tags.items is.tags in (
      n,
      some,
      subst (λ (d : Cluster). Proposals i (plan (merged_at a i c) (remote_at a i c)) (adopted a i c) n d false) (sym (told_not i a n p.commands whole c c₀ c₂ told proposed p.tags.items is.tags c₃ c₄ back adopts))
          (subst (λ (commands : List Command). Proposals i commands (adopted a i c) n (beside gs c.fresh c₂) false) is.commands
          (subst (λ (z : Bool). Proposals i p.commands (adopted a i c) n (beside gs c.fresh c₂) z) b (adopted_first i a n p.commands whole c c₀ c₂ told proposed p.tags.items is.tags))),
    )

-- A plan by an agent's rows and by those that a server's catalog has of its node.
pub planned : (i a : ℕ) (c : Cluster) (own : OwnParts) (rows : Local) (there : Remote) (node : List ℕ) (p : RowPlan) → AreOwn a own → rows ≡ local_of a (agent_of c a) → node ≡ own.node.node
    → ((agent : ℕ) → node ≡ agent_node agent → there ≡ remote_at agent i c) → all_tagged p.tags.items rows.services ≡ (merged rows there).services → p.commands ≡ plan (merged rows there) there → IsPlan i a c p
planned i a c own rows there node p are own_rows name told tags commands =
    let there_is : there ≡ remote_at a i c = told a (name ∙ ap (λ (n : NodeRow). n.node) are.node) in
    record {
      tags = ap (λ (l : Local). all_tagged p.tags.items l.services) (sym own_rows) ∙ tags ∙ (λ j. (merged (own_rows j) (there_is j)).services);
      commands = commands ∙ (λ j. plan (merged (own_rows j) (there_is j)) (there_is j));
    }

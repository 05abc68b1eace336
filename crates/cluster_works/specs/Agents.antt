-- The agents of a cluster by their numbers.
use Rattle.std.specs.Prelude.{ℕ, ◌<◌, ◌≤◌, List, length, Option, Some, None, false}
use Rattle.cluster_rules.specs.Agents.{Agent, change, new_agent}
use Rattle.cat_model.specs.declared.reply.Kind.{Kind}
use Rattle.cat_model.specs.declared.reply.Kind.TheVariants.{Local, Refused}
use Rattle.cat_model.specs.declared.request.AgentOp.{AgentOp}
use Rattle.cluster_rules.specs.Cluster.{item_of}
use Rattle.cluster_rules.specs.Proposals.{kind_told}
use Rattle.cluster_rules.specs.Replies.{Blank, Content, Holds, Reply, Says}
use Rattle.cluster_requests.specs.Requests.{reply_with}
use Rattle.raft_model.specs.Node.{set_server}

-- agents are numbered from 1
abbrev pub IsThere : List Agent → ℕ → Type 0
IsThere agents a = (0 < a) × (a ≤ length agents)

abbrev pub agent_at : List Agent → ℕ → Agent
agent_at agents a = item_of new_agent agents a

-- another agent in its place, or the same where there is none
abbrev pub agents_with : ℕ → Option Agent → List Agent → List Agent
agents_with a None agents = agents
agents_with a (Some g) agents = set_server agents a g

-- what an answer of an agent shows
abbrev pub content_told : Kind → Content
content_told (Local body) = Holds body
content_told (Refused why) = Says why
content_told other = Blank

-- the answer of agent a to the request of this number
abbrev pub own_reply : ℕ → ℕ → AgentOp → List Agent → Reply
own_reply number a op agents = let kind = kind_told a op (change a op (agent_at agents a)) in reply_with number kind false 0 (content_told kind)

-- An election of three processes in which messages are lost. The request for a vote and the first entry that node 1
-- sends to node 3 never come, so node 1 is elected by node 2 and commits with it alone. Node 3 gets the entry when node 1
-- sends it again. Then node 2 ends, and begins again over its store.
use Rattle.std.specs.Prelude.{◌≡◌, ℕ, true, List, [], ◌∷◌, Some, Contains}
use Rattle.cat_model.specs.declared.reply.Role.TheVariants.{Leader, Follower}
use Rattle.raft_model.specs.declared.message.Message.{Message}
use Rattle.raft_model.specs.declared.message.Message.TheVariants.{AskVote, Vote, Append, Yes}
use Rattle.raft_model.specs.Node.{Node, begun}
use Rattle.raft_model.specs.Rules.{Input, Timeout, Receive, done, noop}
use Rattle.raft_model.specs.Runs.{empty_store, saved}
use Rattle.raft_model.specs.Step.{restarted}
use Rattle.raft_model.specs.World.{nothing_kept}
use Rattle.node_journals.specs.Journals.{Given, Restart, Step, Process, AreProcesses}
use Rattle.node_journals.specs.Causal.{AreCausal}

-- one of three nodes, which begins over an empty store
abbrev pub fresh : ℕ → Node
fresh id = begun id 3 empty_store nothing_kept

-- the step of a node that is given this, where its store works
abbrev pub given_at : ℕ → Node → Input → Step
given_at time old input = record { time = time; event = Given input; node = saved old (done old input).node; sent = (done old input).sent }

-- the step of a node that begins again over what it kept
abbrev pub again_at : ℕ → Node → Step
again_at time old = record { time = time; event = Restart; node = restarted old old.store (record { term = old.term; vote = old.vote; log = old.log }); sent = [] }

abbrev pub one_stands : Step
one_stands = given_at 1 (fresh 1) Timeout

abbrev pub two_votes : Step
two_votes = given_at 2 (fresh 2) (Receive 1 (AskVote 1 0 0))

abbrev pub one_leads : Step
one_leads = given_at 3 one_stands.node (Receive 2 (Vote 1 true))

abbrev pub two_accepts : Step
two_accepts = given_at 4 two_votes.node (Receive 1 (Append 1 0 0 (noop 1 ∷ []) 0 0))

abbrev pub one_commits : Step
one_commits = given_at 5 one_leads.node (Receive 2 (Yes 1 1 0))

abbrev pub three_accepts : Step
three_accepts = given_at 6 (fresh 3) (Receive 1 (Append 1 0 0 (noop 1 ∷ []) 1 0))

abbrev pub two_begins : Step
two_begins = again_at 7 two_accepts.node

abbrev pub election : List Process
election =
    record { start = fresh 1; steps = one_stands ∷ one_leads ∷ one_commits ∷ [] }
    ∷ record { start = fresh 2; steps = two_votes ∷ two_accepts ∷ two_begins ∷ [] }
    ∷ record { start = fresh 3; steps = three_accepts ∷ [] }
    ∷ []

abbrev pub Sends : Step → ℕ → Message → Type 0
Sends s to message = Contains s.sent (record { to = to; message = message })

-- It is as the laws ask. Two messages to node 3 are lost. Node 1 leads term 1, nodes 1 and 3 have committed its entry,
-- and node 2 has kept its vote and the entry.
pub record ElectionRow : Type 0 where
  pub processes : AreProcesses election
  pub causal : AreCausal election
  pub lost : Sends one_stands 3 (AskVote 1 0 0) × Sends one_leads 3 (Append 1 0 0 (noop 1 ∷ []) 0 0)
  pub first : (one_commits.node.role ≡ Leader) × (one_commits.node.term ≡ 1) × (one_commits.node.commit ≡ 1)
  pub second : (two_begins.node.vote ≡ Some 1) × (two_begins.node.log ≡ noop 1 ∷ []) × (two_begins.node.commit ≡ 0)
  pub third : (three_accepts.node.role ≡ Follower) × (three_accepts.node.log ≡ noop 1 ∷ []) × (three_accepts.node.commit ≡ 1)

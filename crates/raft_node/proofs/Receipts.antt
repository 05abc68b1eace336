-- From a plan on a message to a step of the server.
use Rattle.std.proofs.Common.{◌≡◌, ℕ, true, false, cond, inl, List, [], refl, sym, ◌∙◌, ap, subst}
use Rattle.raft_model.specs.declared.message.Message.{Message}
use Rattle.raft_model.specs.declared.message.Sent.{Sent}
use Rattle.raft_model.specs.Log.{Log}
use Rattle.raft_model.specs.Node.{Node, Done, quiet}
use Rattle.raft_model.specs.Rules.{Input, Receive, done, does, received}
use Rattle.raft_node.specs.declared.state.State.{State}
use Rattle.raft_node.specs.declared.state.Planned.{Planned}
use Rattle.raft_node.specs.Nodes.{seen, planned_of, Plans}
use Rattle.raft_node.specs.Steps.{Makes, Remains, Steps, FindsNoMemory}

pub steps_by : (old : Node) (input : Input) (d : Done) (new : Node) (sent : List Sent) → d ≡ done old input → Makes old d new sent → Steps old input new sent
steps_by old input d new sent e m = subst (λ (x : Done). Makes old x new sent) e m

pub remains_by : (old : Node) (input : Input) (d : Done) (new : Node) → d ≡ done old input → Remains old d new → FindsNoMemory old input new
remains_by old input d new e m = subst (λ (x : Done). Remains old x new) e m

-- a halted server does nothing
pub halted_does : (n : Node) (input : Input) → n.halted ≡ true → quiet n ≡ done n input
unfolding done
halted_does n input h = sym (ap (λ t. cond t (quiet n) (does n input)) h)

pub halted_steps : (n : Node) (input : Input) → n.halted ≡ true → Steps n input n []
halted_steps n input h = steps_by n input (quiet n) n [] (halted_does n input h) (inl (n.store, inl ((refl, refl), refl), inl (refl, refl), refl, refl))

-- a running one receives
pub running_receives : (n : Node) (from : ℕ) (message : Message) → n.halted ≡ false → received n from message ≡ done n (Receive from message)
unfolding done does
running_receives n from message h = sym (ap (λ t. cond t (quiet n) (does n (Receive from message))) h)

pub planned_does : (n : Node) (state : State) (log : Log) (from : ℕ) (message : Message) (planned : Planned) → seen n.store state log ≡ n → n.halted ≡ false
    → Plans (λ m. received m from message) state log planned → planned_of n.store log planned ≡ done n (Receive from message)
planned_does n state log from message planned v h p =
    p.done n.store ∙ ap (λ (m : Node). received m from message) v ∙ running_receives n from message h

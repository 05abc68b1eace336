-- A host with one more step in its history.
use Rattle.std.proofs.Common.{◌≡◌, ◌≢◌, ℕ, inl, inr, true, false, Err, List, [], length, sym, ap, subst, ◌∙◌}
use Rattle.cat_model.specs.declared.command.Command.{Command}
use Rattle.raft_model.specs.Node.{Node}
use Rattle.raft_model.specs.Rules.{Input, Propose}
use Rattle.raft_model.specs.Step.{Forgets, LogFails, NodeStep, VoteFails, Works}
use Rattle.raft_model.specs.declared.message.Sent.{Sent}
use Rattle.raft_node.specs.Steps.{Proposes, Steps, FindsNoMemory as NodeFindsNoMemory}
use Rattle.raft_node.specs.declared.fault.ProposeFault.{ProposeFault}
use Rattle.raft_node.specs.declared.fault.ProposeFault.TheVariants.{Full, Halted, Memory, NotLeader}
use Rattle.node_journals.specs.Journals.{Event, Given, IsStep, IsUnnumbered, Process, Step}
use Rattle.raft_model.proofs.Forgetting.{forgot}
use Rattle.node_link.proofs.Lists.{ended_more, journal_more, made_more}
use Rattle.node_link.specs.Hosts.{Hosted, IsHost, told}
use Rattle.node_link.specs.Outboxes.{Unsent, posted_all}

-- the host after a step
abbrev pub noted : Hosted → Event → Node → List Sent → Hosted
noted h event node sent = record { process = told h.process event node sent; node = node; outbox = posted_all sent h.outbox; applied = h.applied }

pub host_more : (h : Hosted) (event : Event) (node : Node) (sent : List Sent) → IsHost h → IsStep h.node event node sent → IsHost (noted h event node sent)
host_more h event node sent is step =
    let s : Step = record { time = length h.process.steps; event = event; node = node; sent = sent } in
    record {
      journal = journal_more h.process.start h.process.steps s is.journal (subst (λ (n : Node). IsStep n event node sent) (sym is.behind) step);
      behind = ended_more h.process.start h.process.steps s;
      made = made_more h.process.steps s h.outbox is.made;
    }

-- the same, of the parts of a host
pub host_noted : (h : Hosted) (event : Event) (node : Node) (sent : List Sent) (p : Process) (box : Unsent) → IsHost h → IsStep h.node event node sent → p ≡ told h.process event node sent → box ≡ posted_all sent h.outbox
    → IsHost (record { process = p; node = node; outbox = box; applied = h.applied })
host_noted h event node sent p box is step process outbox =
    subst (λ (q : Process). IsHost (record { process = q; node = node; outbox = box; applied = h.applied })) (sym process)
    (subst (λ (b : Unsent). IsHost (record { process = told h.process event node sent; node = node; outbox = b; applied = h.applied })) (sym outbox) (host_more h event node sent is step))

-- what was applied is no part of the history
pub host_at : (h : Hosted) (applied : ℕ) → IsHost h → IsHost (record h { applied = applied })
host_at h applied is = record { journal = is.journal; behind = is.behind; made = is.made }

-- a step, whatever the store did, where it has no number
pub is_step : (old : Node) (input : Input) (new : Node) (sent : List Sent) → IsUnnumbered input → Steps old input new sent → IsStep old (Given input) new sent
is_step old input new sent u (inl s) = (u, Works, s)
is_step old input new sent u (inr (inl s)) = (u, VoteFails, s)
is_step old input new sent u (inr (inr s)) = (u, LogFails, s)

-- a node that forgot has another term
pub other_term : (old : Node) (input : Input) (new : Node) → NodeStep Forgets old input new [] → new.term ≢ old.term
other_term old input new (saves, call, stores, is, none) same = forgot old input saves stores (sym (ap (λ (n : Node). n.term) is) ∙ same)

-- a node of the same term did not forget
pub as_before : (old : Node) (input : Input) (new : Node) → NodeFindsNoMemory old input new → new.term ≡ old.term → new ≡ old
as_before old input new (inl same) e = same
as_before old input new (inr step) e = absurd (other_term old input new step e)

-- a node of another term did
pub forgets : (old : Node) (input : Input) (new : Node) → NodeFindsNoMemory old input new → new.term ≢ old.term → NodeStep Forgets old input new []
forgets old input new (inl same) e = absurd (e (ap (λ (n : Node). n.term) same))
forgets old input new (inr step) e = step

-- the host of a node that did not change
pub host_same : (h : Hosted) (node : Node) → IsHost h → node ≡ h.node → IsHost (record h { node = node })
host_same h node is same = subst (λ (n : Node). IsHost (record h { node = n })) (sym same) is

-- a proposal in which a running node halted
pub halted_in : (old : Node) (command : Command) (new : Node) (fault : ProposeFault) → Proposes old 0 command new (Err fault) → old.halted ≡ false → new.halted ≡ true → NodeStep LogFails old (Propose 0 command) new []
halted_in old command new NotLeader (runs, role, same) ran stopped = absurd (let k = ap (λ (n : Node). n.halted) same in cc (k, ran, stopped))
halted_in old command new Full (runs, role, room, same) ran stopped = absurd (let k = ap (λ (n : Node). n.halted) same in cc (k, ran, stopped))
halted_in old command new Memory (runs, role, same) ran stopped = absurd (let k = ap (λ (n : Node). n.halted) same in cc (k, ran, stopped))
halted_in old command new Halted (inl (was, same)) ran stopped = absurd (cc (was, ran))
halted_in old command new Halted (inr (may, step)) ran stopped = step

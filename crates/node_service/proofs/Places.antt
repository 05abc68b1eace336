-- What a process does leaves its host the same server of a cluster of as many.
use Rattle.std.proofs.Common.{◌≡◌, ℕ, inl, inr, Bool, true, false, List, [], Option, Some, None, Result, Ok, Err, refl, ap, ◌∙◌, sym}
use Rattle.cat_model.specs.declared.memory.Memory.{Memory}
use Rattle.cat_model.specs.declared.command.Command.{Command}
use Rattle.cat_model.specs.declared.reply.Role.{Role}
use Rattle.cat_model.specs.declared.reply.Role.TheVariants.{Candidate, Follower, Leader}
use Rattle.raft_model.specs.declared.message.Place.{Place}
use Rattle.raft_model.specs.Node.{Node}
use Rattle.raft_model.specs.Rules.{Input, Beat, Propose, Receive, Timeout}
use Rattle.raft_model.specs.Step.{Forgets, LogFails, NodeStep, Works}
use Rattle.raft_model.specs.declared.message.Sent.{Sent}
use Rattle.raft_node.specs.Steps.{Proposes, Steps}
use Rattle.raft_node.specs.declared.fault.ProposeFault.{ProposeFault}
use Rattle.raft_node.specs.declared.fault.ProposeFault.TheVariants as faults
use Rattle.node_link.proofs.Staying.{step_same, steps_same}
use Rattle.node_link.specs.Hosts.{Answers, FindsNoMemory, Hosted, IsSameServer, Makes}
use Rattle.peer_frames.specs.declared.frame.Frame.{Frame}
use Rattle.peer_frames.specs.declared.frame.Frame.TheVariants as frames
use Rattle.peer_frames.specs.declared.frame.Peers.{Peers}
use Rattle.node_service.specs.declared.alarm.Alarm.{Alarm}
use Rattle.node_service.specs.declared.answers.Answer.{Answer}
use Rattle.node_service.specs.Alarms.{IsDone, Rings}
use Rattle.node_service.specs.Answering.{AnswersFrame, peers_of}
use Rattle.node_service.specs.Sending.{SendsAll}
use Rattle.node_service.specs.Dialers.{DialerState}

abbrev Same : Hosted → Hosted → Type 0
Same old new = peers_of new ≡ peers_of old

abbrev peers : ℕ → ℕ → Peers
peers id servers = record { id = id; servers = servers }

same_server : (old new : Hosted) → IsSameServer old.node new.node → Same old new
same_server old new is = ap (λ id. peers id new.node.servers) is.id ∙ ap (λ servers. peers old.node.id servers) is.servers

as_before : (old new : Hosted) → new ≡ old → Same old new
as_before old new e = ap peers_of e

made_same : (old : Hosted) (input : Input) (new : Hosted) → Makes Steps old input new → Same old new
made_same old input new made = same_server old new (steps_same old.node input new.node made.sent made.step)

beat_same : (old new : Hosted) → Makes (NodeStep Works) old Beat new → Same old new
beat_same old new made = same_server old new (step_same Works old.node Beat new.node made.sent made.step)

lacking_same : (old : Hosted) (input : Input) (new : Hosted) → FindsNoMemory old input new → Same old new
lacking_same old input new (inl e) = as_before old new e
lacking_same old input new (inr (step, noted)) = same_server old new (step_same Forgets old.node input new.node [] step)

proposed_same : (old : Hosted) (command : Command) (new : Hosted) (end : Result Place ProposeFault) → Answers old command new end → Same old new
proposed_same old command new (Ok place) (sent, (may, step, is), noted) = same_server old new (step_same Works old.node (Propose 0 command) new.node sent step)
proposed_same old command new (Err faults.Halted) (inl (was, e)) = as_before old new e
proposed_same old command new (Err faults.Halted) (inr (may, step, noted)) = same_server old new (step_same LogFails old.node (Propose 0 command) new.node [] step)
proposed_same old command new (Err faults.NotLeader) (p, e) = as_before old new e
proposed_same old command new (Err faults.Full) (p, e) = as_before old new e
proposed_same old command new (Err faults.Memory) (p, e) = as_before old new e

pub answered_same : (old : Hosted) (frame : Frame) (answer : Result Answer Memory) (new : Hosted) → AnswersFrame old frame answer new → Same old new
answered_same old (frames.Peer sender message) (Ok answer) new ((made, g), n) = made_same old (Receive sender message) new made
answered_same old (frames.Propose command) (Ok answer) new (end, a, s, g) = proposed_same old command new end a
answered_same old frames.Status (Ok answer) new (e, a) = as_before old new e
answered_same old (frames.Placed index term) (Ok answer) new (e, a) = as_before old new e
answered_same old (frames.Refused why) (Ok answer) new (e, a) = as_before old new e
answered_same old (frames.State term role commit last) (Ok answer) new (e, a) = as_before old new e
answered_same old (frames.Peer sender message) (Err lacks) new l = lacking_same old (Receive sender message) new l
answered_same old (frames.Propose command) (Err lacks) new e = as_before old new e
answered_same old frames.Status (Err lacks) new l = absurd l
answered_same old (frames.Placed index term) (Err lacks) new l = absurd l
answered_same old (frames.Refused why) (Err lacks) new l = absurd l
answered_same old (frames.State term role commit last) (Err lacks) new l = absurd l

done_same : (role : Role) (old : Hosted) (result : Result Unit Memory) (new : Hosted) → IsDone role old result new → Same old new
done_same Leader old (Ok done) new made = beat_same old new made
done_same Leader old (Err e) new same = as_before old new same
done_same Candidate old (Ok done) new made = made_same old Timeout new made
done_same Candidate old (Err e) new l = lacking_same old Timeout new l
done_same Follower old (Ok done) new made = made_same old Timeout new made
done_same Follower old (Err e) new l = lacking_same old Timeout new l

pub rung_same : (due : Bool) (alarm : Alarm) (old : Hosted) (now word : ℕ) (result : Result Unit Memory) (next : Alarm) (new : Hosted) → Rings due alarm old now word result next new → Same old new
rung_same true alarm old now word result next new (is, set) = done_same old.node.role old result new is
rung_same false alarm old now word result next new (ok, e, set) = as_before old new e

pub sent_same : (ports : List ℕ) (old : Hosted) (before : DialerState) (result : Result Unit Memory) (new : Hosted) (after : DialerState) → SendsAll ports old before result new after → Same old new
sent_same ports old before (Ok done) new after (e, all) = ap peers_of e
sent_same ports old before (Err lacks) new after (inl (e, same)) = ap peers_of e
sent_same ports old before (Err lacks) new after (inr (e, all)) = ap peers_of e

-- Single steps of each rule, computed.
use Rattle.std.proofs.Common.{◌≡◌, ℕ, [], ◌∷◌, length, replicate, Some, true, false, refl}
use Rattle.cat_model.specs.declared.reply.Role.TheVariants.{Candidate, Leader}
use Rattle.cat_model.specs.declared.command.Command.TheVariants.{Noop}
use Rattle.raft_model.specs.declared.message.Message.TheVariants.{AskVote, Vote, Append, Yes, No}
use Rattle.raft_model.specs.Limits.{batch}
use Rattle.raft_model.specs.Node.{Node, begun}
use Rattle.raft_model.specs.Rules.{Timeout, Receive, Propose, Probe, done, does, timed_out, candidate, received, of_own_term, of_lower_term, asked, voted, counted, leads, offered, accepts, agreed_to, after_yes, declined, proposes, probes, noop, is_confirmed}
use Rattle.raft_model.specs.World.{nothing_kept}
use Rattle.raft_model.specs.Runs.{empty_store}

-- server 2 of 3, in term 3 and with entries of terms 1, 1, 2
abbrev follower : ℕ → Node
follower commit = record (begun 2 3 empty_store nothing_kept) { term = 3; log = noop 1 ∷ noop 1 ∷ noop 2 ∷ []; commit = commit }

-- entries that conflict cut the log; commit is the smaller of the leader's and the last index told
cuts : (done (follower 1) (Receive 1 (Append 3 1 1 (noop 3 ∷ []) 5 7))).node ≡ record (follower 1) { log = noop 1 ∷ noop 3 ∷ []; commit = 2; leader = Some 1 }
unfolding done does received of_own_term offered accepts
cuts = refl

cuts_says : (done (follower 1) (Receive 1 (Append 3 1 1 (noop 3 ∷ []) 5 7))).sent ≡ record { to = 1; message = Yes 3 2 7 } ∷ []
unfolding done does received of_own_term offered accepts
cuts_says = refl

-- entries that stand already cut nothing
keeps : (done (follower 1) (Receive 1 (Append 3 1 1 (noop 1 ∷ []) 0 0))).node ≡ record (follower 1) { leader = Some 1 }
unfolding done does received of_own_term offered accepts
keeps = refl

-- a committed entry is not cut, and nothing is answered
refuses : (done (follower 2) (Receive 1 (Append 3 1 1 (noop 3 ∷ []) 5 7))) ≡ record { node = record (follower 2) { leader = Some 1 }; sent = [] }
unfolding done does received of_own_term offered accepts
refuses = refl

-- an index that is missing, and a term that differs
misses : (done (follower 0) (Receive 1 (Append 3 4 2 [] 0 0))).sent ≡ record { to = 1; message = No 3 3 } ∷ []
unfolding done does received of_own_term offered
misses = refl

differs : (done (follower 0) (Receive 1 (Append 3 3 1 [] 0 0))).sent ≡ record { to = 1; message = No 3 3 } ∷ []
unfolding done does received of_own_term offered
differs = refl

-- a lower term is answered with the own one
lower_ask : (done (follower 0) (Receive 1 (AskVote 2 9 9))).sent ≡ record { to = 1; message = Vote 3 false } ∷ []
unfolding done does received of_lower_term
lower_ask = refl

lower_append : (done (follower 0) (Receive 1 (Append 2 0 0 [] 0 0))).sent ≡ record { to = 1; message = No 3 3 } ∷ []
unfolding done does received of_lower_term
lower_append = refl

-- a vote for a log that is behind is refused, in the risen term; one for a log that is not is granted
behind : done (follower 0) (Receive 1 (AskVote 4 9 1)) ≡ record { node = record (follower 0) { term = 4 }; sent = record { to = 1; message = Vote 4 false } ∷ [] }
unfolding done does received of_own_term asked
behind = refl

grants : done (follower 0) (Receive 3 (AskVote 4 3 2)) ≡ record { node = record (follower 0) { term = 4; vote = Some 3 }; sent = record { to = 3; message = Vote 4 true } ∷ [] }
unfolding done does received of_own_term asked
grants = refl

-- server 1 of 3 leads term 3, with entries of terms 2, 2, 3
abbrev leader : Node
leader = record (begun 1 3 empty_store nothing_kept) { term = 3; log = noop 2 ∷ noop 2 ∷ noop 3 ∷ []; role = Leader; next = 4 ∷ 4 ∷ 4 ∷ []; matched = 0 ∷ 0 ∷ 0 ∷ []; acked = 0 ∷ 0 ∷ 0 ∷ [] }

-- an entry of an older term is not committed by counting; Append goes to the sender
older : done leader (Receive 2 (Yes 3 2 1)) ≡ record { node = record leader { matched = 0 ∷ 2 ∷ 0 ∷ []; acked = 0 ∷ 1 ∷ 0 ∷ [] }; sent = [] }
unfolding done does received of_own_term agreed_to after_yes
older = refl

-- one of the own term is, and those before it
own : (done leader (Receive 3 (Yes 3 3 0))).node.commit ≡ 3
unfolding done does received of_own_term agreed_to after_yes
own = refl

-- a Yes above the last index is ignored
above : done leader (Receive 3 (Yes 3 4 0)) ≡ record { node = leader; sent = [] }
unfolding done does received of_own_term agreed_to
above = refl

-- a No steps back to the follower's last index
steps_back : done leader (Receive 2 (No 3 1)) ≡ record { node = record leader { next = 4 ∷ 2 ∷ 4 ∷ [] }; sent = record { to = 2; message = Append 3 1 2 (noop 2 ∷ noop 3 ∷ []) 0 0 } ∷ [] }
unfolding done does received of_own_term declined
steps_back = refl

-- a proposal goes to all others; a probe begins a round
proposed : done leader (Propose 7 Noop) ≡ record {
  node = record leader { log = noop 2 ∷ noop 2 ∷ noop 3 ∷ record { term = 3; number = 7; command = Noop } ∷ [] };
  sent = record { to = 2; message = Append 3 3 3 (record { term = 3; number = 7; command = Noop } ∷ []) 0 0 } ∷ record { to = 3; message = Append 3 3 3 (record { term = 3; number = 7; command = Noop } ∷ []) 0 0 } ∷ [];
}
unfolding done does proposes
proposed = refl

probed : done leader Probe ≡ record { node = record leader { round = 1 }; sent = record { to = 2; message = Append 3 3 3 [] 0 1 } ∷ record { to = 3; message = Append 3 3 3 [] 0 1 } ∷ [] }
unfolding done does probes
probed = refl

-- and is confirmed once another server has acknowledged it
unconfirmed : is_confirmed (record leader { round = 1 }) (record { term = 3; number = 1; commit = 0 }) ≡ false
unconfirmed = refl

confirmed : is_confirmed (record leader { round = 1; acked = 0 ∷ 0 ∷ 1 ∷ [] }) (record { term = 3; number = 1; commit = 0 }) ≡ true
confirmed = refl

-- a leader's timeout and its Append of its own term do nothing; a follower's proposal neither
leader_waits : done leader Timeout ≡ record { node = leader; sent = [] }
unfolding done does timed_out
leader_waits = refl

not_leader : done (follower 0) (Propose 7 Noop) ≡ record { node = follower 0; sent = [] }
unfolding done does proposes
not_leader = refl

-- a halted server does nothing
halted : done (record (follower 0) { halted = true }) (Receive 3 (AskVote 4 3 2)) ≡ record { node = record (follower 0) { halted = true }; sent = [] }
unfolding done
halted = refl

-- a single server leads at once, and commits at once
alone : (done (begun 1 1 empty_store nothing_kept) Timeout).node.commit ≡ 1
unfolding done does timed_out candidate leads
alone = refl

-- a vote counts once
once : (done (record (begun 1 5 empty_store nothing_kept) { term = 1; vote = Some 1; role = Candidate; votes = 1 ∷ 2 ∷ [] }) (Receive 2 (Vote 1 true))).node ≡ record (begun 1 5 empty_store nothing_kept) { term = 1; vote = Some 1; role = Candidate; votes = 1 ∷ 2 ∷ [] }
unfolding done does received of_own_term voted counted
once = refl

-- an Append carries at most 64 entries
sixty_four : length (batch (replicate 70 (noop 1))) ≡ 64
sixty_four = refl

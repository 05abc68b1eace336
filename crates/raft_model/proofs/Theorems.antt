-- The laws, of each reached world.
use Rattle.std.proofs.Common.{ℕ, Some, false, length, take, ◌≡◌, ◌≤◌}
use Rattle.cat_model.specs.declared.command.Entry.{Entry}
use Rattle.raft_model.proofs.Places.{is_placed, leader_begins, stands_once}
use Rattle.raft_model.proofs.Rounds.{shows_agreed}
use Rattle.raft_model.proofs.Starts.{reached_sound}
use Rattle.raft_model.proofs.Worlds.{agreement, reach_goes, step_goes}
use Rattle.raft_model.specs.Facts.{IsLeading, IsPlaced, IsReady, ShowsAgreed, StandsOnce, next_round, HasOneLeader, KeepsVotes, HasMatchingLogs}
use Rattle.cat_model.specs.Log.{IsWellFormed, IsEnteredOnce}
use Rattle.raft_model.specs.Log.{entry_at, last_term}
use Rattle.raft_model.proofs.Pairs.{ordered-well_formed, numbers-entered_once}
use Rattle.raft_model.specs.Node.{Node}
use Rattle.raft_model.specs.World.{step, Agrees, IsReached, IsServer, Move, Reaches, World, WorldStep, IsOfFirstRun}
use Rattle.raft_model.proofs.Forming.{agreed_well_formed, numbers_once}
use Rattle.raft_model.proofs.Paper.{keeps_votes, logs_match, one_leader}

pub agrees : (w : World) → IsReached w → Agrees w
agrees w r = agreement w (reached_sound w r)

pub grows : (w w' : World) (move : Move) → IsReached w → WorldStep w move w' → take (length w.agreed) w'.agreed ≡ w.agreed
grows w w' move r e = (step_goes w move w' e (reached_sound w r)).agreed

pub grows_far : (w w' : World) → IsReached w → Reaches w w' → take (length w.agreed) w'.agreed ≡ w.agreed
grows_far w w' r e = (reach_goes w w' e (reached_sound w r)).agreed

pub shows : (w : World) → IsReached w → (i : ℕ) (n : Node) → IsServer w i n → IsReady n → ShowsAgreed w (next_round n)
shows w r = shows_agreed w (reached_sound w r)

pub placed : (w : World) → IsReached w → (i : ℕ) (n : Node) → IsServer w i n → n.halted ≡ false → (m : ℕ) (e : Entry) → entry_at m n.log ≡ Some e → IsPlaced w m e
placed w r = is_placed w (reached_sound w r)

pub once : (w w' : World) → IsReached w → Reaches w w' → StandsOnce w w'
once w w' r = stands_once w (reached_sound w r) w'

pub well_formed : (w : World) → IsReached w → IsWellFormed w.agreed
well_formed w r = ordered-well_formed w.agreed (agreed_well_formed w (reached_sound w r))

pub first_run : (w : World) → IsOfFirstRun w → IsEnteredOnce w.agreed
first_run w f = numbers-entered_once w.agreed (numbers_once w f)

pub begins : (w : World) → IsReached w → (i : ℕ) (n : Node) → IsServer w i n → IsLeading n → last_term w.agreed ≤ n.term → take (length w.agreed) n.log ≡ w.agreed
begins w r i n at lead = leader_begins w (reached_sound w r) i n at lead.0 lead.1

pub leads_alone : (w : World) → IsReached w → HasOneLeader w
leads_alone w r = one_leader w (reached_sound w r)

pub matching : (w : World) → IsReached w → HasMatchingLogs w
matching w r = logs_match w (reached_sound w r)

pub keeping : (w w' : World) → IsReached w → Reaches w w' → KeepsVotes w w'
keeping w w' r = keeps_votes w (reached_sound w r) w'

-- what a call that is a step of the world promises
pub after_step : (w w' : World) (move : Move) → WorldStep w move w' → IsReached w → Agrees w' × IsReached w' × (take (length w.agreed) w'.agreed ≡ w.agreed)
after_step w w' move e r = (agrees w' (step move r e), step move r e, grows w w' move r e)

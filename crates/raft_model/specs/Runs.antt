-- Runs in which each store works: they compute, from a start with empty stores.
use Rattle.std.specs.Prelude.{◌≡◌, ℕ, true, zero, suc, List, [], ◌∷◌, replicate, get_or, Some, None, nat_lt, nat_le, ◌&&◌, Bool, length, if◌then◌else◌}
use Rattle.raft_model.specs.Node.{Store, Node, Done, begun}
use Rattle.raft_model.specs.declared.message.Message.TheVariants.{AskVote, Vote, Append, Yes}
use Rattle.raft_model.specs.Rules.{Input, Timeout, Receive, done, noop}
use Rattle.raft_model.specs.World.{World, Packet, after, without, nothing_kept, IsReached}

abbrev pub empty_store : Store
empty_store = record { contents = Some nothing_kept; armed = 0; faults = 0; sure = true }

-- servers from number id on, with empty stores
abbrev pub fresh_nodes : ℕ → ℕ → ℕ → List Node
fresh_nodes servers id zero = []
fresh_nodes servers id (suc n) = begun id servers empty_store nothing_kept ∷ fresh_nodes servers (suc id) n

unfoldable pub fresh : ℕ → World
fresh servers = record {
  nodes = fresh_nodes servers 1 servers;
  clocks = replicate servers 0;
  contacts = replicate servers None;
  bag = record { packets = []; last = 0 };
  greatest = 0;
  agreed = [];
}

-- a node after a step, with its values saved
abbrev pub saved : Node → Node → Node
saved old new = record new { store = record old.store { contents = Some (record { term = new.term; vote = new.vote; log = new.log }) } }

abbrev pub server : World → ℕ → Node
server w zero = begun 0 0 empty_store nothing_kept
server w (suc i) = get_or w.nodes i (begun 0 0 empty_store nothing_kept)

abbrev pub is_server : World → ℕ → Bool
is_server w i = nat_lt 0 i && nat_le i (length w.nodes)

-- the world once server i is given this input
unfoldable pub given : World → ℕ → Input → World
given w i input = after w i input (saved (server w i) (done (server w i) input).node) (done (server w i) input).sent

-- the world without a message
abbrev pub dropped : World → ℕ → World
dropped w k = record w { bag = record { packets = without k w.bag.packets; last = w.bag.last } }

-- the message of the lowest number is delivered and dropped
unfoldable pub first_delivered : World → List Packet → World
first_delivered w [] = w
first_delivered w (p ∷ ps) =
    if is_server w p.to then dropped (given w p.to (Receive p.from p.message)) p.number else w

-- so many of these pairs
unfoldable pub settled : ℕ → World → World
settled zero w = w
settled (suc n) w = settled n (first_delivered w w.bag.packets)

-- what node 1 of 3 is after a timeout, then a granted vote of server 2, then a Yes of server 3
abbrev pub asking : Node
asking = (done (begun 1 3 empty_store nothing_kept) Timeout).node

abbrev pub elected : Done
elected = done asking (Receive 2 (Vote 1 true))

abbrev pub committing : Done
committing = done elected.node (Receive 3 (Yes 1 1 0))

-- the first election of three servers, at node 1
pub record ElectionRow : Type 0 where
  pub asks : (done (begun 1 3 empty_store nothing_kept) Timeout).sent ≡ record { to = 2; message = AskVote 1 0 0 } ∷ record { to = 3; message = AskVote 1 0 0 } ∷ []
  pub leads : elected.sent ≡ record { to = 2; message = Append 1 0 0 (noop 1 ∷ []) 0 0 } ∷ record { to = 3; message = Append 1 0 0 (noop 1 ∷ []) 0 0 } ∷ []
  pub commits : committing.sent ≡ record { to = 2; message = Append 1 0 0 (noop 1 ∷ []) 1 0 } ∷ record { to = 3; message = Append 1 1 1 [] 1 0 } ∷ []
  pub index : committing.node.commit ≡ 1

-- three servers after a timeout of the first and all deliveries
abbrev pub after_election : World
after_election = settled 12 (given (fresh 3) 1 Timeout)

abbrev pub commits_of : List Node → List ℕ
commits_of [] = []
commits_of (n ∷ ns) = n.commit ∷ commits_of ns

-- That world is reached: twelve messages were sent and all are delivered, and index 1 is committed everywhere.
pub record CountsRow : Type 0 where
  pub reached : IsReached after_election
  pub last : after_election.bag.last ≡ 12
  pub delivered : after_election.bag.packets ≡ []
  pub commits : commits_of after_election.nodes ≡ 1 ∷ 1 ∷ 1 ∷ []
  pub agreed : after_election.agreed ≡ noop 1 ∷ []

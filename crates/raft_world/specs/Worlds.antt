-- What always holds of a world's parts.
use Rattle.std.specs.Prelude.{◌≡◌, ◌≢◌, ℕ, suc, ◌^◌, ◌<◌, ◌≤◌, min, List, [], ◌∷◌, length, get_or, Option}
use Rattle.raft_model.specs.Node.{Node}
use Rattle.raft_model.specs.World.{Packet}
use Rattle.raft_node.specs.Receiving.{CarriesAllowed}
use Rattle.raft_world.specs.declared.agreed.Agreed.{Agreed}
use Rattle.raft_world.specs.Agreeing.{count_of, Stands}

-- One of so many servers sent it to another, which may take it.
pub record MayCome (servers : ℕ) (p : Packet) : Type 0 where
  pub from : (1 ≤ p.from) × (p.from ≤ servers)
  pub to : (1 ≤ p.to) × (p.to ≤ servers)
  pub other : p.from ≢ p.to
  pub allowed : CarriesAllowed p.message

abbrev pub AllMayCome : ℕ → List Packet → Type 0
AllMayCome servers [] = Unit {0}
AllMayCome servers (p ∷ ps) = MayCome servers p × AllMayCome servers ps

-- The node at a place, of so many, where so many entries are agreed: it has that place's number, and it has not
-- committed more, nor more than its log has.
pub record IsSeated (total agreed at : ℕ) (n : Node) : Type 0 where
  pub id : n.id ≡ suc at
  pub servers : n.servers ≡ total
  pub committed : min n.commit (length n.log) ≤ agreed
  pub within : n.commit ≤ length n.log

-- What always holds of a world's parts.
pub record IsWorld (nodes : List Node) (clocks : List ℕ) (contacts : List (Option ℕ)) (packets : List Packet) (agreed : Agreed) : Type 0 where
  pub count : length nodes < 2 ^ 32
  pub has_clocks : length clocks ≡ length nodes
  pub has_contacts : length contacts ≡ length nodes
  pub seated : (at : ℕ) (n : Node) → at < length nodes → get_or nodes at n ≡ n → IsSeated (length nodes) (count_of agreed) at n
  pub come : AllMayCome (length nodes) packets
  pub stands : Stands agreed nodes

-- What holds of a run of a script on servers whose stores began empty.
use Rattle.std.specs.Prelude.{◌≡◌, ◌≢◌, ℕ, suc, ◌+◌, ◌<◌, ◌≤◌, ◌==◌, nat_le, nat_lt, ◌&&◌, Bool, true, false, List, [], ◌∷◌, length, take, Option, Some, None}
use Rattle.std.specs.List.{AllByRecursion as Each}
use Rattle.cat_model.specs.declared.command.Command.{Command}
use Rattle.cat_model.specs.declared.query.Query.{Query}
use Rattle.cat_model.specs.declared.reply.Mark.TheVariants.{Answered}
use Rattle.cat_model.specs.declared.reply.Kind.{Kind}
use Rattle.cat_model.specs.declared.reply.Kind.TheVariants as kind
use Rattle.cat_model.specs.declared.reply.Refusal.TheVariants as refusal
use Rattle.cat_model.specs.declared.request.Asked.TheVariants.{Good}
use Rattle.cat_model.specs.declared.request.Request.TheVariants.{Write}
use Rattle.cat_model.specs.Log.{IsWellFormed, IsEnteredOnce, commands_of}
use Rattle.cat_model.specs.Indexes.{index_of}
use Rattle.cat_model.specs.Machine.{catalog_at}
use Rattle.cat_model.specs.Queries.{answer}
use Rattle.raft_model.specs.Node.{Store}
use Rattle.raft_model.specs.World.{World, AreEmpty, Begins}
use Rattle.cluster_rules.specs.Replies.{Question, came, Out}
use Rattle.cluster_rules.specs.Cluster.{Pending, Cluster, applied_of, node_of, started}
use Rattle.cluster_rules.specs.Due.{due}
use Rattle.cluster_rules.specs.Legal.{StillWaits}
use Rattle.cluster_rules.specs.Reached.{Move, Reached, AreSure, AreUnarmed, moves_of}
use Rattle.cluster_rules.specs.Sound.{IsAmong, NeverEnters, OutIsSound, held_times, one_if, out_times}
use Rattle.run_rules.specs.Reads.{ReadsAreFresh, ReadsWait}

-- A start of 1 to 7 servers and up to 64 agents, from empty stores of which none is to fail, and none fails later but
-- where it is armed.
pub record IsFirstStart (c : Cluster) : Type 0 where
  pub stores : List Store
  pub world : World
  pub agents : ℕ
  pub some : (0 < length stores) × (length stores ≤ 7)
  pub few : agents ≤ 64
  pub unarmed : AreUnarmed stores
  pub sure : AreSure stores
  pub empty : AreEmpty stores
  pub begins : Begins stores world
  pub is : c ≡ started world agents

-- At prefixes of one log a query's index never falls. Where two answers differ, the longer prefix has the greater
-- index, and it is above the shorter prefix.
pub record IndexesTell (log : List Command) : Type 0 where
  pub grow : (query : Query) (shorter longer : ℕ) → shorter ≤ longer → longer ≤ length log → index_of query (take shorter log) ≤ index_of query (take longer log)
  pub tell : (query : Query) (shorter longer : ℕ) → shorter ≤ longer → longer ≤ length log → answer query (catalog_at (take shorter log)) ≢ answer query (catalog_at (take longer log)) →
      (shorter < index_of query (take longer log)) × (index_of query (take shorter log) < index_of query (take longer log))

-- What holds of the cluster at the end of a run, and of all the outs that were taken in it.
pub record Holds (start : Cluster) (outs : List Out) (c : Cluster) : Type 0 where
  -- the marks, taken as moves, lead from the start to this cluster, and each event was whole
  pub leads : Reached start true (moves_of c.past) c
  -- each server has applied a front of one agreed log
  pub fronts : (server : ℕ) → applied_of c server ≡ take (length (applied_of c server)) c.world.agreed
  -- which is well formed and has each request at most once
  pub formed : IsWellFormed c.world.agreed
  pub once : IsEnteredOnce c.world.agreed
  -- and at whose prefixes indexes tell answers apart
  pub indexes : IndexesTell (commands_of c.world.agreed)
  -- each out that was taken is that of its mark: it shows what the agreed log holds, and what it rests on lasts
  pub sound : Each (OutIsSound c.world c.past) outs
  -- each request that was asked has one out or is still held, and there are no others
  pub answered : (k : ℕ) → held_times k c.held + out_times k outs ≡ one_if (nat_lt 0 k && nat_le k c.asked)
  -- the entry of a write that was answered that its leadership was lost is in no agreed log, then or later
  pub lost : (number old found : ℕ) (known : Bool) (contact : ℕ) → IsAmong (Answered number (kind.Refused (refusal.Lost old found)) known contact) c.past →
      (q : Question) × IsAmong (came q) c.past × (q.number ≡ number) × ((command : Command) → q.asked ≡ Good (Write command) → NeverEnters c.world old number)
  -- no server is behind, so what is held still waits for what it must
  pub none_behind : (server : ℕ) → due server c ≡ None
  pub waits : (server : ℕ) → (node_of c.world server).halted ≡ false → Each (λ (h : Pending). h.server ≡ server → StillWaits c server h h.stand) c.held
  pub taken : c.tray ≡ []
  -- A read was answered with an index above the one given, or after its full wait by the clock of the server that held it,
  -- and as fresh as its mode asks.
  pub reads_wait : ReadsWait c.starts c.past
  pub reads_fresh : ReadsAreFresh c

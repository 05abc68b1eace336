-- What the parts of a cluster have to do with each other.
use Rattle.std.specs.Prelude.{◌≡◌, ◌⊎◌, ℕ, ◌<◌, ◌≤◌, true, List, length}
use Rattle.std.specs.List.{AllByRecursion as Each}
use Rattle.cat_model.specs.declared.request.Asked.{Asked}
use Rattle.cat_model.specs.declared.request.Asked.TheVariants.{Good}
use Rattle.cat_model.specs.declared.request.Request.TheVariants.{Read}
use Rattle.cat_model.specs.Channels.{chans}
use Rattle.cat_model.specs.Indexes.{index_of}
use Rattle.cat_model.specs.Log.{commands_of}
use Rattle.cat_model.specs.Machine.{catalog_at}
use Rattle.raft_model.specs.Log.{Log}
use Rattle.raft_model.specs.World.{World}
use Rattle.cluster_works.specs.Watching.{Watching, IsInLine, MayBeDue, Sleeps}
use Rattle.cat_model.specs.Taken.{IsTakenAsked}
use Rattle.cluster_rules.specs.Cluster.{Stand, AtPlace, ForIndex, Pending, Server, server_of}
use Rattle.cluster_rules.specs.Sound.{Ascends}
use Rattle.cluster_requests.specs.Requests.{Requests}

-- A write waits for its place at a server that has applied so many positions: the place is not among them, or it is the
-- last of them.
abbrev pub IsAwaited : (applied : ℕ) → Stand → Type 0
IsAwaited applied (AtPlace index term) = applied ≤ index
IsAwaited applied other = Unit {0}

-- A read sleeps at its server, on just the channels of what it reads there, and its index is not above the one given.
abbrev pub Rests : Watching → Log → (server number : ℕ) → Asked → Stand → Type 0
Rests watch applied server number (Good (Read query mode least wait raw)) (ForIndex deadline true) =
    Sleeps server number (chans query (catalog_at (commands_of applied))) deadline watch × (index_of query (commands_of applied) ≤ least)
Rests watch applied server number asked stand = ⊥

-- A held request of which nothing may be due rests, so that nothing is due of it before its server applies what changes its answer
-- or its time is over, or it is in line at its server for what it waits for.
abbrev pub IsWatched : Watching → Log → Pending → Type 0
IsWatched watch applied h = MayBeDue h.question.number watch ⊎ (Rests watch applied h.server h.question.number h.question.asked h.stand ⊎ IsInLine h.server h.question.number h.stand watch)

-- a held request is one of those that are taken so far, with a number that was given, and is watched
pub record IsHeld (watch : Watching) (servers : List Server) (asked : ℕ) (h : Pending) : Type 0 where
  pub numbered : h.question.number ≤ asked
  pub taken : IsTakenAsked h.question.asked
  pub awaited : IsAwaited (length (server_of servers h.server).applied) h.stand
  pub watched : IsWatched watch (server_of servers h.server).applied h

-- There is one server at least, the world has as many nodes, no proposal has a number above those that were given, and
-- held requests stand in the order of their numbers, each watched. Nothing of it rests on what the stores held.
pub record Stands (watch : Watching) (w : World) (servers : List Server) (r : Requests) : Type 0 where
  pub some : 0 < length servers
  pub count : length servers ≡ length w.nodes
  pub watching : (length watch.watch.servers ≡ length servers) × (watch.seen ≤ r.asked)
  pub proposed : w.greatest ≤ r.asked
  pub ascends : Ascends r.held
  pub held : Each (IsHeld watch servers r.asked) r.held

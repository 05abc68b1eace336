-- A step of a server that is marked is one of the rules' cluster, and leaves the parts as they have to be.
use Rattle.std.proofs.Common.{◌≡◌, ℕ, ◌≤◌, Bool, List, length, refl, sym, ◌∙◌, ap, subst, arith}
use Rattle.cat_model.specs.declared.reply.Mark.{Mark}
use Rattle.raft_model.specs.World.{World}
use Rattle.cluster_rules.specs.Cluster.{Cluster, Server}
use Rattle.cluster_rules.specs.Requests.{moved_with}
use Rattle.cluster_requests.specs.Requests.{Requests, cluster_of as whole_of, halted_with, joining}
use Rattle.cluster_works.specs.Moving.{IsMarked}
use Rattle.cluster_works.specs.Standing as standing
use Rattle.cluster_works.proofs.Carried.{AsMany}
use Rattle.cluster_rules.specs.Agents.{Agent}
use Rattle.cluster_works.specs.Watching.{Watching}

module _ (gs : List Agent) (wt : Watching) where
  -- the cluster of these parts, with these agents
  abbrev cluster_of : World → List Server → Requests → Cluster
  cluster_of w servers r = whole_of w servers gs r

  abbrev Stands : World → List Server → Requests → Type 0
  Stands w servers r = standing.Stands wt w servers r

  -- the same requests with other marks and another room, in a world of as many servers
  marks_stand : (w w' : World) (servers : List Server) (r : Requests) (past : List Mark) (room : ℕ) → Stands w servers r → AsMany w w' → w'.greatest ≤ r.asked → Stands w' servers (record r { past = past; room = room })
  marks_stand w w' servers r past room s many greatest = record {
    some = s.some;
    count = s.count ∙ sym many;
    watching = s.watching;
    proposed = greatest;
    ascends = s.ascends;
    held = s.held;
  }

  -- the same requests in a world of as many servers
  pub world_stands : (w w' : World) (servers : List Server) (r : Requests) → Stands w servers r → AsMany w w' → w'.greatest ≡ w.greatest → Stands w' servers r
  world_stands w w' servers r s many greatest = marks_stand w w' servers r r.past r.room s many (omega (arith, greatest, s.proposed))

  -- room is no matter of what the parts have to do with each other
  pub with_room : (w : World) (servers : List Server) (r r' : Requests) (room : ℕ) → Stands w servers r → r' ≡ record r { room = room } → Stands w servers r' × (cluster_of w servers r' ≡ cluster_of w servers r)
  with_room w servers r r' room s e = (subst (Stands w servers) (sym e) (marks_stand w w servers r r.past room s refl s.proposed), ap (cluster_of w servers) e)

  pub stands_proposed : (failed : Bool) (i : ℕ) (w w' : World) (servers : List Server) (r r' : Requests) → Stands w servers r → AsMany w w' → w'.greatest ≤ r.asked
      → IsMarked failed i (length w.agreed) w'.agreed r r' → Stands w' servers r'
  stands_proposed failed i w w' servers r r' s many g m =
      subst (Stands w' servers) (sym m) (marks_stand w w' servers r (joining (length w.agreed) w'.agreed (halted_with failed i r)).past r.room s many g)

  pub stands_marked : (failed : Bool) (i : ℕ) (w w' : World) (servers : List Server) (r r' : Requests) → Stands w servers r → AsMany w w' → w'.greatest ≡ w.greatest
      → IsMarked failed i (length w.agreed) w'.agreed r r' → Stands w' servers r'
  stands_marked failed i w w' servers r r' s many g m = stands_proposed failed i w w' servers r r' s many (omega (arith, g, s.proposed)) m

  pub cluster_marked : (failed : Bool) (i : ℕ) (w w' : World) (servers : List Server) (r r' : Requests) → IsMarked failed i (length w.agreed) w'.agreed r r' → cluster_of w' servers r' ≡ moved_with failed i w' (cluster_of w servers r)
  cluster_marked failed i w w' servers r r' m = ap (cluster_of w' servers) m

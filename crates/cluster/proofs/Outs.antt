-- The taking of outs.
use Rattle.std.proofs.Common.{◌≡◌, ℕ, List, [], ◌++◌, Option, None, Some, refl, ap, ◌∙◌, subst}
use Rattle.cat_model.specs.declared.reply.Mark.{Mark}
use Rattle.std.specs.Prelude.{IfNone, IfSome}
use Rattle.raft_model.specs.World.{World}
use Rattle.cluster_rules.specs.Replies.{Out, Replied, Closed, number_of}
use Rattle.cluster_rules.specs.Cluster.{Cluster, Server}
use Rattle.run_rules.specs.Plays.{taken}
use Rattle.cluster_requests.specs.Past.{taken_past}
use Rattle.cluster_requests.specs.Requests.{Requests, cluster_of as whole_of}
use Rattle.cluster_requests.specs.Taking as own
use Rattle.cluster_requests.specs.declared.collected.Collected.{Collected}
use Rattle.cluster_requests.specs.declared.collected.Collected.TheVariants as collected
use Rattle.cluster_works.specs.Standing as standing
use Rattle.cluster_interface.specs.Interface.{TakesFirst}
use Rattle.cluster_interface.specs.Taking.{Collects, Takes}
use Rattle.cluster_rules.specs.Agents.{Agent}
use Rattle.cluster_works.specs.Watching.{Watching}
use Rattle.cluster.proofs.Results.{stands_alike}

module _ (gs : List Agent) (wt : Watching) where
  -- the cluster of these parts, with these agents
  abbrev cluster_of : World → List Server → Requests → Cluster
  cluster_of w servers r = whole_of w servers gs r

  abbrev Stands : World → List Server → Requests → Type 0
  Stands w servers r = standing.Stands wt w servers r

  noted_taken : (number : Option ℕ) (past : List Mark) → taken_past number past ≡ taken number past
  noted_taken None past = refl
  noted_taken (Some number) past = refl

  taken_first : (w : World) (servers : List Server) (old new : Requests) (c : Cluster) (out : Out) → cluster_of w servers old ≡ c → own.TakesFirst out old new → TakesFirst c (cluster_of w servers new) (Some out)
  taken_first w servers old new c out view takes =
      subst (λ (d : Cluster). TakesFirst d (cluster_of w servers new) (Some out)) view
      (new.tray, takes.0, ap (λ (r : Requests). cluster_of w servers r) takes.1 ∙ ap (λ past. record (cluster_of w servers old) { tray = new.tray; past = past }) (noted_taken (number_of out) old.past))

  none_taken : (w : World) (servers : List Server) (old new : Requests) (c : Cluster) → cluster_of w servers old ≡ c → old.tray ≡ [] → new ≡ old → TakesFirst c (cluster_of w servers new) None
  none_taken w servers old new c view none same =
      subst (λ (d : Cluster). TakesFirst d (cluster_of w servers new) None) view (none, ap (λ (r : Requests). cluster_of w servers r) same)

  pub takes : (w : World) (servers : List Server) (old new : Requests) (c : Cluster) (taken : Option Out) → cluster_of w servers old ≡ c
      → IfNone taken ((old.tray ≡ []) × (new ≡ old)) → IfSome taken (λ out. own.TakesFirst out old new) → TakesFirst c (cluster_of w servers new) taken
  takes w servers old new c None view none some = none_taken w servers old new c view none.0 none.1
  takes w servers old new c (Some out) view none some = taken_first w servers old new c out view some

  -- an out from anywhere in the tray
  taken_out : (w : World) (servers : List Server) (old new : Requests) (c : Cluster) (out : Out) → cluster_of w servers old ≡ c → own.Takes out old new → Takes out c (cluster_of w servers new)
  taken_out w servers old new c out view t =
      subst (λ (d : Cluster). Takes out d (cluster_of w servers new)) view record {
        before = t.before;
        after = t.after;
        there = t.there;
        is = ap (λ (r : Requests). cluster_of w servers r) t.is ∙ ap (λ past. record (cluster_of w servers old) { tray = t.before ++ t.after; past = past }) (noted_taken (number_of out) old.past);
      }

  -- nothing was taken
  same_cluster : (w : World) (servers : List Server) (old new : Requests) (c : Cluster) → cluster_of w servers old ≡ c → new ≡ old → cluster_of w servers new ≡ c
  same_cluster w servers old new c view same = ap (λ (r : Requests). cluster_of w servers r) same ∙ view

  pub collects : (w : World) (servers : List Server) (old new : Requests) (c : Cluster) (number : ℕ) (got : Collected) → cluster_of w servers old ≡ c → own.IsCollected number got old new → Collects number got c (cluster_of w servers new)
  collects w servers old new c number (collected.Ready reply) view is = (taken_out w servers old new c (Replied reply) view is.0, is.1)
  collects w servers old new c number (collected.Closed event) view is = taken_out w servers old new c (Closed number event) view is
  collects w servers old new c number (collected.NotYet wanted) view is =
      (same_cluster w servers old new c view is.0, rw (ap (λ (d : Cluster). d.tray) view) at is.1, rw (ap (λ (d : Cluster). d.held) view) at is.2)
  collects w servers old new c number collected.Gone view is =
      (same_cluster w servers old new c view is.0, rw (ap (λ (d : Cluster). d.tray) view) at is.1, rw (ap (λ (d : Cluster). d.held) view) at is.2)

  -- what stands of a cluster, stands once an out was taken
  pub collect_stands : (w : World) (servers : List Server) (old new : Requests) (number : ℕ) (got : Collected) → own.IsCollected number got old new → Stands w servers old → Stands w servers new
  collect_stands w servers old new number (collected.Ready reply) is s = stands_alike s is.0.is refl refl
  collect_stands w servers old new number (collected.Closed event) is s = stands_alike s is.is refl refl
  collect_stands w servers old new number (collected.NotYet wanted) is s = stands_alike s is.0 refl refl
  collect_stands w servers old new number collected.Gone is s = stands_alike s is.0 refl refl

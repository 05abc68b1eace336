-- A request comes and is refused at once.
use Rattle.std.proofs.Common.{◌≡◌, ℕ, suc, ◌+◌, ◌≤◌, false, List, ◌∷◌, Result, Ok, Err, refl, ap, ◌∙◌, arith}
use Rattle.std.specs.Prelude.{OnOk, OnErr}
use Rattle.cat_model.specs.declared.request.Asked.{Asked}
use Rattle.cat_model.specs.declared.request.Draw.{Draw}
use Rattle.cat_model.specs.declared.request.Event.TheVariants as event
use Rattle.cat_model.specs.declared.reply.Kind.TheVariants.{Refused}
use Rattle.cat_model.specs.declared.reply.Mark.TheVariants as mark
use Rattle.cat_model.specs.declared.reply.Refusal.{Refusal}
use Rattle.raft_model.specs.World.{World}
use Rattle.cluster_rules.specs.Cluster.{Cluster, Server}
use Rattle.cluster_rules.specs.Replies.{Says, shown}
use Rattle.cluster_rules.specs.Requests.{refused}
use Rattle.cluster_rules.specs.Step.{marked}
use Rattle.cluster_order.specs.Turns.{newest}
use Rattle.cluster_requests.specs.Requests.{Requests, answered_with, came_with, cluster_of as whole_of}
use Rattle.cluster_works.specs.Standing as standing
use Rattle.cluster_works.proofs.Kept.{answer_stands, call_stands}
use Rattle.cluster_rules.specs.Agents.{Agent}
use Rattle.cluster_works.specs.Watching.{Watching}
use Rattle.cluster.proofs.Results.{stands_more}

module _ (gs : List Agent) (wt : Watching) where
  -- the cluster of these parts, with these agents
  abbrev cluster_of : World → List Server → Requests → Cluster
  cluster_of w servers r = whole_of w servers gs r

  abbrev Stands : World → List Server → Requests → Type 0
  Stands w servers r = standing.Stands wt w servers r

  -- the requests with it
  abbrev pub with_refused : ℕ → Asked → Draw → Refusal → Requests → Requests
  with_refused agent asked draw why r = answered_with (r.asked + 1) (Refused why) false 0 (Says why) (came_with agent asked draw r)

  -- the cluster with it
  abbrev pub refused_new : ℕ → Asked → Draw → Refusal → Cluster → Cluster
  refused_new agent asked draw why c = let come = marked (event.Ask agent asked draw) c in refused (newest agent asked draw come) why come

  refused_is : (w : World) (servers : List Server) (r : Requests) (agent : ℕ) (asked : Asked) (draw : Draw) (why : Refusal) → cluster_of w servers (with_refused agent asked draw why r) ≡ refused_new agent asked draw why (cluster_of w servers r)
  unfolding shown
  refused_is w servers r agent asked draw why =
      let next : r.asked + 1 ≡ suc r.asked = omega arith in
      ap (λ k. cluster_of w servers (answered_with k (Refused why) false 0 (Says why) (record r { asked = k; past = mark.Asked k agent asked draw ∷ r.past }))) next

  came_stands : (w : World) (servers : List Server) (r : Requests) (agent : ℕ) (asked : Asked) (draw : Draw) → Stands w servers r → Stands w servers (came_with agent asked draw r)
  came_stands w servers r agent asked draw s = let more : r.asked ≤ r.asked + 1 = omega arith in stands_more s refl more refl

  pub refused_stands : {A B : Type 0} (w : World) (servers : List Server) (r new : Requests) (agent : ℕ) (asked : Asked) (draw : Draw) (why : Refusal) (result : Result A B) → Stands w servers r
      → OnOk result (new ≡ with_refused agent asked draw why r) → OnErr result (new ≡ r) → Stands w servers new
  refused_stands w servers r new agent asked draw why result s ok err =
      call_stands wt w servers r (with_refused agent asked draw why r) new result s
      (answer_stands wt w servers (came_with agent asked draw r) (r.asked + 1) (Refused why) false 0 (Says why) (came_stands w servers r agent asked draw s)) ok err

  pub refused_done : {A B : Type 0} (w : World) (servers : List Server) (r new : Requests) (c : Cluster) (agent : ℕ) (asked : Asked) (draw : Draw) (why : Refusal) (result : Result A B) → cluster_of w servers r ≡ c
      → OnOk result (new ≡ with_refused agent asked draw why r) → OnOk result (cluster_of w servers new ≡ refused_new agent asked draw why c)
  refused_done w servers r new c agent asked draw why (Err b) view ok = tt
  refused_done w servers r new c agent asked draw why (Ok a) view ok = ap (cluster_of w servers) ok ∙ refused_is w servers r agent asked draw why ∙ ap (refused_new agent asked draw why) view

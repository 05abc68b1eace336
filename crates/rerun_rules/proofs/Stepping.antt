-- What a step of one server makes of a world in which server 1 is ahead, where there was memory.
use Rattle.std.proofs.Common.{◌≡◌, ◌≢◌, ℕ, ◌<◌, ◌≤◌, List, length, refl, ◌∙◌, ap, subst}
use Rattle.raft_model.specs.declared.message.Sent.{Sent}
use Rattle.raft_model.specs.Node.{Node}
use Rattle.raft_model.specs.Rules.{Input, done}
use Rattle.raft_model.specs.Step.{Forgets, LogFails, NodeStep, Outcome, VoteFails, Works}
use Rattle.raft_model.specs.World.{Acts as NodeActs, World, posted_all}
use Rattle.cluster_rules.specs.Cluster.{no_node, node_of}
use Rattle.cluster_rules.proofs.Tools.{is_node, is_place, item_other, item_same, length_set_server}
use Rattle.rerun_rules.proofs.Ahead.{IsAhead, IsWell, call_fails, vote_saved}

-- With a reliable store and with memory a step works.
step_works : (o : Outcome) (old : Node) (input : Input) (new : Node) (sent : List Sent) → NodeStep o old input new sent → IsWell old → o ≢ Forgets → (new ≡ record (done old input).node { store = new.store }) × (sent ≡ (done old input).sent)
step_works Works old input new sent (between, v, g, e, s) w r = (e, s)
step_works VoteFails old input new sent (v, f, e, s) w r = absurd (call_fails _ old.store new.store f w.store)
step_works LogFails old input new sent (between, v, g, f, e, s) w r = absurd (call_fails _ between new.store f (vote_saved old (done old input).node old.store between v w.store))
step_works Forgets old input new sent (v, c, g, e, s) w r = absurd (r refl)

-- what a step of one server makes of the world
module _ (w : World) (i : ℕ) (input : Input) (w' : World) (ahead : IsAhead w) (a : NodeActs w i input w') (r : a.outcome ≢ Forgets) where
  pub place : (0 < i) × (i ≤ length w.nodes)
  place = is_place w i a.old a.server

  pub was : node_of w i ≡ a.old
  was = is_node w i a.old a.server

  pub well : IsWell a.old
  well = subst IsWell was (ahead.well i place.0 place.1)

  pub works : (a.new ≡ record (done a.old input).node { store = a.new.store }) × (a.sent ≡ (done a.old input).sent)
  works = step_works a.outcome a.old input a.new a.sent a.step well r

  pub now : node_of w' i ≡ record (done a.old input).node { store = a.new.store }
  now = ap (λ (z : World). node_of z i) a.becomes ∙ item_same no_node w.nodes i a.new place.0 place.1 ∙ works.0

  pub count : length w'.nodes ≡ length w.nodes
  count = ap (λ (z : World). length z.nodes) a.becomes ∙ length_set_server w.nodes i a.new

  pub others : (j : ℕ) → j ≢ i → node_of w' j ≡ node_of w j
  others j d = ap (λ (z : World). node_of z j) a.becomes ∙ item_other no_node w.nodes i j a.new d

  pub bag_then : w'.bag ≡ posted_all i (done a.old input).sent w.bag
  bag_then = ap (λ (z : World). z.bag) a.becomes ∙ ap (λ (s : List Sent). posted_all i s w.bag) works.1

-- A query hangs on one channel or on two.
use Rattle.std.proofs.Common.{◌≤◌, Bool, true, false, cond, [], ◌∷◌, length, arith, is_some}
use Rattle.cat_model.specs.Catalog.{Catalog, kv_at}
use Rattle.cat_model.specs.Indexes.{has_name, has_node}
use Rattle.cat_model.specs.Channels.{chans}
use Rattle.cat_model.specs.declared.query.Query.{Query}
use Rattle.cat_model.specs.declared.query.Query.TheVariants as q
use Rattle.cat_model.specs.declared.query.Chan.{Chan}
use Rattle.cat_model.specs.declared.query.Chan.TheVariants.{Service, Vanished, Node, NodeGone, Key, Reaped}

few_or : (chan other : Chan) (b : Bool) → length (chan ∷ cond b [] (other ∷ [])) ≤ 2
few_or chan other true = omega arith
few_or chan other false = omega arith

pub few_chans : (query : Query) (k : Catalog) → length (chans query k) ≤ 2
unfolding chans
few_chans q.Nodes k = omega arith
few_chans q.Services k = omega arith
few_chans (q.Service name tags) k = few_or (Service name) Vanished (has_name name k)
few_chans (q.NodeServices node) k = few_or (Node node) NodeGone (has_node node k)
few_chans (q.HealthService name tags passing) k = few_or (Service name) Vanished (has_name name k)
few_chans (q.HealthChecks name) k = omega arith
few_chans (q.HealthNode node) k = omega arith
few_chans (q.HealthState state) k = omega arith
few_chans (q.Key key) k = few_or (Key key) Reaped (is_some (kv_at key k.kv))
few_chans (q.Prefix prefix) k = omega arith
few_chans (q.Keys prefix separator) k = omega arith
few_chans (q.SessionInfo id) k = omega arith
few_chans (q.SessionsOf node) k = omega arith
few_chans q.Sessions k = omega arith
few_chans (q.QueryInfo id) k = omega arith
few_chans q.Queries k = omega arith

-- Where requests go. A write that goes to a server goes to one that leads.
use Rattle.std.proofs.Common.{◌≡◌, ℕ, true, false, length, Some, refl, ap}
use Rattle.cat_model.specs.declared.command.Command.{Command}
use Rattle.cat_model.specs.declared.request.Asked.{Asked}
use Rattle.cat_model.specs.declared.request.Asked.TheVariants.{Good}
use Rattle.cat_model.specs.declared.request.Request.{Request}
use Rattle.cat_model.specs.declared.request.Request.TheVariants.{Read, Execute, Write, Renew, Agent}
use Rattle.raft_model.specs.World.{World}
use Rattle.cluster_rules.specs.Cluster.{Cluster, runs_leading}
use Rattle.cluster_rules.specs.Requests.{Goes, asked_server, is_stale_read, way, way_of}
use Rattle.cluster_rules.proofs.Asking.{goes_leading}
use Rattle.cluster_order.specs.AgentEvents.{is_for_agent}
use Rattle.cluster_order.specs.Turns.{GoesBy}

pub write_leads : (c : Cluster) (agent i : ℕ) (asked : Asked) (command : Command) → asked ≡ Good (Write command) → GoesBy agent asked (Goes i) c → runs_leading c.world i ≡ true
write_leads c agent i asked command e goes = goes_leading c.world (asked_server (length c.servers) agent) i asked goes (ap is_stale_read e)

-- the way of a request that is one, and that no agent answers
pub way_is : (w : World) (a : ℕ) (request : Request) → is_for_agent (Good request) ≡ false → way w a (Good request) ≡ Some (way_of w a (is_stale_read (Good request)))
way_is w a (Read query mode least wait raw) t = refl
way_is w a (Write command) t = refl
way_is w a (Execute name limit mode) t = refl
way_is w a (Renew id) t = refl
way_is w a (Agent op) t = absurd (cc t)

use denote.Param.{param}
use denote.Param.Send.{IsSend, arg_send, sendable, view_send, param_send, recorded_send, struct_send}
use denote.Exit.{no}
use denote.Struct.Declared as declared
use Rattle.std.proofs.Crossing.{crosses}
use Rattle.cluster_works.specs.contracts.agents.Agents as agents
use Rattle.cluster_works.specs.contracts.agents.Agents.TheInside as inner
use Rattle.cluster_works.specs.contracts.watch.Watching as watching
use Rattle.cluster_works.specs.contracts.watch.Watching.TheInside as watched
use Rattle.cluster.specs.contracts.cluster.Cluster as whole
use Rattle.cluster.specs.contracts.cluster.Cluster.TheInside as inside
use Rattle.catalog_top.proofs.thread_safety.clusters_send.Goals as goal

pub sends-requires-send-T : goal.sends-requires-send-T
sends-requires-send-T g c κs within =
    let b : IsSend inner.the_row = recorded_send (inner.the_field).row _ _ (inner.the_type).to_one (struct_send (declared.shape inner.the_type) (search (sendable, crosses, c.agents_send.ensures) depth 24, tt)) in
    let a : IsSend agents.the_row = view_send _ _ _ _ _ b in
    let v : IsSend watched.the_row = recorded_send (watched.the_field).row _ _ (watched.the_type).to_one (struct_send (declared.shape watched.the_type) (c.watches_send.ensures, (search sendable, tt))) in
    let w : IsSend watching.the_row = view_send _ _ _ _ _ v in
    let i : IsSend (inside.the_row (param 0 g.row.K) g.K.Keeper) = recorded_send (inside.the_field (param 0 g.row.K) g.K.Keeper).row _ _ (inside.the_type (param 0 g.row.K) g.K.Keeper).to_one (struct_send (declared.shape (inside.the_type (param 0 g.row.K) g.K.Keeper)) (c.servers_send.ensures, (a, (c.requests_send.ensures, (w, tt))))) in
    let s : IsSend (whole.the_row (param 0 g.row.K) g.K.Keeper) = view_send _ _ _ _ _ i in param_send 0 _ (arg_send _ no _ s)

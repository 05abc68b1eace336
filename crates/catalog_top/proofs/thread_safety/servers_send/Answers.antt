use denote.Param.{param}
use denote.Param.Send.{IsSend, arg_send, view_send, param_send, recorded_send, struct_send}
use denote.Exit.{no}
use denote.Struct.Declared as declared
use Rattle.std.proofs.Crossing.{Vec-send}
use Rattle.cluster_replicas.specs.contracts.servers.Servers as whole
use Rattle.cluster_replicas.specs.contracts.servers.Servers.TheInside as inside
use Rattle.catalog_top.proofs.thread_safety.servers_send.Goals as goal

pub sends-requires-send-T : goal.sends-requires-send-T
sends-requires-send-T g c κs within =
    let i : IsSend (inside.the_row (param 0 g.row.K) g.K.Keeper) = recorded_send (inside.the_field (param 0 g.row.K) g.K.Keeper).row _ _ (inside.the_type (param 0 g.row.K) g.K.Keeper).to_one (struct_send (declared.shape (inside.the_type (param 0 g.row.K) g.K.Keeper)) (c.worlds_send.ensures, (Vec-send _ c.replicas_send.ensures, tt))) in
    let s : IsSend (whole.the_row (param 0 g.row.K) g.K.Keeper) = view_send _ _ _ _ _ i in param_send 0 _ (arg_send _ no _ s)

use denote.Param.Send.{IsSend, arg_send, sendable, view_send, param_send, recorded_send, struct_send}
use denote.Exit.{no}
use denote.Struct.Declared as declared
use Rattle.std.proofs.Crossing.{crosses}
use Rattle.applied_state.specs.contracts.delays.Delays as kept
use Rattle.applied_state.specs.contracts.replica.Replica as replica
use Rattle.applied_state.specs.contracts.replica.Replica.TheInside as inside
use Rattle.catalog_top.proofs.thread_safety.replicas_send.Goals as goal

pub sends-requires-send-T : goal.sends-requires-send-T
sends-requires-send-T c κs =
    let d : IsSend (kept.the_field).row = struct_send (declared.shape kept.the_type) (c.delays_send.ensures, (search (sendable, crosses) depth 24, (search sendable, tt))) in
    let i : IsSend inside.the_row = recorded_send (inside.the_field).row _ _ (inside.the_type).to_one (struct_send (declared.shape inside.the_type)
    (c.stores_send.ensures, (search (sendable, crosses) depth 24, (search (sendable, c.applieds_send.ensures) depth 12, (search sendable, (c.offices_send.ensures, (c.timers_send.ensures, (d, tt)))))))) in
    let s : IsSend replica.the_row = view_send _ _ _ _ _ i in param_send 0 _ (arg_send _ no _ s)

use denote.Param.Send.{IsSend, arg_send, sendable, view_send, param_send, recorded_send, struct_send}
use denote.Exit.{no}
use denote.Struct.Declared as declared
use Rattle.std.proofs.Crossing.{Vec-send}
use Rattle.catalog_store.specs.contracts.tables.Tables as tables
use Rattle.catalog_store.specs.contracts.store.Store as store
use Rattle.catalog_store.specs.contracts.store.Store.TheInside as inside
use Rattle.stale_view.proofs.thread_safety.stores_send.Goals as goal

pub sends-requires-send-T : goal.sends-requires-send-T
sends-requires-send-T c κs =
    let t : IsSend (tables.the_field).row = struct_send (declared.shape tables.the_type) (search sendable, (search sendable, (c.kv_sends.ensures, (c.catalog_sends.ensures, (c.sessions_send.ensures, (c.queries_send.ensures, (c.indexes_send.ensures, tt))))))) in
    let i : IsSend inside.the_row = recorded_send (inside.the_field).row _ _ (inside.the_type).to_one (struct_send (declared.shape inside.the_type) (t, (Vec-send _ c.commands_send.ensures, tt))) in
    let s : IsSend store.the_row = view_send _ _ _ _ _ i in param_send 0 _ (arg_send _ no _ s)

use denote.Param.Send.{IsSync, arg_sync, sendable, view_sync, param_sync, recorded_sync, struct_sync}
use denote.Exit.{no}
use denote.Struct.Declared as declared
use Rattle.std.proofs.Crossing.{Vec-sync}
use Rattle.catalog_store.specs.contracts.tables.Tables as tables
use Rattle.catalog_store.specs.contracts.store.Store as store
use Rattle.catalog_store.specs.contracts.store.Store.TheInside as inside
use Rattle.stale_view.proofs.thread_safety.stores_share.Goals as goal

pub shares-requires-sync-T : goal.shares-requires-sync-T
shares-requires-sync-T c κs =
    let t : IsSync (tables.the_field).row = struct_sync (declared.shape tables.the_type) (search sendable, (search sendable, (c.kv_shares.ensures, (c.catalog_shares.ensures, (c.sessions_share.ensures, (c.queries_share.ensures, (c.indexes_share.ensures, tt))))))) in
    let i : IsSync inside.the_row = recorded_sync (inside.the_field).row _ _ (inside.the_type).to_one (struct_sync (declared.shape inside.the_type) (t, (Vec-sync _ c.commands_share.ensures, tt))) in
    let s : IsSync store.the_row = view_sync _ _ _ _ _ i in param_sync 0 _ (arg_sync _ no _ s)

-- What the timekeeper has may go to another thread. The table of paths is of another crate, so no proof of the whole is
-- made by itself.
use denote.RattleType.{RattleType}
use denote.Param.Send.{IsSend, IsSync, recorded_send, sendable, struct_send}
use denote.Struct.Declared as declared
use Rattle.std.proofs.Crossing.{Arc-send}
use Rattle.std.proofs.sync.atomic.AtomicBool.TheSendSync as flag
use Rattle.http_routes.specs.contracts.route_requests.Routes as routes
use Rattle.crossbeam_utils.proofs.cache_padded.CachePadded.TheSendSync as padded
use Rattle.turn_lock.specs.declared.history.History.{Ghosts}
use Rattle.turn_lock.proofs.lock.HistoryLock.TheSendSync as lock
use Rattle.turn_lock.specs.contracts.lock.HistoryLock as shared
use Rattle.turn_lock.proofs.lock.Pass.TheSendSync as pass
use Rattle.http_connections.specs.contracts.run.Server as server
use Rattle.http_connections.specs.contracts.timekeeper.Timekeeper as keeper

module _ (R S Cl G V M : RattleType) (H : Ghosts S.Denot M.Denot) where
  server_sends : IsSend R → IsSend S → IsSend Cl → IsSend G → IsSync G → IsSend V → IsSend routes.the_row → IsSync routes.the_row → IsSend (server.the_field R S Cl G V M H).row
  server_sends r s cl g h v p q = struct_send (declared.shape (server.the_type R S Cl G V M H))
      (r, (search sendable, (Arc-send _ (padded.the_send (shared.the_row S M H) (search (sendable, lock.the_send, s) depth 24)) (padded.the_sync (shared.the_row S M H) (search (sendable, lock.the_sync, s) depth 24)), (cl, (Arc-send _ g h, (Arc-send _ p q, (search sendable, (v, tt))))))))

  pub keeper_sends : IsSend R → IsSend S → IsSend Cl → IsSend G → IsSync G → IsSend V → IsSend routes.the_row → IsSync routes.the_row → IsSend (keeper.the_row R S Cl G V M H)
  keeper_sends r s cl g h v p q = recorded_send (keeper.the_field R S Cl G V M H).row _ _ (keeper.the_type R S Cl G V M H).to_one (struct_send (declared.shape (keeper.the_type R S Cl G V M H))
      (server_sends r s cl g h v p q, (Arc-send _ flag.the_send flag.the_sync, (search (sendable, pass.the_field_send, s) depth 24, tt))))

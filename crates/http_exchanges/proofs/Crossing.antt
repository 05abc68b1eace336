-- What a connection's job has may go to another thread. The table of paths is of another crate, so no proof of the whole
-- is made by itself.
use denote.RattleType.{RattleType}
use denote.Param.Send.{IsSend, IsSync, recorded_send, sendable, struct_send}
use denote.Struct.Declared as declared
use Rattle.std.proofs.Crossing.{Arc-send}
use Rattle.http_routes.specs.contracts.route_requests.Routes as routes
use Rattle.http_wire.proofs.reader.RequestReader.TheSendSync as reader
use Rattle.crossbeam_utils.proofs.cache_padded.CachePadded.TheSendSync as padded
use Rattle.turn_lock.specs.declared.history.History.{Ghosts}
use Rattle.turn_lock.proofs.lock.HistoryLock.TheSendSync as lock
use Rattle.turn_lock.specs.contracts.lock.HistoryLock as shared
use Rattle.turn_lock.proofs.lock.Pass.TheSendSync as pass
use Rattle.http_exchanges.specs.contracts.job.ServeJob as job

module _ (R S Cl G L V M : RattleType) (H : Ghosts S.Denot M.Denot) where
  pub job_sends : IsSend R → IsSend S → IsSend Cl → IsSend G → IsSync G → IsSend L → IsSend V → IsSend routes.the_row → IsSync routes.the_row → IsSend (job.the_row R S Cl G L V M H)
  job_sends r s cl g h l v p q = recorded_send (job.the_field R S Cl G L V M H).row _ _ (job.the_type R S Cl G L V M H).to_one (struct_send (declared.shape (job.the_type R S Cl G L V M H))
      (r, (search sendable, (Arc-send _ (padded.the_send (shared.the_row S M H) (search (sendable, lock.the_send, s) depth 24)) (padded.the_sync (shared.the_row S M H) (search (sendable, lock.the_sync, s) depth 24)), (cl, (Arc-send _ g h, (Arc-send _ p q, (search sendable, (search sendable, (l, (search (sendable, reader.the_send) depth 24, (search (sendable, pass.the_field_send, s) depth 24, (v, tt)))))))))))))

use denote.Param.{param}
use denote.Param.Send.{arg_send, copied_send, param_send, param_sync}
use denote.Exit.{no}
use Rattle.stale_view.proofs.Crossing.{viewer_sends}
use Rattle.http_connections.proofs.Crossing.{keeper_sends}
use Rattle.http_exchanges.proofs.served.Served.TheSendSync as served
use Rattle.http_connections.proofs.timekeeper.start_timekeeper.Goals as goal

pub start_beside-task-requires-send-J : goal.start_beside-task-requires-send-J
start_beside-task-requires-send-J g c κs within =
    let b = c.type_bounds in let p = c.parts_cross.ensures in let q = c.routes_cross.ensures in
    let v = viewer_sends (param 5 g.row.C-Pair) g.C.Pair.PairName p.shared p.front p.fronts in
    let s = served.the_send (param 1 g.row.C) (param 5 g.row.C-Pair) (param_send 1 _ b.send-C) in
    param_send 2 _ (arg_send _ no _ (keeper_sends _ _ _ _ _ _ _ (copied_send 0 _ b.send-R) s (copied_send 2 _ b.send-Cl) (param_send 3 _ b.send-G) (param_sync 3 _ b.sync-G) v q.send q.shared))

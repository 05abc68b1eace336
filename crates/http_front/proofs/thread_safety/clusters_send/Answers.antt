use denote.Param.{param}
use denote.Param.Send.{arg_send, param_send}
use denote.Exit.{no}
use Rattle.stale_view.proofs.Crossing.{publisher_sends}
use Rattle.http_front.proofs.Crossing.{viewed_sends}
use Rattle.http_front.proofs.thread_safety.clusters_send.Goals as goal

pub sends-requires-send-T : goal.sends-requires-send-T
sends-requires-send-T g c κs within =
    let p = publisher_sends (param 0 g.row.J) g.J.PairName (param 2 g.row.R) (param_send 2 _ c.type_bounds.send-R) c.parts_cross.ensures.side c.parts_cross.ensures.shared c.parts_cross.ensures.op c.parts_cross.ensures.front in
    param_send 0 _ (arg_send _ no _ (viewed_sends (param 0 g.row.J) (param 1 g.row.S) (param 2 g.row.R) (param 3 g.row.S-K) g.J.ClusterSize g.J.PairName g.S.ClusterInterface g.S.K.Keeper (param_send 1 _ c.type_bounds.send-S) p))

use denote.Param.{param}
use denote.Param.Send.{arg_send, param_send}
use denote.Exit.{no}
use Rattle.stale_view.proofs.Crossing.{viewer_sends}
use Rattle.stale_view.proofs.thread_safety.viewers_send.Goals as goal

pub sends-requires-send-T : goal.sends-requires-send-T
sends-requires-send-T g c κs within = param_send 0 _ (arg_send _ no _ (viewer_sends (param 0 g.row.J) g.J.PairName c.parts_cross.ensures.shared c.parts_cross.ensures.front c.parts_cross.ensures.fronts))

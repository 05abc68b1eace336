use denote.Exit.{no}
use denote.Param.Send.{arg_send, param_send}
use Rattle.http_front.proofs.connections.serve_shown.Goals as goal

pub serve_over-served-requires-send-C : goal.serve_over-served-requires-send-C
serve_over-served-requires-send-C g c κs within = param_send 0 _ (arg_send _ no _ c.clusters_send.ensures)

pub returns-in-Ok-clause-links : goal.returns-in-Ok-clause-links
returns-in-Ok-clause-links g c = rw c.into_serving.ensures (rw c.in-Ok.is at c.serve_over-served.ensures.links)

pub returns-in-Ok-clause-names : goal.returns-in-Ok-clause-names
returns-in-Ok-clause-names g c = rw c.into_serving.ensures (rw c.in-Ok.is at c.serve_over-served.ensures.names)

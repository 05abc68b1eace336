use denote.Param.Send.{IsSend, arg_send, sendable, view_send, param_send, recorded_send, struct_send}
use denote.Exit.{no}
use denote.Struct.Declared as declared
use Rattle.std.proofs.Crossing.{crosses, Deque-send, Vec-send}
use Rattle.cat_model.specs.contracts.request.Asked as asked
use Rattle.cat_model.specs.contracts.shared.Shared as shared
use Rattle.cluster_requests.specs.contracts.past.Past as past
use Rattle.cluster_requests.specs.contracts.requests.Requests as requests
use Rattle.cluster_requests.specs.contracts.requests.Requests.TheInside as inside
use Rattle.cluster_requests.specs.contracts.starts.Starts as starts
use Rattle.catalog_top.proofs.thread_safety.requests_send.Goals as goal

pub sends-requires-send-T : goal.sends-requires-send-T
sends-requires-send-T c κs =
    let a : IsSend (shared.the_row asked.the_row) = c.asked_sends.ensures in
    let g : IsSend starts.the_row = search sendable depth 20 in
    let p : IsSend past.the_row = search sendable depth 20 in
    let i : IsSend inside.the_row = recorded_send (inside.the_field).row _ _ (inside.the_type).to_one (struct_send (declared.shape inside.the_type)
    (search sendable, (search (sendable, crosses) depth 20, (search (sendable, crosses) depth 60 fits 20000, (g, (Vec-send _ c.outs_send.ensures, (Deque-send _ c.outs_send.ensures, (p, (search sendable, tt))))))))) in
    let s : IsSend requests.the_row = view_send _ _ _ _ _ i in param_send 0 _ (arg_send _ no _ s)

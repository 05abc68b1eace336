use denote.Param.Send.{IsSend, arg_send, sendable, view_send, param_send, recorded_send, struct_send}
use denote.Exit.{no}
use denote.Struct.Declared as declared
use Rattle.std.proofs.Crossing.{crosses, frees, Vec-send}
use Rattle.std.proofs.MapsCrossingOver.{BTreeSet-send}
use Rattle.read_watch.specs.contracts.lines.Lines as lines
use Rattle.read_watch.specs.contracts.lines.Lines.TheInside as all
use Rattle.read_watch.specs.contracts.lines.WaitingLine as waiting
use Rattle.read_watch.specs.contracts.lines.WaitingLine.TheInside as one
use Rattle.read_watch.specs.contracts.sleepers.SleepingReads as sleeping
use Rattle.read_watch.specs.contracts.sleepers.SleepingReads.TheInside as inner
use Rattle.read_watch.specs.contracts.watch.Watch as watch
use Rattle.read_watch.specs.contracts.watch.Watch.TheInside as inside
use Rattle.catalog_top.proofs.thread_safety.watches_send.Goals as goal

pub sends-requires-send-T : goal.sends-requires-send-T
sends-requires-send-T c κs =
    let b : IsSend inner.the_row = recorded_send (inner.the_field).row _ _ (inner.the_type).to_one (struct_send (declared.shape inner.the_type) (c.registries_send.ensures, (c.wheels_send.ensures, tt))) in
    let a : IsSend sleeping.the_row = view_send _ _ _ _ _ b in
    let o : IsSend one.the_row = recorded_send (one.the_field).row _ _ (one.the_type).to_one (struct_send (declared.shape one.the_type) (search (BTreeSet-send, sendable, crosses, frees) depth 12, tt)) in
    let w : IsSend waiting.the_row = view_send _ _ _ _ _ o in
    let e : IsSend all.the_row = recorded_send (all.the_field).row _ _ (all.the_type).to_one (struct_send (declared.shape all.the_type) (Vec-send _ w, tt)) in
    let l : IsSend lines.the_row = view_send _ _ _ _ _ e in
    let i : IsSend inside.the_row = recorded_send (inside.the_field).row _ _ (inside.the_type).to_one (struct_send (declared.shape inside.the_type) (Vec-send _ a, (l, (l, (search (sendable, crosses) depth 24, (search sendable, tt)))))) in
    let s : IsSend watch.the_row = view_send _ _ _ _ _ i in param_send 0 _ (arg_send _ no _ s)

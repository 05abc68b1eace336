use Rattle.std.proofs.Common.{◌∙◌}
use Rattle.script_player.specs.Stage.{kept_in, through}
use Rattle.script_player.proofs.Filtering.{first_agrees, rest_agrees, still_keeps}
use Rattle.script_player.proofs.Turning.{emptied_first, tray_first}
use Rattle.script_player.proofs.Written.{Written-more, Written-part}
use Rattle.script_player.proofs.stage.take_outs.Goals as goal

pub loop-out-preserved : goal.loop-out-preserved
loop-out-preserved g c =
    let inv = c.loop-out.invariant in
    let out = c.in-Some.out in
    let kept = kept_in c.loop-out.filters in
    let left = kept_in c.take-filter.new.self in
    let rest = (g.S.ClusterInterface.state c.next_out.new.self).tray in
    let tray = tray_first _ _ out c.in-Some.ensures in
    let without = rw c.number.ensures at c.take-filter.ensures.rest in
    let taken = rw c.number.ensures at c.take-filter.ensures.filter in
    record {
      state = emptied_first _ _ out c.in-Some.ensures ∙ inv.state;
      faults = c.in-Ok.ensures.cause ∙ inv.faults;
      written = λ f a.
          let w = inv.written f a in
          let waiting = rw tray at w.0 in
          let same = taken ∙ first_agrees f kept out rest waiting in (
            rest_agrees f kept left out rest waiting without,
            Written-more _ _ _ _ (through g.T.Taker.adds f out) _ (rw tray at w.1) (rw (c.as_ref.ensures.value, same) at c.in-Ok.ensures.adds),
          );
      kept = still_keeps (g.S.ClusterInterface.state c.loop-out.servers) (g.S.ClusterInterface.state c.args.servers.now) out rest (kept_in c.args.filters.now) kept left tray inv.state inv.kept without;
    }

pub returns-in-Err-clause-part : goal.returns-in-Err-clause-part
returns-in-Err-clause-part g c = λ f a.
    let w = c.loop-out.invariant.written f a in
    let out = c.in-Some.out in
    let kept = kept_in c.loop-out.filters in
    let rest = (g.S.ClusterInterface.state c.next_out.new.self).tray in
    let tray = tray_first _ _ out c.in-Some.ensures in
    let same = (rw c.number.ensures at c.take-filter.ensures.filter) ∙ first_agrees f kept out rest (rw tray at w.0) in
    Written-part _ _ _ _ (through g.T.Taker.adds f out) _ (rw tray at w.1) (rw (c.as_ref.ensures.value, same) at c.in-Err.ensures.part)

use Rattle.std.proofs.Common.{◌∷◌, [], ◌++◌, sym, ◌∙◌, ap, subst, take}
use Rattle.std.specs.List.{AllByRecursion}
use Rattle.std.proofs.lemmas.List.{take_more}
use Rattle.cat_model.specs.declared.query.Chan.{Chan}
use Rattle.read_watch.specs.Hits.{ChanNoted}
use Rattle.read_watch.proofs.Hits.{chans_more}
use Rattle.read_watch.proofs.hit.find_hit.Goals as goal

pub loop-chan-preserved : goal.loop-chan-preserved
loop-chan-preserved c = (
  c.note_chan.ensures.sound,
  subst (AllByRecursion (ChanNoted c.args.list.now c.args.waiters.now.entries c.args.fired.now c.note_chan.new.found.keys))
      (sym (take_more c.args.fired.now c.loop-chan.chan-index c.chan-item.result c.loop-chan-test.true ∙ ap (λ (x : Chan). take c.loop-chan.chan-index c.args.fired.now ++ x ∷ []) (sym c.chan-item.is)))
      (chans_more c.args.list.now c.args.waiters.now.entries c.args.fired.now c.loop-chan.found.keys c.note_chan.new.found.keys (take c.loop-chan.chan-index c.args.fired.now) c.chan-item.result c.note_chan.ensures.keeps c.loop-chan.invariant.1 c.in_ok-note_chan.ensures.noted),
)

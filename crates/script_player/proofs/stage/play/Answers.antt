use Rattle.std.proofs.Common.{◌≡◌, ◌<◌, ◌+◌, suc, length, nat_eq, refl, ◌∙◌, arith}
use Rattle.std.specs.List.{before_first, after_first}
use Rattle.script_player.specs.Filters.{filter_in}
use Rattle.script_player.specs.Line.{lines_of}
use Rattle.script_player.specs.Script.{said}
use Rattle.script_player.specs.Stage.{kept_in}
use Rattle.script_player.proofs.Filtering.{agrees_first, line_played, line_ready}
use Rattle.script_player.proofs.Lines.{some_byte, lines_of-step, length-after_first}
use Rattle.script_player.proofs.Progress.{so_far_at, so_far_none, ends_empty, ends_at, breaks_at}
use Rattle.script_player.proofs.stage.play.Goals as goal

pub loop-rest-init : goal.loop-rest-init
loop-rest-init g c = record {
  few = omega arith;
  made = omega arith;
  faults = refl;
  so_far = so_far_none _ _ _ _ _ _;
  agrees = agrees_first (said c.args.seed) (lines_of c.args.lines.now) (kept_in c.new-filters.result) _ c.requires.first c.new-filters.ensures;
}

pub loop-rest-preserved : goal.loop-rest-preserved
loop-rest-preserved g c =
    let rest = c.loop-rest.rest.now in
    let some : 0 < length rest = some_byte rest c.loop-rest-test.ensures in
    let line = before_first (λ b. nat_eq b 10) rest in
    let lines = lines_of (after_first (λ b. nat_eq b 10) rest) in
    let number = c.loop-rest.number in
    let inv = c.loop-rest.invariant in
    let next : suc number ≡ number + 1 = omega arith in
    let filters = filter_in (said c.args.seed) 1 (lines_of c.args.lines.now) in
    let turns = rw (c.in-Ok-Made.field-0-is, c.split_at_byte.ensures.before) at c.in-Ok-Made.ensures.turns in
    let kept = rw (c.in-Ok-Made.field-0-is, c.split_at_byte.ensures.before) at c.in-Ok-Made.ensures.kept in
    let few = rw c.in-Ok-Made.field-0-is at c.in-Ok-Made.ensures.few in
    let played = line_played g.T.Taker.adds filters (kept_in c.loop-rest.filters) (said c.args.seed) _ _ _ _ _ c.loop-rest.events number line lines _ _ c.in-Ok-Made.made _
    c.requires.first (rw (lines_of-step rest some) at inv.so_far) (rw (lines_of-step rest some) at inv.agrees) turns _ kept in
    record {
      few = rw c.split_at_byte.ensures.after (omega (arith, length-after_first (λ b. nat_eq b 10) rest some, inv.few));
      made = omega (arith, few, inv.made);
      faults = c.in-Ok-Made.ensures.cause ∙ inv.faults;
      so_far = rw c.split_at_byte.ensures.after (so_far_at _ (said c.args.seed) _ _ _ _ _ _ (suc number) (number + 1) lines _ next played.0);
      agrees = rw c.split_at_byte.ensures.after played.1;
    }

pub returns-in-Err-clause-part : goal.returns-in-Err-clause-part
returns-in-Err-clause-part g c =
    let rest = c.loop-rest.rest.now in
    let some : 0 < length rest = some_byte rest c.loop-rest-test.ensures in
    let line = before_first (λ b. nat_eq b 10) rest in
    let lines = lines_of (after_first (λ b. nat_eq b 10) rest) in
    let inv = c.loop-rest.invariant in
    let filters = filter_in (said c.args.seed) 1 (lines_of c.args.lines.now) in
    let so_far = rw (lines_of-step rest some) at inv.so_far in
    let part = rw c.split_at_byte.ensures.before at c.in-Err.ensures.part in
    breaks_at _ (said c.args.seed) _ _ _ _ _ _ c.loop-rest.events c.loop-rest.number line lines _ so_far
    (part filters (line_ready g.T.Taker.adds filters (kept_in c.loop-rest.filters) (said c.args.seed) _ _ _ _ _ c.loop-rest.events c.loop-rest.number line lines _ c.requires.first so_far (rw (lines_of-step rest some) at inv.agrees)))

pub returns-in-Ok-Refused-clause-plays : goal.returns-in-Ok-Refused-clause-plays
returns-in-Ok-Refused-clause-plays g c =
    let rest = c.loop-rest.rest.now in
    let some : 0 < length rest = some_byte rest c.loop-rest-test.ensures in
    let line = before_first (λ b. nat_eq b 10) rest in
    let lines = lines_of (after_first (λ b. nat_eq b 10) rest) in
    let inv = c.loop-rest.invariant in
    let filters = filter_in (said c.args.seed) 1 (lines_of c.args.lines.now) in
    let so_far = rw (lines_of-step rest some) at inv.so_far in
    let turns = rw (c.in-Ok-Refused.field-0-is, c.split_at_byte.ensures.before) at c.in-Ok-Refused.ensures.turns in
    ends_at _ (said c.args.seed) _ _ _ _ _ _ c.loop-rest.events c.loop-rest.number line lines _ _ c.in-Ok-Refused.reason so_far
    (turns filters (line_ready g.T.Taker.adds filters (kept_in c.loop-rest.filters) (said c.args.seed) _ _ _ _ _ c.loop-rest.events c.loop-rest.number line lines _ c.requires.first so_far (rw (lines_of-step rest some) at inv.agrees)))

pub returns-clause-plays : goal.returns-clause-plays
returns-clause-plays g c =
    ends_empty _ (said c.args.seed) _ _ _ _ _ c.loop-rest.events c.loop-rest.number c.loop-rest.rest.now _ c.loop-rest.invariant.so_far c.loop-rest-test.ensures

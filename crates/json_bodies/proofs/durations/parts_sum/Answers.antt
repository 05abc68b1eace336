use Rattle.std.proofs.Common.{◌-◌, ap, sym, ◌∙◌, option_map, Some, arith}
use Rattle.json_bodies.proofs.Parts.{kept_before, refused}
use Rattle.json_bodies.proofs.durations.parts_sum.Goals as goal

pub returns-in_err-with_byte : goal.returns-in_err-with_byte
returns-in_err-with_byte c =
    let before = kept_before c.args.text.now c.bytes.left c.bytes.tail c.bytes-test.true c.bytes.invariant.within c.bytes.invariant.kept in
    c.from_residual.ensures
    ∙ sym (refused c.args.text.now (c.bytes.left - 1) (before ∙ ap (option_map Some) (sym c.with_byte.ensures.value ∙ c.in_err-with_byte.was)))

pub bytes-preserved : goal.bytes-preserved
bytes-preserved c =
    let before = kept_before c.args.text.now c.bytes.left c.bytes.tail c.bytes-test.true c.bytes.invariant.within c.bytes.invariant.kept in
    record {
      within = omega (arith, c.bytes.invariant.within);
      kept = before ∙ ap (option_map Some) (sym c.with_byte.ensures.value ∙ c.in_ok-with_byte.was);
      small = c.in_ok-with_byte.ensures.small;
    }

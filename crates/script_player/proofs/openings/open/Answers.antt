use Rattle.std.proofs.Common.{◌≡◌, ◌<◌, true, length, nat_eq, sym, arith}
use Rattle.std.specs.List.{before_first}
use Rattle.script_player.specs.Line.{is_nothing}
use Rattle.script_player.proofs.Lines.{some_byte, lines_of-step, length-after_first}
use Rattle.script_player.proofs.Beginning.{opened_here, refused_here, none_here}
use Rattle.script_player.proofs.openings.open.Goals as goal

pub loop-rest-preserved : goal.loop-rest-preserved
loop-rest-preserved c =
    let rest = c.loop-rest.rest.now in
    let some : 0 < length rest = some_byte rest c.loop-rest-test.ensures in
    let line = before_first (λ b. nat_eq b 10) rest in
    let says : is_nothing line ≡ true = rw (← c.split_at_byte.ensures.before) (sym c.if-not-is_nothing.ensures) in (
      rw c.split_at_byte.ensures.after (rw (lines_of-step rest some, says) at c.loop-rest.invariant.0),
      rw c.split_at_byte.ensures.after (omega (arith, length-after_first (λ b. nat_eq b 10) rest some, c.loop-rest.invariant.1)),
    )

pub returns-in-Ok-Ok-clause-opened : goal.returns-in-Ok-Ok-clause-opened
returns-in-Ok-Ok-clause-opened c =
    opened_here _ c.loop-rest.number c.loop-rest.rest.now _ _ c.in-Ok-Ok.opening c.loop-rest.invariant.0 (some_byte _ c.loop-rest-test.ensures)
    c.split_at_byte.ensures.before c.split_at_byte.ensures.after (sym c.if-not-is_nothing.ensures) (rw c.in-Ok-Ok.field-0-is at c.in-Ok-Ok.ensures.value)

pub returns-in-Ok-Err-clause-refused : goal.returns-in-Ok-Err-clause-refused
returns-in-Ok-Err-clause-refused c =
    refused_here _ c.loop-rest.number c.loop-rest.rest.now _ _ c.in-Ok-Err.reason c.loop-rest.invariant.0 (some_byte _ c.loop-rest-test.ensures)
    c.split_at_byte.ensures.before c.split_at_byte.ensures.after (sym c.if-not-is_nothing.ensures) (rw c.in-Ok-Err.field-0-is at c.in-Ok-Err.ensures.value)

pub returns-clause-refused : goal.returns-clause-refused
returns-clause-refused c = none_here _ c.loop-rest.number c.loop-rest.rest.now c.loop-rest.invariant.0 c.loop-rest-test.ensures

use Rattle.catalog_top.proofs.Runs.{ran_from, refuses_from}
use Rattle.catalog_top.proofs.program.scripted.Goals as goal

pub returns-in-Some : goal.returns-in-Some
returns-in-Some g c = (
  ran_from _ _ c.in_ok-script.script.items c.in_ok-script.ensures.bytes c.in_ok-script.ensures.whole _ _ c.in-Some.report
      (rw c.deref.ensures.value at c.if-is_too_long.ensures)
      (rw (c.in-Some.is, c.deref-2.ensures.value) at c.in_ok-report.ensures.run),
  (c.in_ok-script.ensures.cause, c.in_ok-report.ensures.cause),
)

pub returns : goal.returns
returns g c = (
  refuses_from _ _ c.in_ok-script.script.items c.in_ok-script.ensures.bytes c.in_ok-script.ensures.whole _ _
      (rw c.deref.ensures.value at c.if-is_too_long.ensures)
      (rw (c.in-None.is, c.deref-2.ensures.value) at c.in_ok-report.ensures.run),
  (c.in_ok-script.ensures.cause, c.in_ok-report.ensures.cause),
)

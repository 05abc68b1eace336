use Rattle.std.proofs.Common.{sym}
use Rattle.std.specs.Ordering.{nat_cmp}
use Rattle.std.proofs.lemmas.Cmp.{nat_cmp_total}
use Rattle.std.proofs.lemmas.Map.Lookups.{exact_unsigned}
use Rattle.cat_model.specs.Catalog.{session_key}
use Rattle.cat_model.proofs.InOrder.{key_of_found}
use Rattle.session_ttl.proofs.Timing.{timed_absent, timed_again}
use Rattle.session_ttl.proofs.timers.timed.Goals as goal

pub returns-in-None : goal.returns-in-None
returns-in-None c = timed_absent c.args.clocks.now c.args.office.now c.args.sessions.now.now c.in-None.ensures.order c.args.id c.args.wheel (sym c.in-None.ensures.row)

pub returns-in-Some : goal.returns-in-Some
returns-in-Some c =
    let rows = c.args.sessions.now.now in let row = c.in-Some.row.now in
    timed_again c.args.clocks.now c.args.office.now rows c.in-Some.ensures.order c.args.id row c.args.wheel c.timed_row.result (sym c.in-Some.ensures.row)
    (key_of_found nat_cmp session_key nat_cmp_total exact_unsigned c.args.id rows row (sym c.in-Some.ensures.row)) c.timed_row.ensures.here c.timed_row.ensures.others

use Rattle.std.proofs.Common.{◌≤◌, subst, cond, nat_le}
use Rattle.session_ttl.proofs.Timing.{capped, set_beside, set_here, some_weaker}
use Rattle.session_ttl.proofs.timers.timed_row.Goals as goal

pub returns-clause-here : goal.returns-clause-here
returns-clause-here c =
    some_weaker _ _ c.with_timer.result (λ w e p. set_here c.args.wheel w c.args.row.now.id _ _ (subst (λ n. cond (nat_le c.over_at-over_at.result 18446744073709551615) c.over_at-over_at.result 18446744073709551615 ≤ n) c.over_at-over_at.ensures (capped c.over_at-over_at.result 18446744073709551615)) e) c.with_timer.ensures

pub returns-clause-others : goal.returns-clause-others
returns-clause-others c = some_weaker _ _ c.with_timer.result (λ w e. set_beside c.args.wheel w c.args.row.now.id _ e) c.with_timer.ensures

use Rattle.std.proofs.Common.{◌≡◌, List, ℕ, Option, Some, true, subst, sym, ◌∙◌}
use Rattle.std.specs.List.{AllByRecursion as Each}
use Rattle.cat_model.specs.declared.row.SessionRow.{SessionRow}
use Rattle.cluster_rules.specs.Offices.{is_over}
use Rattle.session_ttl.specs.Timed.{AreTimed, Timers, is_one_of}
use Rattle.session_ttl.proofs.Timing.{over_due}
use Rattle.session_ttl.proofs.timers.SessionTimers.over.Goals as goal

pub over_among-requires-clause-whole : goal.over_among-requires-clause-whole
over_among-requires-clause-whole c =
    let clocks = c.args.clocks.now in let o = c.args.office.now in let rows = c.args.sessions.now.now in
    let timed : AreTimed (Some c.in-Some.wheel) clocks o rows = subst (λ (t : Option Timers). AreTimed t clocks o rows) (sym c.self.view_is ∙ c.in-Some.is) c.requires.timed in
    subst (λ (l : List ℕ). Each (λ (s : SessionRow). is_over clocks o c.args.now s ≡ true → is_one_of s.id l ≡ true) rows) (sym c.deref.ensures.value)
    (over_due clocks o rows c.in-Some.wheel c.args.now c.in_ok-ids-in-Some.ids.items c.in_ok-ids-in-Some.ensures.whole timed)

use Rattle.std.proofs.Common.{map, filter, ◌∙◌, ap}
use Rattle.std.proofs.lemmas.Result.{IfOk-weaker}
use Rattle.cluster_rules.specs.Offices.{is_over}
use Rattle.session_ttl.specs.Endings.{ending_in, over_in}
use Rattle.session_ttl.proofs.TimesOver.{in_turn}
use Rattle.cluster_rules.specs.Offices.{sorted_by}
use Rattle.session_ttl.proofs.office.Office.over.Goals as goal

pub returns : goal.returns
returns c =
    let clocks = c.args.clocks.now in let o = c.args.self.now in
    IfOk-weaker c.in_turn.result _ _ (λ v e. e ∙ ap (λ l. map ending_in (sorted_by over_in l)) c.in_ok-overdue.ensures ∙ in_turn clocks o (filter (is_over clocks o c.args.now) c.args.sessions.now.now)) c.in_turn.ensures

use Rattle.std.proofs.Common.{map, filter, ◌∙◌, ap}
use Rattle.std.proofs.lemmas.Result.{IfOk-weaker}
use Rattle.cluster_rules.specs.Offices.{is_over, sorted_by}
use Rattle.session_ttl.specs.Endings.{ending_in, over_in, overdue_of}
use Rattle.session_ttl.proofs.Among.{passing_among}
use Rattle.session_ttl.proofs.TimesOver.{in_turn}
use Rattle.session_ttl.proofs.office.Office.over_among.Goals as goal

pub returns : goal.returns
returns c =
    let clocks = c.args.clocks.now in let o = c.args.self.now in let rows = c.args.sessions.now.now in
    IfOk-weaker c.in_turn.result _ _
    (λ v e. e ∙ ap (λ l. map ending_in (sorted_by over_in l)) (c.in_ok-overdue.ensures ∙ ap (map (overdue_of clocks o)) (passing_among rows c.requires.order c.args.ids.now c.requires.ascend (is_over clocks o c.args.now) c.requires.whole))
    ∙ in_turn clocks o (filter (is_over clocks o c.args.now) rows))
    c.in_turn.ensures

use Rattle.std.proofs.Common.{ℕ, List, map, reverse, ◌∙◌, ap, ◌++◌}
use Rattle.cluster_rules.specs.Offices.{Office}
use Rattle.session_ttl.proofs.TimesOver.{ends_more}
use Rattle.session_ttl.proofs.office.Office.end.Goals as goal

pub returns-clause-ok : goal.returns-clause-ok
returns-clause-ok c rows e =
    let was = c.self.inside.ended.items in
    ap (λ (l : List ℕ). record { since = c.self.inside.since; renewals = c.self.inside.renewals.now; ended = reverse l; reap = c.self.inside.reap }) (c.in_ok-append.ensures.items ∙ ap (λ l. was ++ l) c.in_ok-positions.ensures)
    ∙ ap (λ (l : List ℕ). record { since = c.self.inside.since; renewals = c.self.inside.renewals.now; ended = l; reap = c.self.inside.reap }) (ends_more c.args.endings.now rows was e)
    ∙ ap (λ (o : Office). record o { ended = reverse (map (λ s. s.create) rows) ++ o.ended }) c.self.view_is

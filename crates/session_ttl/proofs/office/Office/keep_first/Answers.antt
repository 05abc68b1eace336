use Rattle.std.proofs.Common.{◌≡◌, ℕ, arith, List, ◌++◌, length, map, reverse, take, ◌+◌, ◌-◌, ◌∙◌, ap}
use Rattle.cluster_rules.specs.Offices.{Office}
use Rattle.session_ttl.proofs.TimesOver.{ends_kept}
use Rattle.session_ttl.proofs.office.Office.keep_first.Goals as goal

pub returns : goal.returns
returns c rows o e is =
    let here = c.self.view_is ∙ is in
    let counted : c.len.result ≡ length c.self.inside.ended.items = omega (arith, c.len.ensures, c.self.inside.ended.ok.0) in
    ap (λ (l : List ℕ). record { since = c.self.inside.since; renewals = c.self.inside.renewals.now; ended = reverse l; reap = c.self.inside.reap }) (c.truncate.ensures.items ∙ ap (λ n. take ((n - length c.args.endings.now) + c.args.kept) c.self.inside.ended.items) counted)
    ∙ ap (λ (l : List ℕ). record { since = c.self.inside.since; renewals = c.self.inside.renewals.now; ended = l; reap = c.self.inside.reap })
    (ends_kept c.self.inside.ended.items c.args.endings.now rows o.ended c.args.kept e (ap (λ (w : Office). w.ended) here))
    ∙ ap (λ (w : Office). record w { ended = reverse (map (λ s. s.create) (take c.args.kept rows)) ++ o.ended }) here

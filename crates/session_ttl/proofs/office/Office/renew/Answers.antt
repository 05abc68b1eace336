use Rattle.std.proofs.Common.{ℕ, List, filter, not, reverse, ◌∙◌, ap}
use Rattle.std.specs.Prelude.{◌==◌}
use Rattle.std.specs.Ordering.{nat_cmp}
use Rattle.cat_model.specs.Delays.{Start}
use Rattle.cat_model.specs.Tables.{put}
use Rattle.cluster_rules.specs.Offices.{Office, renewal_id}
use Rattle.session_ttl.proofs.TimesOver.{filter_reverse}
use Rattle.session_ttl.proofs.office.Office.renew.Goals as goal

pub returns-clause-ok : goal.returns-clause-ok
returns-clause-ok c =
    let was = c.self.inside in
    let renewal : Start = record { session = c.args.row.now.id; clock = c.args.now } in
    let kept : ℕ → _ = λ p. not (p == c.args.row.now.create) in
    ap (λ (rs : List Start). record { since = was.since; renewals = rs; ended = reverse c.forget.new.positions.items; reap = was.reap }) c.in_ok-renew.ensures.ok
    ∙ ap (λ (l : List ℕ). record { since = was.since; renewals = put nat_cmp renewal_id renewal was.renewals.now; ended = l; reap = was.reap }) (ap reverse c.forget.ensures ∙ filter_reverse kept was.ended.items)
    ∙ ap (λ (o : Office). record o { renewals = put nat_cmp renewal_id renewal o.renewals; ended = filter kept o.ended }) c.self.view_is

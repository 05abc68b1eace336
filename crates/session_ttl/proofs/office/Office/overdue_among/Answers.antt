use Rattle.cat_model.specs.Catalog.{session_at}
use Rattle.cluster_rules.specs.Offices.{is_over}
use Rattle.session_ttl.specs.Endings.{overdue_of}
use Rattle.session_ttl.proofs.Among.{found_more}
use Rattle.session_ttl.proofs.office.Office.overdue_among.Goals as goal

pub loop-id-preserved : goal.loop-id-preserved
loop-id-preserved c =
    let clocks = c.args.clocks.now in let o = c.args.self.now in
    found_more (overdue_of clocks o) (is_over clocks o c.args.now) (λ id. session_at id c.args.sessions.now.now) c.args.ids.now c.loop-id.id-index c.loop-id.overdue.items _ c.loop-id-test.true c.loop-id.invariant c.in_ok-add_overdue_at.ensures

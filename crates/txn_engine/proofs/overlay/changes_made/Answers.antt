use Rattle.std.proofs.Common.{◌≡◌, List, sym, subst, filter}
use Rattle.std.proofs.lemmas.Result.{IfOk-weaker}
use Rattle.cat_model.proofs.TableLemmas.{All-filter}
use Rattle.txn_engine.specs.declared.change.Change.{Change}
use Rattle.txn_engine.specs.Changes.{changed, can_be_made, WrittenAt, AllWritten}
use Rattle.txn_engine.specs.Outcomes.{LeadTo}
use Rattle.txn_engine.proofs.Laid.{can_lead}
use Rattle.txn_engine.proofs.overlay.changes_made.Goals as goal

pub returns-clause-lead : goal.returns-clause-lead
returns-clause-lead g c =
    let rows = g.R.KvRows.rows c.args.rows.now in
    let cs : List Change = c.args.changes.now.now in
    IfOk-weaker c.standing.result (λ l. l ≡ filter (can_be_made rows) cs) (λ l. LeadTo rows (changed cs rows) l)
    (λ l e. subst (LeadTo rows (changed cs rows)) (sym e) (can_lead cs rows c.in_order.ensures c.requires))
    c.standing.ensures

pub returns-clause-written : goal.returns-clause-written
returns-clause-written g c i all =
    let rows = g.R.KvRows.rows c.args.rows.now in
    let cs : List Change = c.args.changes.now.now in
    IfOk-weaker c.standing.result (λ l. l ≡ filter (can_be_made rows) cs) (λ l. AllWritten i l)
    (λ l e. subst (AllWritten i) (sym e) (All-filter (λ x. WrittenAt i x) (can_be_made rows) cs all))
    c.standing.ensures

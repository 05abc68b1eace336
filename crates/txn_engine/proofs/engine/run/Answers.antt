use Rattle.std.proofs.Common.{◌≡◌, ◌+◌, ◌∙◌, ◌∷◌, Some, ap, sym, arith}
use Rattle.cat_model.specs.Kv.{operate, run_ops}
use Rattle.cat_model.specs.Kv.TxnRun.{Went}
use Rattle.txn_engine.specs.Changes.{changed}
use Rattle.txn_engine.specs.Outcomes.{outcome}
use Rattle.txn_engine.proofs.Steps.{run_step, run_done}
use Rattle.txn_engine.proofs.engine.run.Goals as goal

pub loop-op-preserved : goal.loop-op-preserved
loop-op-preserved g c =
    let rows = g.R.KvRows.rows c.args.rows.now in
    let version = g.R.KvRows.version c.args.rows.now in
    let sessions = g.R.KvRows.sessions c.args.rows.now in
    let old = changed c.loop-op.changes.now rows in
    let new = changed c.operate.new.changes.now rows in
    let op = c.in-Some.op.now in
    let rest = c.in-Some.rest.now in
    let more = c.in-Some-2.more in
    let split : c.loop-op.left.now ≡ op ∷ rest = c.in-Some.ensures.cases.0 in
    let does : operate version c.args.position sessions op.verb op old ≡ Some (new, more) = sym c.in_ok-more.ensures.does ∙ ap (outcome new) c.in-Some-2.is in
    record {
      run =
          ap (run_ops version c.args.position sessions (c.loop-op.place + 1) rest new) c.in_ok-results.ensures
          ∙ sym (run_step version c.args.position sessions c.loop-op.place op rest old new c.loop-op.results more does)
          ∙ ap (λ l. run_ops version c.args.position sessions c.loop-op.place l old c.loop-op.results) (sym split)
          ∙ c.loop-op.invariant.run;
      few = omega (arith, c.loop-op.invariant.few, c.in-Some.ensures.cases.1);
      written = c.operate.ensures.written c.loop-op.invariant.written;
    }

pub returns : goal.returns
returns g c = record {
  went =
      sym c.loop-op.invariant.run
      ∙ run_done (g.R.KvRows.version c.args.rows.now) c.args.position (g.R.KvRows.sessions c.args.rows.now) c.loop-op.place c.loop-op.left.now (changed c.loop-op.changes.now (g.R.KvRows.rows c.args.rows.now)) c.loop-op.results c.in_default.ensures.cases
      ∙ ap (λ r. Went r c.loop-op.results) (sym c.in_ok-changes.ensures.lead.leads);
  in_order = c.in_ok-changes.ensures.lead.in_order;
  can = c.in_ok-changes.ensures.lead.can;
  written = c.in_ok-changes.ensures.written c.args.position c.loop-op.invariant.written;
}

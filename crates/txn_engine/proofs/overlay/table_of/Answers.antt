use Rattle.std.proofs.Common.{◌++◌, ◌∙◌, sym, ap}
use Rattle.txn_engine.proofs.Laid.{put_before}
use Rattle.txn_engine.proofs.overlay.table_of.Goals as goal

pub loop-row-preserved : goal.loop-row-preserved
loop-row-preserved c =
    ap (λ t. c.pop.new.self.items ++ t) c.in_ok-set.ensures.ok
    ∙ put_before c.args.rows c.pop.new.self.items c.in-Some.row c.loop-row.table.now c.requires (ap (λ l. l ++ c.loop-row.table.now) (sym c.in-Some.ensures.items) ∙ c.loop-row.invariant)

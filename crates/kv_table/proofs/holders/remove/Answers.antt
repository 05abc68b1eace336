use Rattle.kv_table.proofs.Holding.{gone}
use Rattle.kv_table.proofs.holders.remove.Goals as goal

pub returns-clause-files : goal.returns-clause-files
returns-clause-files c =
    gone c.args.rows.now.now c.remove.new.self.now c.args.held.now.now c.let_go.new.held.now c.args.key.now c.holder_at-old.result c.requires.files c.holder_at-old.ensures c.remove.ensures.rows c.let_go.ensures.now

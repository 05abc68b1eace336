use Rattle.session_table.proofs.Entries.{one_taken}
use Rattle.session_table.proofs.places.unfile_at.Goals as goal

pub returns-clause-now : goal.returns-clause-now
returns-clause-now c = one_taken (c.args.node.now, c.args.check.now) c.args.id c.args.places.now.now c.remove.new.self.now c.remove.ensures.rows

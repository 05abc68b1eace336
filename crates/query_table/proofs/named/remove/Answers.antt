use Rattle.query_table.proofs.Renaming.{gone}
use Rattle.query_table.proofs.named.remove.Goals as goal

pub returns-clause-files : goal.returns-clause-files
returns-clause-files c = gone c.args.rows.now.now c.remove.new.self.now c.args.names.now.now c.take_name.new.names.now c.args.id c.requires.files c.remove.ensures.rows c.take_name.ensures.now

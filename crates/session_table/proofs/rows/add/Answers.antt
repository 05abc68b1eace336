use Rattle.session_table.proofs.Entries.{added}
use Rattle.session_table.proofs.rows.add.Goals as goal

pub returns-clause-files : goal.returns-clause-files
returns-clause-files c = added c.args.rows.now.now c.set.new.self.now c.args.places.now.now c.requires.files c.args.row c.requires.fresh c.file.new.places.now c.in_default-set.ensures.ok c.in_default.ensures.ok

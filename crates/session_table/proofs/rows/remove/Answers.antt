use Rattle.session_table.proofs.Entries.{gone}
use Rattle.session_table.proofs.rows.remove.Goals as goal

pub returns-clause-files : goal.returns-clause-files
returns-clause-files c = gone c.args.rows.now.now c.remove.new.self.now c.args.places.now.now c.requires.files c.args.id c.take_places.new.places.now c.remove.ensures.rows c.take_places.ensures.now

use Rattle.cat_model.proofs.SyncLaw as lemmas
use Rattle.cat_model.proofs.laws.sync_law.Goals as goal

pub returns : goal.returns
returns c = lemmas.sync_law

use Rattle.cat_model.proofs.ViewLaw as lemmas
use Rattle.cat_model.proofs.laws.view_law.Goals as goal

pub returns : goal.returns
returns c = lemmas.view_law

use Rattle.cat_model.proofs.Reaching as lemmas
use Rattle.cat_model.proofs.laws.reads_law.Goals as goal

pub returns : goal.returns
returns c = lemmas.reads_law

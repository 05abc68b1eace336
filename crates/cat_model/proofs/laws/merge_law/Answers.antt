use Rattle.cat_model.proofs.Merging as lemmas
use Rattle.cat_model.proofs.laws.merge_law.Goals as goal

pub returns : goal.returns
returns c = lemmas.merge_law

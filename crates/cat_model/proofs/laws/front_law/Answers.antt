use Rattle.cat_model.proofs.Logs as lemmas
use Rattle.cat_model.proofs.laws.front_law.Goals as goal

pub returns : goal.returns
returns c = lemmas.front_law

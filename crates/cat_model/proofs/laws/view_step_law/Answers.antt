use Rattle.cat_model.proofs.ViewSteps as lemmas
use Rattle.cat_model.proofs.laws.view_step_law.Goals as goal

pub returns : goal.returns
returns c = lemmas.view_step_law

use Rattle.cat_model.proofs.ViewSteps as lemmas
use Rattle.cat_model.proofs.laws.first_view_law.Goals as goal

pub returns : goal.returns
returns c = lemmas.first_stands

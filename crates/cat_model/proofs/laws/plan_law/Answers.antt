use Rattle.cat_model.proofs.PlanLaw as lemmas
use Rattle.cat_model.proofs.laws.plan_law.Goals as goal

pub returns : goal.returns
returns c = lemmas.plan_law

use Rattle.std.proofs.Common.{refl}
use Rattle.cat_model.specs.Machine.{at_past}
use Rattle.cat_model.proofs.ViewSteps.{first_stands}
use Rattle.catalog_query.proofs.laws.first_view.Goals as goal

pub returns : goal.returns
unfolding at_past
returns c = record { names = record { each = λ name. refl; hosts = λ node. refl }; keeps = first_stands }

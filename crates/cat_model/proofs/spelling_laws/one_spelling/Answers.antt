use Rattle.cat_model.proofs.CommandFormats.{spells_one}
use Rattle.cat_model.proofs.spelling_laws.one_spelling.Goals as goal

pub returns-clause-told : goal.returns-clause-told
returns-clause-told c = spells_one

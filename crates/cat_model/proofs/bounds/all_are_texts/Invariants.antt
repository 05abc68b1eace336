use Rattle.std.proofs.Common.{take}
use Rattle.std.specs.List.{All}
use Rattle.cat_model.specs.Bounds.{IsText}
use Rattle.cat_model.proofs.bounds.all_are_texts.Given as goal

abbrev pub invariant-loop-text : goal.invariant-loop-text
invariant-loop-text l = All IsText (take l.text-index l.texts)

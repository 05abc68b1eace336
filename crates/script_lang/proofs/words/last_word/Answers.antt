use Rattle.std.proofs.Common.{refl}
use Rattle.script_lang.proofs.Cuts.{not_last}
use Rattle.script_lang.proofs.words.last_word.Goals as goal

pub returns-in_default-Some-clause-none : goal.returns-in_default-Some-clause-none
returns-in_default-Some-clause-none c =
    (refl, not_last _ _ c.in_default-Some.field-0-1.now (rw c.in_default-Some.is-1 at c.in_ok-word.ensures.found))

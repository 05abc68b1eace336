-- The last reply after one more command.
use Rattle.std.proofs.Common.{◌≡◌, ◌∙◌, List, [], ◌∷◌, ◌++◌, Some, ap}
use Rattle.std.proofs.lemmas.List.{reverse-append, reverse-reverse}
use Rattle.cat_model.specs.Machine.{reply_to}
use Rattle.cat_model.specs.declared.command.Command.{Command}
use Rattle.applied_state.specs.States.{reply_back, last_reply}

pub last_is : (log : List Command) (c : Command) → last_reply (log ++ c ∷ []) ≡ Some (reply_to log c)
last_is log c = ap reply_back (reverse-append log (c ∷ [])) ∙ ap (λ l. Some (reply_to l c)) (reverse-reverse log)

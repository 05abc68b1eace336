use Rattle.std.proofs.Common.{◌≡◌, ◌∷◌, [], IfOk, MatchOption, subst}
use Rattle.script_player.specs.Found.{found_in}
use Rattle.script_player.proofs.found.number_found.Goals as goal

pub returns : goal.returns
returns c =
    subst (λ o. IfOk c.number_given.result (λ n. MatchOption n (found_in o ≡ []) (λ number. found_in o ≡ number ∷ []))) c.given.ensures c.number_given.ensures

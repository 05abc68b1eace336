-- The filters of a script's requests, by the requests' numbers. The cluster knows nothing of them: a reply is shown through
-- the filter of its request when it is written.
use Rattle.std.specs.Prelude.{ℕ, suc, ◌==◌, Bool, true, false, if◌then◌else◌, List, [], ◌∷◌, Option, None, option_and_then}
use Rattle.cat_model.specs.declared.request.Event.{Event}
use Rattle.cat_model.specs.declared.request.Event.TheVariants.{Ask}
use Rattle.filter_expr.specs.Expressions.{Expression}
use Rattle.cluster_rules.specs.Replies.{Out, number_of}
use Rattle.script_lang.specs.Lines.{filter_of_line}
use Rattle.run_rules.specs.Lines.{Said, Makes}

abbrev pub Filters : Type 0
Filters = ℕ → Option Expression

abbrev pub is_request : Event → Bool
is_request (Ask agent asked draw) = true
is_request other = false

-- what a line says is a request
abbrev pub asks : Said → Bool
asks (Makes made) = is_request made
asks other = false

-- The filter of request k, where the next request has this number: that of the line which asks for it.
abbrev pub filter_in : (ℕ → List ℕ → Said) → ℕ → List (List ℕ) → Filters
filter_in says next [] k = None
filter_in says next (line ∷ lines) k =
    if asks (says next line)
    then (if next == k then filter_of_line line else filter_in says (suc next) lines k)
    else filter_in says next lines k

-- the filter of an out's request
abbrev pub filter_of : Filters → Out → Option Expression
filter_of filters out = option_and_then filters (number_of out)

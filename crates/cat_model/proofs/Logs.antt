-- Logs of entries.
use Rattle.std.proofs.Common.{List, [], ◌∷◌, ◌++◌}
use Rattle.std.specs.List.{AllByRecursion}
use Rattle.cat_model.specs.Log.{commands_of, InPairs, Opens, IsWellFormed, IsNoLaterTerm, IsOtherInTerm}
use Rattle.cat_model.specs.Indexes.{BeginsWithNoop, IndexLaw}
use Rattle.cat_model.specs.declared.query.Query.{Query}
use Rattle.cat_model.specs.declared.command.Entry.{Entry}
use Rattle.cat_model.proofs.IndexLaw.{index_law}

-- what holds of a log's front
All-front : {A : Type 0} (P : A → Type 0) (xs ys : List A) → AllByRecursion P (xs ++ ys) → AllByRecursion P xs
All-front P [] ys h = tt
All-front P (x ∷ xs) ys h = (h.0, All-front P xs ys h.1)

pairs_front : (R : Entry → Entry → Type 0) (log more : List Entry) → InPairs R (log ++ more) → InPairs R log
pairs_front R [] more h = tt
pairs_front R (e ∷ log) more h = (All-front (R e) log more h.0, pairs_front R log more h.1)

opens_front : (log more : List Entry) → Opens (log ++ more) → Opens log
opens_front [] more h = tt
opens_front (e ∷ log) more h = h

pub front_law : (log more : List Entry) → IsWellFormed (log ++ more) → IsWellFormed log
front_law log more h = record { opens = opens_front log more h.opens; terms = pairs_front IsNoLaterTerm log more h.terms; numbers = pairs_front IsOtherInTerm log more h.numbers }

begins : (log more : List Entry) → Opens (log ++ more) → BeginsWithNoop (commands_of log ++ commands_of more)
begins [] [] h = tt
begins [] (e ∷ more) h = h.0
begins (e ∷ log) more h = h.0

-- the index law over entries
pub entry_index_law : (q : Query) (log more : List Entry) → IsWellFormed (log ++ more) → IndexLaw q (commands_of log) (commands_of more)
entry_index_law q log more h = index_law q (commands_of log) (commands_of more) (begins log more h.opens)

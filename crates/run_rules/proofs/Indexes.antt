-- At prefixes of a log that begins with a Noop the index law tells which answer is later.
use Rattle.std.proofs.Common.{◌≡◌, ◌≢◌, ℕ, zero, suc, ◌<◌, ◌≤◌, List, [], ◌∷◌, ◌++◌, length, take, drop, sym, ◌∙◌, ap, subst, arith}
use Rattle.std.proofs.lemmas.List.{take-take, take-append-drop, length-take-le}
use Rattle.cat_model.specs.declared.command.Command.{Command}
use Rattle.cat_model.specs.declared.command.Entry.{Entry}
use Rattle.cat_model.specs.declared.query.Query.{Query}
use Rattle.cat_model.specs.Machine.{catalog_at}
use Rattle.cat_model.specs.Queries.{answer}
use Rattle.cat_model.specs.Log.{Opens, commands_of}
use Rattle.cat_model.specs.Indexes.{index_of, BeginsWithNoop, IndexLaw}
use Rattle.cat_model.proofs.IndexLaw.{index_law}
use Rattle.run_rules.specs.Holds.{IndexesTell}

opens_with_noop : (log : List Entry) → Opens log → BeginsWithNoop (commands_of log)
opens_with_noop [] opens = tt
opens_with_noop (e ∷ log) opens = opens.0

front_with_noop : (n : ℕ) (log : List Command) → BeginsWithNoop log → BeginsWithNoop (take n log)
front_with_noop zero log noop = tt
front_with_noop (suc n) [] noop = tt
front_with_noop (suc n) (c ∷ log) noop = noop

-- the longer prefix goes on from the shorter one
parts : (log : List Command) (shorter longer : ℕ) → shorter ≤ longer → take longer log ≡ take shorter log ++ drop shorter (take longer log)
parts log shorter longer within =
    sym (take-append-drop shorter (take longer log))
    ∙ ap (λ (front : List Command). front ++ drop shorter (take longer log)) (take-take shorter longer log within)

law_at : (log : List Command) (query : Query) (shorter longer : ℕ) → BeginsWithNoop log → shorter ≤ longer → IndexLaw query (take shorter log) (drop shorter (take longer log))
law_at log query shorter longer noop within =
    index_law query (take shorter log) (drop shorter (take longer log)) (subst BeginsWithNoop (parts log shorter longer within) (front_with_noop longer log noop))

-- the index law at two prefixes of one log
prefix_law : (log : List Command) (query : Query) (shorter longer : ℕ) → BeginsWithNoop log → shorter ≤ longer →
    (index_of query (take shorter log) ≤ index_of query (take longer log))
    × (answer query (catalog_at (take shorter log)) ≢ answer query (catalog_at (take longer log)) →
    (length (take shorter log) < index_of query (take longer log)) × (index_of query (take shorter log) < index_of query (take longer log)))
prefix_law log query shorter longer noop within =
    subst (λ (long : List Command).
    (index_of query (take shorter log) ≤ index_of query long)
    × (answer query (catalog_at (take shorter log)) ≢ answer query (catalog_at long) →
    (length (take shorter log) < index_of query long) × (index_of query (take shorter log) < index_of query long)))
    (sym (parts log shorter longer within))
    (law_at log query shorter longer noop within)

tells : (log : List Command) → BeginsWithNoop log → IndexesTell log
tells log noop =
    record {
      grow = λ query shorter longer within inside. (prefix_law log query shorter longer noop within).0;
      tell = λ query shorter longer within inside differ.
          let told = (prefix_law log query shorter longer noop within).1 differ in
          (subst (λ (n : ℕ). n < index_of query (take longer log)) (length-take-le shorter log (omega arith)) told.0, told.1);
    }

pub opened_tells : (log : List Entry) → Opens log → IndexesTell (commands_of log)
opened_tells log opens = tells (commands_of log) (opens_with_noop log opens)

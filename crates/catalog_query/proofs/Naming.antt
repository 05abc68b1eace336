-- The query that a name names, and what its execution comes to.
use Rattle.std.proofs.Common.{◌≡◌, ◌≢◌, ◌∙◌, ◌&&◌, not, ℕ, Bool, true, false, cond, List, [], ◌∷◌, Option, Some, None, Result, Ok, Err, refl, sym, ap, is_some}
use Rattle.std.specs.Prelude.{find}
use Rattle.std.specs.Option.{option_map}
use Rattle.std.proofs.lemmas.Bool.{true≢false}
use Rattle.cat_model.specs.Keys.{same_text, is_empty}
use Rattle.cat_model.specs.Catalog.{Catalog}
use Rattle.cat_model.specs.Executions.{execute_row, query_named, query_of, execution}
use Rattle.cat_model.specs.declared.row.QueryRow.{QueryRow}
use Rattle.cat_model.specs.declared.query.Ran.{Ran}
use Rattle.catalog_query.specs.Executing.{Executes}
use Rattle.catalog_query.specs.declared.fault.ExecuteFault.{ExecuteFault}
use Rattle.catalog_query.specs.declared.fault.ExecuteFault.TheVariants.{Unknown, Memory}

none_found : {R : Type 0} (xs : List R) → find (λ (x : R). false) xs ≡ None
none_found [] = refl
none_found (x ∷ xs) = none_found xs

pub none_named : (name : List ℕ) (rows : List QueryRow) → is_empty name ≡ true → query_named name rows ≡ None
none_named name rows e = ap (λ b. find (λ (r : QueryRow). not b && same_text r.name name) rows) e ∙ none_found rows

pub named_is : (name : List ℕ) (rows : List QueryRow) → is_empty name ≡ false → query_named name rows ≡ find (λ r. same_text r.name name) rows
named_is name rows e = ap (λ b. find (λ (r : QueryRow). not b && same_text r.name name) rows) e

abbrev is_unknown : Result Ran ExecuteFault → Bool
is_unknown (Ok ran) = false
is_unknown (Err Unknown) = true
is_unknown (Err Memory) = false

module _ (k : Catalog) (id : Option ℕ) (name : List ℕ) (limit : ℕ) where
  pub unknown_is : query_of id name k.queries ≡ None → Executes (execution k id name limit) (Err Unknown)
  unknown_is e = record { gives = tt; unknown = λ n. refl; known = λ u. ap (option_map (execute_row k limit)) e }

  module _ (row : QueryRow) (e : query_of id name k.queries ≡ Some row) where
    known_is : execution k id name limit ≡ Some (execute_row k limit row)
    known_is = ap (option_map (execute_row k limit)) e

    there : execution k id name limit ≢ None
    there n = true≢false (ap is_some (sym known_is ∙ n))

    pub ran_is : (ran : Ran) → ran ≡ execute_row k limit row → Executes (execution k id name limit) (Ok ran)
    ran_is ran is = record { gives = known_is ∙ ap Some (sym is); unknown = λ n. absurd (there n); known = λ u. absurd (true≢false (sym (ap is_unknown u))) }

    pub failed_is : Executes (execution k id name limit) (Err Memory)
    failed_is = record { gives = tt; unknown = λ n. absurd (there n); known = λ u. absurd (true≢false (sym (ap is_unknown u))) }

-- No query and no execution reads the version of the machine.
use Rattle.std.proofs.Common.{◌≡◌, ℕ, List, Option, refl}
use Rattle.cat_model.specs.Catalog.{Catalog}
use Rattle.cat_model.specs.Queries.{answer, answer_from, reads}
use Rattle.cat_model.specs.Executions.{execution, execute_row}
use Rattle.cat_model.specs.Channels.{chans}
use Rattle.cat_model.specs.Views.{Kept, kept_index}
use Rattle.cat_model.specs.declared.query.Query.{Query}
use Rattle.cat_model.specs.declared.query.Query.TheVariants as q
use Rattle.catalog_query.specs.Standing.{rows_at, kept_at}

pub answer_at : (version : ℕ) (k : Catalog) (query : Query) → answer query k ≡ answer query (rows_at version k)
unfolding answer_from reads
answer_at version k q.Nodes = refl
answer_at version k other = refl

pub chans_at : (version : ℕ) (k : Catalog) (query : Query) → chans query k ≡ chans query (rows_at version k)
unfolding chans
chans_at version k q.Nodes = refl
chans_at version k other = refl

pub index_at : (version : ℕ) (kept : Kept) (query : Query) → kept_index query kept ≡ kept_index query (kept_at version kept)
unfolding kept_index
index_at version kept q.Nodes = refl
index_at version kept other = refl

pub execution_at : (version : ℕ) (k : Catalog) (id : Option ℕ) (name : List ℕ) (limit : ℕ) → execution k id name limit ≡ execution (rows_at version k) id name limit
unfolding execute_row
execution_at version k id name limit = refl

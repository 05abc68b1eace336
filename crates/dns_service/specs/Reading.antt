-- What a reader of the catalog answers.
use Rattle.std.specs.Prelude.{List}
use Rattle.cat_model.specs.declared.command.Command.{Command}
use Rattle.cat_model.specs.declared.query.Query.{Query}
use Rattle.cat_model.specs.declared.query.Answer.{Answer}
use Rattle.cat_model.specs.Machine.{catalog_at}
use Rattle.cat_model.specs.Queries.{answer}

-- the answers of the catalog that these commands make
abbrev pub answers_at : List Command → Query → Answer
answers_at commands query = answer query (catalog_at commands)

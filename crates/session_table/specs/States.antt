-- What a table of sessions holds, as it is and as it stood at the last `keep`: the rows in the order of their identifiers.
use Rattle.std.specs.Prelude.{List}
use Rattle.cat_model.specs.declared.row.SessionRow.{SessionRow}

pub record SessionVersions : Type 0 where
  pub now : List SessionRow
  pub before : List SessionRow

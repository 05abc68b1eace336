-- What an applied position leaves as it was.
use Rattle.std.specs.Prelude.{◌≡◌, false, List}
use Rattle.cat_model.specs.Channels.{chans}
use Rattle.cat_model.specs.Indexes.{index_of}
use Rattle.cat_model.specs.Machine.{catalog_at}
use Rattle.cat_model.specs.Reach.{is_on}
use Rattle.cat_model.specs.declared.command.Command.{Command}
use Rattle.cat_model.specs.declared.query.Chan.{Chan}
use Rattle.cat_model.specs.declared.query.Query.{Query}

-- A query that hangs on no fired channel reads as before: it has the same index and hangs on the same channels.
abbrev pub SparesOthers : List Command → List Command → List Chan → Type 0
SparesOthers old new fired =
    (query : Query) → is_on fired (chans query (catalog_at old)) ≡ false → (index_of query new ≡ index_of query old) × (chans query (catalog_at new) ≡ chans query (catalog_at old))

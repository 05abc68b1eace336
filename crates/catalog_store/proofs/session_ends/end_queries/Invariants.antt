use Rattle.std.proofs.Common.{◌≡◌, take}
use Rattle.std.specs.List.{list_any}
use Rattle.cat_model.specs.Tables.{without}
use Rattle.catalog_store.specs.Ending.{is_orphan}
use Rattle.catalog_store.proofs.session_ends.end_queries.Given as goal

abbrev pub invariant-loop-session : goal.invariant-loop-session
invariant-loop-session l =
    (l.queries.now ≡ without (is_orphan (take l.session-index l.gone)) l.initial.queries.now)
    × (l.some ≡ list_any (is_orphan (take l.session-index l.gone)) l.initial.queries.now)
    × (l.queries.before ≡ l.initial.queries.before)

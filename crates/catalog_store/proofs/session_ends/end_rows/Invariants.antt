use Rattle.std.proofs.Common.{◌≡◌, take}
use Rattle.std.specs.List.{list_any}
use Rattle.cat_model.specs.Tables.{without}
use Rattle.catalog_store.specs.Ending.{is_gone}
use Rattle.catalog_store.proofs.session_ends.end_rows.Given as goal

abbrev pub invariant-loop-session : goal.invariant-loop-session
invariant-loop-session l =
    (l.sessions.now ≡ without (is_gone (take l.session-index l.gone)) l.initial.sessions.now)
    × (l.some ≡ list_any (is_gone (take l.session-index l.gone)) l.initial.sessions.now)
    × (l.sessions.before ≡ l.initial.sessions.before)

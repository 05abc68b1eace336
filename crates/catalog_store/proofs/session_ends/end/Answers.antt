use Rattle.std.proofs.Common.{◌∙◌, ◌≡◌, ◌++◌, List, sym, ap, refl, subst, map, false}
use Rattle.cat_model.specs.Views.{moved}
use Rattle.cat_model.specs.declared.fired.Freed.{Freed}
use Rattle.cat_model.specs.declared.query.Chan.TheVariants.{Key, Sessions, Queries}
use Rattle.cat_model.specs.Same.{same_session, same_query}
use Rattle.cat_model.proofs.SameLemmas.{session_decides, query_decides}
use Rattle.catalog_store.specs.Firing.{FiresJust}
use Rattle.catalog_store.specs.States.{State, now_of}
use Rattle.catalog_store.specs.Registering.{one_if}
use Rattle.catalog_store.specs.Ending.{is_gone, is_orphan, sessions_differ, queries_differ, still_fires}
use Rattle.catalog_store.proofs.Loops.{differ_is}
use Rattle.catalog_store.proofs.Endings.{ending_just}
use Rattle.catalog_store.proofs.session_ends.end.Goals as goal

pub returns-clause-ends : goal.returns-clause-ends
returns-clause-ends c =
    let old : State = now_of c.args.tables.now in
    let new : State = record old { keys = c.free.new.table.now; sessions = c.end_rows-sessions.new.sessions.now; queries = c.end_queries.new.queries.now; index = c.mark.new.indexes.now } in
    let gone = c.args.gone.now in
    let told_sessions : c.end_rows-sessions.result ≡ sessions_differ old.sessions new.sessions = c.end_rows-sessions.ensures.told ∙ sym (differ_is same_session session_decides (is_gone gone) old.sessions) ∙ ap (sessions_differ old.sessions) (sym c.end_rows-sessions.ensures.rows) in
    let told_queries : c.in_ok-queries.queries ≡ queries_differ old.queries new.queries = c.in_ok-queries.ensures.told ∙ sym (differ_is same_query query_decides (is_orphan gone) old.queries) ∙ ap (queries_differ old.queries) (sym c.in_ok-queries.ensures.rows) in
    record {
      version = refl;
      rows = refl;
      sessions = c.end_rows-sessions.ensures.rows;
      keys = c.in_ok-freed.ensures.rows;
      queries = c.in_ok-queries.ensures.rows;
      index = c.mark.ensures.now ∙ (λ j. record old.index { sessions = moved c.args.position (told_sessions j) old.index.sessions; queries = moved c.args.position (told_queries j) old.index.queries });
      indexes = c.in_ok-freed.ensures.moves.indexes;
      fires = subst (FiresJust (still_fires false old new))
          (sym (c.in_ok-chans.ensures ∙ ap (λ (l : List Freed). (map (λ f. Key f.key) l ++ one_if c.end_rows-sessions.result Sessions) ++ one_if c.in_ok-queries.queries Queries) c.as_slice.ensures))
          (ending_just old new (map (λ f. Key f.key) c.in_ok-freed.freed) c.end_rows-sessions.result c.in_ok-queries.queries c.in_ok-freed.ensures.moves.fires told_sessions told_queries);
      frees = c.in_ok-freed.ensures.freed;
    }

use Rattle.std.proofs.Common.{◌∙◌, ◌≡◌, None, [], ◌∷◌, sym, ap, subst}
use Rattle.std.specs.Ordering.{nat_cmp}
use Rattle.cat_model.specs.Tables.{put}
use Rattle.cat_model.specs.Catalog.{query_key}
use Rattle.cat_model.specs.declared.row.QueryRow.{QueryRow}
use Rattle.cat_model.specs.declared.applied.Applied.TheVariants.{Done, Refused}
use Rattle.cat_model.specs.declared.query.Chan.TheVariants.{Queries}
use Rattle.catalog_store.specs.States.{State, now_of}
use Rattle.catalog_store.specs.Whole.{ActsWhole}
use Rattle.catalog_store.specs.Making.{set_refused, made_query, makes_anew, kept_create}
use Rattle.catalog_store.proofs.Settings.{set_refuses, set_goes}
use Rattle.catalog_store.proofs.queries.set.Goals as goal

pub returns-in-Some-clause-acts : goal.returns-in-Some-clause-acts
returns-in-Some-clause-acts c =
    let old : State = now_of c.args.tables.now in
    subst (ActsWhole c.args.position c.args.command.now old old (Refused c.in-Some.refuse)) (sym c.new.ensures)
    (set_refuses c.args.position c.args.command.now c.requires.kind old c.requires.ready c.in-Some.refuse
    ((λ j. set_refused (sym c.is_new-create.ensures j) (sym c.in_ok-row.ensures j) old.sessions old.queries) ∙ sym c.set_refusal-refusal.ensures ∙ c.in-Some.is))

pub returns-clause-acts : goal.returns-clause-acts
returns-clause-acts c =
    let old : State = now_of c.args.tables.now in
    let goes : set_refused (makes_anew c.args.command.now) (made_query c.args.position c.args.command.now) old.sessions old.queries ≡ None = (λ j. set_refused (sym c.is_new-create.ensures j) (sym c.in_ok-row.ensures j) old.sessions old.queries) ∙ sym c.set_refusal-refusal.ensures ∙ c.in_default.is in
    subst (ActsWhole c.args.position c.args.command.now old (record old { queries = c.write.new.queries.now; index = c.touch.new.self.now }) Done) (sym c.in_ok-chans.ensures)
    (subst (λ (s : State). ActsWhole c.args.position c.args.command.now old s Done (Queries ∷ []))
    (λ j. record old { queries = sym (c.in_ok-write.ensures.rows ∙ ap (λ (q : QueryRow). put nat_cmp query_key (kept_create q old.queries) old.queries) c.in_ok-row.ensures) j; index = sym c.touch.ensures.now j })
    (set_goes c.args.position c.args.command.now c.requires.kind old c.requires.ready goes))

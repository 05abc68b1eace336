use Rattle.std.proofs.Common.{◌∙◌, ◌≡◌, None, [], ◌∷◌, sym, ap, subst}
use Rattle.std.specs.Ordering.{nat_cmp}
use Rattle.cat_model.specs.Tables.{put}
use Rattle.cat_model.specs.Catalog.{session_key}
use Rattle.cat_model.specs.declared.row.SessionRow.{SessionRow}
use Rattle.cat_model.specs.declared.applied.Applied.TheVariants.{Done, Refused}
use Rattle.cat_model.specs.declared.query.Chan.TheVariants.{Sessions}
use Rattle.catalog_store.specs.States.{State, now_of}
use Rattle.catalog_store.specs.Whole.{ActsWhole}
use Rattle.catalog_store.specs.Making.{create_refused, made_session}
use Rattle.catalog_store.proofs.Makings.{create_refuses, create_goes}
use Rattle.catalog_store.proofs.sessions.create.Goals as goal

pub returns-in-Some-clause-acts : goal.returns-in-Some-clause-acts
returns-in-Some-clause-acts c =
    let old : State = now_of c.args.tables.now in
    subst (ActsWhole c.args.position c.args.command.now old old (Refused c.in-Some.refuse)) (sym c.new.ensures)
    (create_refuses c.args.position c.args.command.now c.requires.kind old c.requires.ready c.in-Some.refuse
    (ap (λ (s : SessionRow). create_refused s old.sessions old.rows) (sym c.in_ok-row.ensures) ∙ sym c.create_refusal.ensures ∙ c.in-Some.is))

pub returns-clause-acts : goal.returns-clause-acts
returns-clause-acts c =
    let old : State = now_of c.args.tables.now in
    let goes : create_refused (made_session c.args.position c.args.command.now) old.sessions old.rows ≡ None = ap (λ (s : SessionRow). create_refused s old.sessions old.rows) (sym c.in_ok-row.ensures) ∙ sym c.create_refusal.ensures ∙ c.in_default.is in
    subst (ActsWhole c.args.position c.args.command.now old (record old { sessions = c.create.new.self.now; index = c.touch.new.self.now }) Done) (sym c.in_ok-chans.ensures)
    (subst (λ (s : State). ActsWhole c.args.position c.args.command.now old s Done (Sessions ∷ []))
    (λ j. record old { sessions = sym (c.in_ok-create.ensures.rows ∙ ap (λ (s : SessionRow). put nat_cmp session_key s old.sessions) c.in_ok-row.ensures) j; index = sym c.touch.ensures.now j })
    (create_goes c.args.position c.args.command.now c.requires.kind old c.requires.ready goes))

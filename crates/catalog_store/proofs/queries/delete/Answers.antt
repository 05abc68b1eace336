use Rattle.std.proofs.Common.{◌∙◌, ◌++◌, sym, ap, subst}
use Rattle.cat_model.specs.declared.applied.Applied.TheVariants.{Done}
use Rattle.cat_model.specs.declared.command.Command.TheVariants.{QueryDelete}
use Rattle.cat_model.specs.declared.query.Chan.TheVariants.{Queries}
use Rattle.touch_positions.specs.declared.positions.Table.TheVariants as table
use Rattle.catalog_store.specs.States.{State, now_of}
use Rattle.catalog_store.specs.Whole.{ActsWhole}
use Rattle.catalog_store.specs.Registering.{one_if, touched_if}
use Rattle.catalog_store.proofs.Makings.{delete_acts}
use Rattle.catalog_store.proofs.queries.delete.Goals as goal

pub returns-clause-acts : goal.returns-clause-acts
returns-clause-acts c =
    let old : State = now_of c.args.tables.now in
    subst (λ (s : State). ActsWhole c.args.position (QueryDelete c.args.id) old s Done c.push_if.new.chans)
    (λ j. record old { queries = sym c.remove-there.ensures.rows j; index = sym (c.touch_if.ensures.now ∙ ap (λ b. touched_if b table.Queries c.args.position old.index) c.remove-there.ensures.there) j })
    (delete_acts c.args.position c.args.id old c.requires.ready c.push_if.new.chans
    (c.in_ok-push_if.ensures ∙ ap (λ l. l ++ one_if c.remove-there.result Queries) c.new-chans.ensures ∙ ap (λ b. one_if b Queries) c.remove-there.ensures.there))

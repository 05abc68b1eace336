use Rattle.std.proofs.Common.{List, sym, ◌∙◌, ap, subst, map}
use Rattle.cat_model.specs.declared.fired.Freed.{Freed}
use Rattle.cat_model.specs.declared.query.Chan.TheVariants.{Key}
use Rattle.catalog_store.specs.declared.key_commands.freed_keys.Holding.{Holding}
use Rattle.catalog_store.specs.Steps.{Moves}
use Rattle.catalog_store.specs.Freeing.{Frees, holdings, freed_holding}
use Rattle.catalog_store.proofs.FreeingMoves.{rows_are, freed_are, freeing_moves}
use Rattle.catalog_store.proofs.key_commands.freed_keys.free.Goals as goal

pub returns-clause-rows : goal.returns-clause-rows
returns-clause-rows c =
    let gone = c.args.gone.now in
    let old = c.args.table.now in
    let new = c.free_each.new.table in
    let frees : Frees (holdings gone old.now.rows) c.args.position old new =
    subst (λ (l : List Holding). Frees l c.args.position old new) (c.as_slice.ensures.value ∙ c.in_ok-holdings.ensures.found) c.in_ok-free_each.ensures.ok in
    rows_are gone c.args.position old new c.in_ok-holdings.ensures.order frees

pub returns-clause-freed : goal.returns-clause-freed
returns-clause-freed c =
    ap (λ (l : List Freed). map (λ (f : Freed). (f.key, f.delay_ms)) l) (c.in_ok-freed.ensures ∙ ap (map freed_holding) c.in_ok-holdings.ensures.found) ∙ freed_are c.args.gone.now c.args.table.now.now.rows

pub returns-clause-moves : goal.returns-clause-moves
returns-clause-moves c =
    let gone = c.args.gone.now in
    let old = c.args.table.now in
    let new = c.free_each.new.table in
    let frees : Frees (holdings gone old.now.rows) c.args.position old new =
    subst (λ (l : List Holding). Frees l c.args.position old new) (c.as_slice.ensures.value ∙ c.in_ok-holdings.ensures.found) c.in_ok-free_each.ensures.ok in
    subst (λ (l : List Freed). Moves c.args.position old new (map (λ (f : Freed). Key f.key) l)) (sym (c.in_ok-freed.ensures ∙ ap (map freed_holding) c.in_ok-holdings.ensures.found))
    (freeing_moves gone c.args.position old new c.in_ok-holdings.ensures.order frees)

use Rattle.std.proofs.Common.{◌≡◌, ◌++◌, ◌∷◌, [], List, None, take, sym, ◌∙◌, ap, subst}
use Rattle.std.proofs.lemmas.List.{take_more, take_all}
use Rattle.std.proofs.lemmas.Cmp.{nat_list_cmp_total}
use Rattle.cat_model.specs.Keys.{text_cmp}
use Rattle.catalog_store.specs.declared.key_commands.freed_keys.Holding.{Holding}
use Rattle.catalog_store.specs.Freeing.{Frees, holding_key, holding_at}
use Rattle.catalog_store.proofs.FreeingTables.{none_in_front}
use Rattle.catalog_store.proofs.FreeingSteps.{frees_none, frees_more}
use Rattle.catalog_store.proofs.key_commands.freed_keys.free_each.Goals as goal

pub loop-holding-init : goal.loop-holding-init
loop-holding-init c = frees_none c.args.position c.args.table.now

pub loop-holding-preserved : goal.loop-holding-preserved
loop-holding-preserved c =
    let done : List Holding = take c.loop-holding.holding-index c.args.holdings.now in
    let h : Holding = c.holding-item.result in
    let other : holding_at h.key done ≡ None =
    ap (λ (x : Holding). holding_at x.key done) c.holding-item.is ∙ none_in_front text_cmp holding_key nat_list_cmp_total c.args.holdings.now c.loop-holding.holding-index h c.loop-holding-test.true c.requires in
    subst (λ (l : List Holding). Frees l c.args.position c.args.table.now c.free_key.new.table)
    (sym (take_more c.args.holdings.now c.loop-holding.holding-index h c.loop-holding-test.true ∙ ap (λ (y : Holding). done ++ y ∷ []) (sym c.holding-item.is)))
    (frees_more done h c.args.position c.args.table.now c.loop-holding.table c.free_key.new.table other c.loop-holding.invariant c.in_ok-free_key.ensures.ok)

pub returns-clause-ok : goal.returns-clause-ok
returns-clause-ok c = subst (λ (l : List Holding). Frees l c.args.position c.args.table.now c.loop-holding.table) (take_all c.loop-holding.holding-index c.args.holdings.now c.loop-holding-test.false) c.loop-holding.invariant

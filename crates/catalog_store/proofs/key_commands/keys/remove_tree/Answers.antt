use Rattle.std.proofs.Common.{◌≡◌, ℕ, List, sym, ◌∙◌, ap, subst}
use Rattle.cat_model.specs.Keys.{text_cmp, has_prefix}
use Rattle.cat_model.specs.Tables.{Ascends}
use Rattle.cat_model.specs.declared.query.Chan.{Chan}
use Rattle.cat_model.specs.declared.applied.Applied.TheVariants.{Yes}
use Rattle.cat_model.specs.declared.command.Command.TheVariants.{KvDeleteTree}
use Rattle.catalog_store.specs.Steps.{KeyStep, BuriesEach}
use Rattle.catalog_store.proofs.Commands.{delete_tree_step}
use Rattle.catalog_store.proofs.Trees.{tree_moves, tree_rows, keys_of, chans_of}
use Rattle.catalog_store.proofs.key_commands.keys.remove_tree.Goals as goal

pub returns-clause-step : goal.returns-clause-step
returns-clause-step c version sessions =
    let under : List ℕ → List (List ℕ) = λ p. keys_of (has_prefix p) c.args.table.now.now.rows in
    let keys_are : c.in_ok-keys.keys ≡ under c.args.prefix.now = c.in_ok-keys.ensures.keys ∙ ap under c.as_str.ensures in
    let each : BuriesEach (under c.args.prefix.now) c.args.position c.args.table.now c.bury_each.new.table = subst (λ (l : List (List ℕ)). BuriesEach l c.args.position c.args.table.now c.bury_each.new.table) (c.as_slice-2.ensures ∙ keys_are) c.in_ok-bury_each.ensures.ok in
    let asc : Ascends text_cmp (λ (key : List ℕ). key) (under c.args.prefix.now) = subst (λ (l : List (List ℕ)). Ascends text_cmp (λ (key : List ℕ). key) l) keys_are c.in_ok-keys.ensures.order in
    let chans_are : c.in_ok-chans.chans ≡ chans_of (has_prefix c.args.prefix.now) (under c.args.prefix.now) = c.in_ok-chans.ensures ∙ ap (chans_of (has_prefix c.args.prefix.now)) (c.as_slice.ensures ∙ keys_are) in
    subst (λ (l : List Chan). KeyStep version sessions c.args.position (KvDeleteTree c.args.prefix.now) c.args.table.now c.bury_each.new.table Yes l) (sym chans_are)
    (delete_tree_step version sessions c.args.position c.args.table.now c.bury_each.new.table (chans_of (has_prefix c.args.prefix.now) (under c.args.prefix.now)) c.args.prefix.now (each.rows ∙ tree_rows c.args.prefix.now c.args.table.now.now.rows)
    (tree_moves (has_prefix c.args.prefix.now) c.args.position c.args.table.now c.bury_each.new.table asc each))

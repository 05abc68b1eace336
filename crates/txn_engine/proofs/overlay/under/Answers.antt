use Rattle.std.proofs.Common.{◌∙◌, sym, ap, subst, filter}
use Rattle.std.proofs.lemmas.Cmp.{nat_list_cmp_total}
use Rattle.cat_model.specs.Keys.{text_cmp, has_prefix}
use Rattle.cat_model.specs.Catalog.{kv_key}
use Rattle.cat_model.specs.Tables.{Ascends}
use Rattle.cat_model.proofs.TableLemmas.{Ascends-filter}
use Rattle.txn_engine.specs.Changes.{change_key, changed}
use Rattle.txn_engine.proofs.Laid.{changed_under}
use Rattle.txn_engine.proofs.overlay.under.Goals as goal

pub table_of-requires : goal.table_of-requires
table_of-requires g c = subst (Ascends text_cmp kv_key) (sym c.in_ok-rows_under.ensures) (Ascends-filter text_cmp kv_key nat_list_cmp_total (λ r. has_prefix c.args.prefix.now r.key) (g.R.KvRows.rows c.args.rows.now) c.requires)

pub returns : goal.returns
returns g c =
    c.in_ok-make_under.ensures ∙ ap (changed (filter (λ x. has_prefix c.args.prefix.now (change_key x)) c.args.changes.now.now)) (c.in_ok-table.ensures ∙ c.in_ok-rows_under.ensures)
    ∙ changed_under c.args.prefix.now c.args.changes.now.now (g.R.KvRows.rows c.args.rows.now) c.in_order.ensures c.requires

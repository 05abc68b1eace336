use Rattle.std.proofs.Common.{◌≡◌, false, [], ◌∷◌, ◌++◌, ◌∙◌, cond, sym, ap, subst, append-nil, map, filter}
use Rattle.std.proofs.lemmas.Cmp.{nat_list_cmp_total}
use Rattle.cat_model.specs.Keys.{text_cmp, has_prefix}
use Rattle.cat_model.specs.Catalog.{kv_key}
use Rattle.cat_model.specs.Tables.{Ascends}
use Rattle.cat_model.proofs.Elements.{Ascends-map}
use Rattle.cat_model.proofs.TableLemmas.{Ascends-filter}
use Rattle.row_table.proofs.Spans.{leading}
use Rattle.kv_table.proofs.Prefixes.{under, leading_is}
use Rattle.kv_table.proofs.rows.keys_under.Goals.{in-None, in-Some+then-not-begins}
use Rattle.kv_table.proofs.rows.keys_under.Goals as goal

pub returns-clause-keys : goal.returns-clause-keys
returns-clause-keys c =
    let p = c.args.prefix.now in
    let done : leading (under kv_key p) c.loop-row.row-iterator ≡ [] =
    elim c.match-next.branch [
      | in-None w ↦ ap (leading (under kv_key p)) w.in-None.ensures.steps.0
      | in-Some+then-not-begins w ↦
          let fails : has_prefix p w.in-Some.row.now.key ≡ false = ap (has_prefix p) (sym w.as_str.ensures) ∙ sym w.begins.ensures ∙ w.if-not-begins.true in
          ap (leading (under kv_key p)) w.in-Some.ensures.steps ∙ ap (λ b. cond b (w.in-Some.row.now ∷ leading (under kv_key p) c.next.new.self) []) fails
    ] in
    sym (append-nil c.loop-row.found.items) ∙ ap (λ l. c.loop-row.found.items ++ map kv_key l) (sym done) ∙ c.loop-row.invariant ∙ ap (map kv_key) (leading_is kv_key p c.args.rows.now.now c.in_order.ensures)

pub returns-clause-order : goal.returns-clause-order
returns-clause-order c =
    subst (Ascends text_cmp (λ key. key)) (sym (returns-clause-keys c)) (Ascends-map text_cmp kv_key (filter (λ r. has_prefix c.args.prefix.now r.key) c.args.rows.now.now) (Ascends-filter text_cmp kv_key nat_list_cmp_total (λ r. has_prefix c.args.prefix.now r.key) c.args.rows.now.now c.in_order.ensures))

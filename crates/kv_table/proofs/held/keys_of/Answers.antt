use Rattle.std.proofs.Common.{◌≡◌, false, [], ◌∷◌, ◌++◌, ◌∙◌, List, cond, sym, ap, subst, append-nil, map, filter}
use Rattle.std.specs.Ordering.{nat_cmp}
use Rattle.std.proofs.lemmas.Cmp.{nat_cmp_total, nat_list_cmp_total}
use Rattle.std.proofs.lemmas.Map.Lookups.{exact_bytes, exact_unsigned}
use Rattle.cat_model.specs.Keys.{text_cmp}
use Rattle.cat_model.specs.Catalog.{kv_key}
use Rattle.cat_model.specs.Tables.{Ascends}
use Rattle.cat_model.specs.declared.row.KvRow.{KvRow}
use Rattle.cat_model.proofs.Elements.{Ascends-map}
use Rattle.cat_model.proofs.TableLemmas.{Ascends-filter}
use Rattle.kv_table.specs.States.{is_held_by}
use Rattle.kv_table.proofs.Holding.{held_keys}
use Rattle.row_table.proofs.Spans.{leading}
use Rattle.row_table.proofs.Places.{number_differs, least_text}
use Rattle.row_table.proofs.FiledUnder.{is_mine, walk_is}
use Rattle.kv_table.proofs.held.keys_of.Goals.{in-None, in-Some+then-row-session}
use Rattle.kv_table.proofs.held.keys_of.Goals as goal

pub returns-clause-keys : goal.returns-clause-keys
returns-clause-keys c =
    let id = c.args.session in
    let done : leading (is_mine nat_cmp id) c.loop-row.row-iterator ≡ [] =
    elim c.match-next.branch [
      | in-None w ↦ ap (leading (is_mine nat_cmp id)) w.in-None.ensures.steps.0
      | in-Some+then-row-session w ↦
          let fails : is_mine nat_cmp id w.in-Some.row.now ≡ false = ap (is_mine nat_cmp id) (sym w.row.view_is) ∙ number_differs w.row.inside.session id w.if-row-session.true in
          ap (leading (is_mine nat_cmp id)) w.in-Some.ensures.steps ∙ ap (λ b. cond b (w.in-Some.row.now ∷ leading (is_mine nat_cmp id) c.next.new.self) []) fails
    ] in
    sym (append-nil c.loop-row.found.items) ∙ ap (λ l. c.loop-row.found.items ++ map (λ h. h.1) l) (sym done) ∙ c.loop-row.invariant
    ∙ ap (map (λ h. h.1)) (walk_is nat_cmp text_cmp nat_cmp_total nat_list_cmp_total exact_unsigned exact_bytes id [] least_text c.args.held.now.now c.in_order-2.ensures)
    ∙ held_keys id c.args.rows.now.now c.args.held.now.now c.in_order.ensures c.in_order-2.ensures c.requires

pub returns-clause-order : goal.returns-clause-order
returns-clause-order c =
    let kept : List KvRow = filter (is_held_by c.args.session) c.args.rows.now.now in
    subst (Ascends text_cmp (λ key. key)) (sym (returns-clause-keys c)) (Ascends-map text_cmp kv_key kept (Ascends-filter text_cmp kv_key nat_list_cmp_total (is_held_by c.args.session) c.args.rows.now.now c.in_order.ensures))

use Rattle.std.proofs.Common.{◌≡◌, false, [], ◌∷◌, ◌++◌, ◌∙◌, cond, sym, ap, append-nil}
use Rattle.cat_model.specs.Catalog.{service_key}
use Rattle.cat_model.specs.Keys.{same_text}
use Rattle.row_table.proofs.Spans.{leading}
use Rattle.catalog_table.specs.Touching.{service_names}
use Rattle.catalog_table.proofs.Ranges.{on, range_is}
use Rattle.catalog_table.proofs.services.add_names_on.Goals as goal

pub returns-in-None : goal.returns-in-None
returns-in-None c =
    let node = c.args.node.now in
    let done : leading (on service_key node) c.loop-row.row-iterator ≡ [] = ap (leading (on service_key node)) c.in-None.ensures.steps.0 in
    sym (append-nil c.loop-row.names) ∙ ap (λ l. c.loop-row.names ++ service_names l) (sym done) ∙ c.loop-row.invariant ∙ ap (λ l. c.args.names.now ++ service_names l) (range_is service_key node c.args.rows.now.now c.in_order.ensures)

pub returns-then-not-is_text : goal.returns-then-not-is_text
returns-then-not-is_text c =
    let node = c.args.node.now in
    let fails : same_text c.in-Some.row.now.node node ≡ false = sym c.is_text.ensures ∙ c.if-not-is_text.true in
    let done : leading (on service_key node) c.loop-row.row-iterator ≡ [] =
    ap (leading (on service_key node)) c.in-Some.ensures.steps ∙ ap (λ b. cond b (c.in-Some.row.now ∷ leading (on service_key node) c.next.new.self) []) fails in
    sym (append-nil c.loop-row.names) ∙ ap (λ l. c.loop-row.names ++ service_names l) (sym done) ∙ c.loop-row.invariant ∙ ap (λ l. c.args.names.now ++ service_names l) (range_is service_key node c.args.rows.now.now c.in_order.ensures)

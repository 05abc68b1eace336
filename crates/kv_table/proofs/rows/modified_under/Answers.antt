use Rattle.std.proofs.Common.{◌≡◌, true, false, [], ◌∷◌, ◌∙◌, cond, sym, ap}
use Rattle.cat_model.specs.Keys.{has_prefix}
use Rattle.cat_model.specs.Catalog.{kv_key}
use Rattle.cat_model.specs.KvIndexes.{last_modify}
use Rattle.row_table.proofs.Spans.{leading}
use Rattle.kv_table.proofs.Prefixes.{under, leading_is}
use Rattle.kv_table.proofs.Modifies.{modify_step, modify_filter}
use Rattle.kv_table.proofs.rows.modified_under.Goals as goal

pub loop-row-preserved : goal.loop-row-preserved
loop-row-preserved c =
    let p = c.args.prefix.now in
    let rest = leading (under kv_key p) c.next.new.self in
    let passes : has_prefix p c.in-Some.row.now.key ≡ true = ap (has_prefix p) (sym c.as_str.ensures) ∙ sym c.begins.ensures ∙ c.if-not-begins.false in
    ap (λ n. last_modify (has_prefix p) n rest) c.max-last.ensures ∙ sym (modify_step (has_prefix p) c.loop-row.last c.in-Some.row.now rest passes)
    ∙ ap (last_modify (has_prefix p) c.loop-row.last) (sym (ap (leading (under kv_key p)) c.in-Some.ensures.steps ∙ ap (λ b. cond b (c.in-Some.row.now ∷ rest) []) passes)) ∙ c.loop-row.invariant

pub returns-in-None : goal.returns-in-None
returns-in-None c =
    let p = c.args.prefix.now in
    sym (ap (λ l. last_modify (has_prefix p) c.loop-row.last (leading (under kv_key p) l)) c.in-None.ensures.steps.0) ∙ c.loop-row.invariant
    ∙ ap (last_modify (has_prefix p) c.args.least) (leading_is kv_key p c.args.rows.now.now c.in_order.ensures) ∙ modify_filter (has_prefix p) c.args.least c.args.rows.now.now

pub returns-then-not-begins : goal.returns-then-not-begins
returns-then-not-begins c =
    let p = c.args.prefix.now in
    let fails : has_prefix p c.in-Some.row.now.key ≡ false = ap (has_prefix p) (sym c.as_str.ensures) ∙ sym c.begins.ensures ∙ c.if-not-begins.true in
    let done : leading (under kv_key p) c.loop-row.row-iterator ≡ [] = ap (leading (under kv_key p)) c.in-Some.ensures.steps ∙ ap (λ b. cond b (c.in-Some.row.now ∷ leading (under kv_key p) c.next.new.self) []) fails in
    sym (ap (last_modify (has_prefix p) c.loop-row.last) done) ∙ c.loop-row.invariant
    ∙ ap (last_modify (has_prefix p) c.args.least) (leading_is kv_key p c.args.rows.now.now c.in_order.ensures) ∙ modify_filter (has_prefix p) c.args.least c.args.rows.now.now

use Rattle.std.proofs.Common.{◌≡◌, true, false, [], ◌∷◌, ◌∙◌, cond, sym, ap, max}
use Rattle.cat_model.specs.Keys.{has_prefix}
use Rattle.cat_model.specs.KvIndexes.{last_tomb}
use Rattle.row_table.proofs.Spans.{leading}
use Rattle.kv_table.proofs.Prefixes.{under, leading_is}
use Rattle.kv_table.proofs.TombLemmas.{tomb_key, tomb_step, tomb_filter}
use Rattle.kv_table.proofs.tombs.last_under.Goals as goal

pub loop-tomb-preserved : goal.loop-tomb-preserved
loop-tomb-preserved c =
    let p = c.args.prefix.now in
    let rest = leading (under tomb_key p) c.next.new.self in
    let passes : has_prefix p c.in-Some.tomb.now.0 ≡ true = ap (λ t. has_prefix p t.0) (sym c.tomb.view_is) ∙ ap (has_prefix p) (sym c.as_str.ensures) ∙ sym c.begins.ensures ∙ c.if-not-begins.false in
    ap (λ n. last_tomb (has_prefix p) n rest) (c.max-last.ensures ∙ ap (λ t. max c.loop-tomb.last t.1) c.tomb.view_is) ∙ sym (tomb_step (has_prefix p) c.loop-tomb.last c.in-Some.tomb.now rest passes)
    ∙ ap (last_tomb (has_prefix p) c.loop-tomb.last) (sym (ap (leading (under tomb_key p)) c.in-Some.ensures.steps ∙ ap (λ b. cond b (c.in-Some.tomb.now ∷ rest) []) passes)) ∙ c.loop-tomb.invariant

pub returns-in-None : goal.returns-in-None
returns-in-None c =
    let p = c.args.prefix.now in
    sym (ap (λ l. last_tomb (has_prefix p) c.loop-tomb.last (leading (under tomb_key p) l)) c.in-None.ensures.steps.0) ∙ c.loop-tomb.invariant
    ∙ ap (last_tomb (has_prefix p) c.args.floor) (leading_is tomb_key p c.args.tombs.now.now c.in_order.ensures) ∙ tomb_filter (has_prefix p) c.args.floor c.args.tombs.now.now

pub returns-then-not-begins : goal.returns-then-not-begins
returns-then-not-begins c =
    let p = c.args.prefix.now in
    let fails : has_prefix p c.in-Some.tomb.now.0 ≡ false = ap (λ t. has_prefix p t.0) (sym c.tomb.view_is) ∙ ap (has_prefix p) (sym c.as_str.ensures) ∙ sym c.begins.ensures ∙ c.if-not-begins.true in
    let done : leading (under tomb_key p) c.loop-tomb.tomb-iterator ≡ [] = ap (leading (under tomb_key p)) c.in-Some.ensures.steps ∙ ap (λ b. cond b (c.in-Some.tomb.now ∷ leading (under tomb_key p) c.next.new.self) []) fails in
    sym (ap (last_tomb (has_prefix p) c.loop-tomb.last) done) ∙ c.loop-tomb.invariant
    ∙ ap (last_tomb (has_prefix p) c.args.floor) (leading_is tomb_key p c.args.tombs.now.now c.in_order.ensures) ∙ tomb_filter (has_prefix p) c.args.floor c.args.tombs.now.now

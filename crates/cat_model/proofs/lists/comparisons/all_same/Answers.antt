use Rattle.std.proofs.Common.{◌≡◌, ◌∙◌, ◌&&◌, refl, sym, ap}
use Rattle.std.proofs.lemmas.Fn.{says_at_two}
use Rattle.std.specs.Cmp.Lexicographic.{pointwise}
use Rattle.cat_model.proofs.lists.comparisons.all_same.Goals as goal

pub returns-then-not-same : goal.returns-then-not-same
returns-then-not-same g c = λ e h.
    let said : c.same.result ≡ e c.in-Some.x.now c.in-Some-split_first.y.now = h _ _ c.same.result (says_at_two g.F.Fn c.same.ensures refl) in
    ap (λ b. b && pointwise e c.in-Some.more.now c.in-Some-split_first.rest.now) (sym c.if-not-same.true ∙ said)
    ∙ (λ i. pointwise e (sym c.in-Some.ensures.cases.0 i) (sym c.in-Some-split_first.ensures.cases.0 i)) ∙ c.loop-x.invariant e h

pub loop-x-preserved : goal.loop-x-preserved
loop-x-preserved g c = λ e h.
    let said : c.same.result ≡ e c.in-Some.x.now c.in-Some-split_first.y.now = h _ _ c.same.result (says_at_two g.F.Fn c.same.ensures refl) in
    ap (λ b. b && pointwise e c.in-Some.more.now c.in-Some-split_first.rest.now) (sym c.if-not-same.false ∙ said)
    ∙ (λ i. pointwise e (sym c.in-Some.ensures.cases.0 i) (sym c.in-Some-split_first.ensures.cases.0 i)) ∙ c.loop-x.invariant e h

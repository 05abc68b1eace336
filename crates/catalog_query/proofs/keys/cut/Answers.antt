use Rattle.std.proofs.Common.{◌∙◌, ◌++◌, sym, ap, append_assoc, drop, length}
use Rattle.std.proofs.lemmas.Result.{IfOk-weaker}
use Rattle.catalog_query.proofs.Cutting.{unprefixed, cut_none, cut_some, not_empty, key_cut}
use Rattle.catalog_query.proofs.keys.cut.Goals as goal

pub returns-in_default : goal.returns-in_default
returns-in_default c = absurd (c.in_default.ensures.cases (drop (length c.args.prefix.now) c.args.key.now) (unprefixed c.args.prefix.now c.args.key.now c.requires))

pub returns-in-None : goal.returns-in-None
returns-in-None c =
    let p = c.args.prefix.now in let s = c.args.separator.now in let k = c.args.key.now in let h = c.in-Some.ensures.cases in
    let some = not_empty s (sym c.is_empty.ensures ∙ c.if-is_empty.false) in
    IfOk-weaker c.new-in-None.result _ _
    (λ t e. e ∙ h.1.1 ∙ ap (λ l. p ++ l) (sym h.2) ∙ ap (λ l. p ++ l) (sym (cut_none s c.in-Some.rest.now c.in-None.ensures.cases)) ∙ sym (key_cut p s k c.in-Some.rest.now h.0 some h.1.0 h.1.1 h.2))
    c.new-in-None.ensures

pub returns-in-Some-split_once : goal.returns-in-Some-split_once
returns-in-Some-split_once c =
    let p = c.args.prefix.now in let s = c.args.separator.now in let k = c.args.key.now in let h = c.in-Some.ensures.cases in let w = c.in-Some-split_once.ensures.cases in
    let some = not_empty s (sym c.is_empty.ensures ∙ c.if-is_empty.false) in
    IfOk-weaker c.join_three.result _ _
    (λ t e. e ∙ append_assoc p c.in-Some-split_once.before.now s ∙ ap (λ l. p ++ (l ++ s)) w.3 ∙ ap (λ l. p ++ l) (sym (cut_some s c.in-Some.rest.now w.0 (drop w.1 c.in-Some.rest.now) some w.2.0 w.2.1.split)) ∙ sym (key_cut p s k c.in-Some.rest.now h.0 some h.1.0 h.1.1 h.2))
    c.join_three.ensures

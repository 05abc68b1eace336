use Rattle.std.proofs.Common.{◌∙◌, ◌++◌, ◌∷◌, [], sym, ap, Some, None}
use Rattle.node_rows.proofs.SideBySide.{stray, both, alone}
use Rattle.node_rows.proofs.sides.step.Goals as goal

pub returns-in_ok-push-in-Less : goal.returns-in_ok-push-in-Less
returns-in_ok-push-in-Less g c =
    stray g.R.Row.cmp g.R.Row.key g.met.R.Row.total c.args.left.now c.args.rest.now c.in-Some.more.now c.in-Some-split_first.behind.now c.in-Some.row.now c.in-Some-split_first.first.now c.args.sides.now.pairs.items c.args.sides.now.pairs.items c.args.sides.now.strays.items c.push-in-Less.new.self.items
    c.in-Some.ensures.cases.0 c.in-Some-split_first.ensures.cases.0 c.requires.own c.requires.there ((λ i. g.R.Row.cmp (g.R.Row.key (sym c.row.ensures i)) (g.R.Row.key (sym c.row-own.ensures i))) ∙ sym c.order.ensures ∙ c.in-Less.is) (c.in_ok-push-in-Less.ensures.items ∙ ap (λ t. c.args.sides.now.strays.items ++ t ∷ []) c.again.ensures)

pub returns-in_ok-push-in-Equal : goal.returns-in_ok-push-in-Equal
returns-in_ok-push-in-Equal g c =
    both g.R.Row.cmp g.R.Row.key g.met.R.Row.total c.args.left.now c.args.rest.now c.in-Some.more.now c.in-Some-split_first.behind.now c.in-Some.row.now c.in-Some-split_first.first.now c.args.sides.now.pairs.items c.push-in-Equal.new.self.items c.args.sides.now.strays.items c.args.sides.now.strays.items
    c.in-Some.ensures.cases.0 c.in-Some-split_first.ensures.cases.0 c.requires.own c.requires.there ((λ i. g.R.Row.cmp (g.R.Row.key (sym c.row.ensures i)) (g.R.Row.key (sym c.row-own.ensures i))) ∙ sym c.order.ensures ∙ c.in-Equal.is) (c.in_ok-push-in-Equal.ensures.items ∙ (λ i. c.args.sides.now.pairs.items ++ (c.row-own.ensures i, Some (c.row-in-Equal.ensures i)) ∷ []))

pub returns-in_ok-push-in-Greater : goal.returns-in_ok-push-in-Greater
returns-in_ok-push-in-Greater g c =
    alone g.R.Row.cmp g.R.Row.key g.met.R.Row.total c.args.left.now c.args.rest.now c.in-Some.more.now c.in-Some-split_first.behind.now c.in-Some.row.now c.in-Some-split_first.first.now c.args.sides.now.pairs.items c.push-in-Greater.new.self.items c.args.sides.now.strays.items c.args.sides.now.strays.items
    c.in-Some.ensures.cases.0 c.in-Some-split_first.ensures.cases.0 c.requires.own c.requires.there ((λ i. g.R.Row.cmp (g.R.Row.key (sym c.row.ensures i)) (g.R.Row.key (sym c.row-own.ensures i))) ∙ sym c.order.ensures ∙ c.in-Greater.is) (c.in_ok-push-in-Greater.ensures.items ∙ (λ i. c.args.sides.now.pairs.items ++ (c.row-own.ensures i, None) ∷ []))

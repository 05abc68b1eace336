use Rattle.std.proofs.Common.{◌≡◌, ◌+◌, ◌++◌, ◌||◌, [], ◌∷◌, take, sym, ◌∙◌, ap, subst}
use Rattle.std.proofs.lemmas.List.{take_more}
use Rattle.session_table.specs.Places.{Entries, is_at, is_one_of, Takes}
use Rattle.session_table.proofs.Entries.{takes_both, takes_same, next_more}
use Rattle.session_table.proofs.places.unfile_each.Goals as goal

pub loop-check-preserved : goal.loop-check-preserved
loop-check-preserved c =
    let node = c.args.node.now in let checks = c.args.checks.now in let i = c.loop-check.check-index in let check = c.check-item.result in let id = c.args.id in
    let old : Entries = c.args.places.now.now in let between : Entries = c.loop-check.places.now in let new : Entries = c.unfile_at.new.places.now in
    let front : take (i + 1) checks ≡ take i checks ++ check ∷ [] = take_more checks i check c.loop-check-test.true ∙ ap (λ y. take i checks ++ y ∷ []) (sym c.check-item.is) in
    let last : Takes (is_at (node, check)) id between new = subst (λ t. Takes (is_at (node, t)) id between new) c.as_str.ensures c.unfile_at.ensures.now in (
      takes_same (λ p. is_one_of node (take i checks) p || is_at (node, check) p) (is_one_of node (take (i + 1) checks)) (next_more node i checks check front) id old new
          (takes_both (is_one_of node (take i checks)) (is_at (node, check)) id old between new c.loop-check.invariant.0 last),
      c.unfile_at.ensures.before ∙ c.loop-check.invariant.1,
    )

use Rattle.std.proofs.Common.{◌≡◌, ◌+◌, ◌++◌, ◌||◌, [], ◌∷◌, take, sym, ◌∙◌, ap, subst}
use Rattle.std.proofs.lemmas.List.{take_more}
use Rattle.cat_model.proofs.Clones.{text_same}
use Rattle.session_table.specs.Places.{Entries, is_at, is_one_of, Adds, Spares}
use Rattle.session_table.proofs.Entries.{adds_both, adds_same, adds_spares, next_more, spares_both, spares_more, spares_same}
use Rattle.session_table.proofs.places.file_each.Goals as goal

pub returns-in_err-clone-clause-others : goal.returns-in_err-clone-clause-others
returns-in_err-clone-clause-others c =
    let node = c.args.node.now in let checks = c.args.checks.now in let i = c.loop-check.check-index in
    spares_more node i checks c.args.id c.args.places.now.now c.loop-check.places.now (adds_spares (is_one_of node (take i checks)) c.args.id c.args.places.now.now c.loop-check.places.now c.loop-check.invariant.0)

pub returns-in_err-file_at-clause-others : goal.returns-in_err-file_at-clause-others
returns-in_err-file_at-clause-others c =
    let node = c.args.node.now in let checks = c.args.checks.now in let i = c.loop-check.check-index in let check = c.check-item.result in let id = c.args.id in
    let old : Entries = c.args.places.now.now in let between : Entries = c.loop-check.places.now in let new : Entries = c.file_at.new.places.now in
    let front : take (i + 1) checks ≡ take i checks ++ check ∷ [] = take_more checks i check c.loop-check-test.true ∙ ap (λ y. take i checks ++ y ∷ []) (sym c.check-item.is) in
    let last : Spares (is_at (node, check)) id between new = subst (λ t. Spares (is_at (node, t)) id between new) (text_same check c.in_ok-clone.field-0 c.in_ok-clone.ensures.cases) c.in_err-file_at.ensures.others in
    spares_more node (i + 1) checks id old new
    (spares_same (λ p. is_one_of node (take i checks) p || is_at (node, check) p) (is_one_of node (take (i + 1) checks)) (next_more node i checks check front) id old new
    (spares_both (is_one_of node (take i checks)) (is_at (node, check)) id old between new (adds_spares (is_one_of node (take i checks)) id old between c.loop-check.invariant.0) last))

pub loop-check-preserved : goal.loop-check-preserved
loop-check-preserved c =
    let node = c.args.node.now in let checks = c.args.checks.now in let i = c.loop-check.check-index in let check = c.check-item.result in let id = c.args.id in
    let old : Entries = c.args.places.now.now in let between : Entries = c.loop-check.places.now in let new : Entries = c.file_at.new.places.now in
    let front : take (i + 1) checks ≡ take i checks ++ check ∷ [] = take_more checks i check c.loop-check-test.true ∙ ap (λ y. take i checks ++ y ∷ []) (sym c.check-item.is) in
    let last : Adds (is_at (node, check)) id between new = subst (λ t. Adds (is_at (node, t)) id between new) (text_same check c.in_ok-clone.field-0 c.in_ok-clone.ensures.cases) c.in_ok-file_at.ensures.ok in (
      adds_same (λ p. is_one_of node (take i checks) p || is_at (node, check) p) (is_one_of node (take (i + 1) checks)) (next_more node i checks check front) id old new
          (adds_both (is_one_of node (take i checks)) (is_at (node, check)) id old between new c.loop-check.invariant.0 last),
      c.file_at.ensures.before ∙ c.loop-check.invariant.1,
    )

use Rattle.std.proofs.Common.{◌||◌, [], subst}
use Rattle.std.proofs.lemmas.Result.{on_ok_weaker}
use Rattle.session_table.specs.Nodes.{is_on}
use Rattle.session_table.specs.Places.{Entries, is_at, is_one_of, Adds}
use Rattle.session_table.proofs.Entries.{adds_both, adds_same, all_places}
use Rattle.session_table.proofs.places.file.Goals as goal

pub returns-clause-ok : goal.returns-clause-ok
returns-clause-ok c =
    let row = c.args.row.now in let old : Entries = c.args.places.now.now in let between : Entries = c.file_at.new.places.now in let new : Entries = c.file_each.new.places.now in
    let first : Adds (is_at (row.node, [])) row.id old between = subst (λ t. Adds (is_at (row.node, t)) row.id old between) c.in_ok-new.ensures c.in_ok-file_at.ensures.ok in
    on_ok_weaker c.file_each.result
    (λ rest.
    adds_same (λ p. is_at (row.node, []) p || is_one_of row.node row.checks p) (λ p. is_on p.0 p.1 row) (all_places row) row.id old new
    (adds_both (is_at (row.node, [])) (is_one_of row.node row.checks) row.id old between new first (subst (λ l. Adds (is_one_of row.node l) row.id between new) c.as_slice.ensures rest)))
    c.file_each.ensures.ok

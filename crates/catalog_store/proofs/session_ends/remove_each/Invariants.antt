use Rattle.std.proofs.Common.{◌≡◌, length, nat_eq}
use Rattle.std.specs.List.{list_any}
use Rattle.cat_model.specs.Tables.{without}
use Rattle.catalog_store.proofs.session_ends.remove_each.Given as goal

abbrev pub invariant-loop-id : goal.invariant-loop-id
invariant-loop-id l =
    (without (λ q. list_any (λ i. nat_eq q.id i) l.left) l.queries.now ≡ without (λ q. list_any (λ i. nat_eq q.id i) l.fn.ids) l.initial.queries.now)
    × (l.queries.before ≡ l.initial.queries.before)

abbrev pub decreases-loop-id : goal.decreases-loop-id
decreases-loop-id l = length l.left

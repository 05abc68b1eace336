use Rattle.std.proofs.Common.{rules}
use Rattle.std.proofs.lemmas.List.Sorted.{answers_always, IsNonDecreasingBy-from_sort}
use Rattle.session_ttl.specs.Endings.{over_in}
use Rattle.session_ttl.proofs.Sorting.{sort_is}
use Rattle.session_ttl.proofs.ends.sort.Goals as goal

pub returns : goal.returns
returns c =
    let keys = answers_always _ _ _ (λ f a r next called. search rules) in
    sort_is over_in c.args.overdue.now.items c.sort_by_key.new.self.items (IsNonDecreasingBy-from_sort over_in _ (c.in_ok-sort_by_key.ensures.sorted over_in keys)) (c.sort_by_key.ensures.stable over_in keys)

use Rattle.std.proofs.Common.{rules}
use Rattle.std.specs.Ordering.{is_lt}
use Rattle.std.proofs.lemmas.List.Sorted.{answers_always, ranks_by}
use Rattle.cat_model.specs.Catalog.{check_key}
use Rattle.cat_model.specs.Keys.{pair_cmp}
use Rattle.cat_model.proofs.Pairs.{pair_cmp_total}
use Rattle.catalog_table.proofs.served.sort.Goals as goal

pub returns-clause-sorted : goal.returns-clause-sorted
returns-clause-sorted c = c.in_ok-sort_by.ensures.sorted (λ a b. is_lt (pair_cmp (check_key a) (check_key b))) (ranks_by pair_cmp_total check_key) (answers_always _ _ _ (λ f a r f' k. search rules))

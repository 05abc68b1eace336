use Rattle.std.proofs.Common.{rules, ◌≡◌, ◌∙◌, ap}
use Rattle.std.specs.List.{dedup}
use Rattle.std.specs.List.Sorted.{IsSortedBy}
use Rattle.std.specs.Ordering.{is_lt}
use Rattle.std.proofs.lemmas.Cmp.{nat_list_cmp_total}
use Rattle.std.proofs.lemmas.Fn.{dedup_same}
use Rattle.std.proofs.lemmas.List.Sorted.{answers_always, ranks_by}
use Rattle.cat_model.specs.Keys.{same_text, text_cmp}
use Rattle.cat_model.specs.Queries.{all_names}
use Rattle.catalog_query.proofs.NameLists.{names_are}
use Rattle.catalog_query.proofs.names.sorted.Goals as goal

pub returns : goal.returns
returns c =
    let up : IsSortedBy (λ x y. is_lt (text_cmp x y)) c.sort_by.new.self.items = c.in_ok-sort_by.ensures.sorted (λ x y. is_lt (text_cmp x y)) (ranks_by nat_list_cmp_total (λ x. x)) (answers_always _ _ _ (λ f a r f' k. search rules)) in
    let once : c.dedup_by.new.self.items ≡ dedup same_text c.sort_by.new.self.items = dedup_same _ same_text _ (λ x y b f' x' y' k. search rules) _ _ c.dedup_by.ensures.filtered in
    c.from.ensures ∙ once ∙ names_are _ c.sort_by.new.self.items c.sort_by.ensures.permutation up ∙ ap all_names c.into_vec-found.ensures

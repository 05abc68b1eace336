use Rattle.std.proofs.Common.{◌≡◌, ◌∙◌, true, sym, ap, subst, filter, map}
use Rattle.std.specs.List.{AllByRecursion}
use Rattle.std.proofs.lemmas.Result.{IfOk-weaker}
use Rattle.cat_model.specs.Catalog.{kv_key}
use Rattle.cat_model.specs.Keys.{has_prefix}
use Rattle.cat_model.specs.Queries.{all_names, cut_key}
use Rattle.catalog_query.proofs.Cutting.{keys_prefixed, cut_keys}
use Rattle.catalog_query.proofs.keys.names_under.Goals as goal

pub cut_each-requires : goal.cut_each-requires
cut_each-requires c =
    let p = c.args.prefix.now in let rows = c.args.kv.now.now.rows in
    subst (AllByRecursion (λ key. has_prefix p key ≡ true)) (sym (c.as_slice.ensures ∙ c.in_ok-keys.ensures.keys ∙ ap (λ n. map kv_key (filter (λ r. has_prefix n r.key) rows)) c.as_str.ensures)) (keys_prefixed p rows)

pub returns : goal.returns
returns c =
    let p = c.args.prefix.now in let s = c.args.separator.now in let rows = c.args.kv.now.now.rows in
    IfOk-weaker c.sorted.result _ _
    (λ l e. e ∙ ap all_names (c.in_ok-cut.ensures ∙ ap (map (cut_key p s)) (c.as_slice.ensures ∙ c.in_ok-keys.ensures.keys ∙ ap (λ n. map kv_key (filter (λ r. has_prefix n r.key) rows)) c.as_str.ensures) ∙ cut_keys p s (filter (λ r. has_prefix p r.key) rows)))
    c.sorted.ensures

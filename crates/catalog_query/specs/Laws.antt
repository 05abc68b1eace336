-- What a view shows: the index by the positions alone is that of what is kept, where just the names with rows have a
-- position of their own, and where it stands for a log all is that of the log.
use Rattle.std.proofs.Common.{◌≡◌, ◌∙◌, ℕ, Bool, true, false, cond, List, [], ◌∷◌, Option, Some, None, refl, sym, ap, is_some, unwrap_or, max}
use Rattle.cat_model.specs.Keys.{same_text}
use Rattle.cat_model.specs.Machine.{catalog_at}
use Rattle.cat_model.specs.Queries.{answer}
use Rattle.cat_model.specs.Executions.{execution}
use Rattle.cat_model.specs.Indexes.{has_name, has_node, index_of}
use Rattle.cat_model.specs.Channels.{chans}
use Rattle.cat_model.specs.Views.{Kept, ViewLaw, kept_index, name_index, host_index, position_of, health_position}
use Rattle.cat_model.specs.declared.query.Query.{Query}
use Rattle.cat_model.specs.declared.query.Query.TheVariants as q
use Rattle.cat_model.specs.declared.command.Command.{Command}
use Rattle.cat_model.proofs.ViewLaw.{view_law}
use Rattle.touch_positions.specs.NameVersions.{own_position}
use Rattle.catalog_query.specs.Standing.{kept_at, own_or_vanished, own_or_gone, view_index, NamesFit, Stands}
use Rattle.catalog_query.specs.Unread.{answer_at, chans_at, index_at, execution_at}

own_or_first : (name : List ℕ) (names : List (List ℕ × ℕ)) → position_of name names ≡ unwrap_or (own_position name names) 1
own_or_first name [] = refl
own_or_first name (n ∷ names) = go (same_text n.0 name) (own_or_first name names)
  where
    go : (b : Bool) → position_of name names ≡ unwrap_or (own_position name names) 1 → cond b n.1 (position_of name names) ≡ unwrap_or (cond b (Some n.1) (own_position name names)) 1
    go true ih = refl
    go false ih = ih

-- a position of one's own, or that of all without one
own_or : (name : List ℕ) (names : List (List ℕ × ℕ)) (lost : ℕ) (b : Bool) → is_some (own_position name names) ≡ b → unwrap_or (own_position name names) lost ≡ cond b (position_of name names) lost
own_or name names lost b fits =
    go (own_position name names) ∙ (λ i. cond (fits i) (sym (own_or_first name names) i) lost)
  where
    go : (o : Option ℕ) → unwrap_or o lost ≡ cond (is_some o) (unwrap_or o 1) lost
    go None = refl
    go (Some p) = refl

name_is : (name : List ℕ) (kept : Kept) → NamesFit kept → own_or_vanished name kept ≡ name_index name kept
name_is name kept fit = own_or name kept.names kept.vanished (has_name name kept.rows) (fit.each name)

host_is : (node : List ℕ) (kept : Kept) → NamesFit kept → own_or_gone node kept ≡ host_index node (position_of node kept.hosts) kept
host_is node kept fit = own_or node kept.hosts kept.gone (has_node node kept.rows) (fit.hosts node)

health_is : (node : List ℕ) (kept : Kept) → NamesFit kept → view_index (q.HealthNode node) kept ≡ host_index node (health_position node kept) kept
unfolding view_index
health_is node kept fit = (λ i. cond (has_node node kept.rows) (max (host_is node kept fit i) (sym (own_or_first node kept.host_checks) i)) (host_is node kept fit i)) ∙ go (has_node node kept.rows)
  where
    own : ℕ
    own = position_of node kept.hosts

    checks : ℕ
    checks = position_of node kept.host_checks

    go : (b : Bool) → cond b (max (cond b own kept.gone) checks) (cond b own kept.gone) ≡ cond b (max own checks) kept.gone
    go true = refl
    go false = refl

pub positions_are : (query : Query) (kept : Kept) → NamesFit kept → view_index query kept ≡ kept_index query kept
unfolding view_index kept_index
positions_are (q.Service name tags) kept fit = name_is name kept fit
positions_are (q.HealthService name tags passing) kept fit = name_is name kept fit
positions_are (q.NodeServices node) kept fit = host_is node kept fit
positions_are (q.HealthNode node) kept fit = health_is node kept fit
positions_are other kept fit = refl

-- What stands for a log shows what the log does.
pub stands_answer : (kept : Kept) (log : List Command) (query : Query) → Stands kept log → answer query kept.rows ≡ answer query (catalog_at log)
stands_answer kept log query h = answer_at (catalog_at log).version kept.rows query ∙ ap (answer query) h.keeps.rows

pub stands_index : (kept : Kept) (log : List Command) (query : Query) → Stands kept log → view_index query kept ≡ index_of query log
stands_index kept log query h =
    let version = (catalog_at log).version in
    positions_are query kept h.names ∙ index_at version kept query ∙ (view_law query (kept_at version kept) log h.keeps).index

pub stands_chans : (kept : Kept) (log : List Command) (query : Query) → Stands kept log → chans query kept.rows ≡ chans query (catalog_at log)
stands_chans kept log query h = chans_at (catalog_at log).version kept.rows query ∙ ap (chans query) h.keeps.rows

pub stands_execution : (kept : Kept) (log : List Command) (id : Option ℕ) (name : List ℕ) (limit : ℕ) → Stands kept log → execution kept.rows id name limit ≡ execution (catalog_at log) id name limit
stands_execution kept log id name limit h = execution_at (catalog_at log).version kept.rows id name limit ∙ ap (λ k. execution k id name limit) h.keeps.rows

use Rattle.std.proofs.Common.{◌≡◌, List, length, Result, Ok, Err}
use Rattle.std.specs.Prelude.{IfOk}
use Rattle.cat_model.specs.declared.command.Command.{Command}
use Rattle.cat_model.specs.declared.query.Query.{Query}
use Rattle.cat_model.specs.Indexes.{index_of}
use Rattle.cat_model.specs.Machine.{catalog_at}
use Rattle.cat_model.specs.Queries.{answer}
use Rattle.stale_view.specs.declared.viewer.Unseen.{Unseen}
use Rattle.stale_view.specs.declared.viewer.Viewed.{Viewed}
use Rattle.http_exchanges.proofs.views.glance_counted.Goals as goal

seen_all : (r : Result Viewed Unseen) (query : Query) (list : List Command) → IfOk r (λ v. v.answer ≡ answer query (catalog_at list)) → IfOk r (λ v. v.index ≡ index_of query list) → IfOk r (λ v. v.prefix ≡ length list)
    → IfOk r (λ v. (v.answer ≡ answer query (catalog_at list)) × (v.index ≡ index_of query list) × (v.prefix ≡ length list))
seen_all (Ok v) query list a b d = (a, b, d)
seen_all (Err e) query list a b d = tt

pub returns-clause-seen : goal.returns-clause-seen
returns-clause-seen g c = seen_all c.read.result c.args.query.now c.read.new.self c.read.ensures.answer c.read.ensures.index c.read.ensures.prefix

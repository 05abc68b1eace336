use Rattle.std.proofs.Common.{◌≡◌, ◌++◌, drop, map, take}
use Rattle.cat_model.specs.Catalog.{service_at, service_key}
use Rattle.node_rows.specs.Tags.{all_tagged}
use Rattle.anti_entropy.specs.Parts.{retagged}
use Rattle.anti_entropy.proofs.tags.retags.Given as goal

abbrev pub invariant-loop-at : goal.invariant-loop-at
invariant-loop-at l = all_tagged l.all.items l.services ≡ map (λ s. retagged (service_at (service_key s) l.there) s) (take l.at l.services) ++ drop l.at l.services

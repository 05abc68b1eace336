use Rattle.std.proofs.Common.{◌≡◌, filter, map, take}
use Rattle.std.specs.List.{filter_map}
use Rattle.cat_model.specs.Catalog.{session_at}
use Rattle.cluster_rules.specs.Offices.{is_over}
use Rattle.session_ttl.specs.Endings.{overdue_of}
use Rattle.session_ttl.proofs.office.Office.overdue_among.Given as goal

abbrev pub invariant-loop-id : goal.invariant-loop-id
invariant-loop-id l = l.overdue.items ≡ map (overdue_of l.clocks l.self) (filter (is_over l.clocks l.self l.now) (filter_map (λ id. session_at id l.sessions.now) (take l.id-index l.ids)))

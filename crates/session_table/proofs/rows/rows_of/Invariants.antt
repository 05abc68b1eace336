use Rattle.std.proofs.Common.{◌≡◌, take}
use Rattle.std.specs.List.{filter_map}
use Rattle.cat_model.specs.Catalog.{session_at}
use Rattle.session_table.proofs.rows.rows_of.Given as goal

abbrev pub invariant-loop-id : goal.invariant-loop-id
invariant-loop-id l = l.found.items ≡ filter_map (λ id. session_at id l.rows.now) (take l.id-index l.ids)

use Rattle.std.proofs.Common.{arith}
use Rattle.std.proofs.lemmas.Grind.{common_steps}
use Rattle.std.proofs.lemmas.List.Elements.{filter_map-append}
use Rattle.session_table.proofs.rows.rows_of.Goals as goal

pub loop-id-preserved : goal.loop-id-preserved
loop-id-preserved c = grind (arith, common_steps, filter_map-append)

use Rattle.std.proofs.Common.{inr}
use Rattle.script_player.proofs.Runs.{closed_from, part_closed}
use Rattle.script_player.proofs.player.play_script.Goals as goal

pub returns-in-Ok-write_refused-clause-run : goal.returns-in-Ok-write_refused-clause-run
returns-in-Ok-write_refused-clause-run g c =
    closed_from _ _ _ _ _ (rw c.in-Err-Refused.field-0-is at c.in-Err-Refused.ensures.refused) c.in-Ok-write_refused.ensures.text

pub returns-in-Err-Refused-clause-part : goal.returns-in-Err-Refused-clause-part
returns-in-Err-Refused-clause-part g c =
    inr (part_closed _ _ _ _ _ (rw c.in-Err-Refused.field-0-is at c.in-Err-Refused.ensures.refused) c.in-Err.ensures.part)

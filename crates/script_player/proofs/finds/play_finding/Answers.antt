use Rattle.script_player.specs.Run.{closed}
use Rattle.script_player.specs.Text.{refused_text}
use Rattle.script_lang.specs.Text.{reason_text}
use Rattle.script_player.proofs.finds.play_finding.Goals as goal

pub returns-in-Err-Refused : goal.returns-in-Err-Refused
returns-in-Err-Refused g c =
    let why = c.in-Err-Refused.field-0-0 in
    (why.line, reason_text why.reason, refused_text why.line (reason_text why.reason), closed why.line (reason_text why.reason) (rw c.in-Err-Refused.field-0-is at c.in-Err-Refused.ensures.refused))

use Rattle.script_player.proofs.Fine.{misfit_told}
use Rattle.script_player.proofs.reader.fitted.Goals as goal

pub returns-in-Err : goal.returns-in-Err
returns-in-Err g c = λ s worded.
    let words = rw c.in-Makes.is at worded in
    rw c.bad_of.ensures (misfit_told _ s c.in-Makes.event c.in-Err.misfit words.0 c.in-Err.ensures)

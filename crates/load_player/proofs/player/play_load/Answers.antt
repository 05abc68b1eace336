use Rattle.load_player.proofs.Sums.{load_played, load_part}
use Rattle.load_player.proofs.player.play_load.Goals as goal

pub returns-in-Ok-write_summary-clause-played : goal.returns-in-Ok-write_summary-clause-played
returns-in-Ok-write_summary-clause-played g c =
    load_played c.args.load.now c.in-Ok.found.numbers c.in-Ok.report _ _ c.in-Ok.ensures
    (rw (c.len.ensures, c.len-log.ensures) at c.in-Ok-write_summary.ensures.text)

pub returns-in-Err-write_summary-clause-part : goal.returns-in-Err-write_summary-clause-part
returns-in-Err-write_summary-clause-part g c =
    load_part c.args.load.now c.in-Ok.found.numbers c.in-Ok.report _ _ c.in-Ok.ensures
    (rw (c.len.ensures, c.len-log.ensures) at c.in-Err-write_summary.ensures.part)

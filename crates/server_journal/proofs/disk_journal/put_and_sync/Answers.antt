use Rattle.std.proofs.Common.{◌∙◌}
use Rattle.server_journal.proofs.Putting.{all_put}
use Rattle.server_journal.proofs.disk_journal.put_and_sync.Goals as goal

pub returns-clause-shown : goal.returns-clause-shown
returns-clause-shown g c =
    all_put c.args.piece.now (g.D.Disk.shown c.args.disk.now) (g.D.Disk.shown c.sync.new.self) c.sync.result (c.sync.ensures.shown ∙ c.in_ok-put_at.ensures.shown.ok)

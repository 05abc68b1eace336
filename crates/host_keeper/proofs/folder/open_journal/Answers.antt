use Rattle.std.proofs.Common.{rules}
use Rattle.std.specs.Option.{ForSome}
use Rattle.host_keeper.specs.Folders.{HasReason}
use Rattle.host_keeper.proofs.Asking.{if_err}
use Rattle.host_keeper.proofs.folder.open_journal.Goals as goal

pub returns-in_err-refuse_missing-clause-err : goal.returns-in_err-refuse_missing-clause-err
returns-in_err-refuse_missing-clause-err g c =
    if_err (λ refusal. ForSome (g.F.JournalFiles.files c.args.files.now) (λ all. HasReason (all c.args.folder.now) c.args.servers refusal)) c.from_residual-in_err-refuse_missing.result c.in_err-refuse_missing.field-0.0 (search rules)
    (λ x e. c.in_err-refuse_missing.ensures.err x e c.args.servers)

pub returns-in-Err-clause-err : goal.returns-in-Err-clause-err
returns-in-Err-clause-err g c = λ x e. c.refusal_of.ensures (x c.args.folder.now) c.args.servers

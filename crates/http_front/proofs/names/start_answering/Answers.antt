use Rattle.http_front.proofs.Naming.{answers_some}
use Rattle.http_front.proofs.names.start_answering.Goals as goal

pub returns-in-Ok-clause-started : goal.returns-in-Ok-clause-started
returns-in-Ok-clause-started g c = answers_some _ _ c.args.names c.in-Some.names c.in-Ok.answering c.in-Some.is c.in-Ok.ensures.started

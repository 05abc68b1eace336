use Rattle.http_wire.proofs.Told.{tells, takes}
use Rattle.http_wire.proofs.reader.RequestReader.feed.Goals as goal

pub returns-clause-tells : goal.returns-clause-tells
returns-clause-tells c = tells c.args.self.now c.take_step.new.self c.args.piece.now c.take_step.result.used c.take_step.result.got c.take_step.ensures.feeds

pub returns-clause-takes : goal.returns-clause-takes
returns-clause-takes c = takes c.args.self.now c.take_step.new.self c.args.piece.now c.take_step.result.used c.take_step.result.got c.take_step.ensures.feeds

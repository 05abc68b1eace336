use Rattle.std.proofs.Common.{rules, slice_set}
use Rattle.std.proofs.lemmas.Option.{IfSome_then}
use Rattle.read_watch.proofs.Waiting.{first_in, first_gone, others_are}
use Rattle.read_watch.proofs.lines.Lines.take_first.Goals as goal

pub returns-then-at-len-clause-kept : goal.returns-then-at-len-clause-kept
returns-then-at-len-clause-kept c =
    IfSome_then c.take_first.result c.take_first.ensures.some (λ request p. first_gone c.args.self.now (slice_set c.self.inside.servers.items c.place-at.result c.take_first.new.self) c.args.server request p.0 p.1
    (first_in c.args.self.now c.self.inside.servers.items c.place-at.result c.args.server c.index_mut.result.now c.take_first.new.self c.self.view_is c.place-at.ensures (search rules) c.index_mut.ensures.value (p.0, p.1, request) p.2)
    (others_are c.args.self.now c.self.inside.servers.items c.place-at.result c.args.server c.index_mut.result.now c.take_first.new.self c.self.view_is c.place-at.ensures (search rules) c.index_mut.ensures.value))

pub returns-then-at-len-clause-some : goal.returns-then-at-len-clause-some
returns-then-at-len-clause-some c =
    IfSome_then c.take_first.result c.take_first.ensures.some (λ request p. (p.0, p.1, first_in c.args.self.now c.self.inside.servers.items c.place-at.result c.args.server c.index_mut.result.now c.take_first.new.self c.self.view_is c.place-at.ensures (search rules) c.index_mut.ensures.value (p.0, p.1, request) p.2))

use Rattle.std.proofs.Common.{rules, sym, subst, Contains}
use Rattle.std.proofs.lemmas.Option.{IfSome_then}
use Rattle.read_watch.specs.Lines.{Line}
use Rattle.read_watch.proofs.Waiting.{was}
use Rattle.read_watch.proofs.lines.Lines.first.Goals as goal

pub returns-then-at-len-clause-there : goal.returns-then-at-len-clause-there
returns-then-at-len-clause-there c =
    IfSome_then c.first.result c.first.ensures.there (λ at p. (p.0, subst (λ (l : Line). Contains l (at.0, at.1, p.0)) (sym (was c.args.self.now c.self.inside.servers.items c.place-at.result c.args.server c.index.result.now c.index.result.now c.self.view_is c.place-at.ensures (search rules) c.index.ensures)) p.1))

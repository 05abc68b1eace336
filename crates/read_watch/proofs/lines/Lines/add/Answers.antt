use Rattle.std.proofs.Common.{rules, sym, subst, Contains}
use Rattle.read_watch.specs.Lines.{Waiter, Line}
use Rattle.read_watch.proofs.Waiting.{is, kept_in, only_in}
use Rattle.read_watch.proofs.lines.Lines.add.Goals as goal

pub returns-then-at-len-clause-there : goal.returns-then-at-len-clause-there
returns-then-at-len-clause-there c = λ h.
    let k : Waiter = (c.args.term, c.args.number, c.args.request) in
    subst (λ (l : Line). Contains l k) (sym (is c.args.self.now c.self.inside.servers.items c.place-at.result c.args.server c.index_mut.result.now c.add.new.self c.self.view_is c.place-at.ensures (search rules) c.index_mut.ensures.value)) (c.add.ensures.there h)

pub returns-then-at-len-clause-kept : goal.returns-then-at-len-clause-kept
returns-then-at-len-clause-kept c = kept_in c.args.self.now c.self.inside.servers.items c.place-at.result c.args.server c.index_mut.result.now c.add.new.self c.self.view_is c.place-at.ensures (search rules) c.index_mut.ensures.value c.add.ensures.kept

pub returns-then-at-len-clause-alone : goal.returns-then-at-len-clause-alone
returns-then-at-len-clause-alone c =
    let k : Waiter = (c.args.term, c.args.number, c.args.request) in
    only_in c.args.self.now c.self.inside.servers.items c.place-at.result c.args.server c.index_mut.result.now c.add.new.self c.self.view_is c.place-at.ensures (search rules) c.index_mut.ensures.value k c.add.ensures.alone

use Rattle.std.proofs.Common.{ap, subst, not, nat_eq, Contains}
use Rattle.read_watch.proofs.Members.{passing_were}
use Rattle.read_watch.proofs.Places.{others_stay}
use Rattle.read_watch.proofs.watch.Watch.forget.Goals as goal

pub returns-clause-sleepers : goal.returns-clause-sleepers
returns-clause-sleepers c =
    others_stay c.args.self.now.servers c.self.inside.servers.items c.place.result c.args.server c.index_mut.result.now c.forget.new.self (ap (λ w. w.servers) c.self.view_is) c.place.ensures c.requires.1 c.index_mut.ensures.value c.args.number c.forget.ensures.others

pub returns-clause-alone : goal.returns-clause-alone
returns-clause-alone c = λ n h. subst (λ w. Contains w.awake n) c.self.view_is (passing_were (λ m. not (nat_eq m c.args.number)) n c.self.inside.awake c.take.new.self c.take.ensures.left h)

use Rattle.std.proofs.Common.{Err, subst, sym}
use Rattle.raft_node.specs.Steps.{MayPropose, Proposes}
use Rattle.raft_node.proofs.Stepping.{proposes_from}
use Rattle.raft_node.proofs.node.Node.propose.Goals as goal

pub returns-in-Err : goal.returns-in-Err
returns-in-Err g c = subst (λ m. Proposes c.args.self.now c.args.number m c.admits.new.self (Err c.in-Err.fault)) c.deref.ensures (c.in-Err.ensures.fault c.args.number)

pub enter-requires : goal.enter-requires
enter-requires g c = subst (λ n. MayPropose n c.args.number c.args.command) (sym c.admits.ensures.same) (subst (λ m. MayPropose c.args.self.now c.args.number m) c.deref.ensures (c.in_default.ensures.ok c.args.number))

pub returns : goal.returns
returns g c =
    let given = c.enter.ensures in
    let may = subst (λ n. MayPropose n c.args.number c.args.command) (sym c.admits.ensures.same) (subst (λ m. MayPropose c.args.self.now c.args.number m) c.deref.ensures (c.in_default.ensures.ok c.args.number)) in
    subst (λ n. Proposes n c.args.number c.args.command c.enter.new.self c.enter.result) c.admits.ensures.same
    (proposes_from c.admits.new.self c.enter.new.self c.args.number c.args.command c.enter.result may given.ok given.place given.halts given.err given.memory)

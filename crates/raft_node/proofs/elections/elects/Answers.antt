use Rattle.std.proofs.Common.{None, Some, [], ap, ◌+◌, ◌++◌, ◌∙◌, ◌∷◌}
use Rattle.std.proofs.lemmas.Result.{IfOk-weaker}
use Rattle.cat_model.specs.declared.reply.Role.TheVariants.{Candidate}
use Rattle.raft_node.specs.Nodes.{nowhere, seen}
use Rattle.raft_node.proofs.Stepping.{asking_plan, eq_does, eq_not, single_plan, stands_is}
use Rattle.raft_node.proofs.elections.elects.Goals as goal

pub returns-then-state-eq1 : goal.returns-then-state-eq1
returns-then-state-eq1 c =
    let copy = c.in_ok-state.state in let same = c.in_ok-state.ensures in
    IfOk-weaker c.leads.result _ _
    (λ p. single_plan c.args.old.now (record copy { term = c.args.old.now.term + 1; vote = Some copy.id; role = Candidate; leader = None; votes = c.push.new.self }) c.args.log.now p
    (stands_is copy c.args.old.now (record copy { term = c.args.old.now.term + 1; vote = Some copy.id; role = Candidate; leader = None; votes = c.push.new.self }) c.args.log.now same (λ i. record (seen nowhere copy []) {
      term = c.args.old.now.term + 1;
      vote = Some copy.id;
      role = Candidate;
      leader = None;
      votes = (c.in_ok-push.ensures.items ∙ ap (λ xs. xs ++ copy.id ∷ []) c.new-votes.ensures.items) i;
    }))
    (eq_does copy.servers 1 c.if-state-eq1.true) (ap (λ n. n.halted) same) (ap (λ n. n.commit) same) (ap (λ n. n.servers) same))
    c.leads.ensures

pub returns : goal.returns
returns c =
    let copy = c.in_ok-state.state in let same = c.in_ok-state.ensures in
    asking_plan c.args.old.now (record copy { term = c.args.old.now.term + 1; vote = Some copy.id; role = Candidate; leader = None; votes = c.push.new.self }) c.args.log.now c.in_ok-sent.sent
    (stands_is copy c.args.old.now (record copy { term = c.args.old.now.term + 1; vote = Some copy.id; role = Candidate; leader = None; votes = c.push.new.self }) c.args.log.now same (λ i. record (seen nowhere copy []) {
      term = c.args.old.now.term + 1;
      vote = Some copy.id;
      role = Candidate;
      leader = None;
      votes = (c.in_ok-push.ensures.items ∙ ap (λ xs. xs ++ copy.id ∷ []) c.new-votes.ensures.items) i;
    }))
    (eq_not copy.servers 1 c.if-state-eq1.false) (ap (λ n. n.halted) same) (ap (λ n. n.commit) same) (ap (λ n. n.servers) same) c.in_ok-sent.ensures

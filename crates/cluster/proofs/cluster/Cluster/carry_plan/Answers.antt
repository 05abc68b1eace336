use Rattle.std.proofs.Common.{◌≡◌, ◌<◌, List, Some, subst, sym, ◌∙◌, rules}
use Rattle.cat_model.specs.declared.command.Command.{Command}
use Rattle.cluster_rules.specs.Proposals.{Proposals}
use Rattle.cluster.proofs.AgentParts.{when_ok}
use Rattle.cluster.proofs.Syncing.{agent_back, agent_there, plans_part, plans_whole, still_told}
use Rattle.cluster.proofs.cluster.Cluster.carry_plan.Goals as goal

pub count_proposed-requires : goal.count_proposed-requires
count_proposed-requires g c = (
  record c.propose_all-proposed.new.self { fresh = c.args.self.now.fresh },
  still_told c.args.server c.args.agent c.propose_all-proposed.result.entered _ c.propose_all-proposed.result.whole c.args.self.now c.tell_leaderless.new.self c.propose_all-proposed.new.self
      (when_ok c.tell_leaderless.result (sym c.is_err.ensures.value ∙ c.if-is_err.false) c.tell_leaderless.ensures.ok) c.propose_all-proposed.ensures.proposals,
)

pub retag-requires : goal.retag-requires
retag-requires g c =
    let told = when_ok c.tell_leaderless.result (sym c.is_err.ensures.value ∙ c.if-is_err.false) c.tell_leaderless.ensures.ok in
    let still = still_told c.args.server c.args.agent c.propose_all-proposed.result.entered _ c.propose_all-proposed.result.whole c.args.self.now c.tell_leaderless.new.self c.propose_all-proposed.new.self
    told c.propose_all-proposed.ensures.proposals in
    agent_there c.args.server c.args.agent c.propose_all-proposed.result.entered _ c.propose_all-proposed.result.whole c.args.self.now c.tell_leaderless.new.self c.propose_all-proposed.new.self
    told c.propose_all-proposed.ensures.proposals c.count_proposed.new.self (Some c.propose_all-proposed.result.entered)
    (c.count_proposed.ensures (record c.propose_all-proposed.new.self { fresh = c.args.self.now.fresh }) still) c.requires.agent

pub returns-then-proposed-clause-whole : goal.returns-then-proposed-clause-whole
returns-then-proposed-clause-whole g c =
    let told = when_ok c.tell_leaderless.result (sym c.is_err.ensures.value ∙ c.if-is_err.false) c.tell_leaderless.ensures.ok in
    let still = still_told c.args.server c.args.agent c.propose_all-proposed.result.entered _ c.propose_all-proposed.result.whole c.args.self.now c.tell_leaderless.new.self c.propose_all-proposed.new.self
    told c.propose_all-proposed.ensures.proposals in
    let commands : c.as_slice.result.now ≡ c.args.plan.commands = search rules in
    plans_whole c.args.server c.args.agent c.propose_all-proposed.result.entered c.args.plan c.propose_all-proposed.result.whole c.args.self.now c.tell_leaderless.new.self c.propose_all-proposed.new.self
    c.count_proposed.new.self c.retag.new.self c.if-proposed.true told
    (subst (λ (cs : List Command). Proposals c.args.server cs c.tell_leaderless.new.self c.propose_all-proposed.result.entered c.propose_all-proposed.new.self c.propose_all-proposed.result.whole) commands c.propose_all-proposed.ensures.proposals)
    c.requires.plan (c.count_proposed.ensures (record c.propose_all-proposed.new.self { fresh = c.args.self.now.fresh }) still) c.retag.ensures

pub take_back-requires : goal.take_back-requires
take_back-requires g c = (
  record c.propose_all-proposed.new.self { fresh = c.args.self.now.fresh },
  still_told c.args.server c.args.agent c.propose_all-proposed.result.entered _ c.propose_all-proposed.result.whole c.args.self.now c.tell_leaderless.new.self c.propose_all-proposed.new.self
      (when_ok c.tell_leaderless.result (sym c.is_err.ensures.value ∙ c.if-is_err.false) c.tell_leaderless.ensures.ok) c.propose_all-proposed.ensures.proposals,
)

pub retag-requires-2 : goal.retag-requires-2
retag-requires-2 g c =
    let told = when_ok c.tell_leaderless.result (sym c.is_err.ensures.value ∙ c.if-is_err.false) c.tell_leaderless.ensures.ok in
    let still = still_told c.args.server c.args.agent c.propose_all-proposed.result.entered _ c.propose_all-proposed.result.whole c.args.self.now c.tell_leaderless.new.self c.propose_all-proposed.new.self
    told c.propose_all-proposed.ensures.proposals in
    agent_back c.args.server c.args.agent c.propose_all-proposed.result.entered _ c.propose_all-proposed.result.whole c.args.self.now c.tell_leaderless.new.self c.propose_all-proposed.new.self
    told c.propose_all-proposed.ensures.proposals c.take_back.new.self
    (c.take_back.ensures (record c.propose_all-proposed.new.self { fresh = c.args.self.now.fresh }) still) c.requires.agent

pub returns-clause-cut : goal.returns-clause-cut
returns-clause-cut g c =
    let told = when_ok c.tell_leaderless.result (sym c.is_err.ensures.value ∙ c.if-is_err.false) c.tell_leaderless.ensures.ok in
    let still = still_told c.args.server c.args.agent c.propose_all-proposed.result.entered _ c.propose_all-proposed.result.whole c.args.self.now c.tell_leaderless.new.self c.propose_all-proposed.new.self
    told c.propose_all-proposed.ensures.proposals in
    let commands : c.as_slice.result.now ≡ c.args.plan.commands = search rules in
    let some : 0 < c.propose_all-proposed.result.entered = search rules in
    plans_part c.args.server c.args.agent c.propose_all-proposed.result.entered c.args.plan c.propose_all-proposed.result.whole c.args.self.now c.tell_leaderless.new.self c.propose_all-proposed.new.self
    c.take_back.new.self c.retag-2.new.self c.if-proposed.false some told
    (subst (λ (cs : List Command). Proposals c.args.server cs c.tell_leaderless.new.self c.propose_all-proposed.result.entered c.propose_all-proposed.new.self c.propose_all-proposed.result.whole) commands c.propose_all-proposed.ensures.proposals)
    c.requires.plan (c.take_back.ensures (record c.propose_all-proposed.new.self { fresh = c.args.self.now.fresh }) still) c.retag-2.ensures

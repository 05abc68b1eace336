use Rattle.std.proofs.Common.{sym, ◌∙◌}
use Rattle.cluster.proofs.AgentParts.{cut_told, synced_part, synced_whole, when_ok}
use Rattle.cluster.proofs.cluster.Cluster.sync_ready.Goals as goal

pub returns-in-Ok-clause-whole : goal.returns-in-Ok-clause-whole
returns-in-Ok-clause-whole g c =
    synced_whole c.args.event.now c.args.server c.agent.result c.args.self.now c.do_own.new.self c.sync.new.self c.agent.ensures
    (when_ok c.do_own.result (sym c.is_err.ensures.value ∙ c.if-is_err.false) c.do_own.ensures.ok) c.requires.agents c.requires.ready c.in-Ok.ensures.whole

pub returns-in-Err-Before-clause-cut : goal.returns-in-Err-Before-clause-cut
returns-in-Err-Before-clause-cut g c =
    cut_told c.args.event.now c.args.server c.agent.result c.args.self.now c.do_own.new.self c.sync.new.self c.in-Err-Before.field-0 c.cut_first.result c.agent.ensures
    (when_ok c.do_own.result (sym c.is_err.ensures.value ∙ c.if-is_err.false) c.do_own.ensures.ok) c.requires.agents c.requires.ready c.in-Err-Before.field-0-is c.cut_first.ensures c.in-Err-Before.ensures.cut

pub returns-in-Err-Within-clause-cut : goal.returns-in-Err-Within-clause-cut
returns-in-Err-Within-clause-cut g c =
    synced_part c.args.event.now c.args.server c.agent.result c.args.self.now c.do_own.new.self c.sync.new.self c.agent.ensures
    (when_ok c.do_own.result (sym c.is_err.ensures.value ∙ c.if-is_err.false) c.do_own.ensures.ok) c.requires.agents c.in-Err-Within.field-0 c.in-Err-Within.field-0-is c.requires.ready c.in-Err-Within.ensures.cut

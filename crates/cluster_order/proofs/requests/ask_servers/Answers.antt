use Rattle.std.proofs.Common.{rules, inl, refl, ◌+◌}
use Rattle.cluster_order.proofs.Working.{err_any}
use Rattle.cluster_order.specs.Evaluations.{asked_reads, lacking}
use Rattle.cluster_order.proofs.Evaluating.{evaluates_same}
use Rattle.cluster_order.proofs.requests.ask_servers.Goals as goal

pub way-requires-clause-agent : goal.way-requires-clause-agent
way-requires-clause-agent g c = c.requires.agent

pub way-requires-clause-takes : goal.way-requires-clause-takes
way-requires-clause-takes g c = c.requires.takes

pub way-requires-clause-plain : goal.way-requires-clause-plain
way-requires-clause-plain g c = c.requires.plain

pub returns-in_err-way-clause-whole : goal.returns-in_err-way-clause-whole
returns-in_err-way-clause-whole g c = search rules

pub returns-in_err-way-clause-cut : goal.returns-in_err-way-clause-cut
returns-in_err-way-clause-cut g c = err_any c.from_residual.result _ (inl refl)

pub ask_by-requires-clause-takes : goal.ask_by-requires-clause-takes
ask_by-requires-clause-takes g c = c.requires.takes

pub ask_by-requires-clause-way : goal.ask_by-requires-clause-way
ask_by-requires-clause-way g c = c.in_ok-way.ensures.way

pub ask_by-requires-clause-server : goal.ask_by-requires-clause-server
ask_by-requires-clause-server g c = c.in_ok-way.ensures.server

pub returns-clause-whole : goal.returns-clause-whole
returns-clause-whole g c = c.ask_by.ensures.whole

pub returns-clause-cut : goal.returns-clause-cut
returns-clause-cut g c = c.ask_by.ensures.cut

pub returns-in_err-way-clause-counted : goal.returns-in_err-way-clause-counted
returns-in_err-way-clause-counted g c =
    evaluates_same (asked_reads c.args.asked.now + lacking c.from_residual.result) c.args.steps.now (g.P.Parts.state c.args.parts.now) (g.P.Parts.state c.args.parts.now) refl

pub returns-clause-counted : goal.returns-clause-counted
returns-clause-counted g c =
    c.ask_by.ensures.counted

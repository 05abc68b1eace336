use Rattle.std.proofs.Common.{rules, inl, arith}
use Rattle.cluster_order.specs.AgentEvents.{alone, event_of_agent}
use Rattle.cluster_order.proofs.Working.{err_any}
use Rattle.cluster_order.proofs.AgentSteps.{stayed}
use Rattle.cluster_order.proofs.Adding.{adds_to, alone_adds, shelved_adds}
use Rattle.cluster_order.proofs.Evaluating.{adds_on, adds_same}
use Rattle.cluster_order.proofs.syncs.stay.Goals as goal

pub do_alone-requires-clause-fits : goal.do_alone-requires-clause-fits
do_alone-requires-clause-fits g c = c.requires.fits

pub do_alone-requires-clause-agents : goal.do_alone-requires-clause-agents
do_alone-requires-clause-agents g c = c.requires.agents

pub do_alone-requires-clause-takes : goal.do_alone-requires-clause-takes
do_alone-requires-clause-takes g c = c.requires.takes

pub do_alone-requires-clause-alone : goal.do_alone-requires-clause-alone
do_alone-requires-clause-alone g c = c.requires.alone

pub returns-in_err-do_alone-clause-whole : goal.returns-in_err-do_alone-clause-whole
returns-in_err-do_alone-clause-whole g c = search rules

pub returns-in_err-do_alone-clause-cut : goal.returns-in_err-do_alone-clause-cut
returns-in_err-do_alone-clause-cut g c = err_any c.from_residual.result _ (inl c.in_err-do_alone.ensures.err)

pub returns-clause-whole : goal.returns-clause-whole
returns-clause-whole g c = stayed c.args.leaderless (event_of_agent c.args.event.now) (g.P.Parts.state c.args.parts.now) (g.P.Parts.state c.do_alone.new.self) (g.P.Parts.state c.shelve.new.self) c.requires.agents c.requires.alone c.in_ok-do_alone.ensures.ok c.shelve.ensures

pub returns-in_err-do_alone-clause-counted : goal.returns-in_err-do_alone-clause-counted
returns-in_err-do_alone-clause-counted g c =
    adds_same 0 (g.P.Parts.state c.args.parts.now) (g.P.Parts.state c.do_alone.new.self) c.in_err-do_alone.ensures.err

pub returns-clause-counted : goal.returns-clause-counted
returns-clause-counted g c =
    adds_on 0 0 0 (g.P.Parts.state c.args.parts.now) (g.P.Parts.state c.do_alone.new.self) (g.P.Parts.state c.shelve.new.self) (omega arith) (adds_to 0 (g.P.Parts.state c.args.parts.now) (alone c.args.leaderless (event_of_agent c.args.event.now) (g.P.Parts.state c.args.parts.now)) (g.P.Parts.state c.do_alone.new.self) c.in_ok-do_alone.ensures.ok (alone_adds c.args.leaderless (event_of_agent c.args.event.now) (g.P.Parts.state c.args.parts.now))) (shelved_adds (g.P.Parts.state c.do_alone.new.self) (g.P.Parts.state c.shelve.new.self) c.shelve.ensures)

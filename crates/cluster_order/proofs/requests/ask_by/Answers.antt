use Rattle.std.proofs.Common.{◌≡◌, inl, ap, subst, ◌+◌, arith}
use Rattle.cluster_order.specs.Turns.{GoesBy, way_of}
use Rattle.cluster_order.proofs.Working.{err_by}
use Rattle.cluster_order.specs.Evaluations.{asked_reads, lacking}
use Rattle.cluster_order.proofs.Adding.{adds_most}
use Rattle.cluster_order.proofs.Evaluating.{evaluates_adding}
use Rattle.cluster_order.proofs.requests.ask_by.Goals as goal

pub ask_none-requires-clause-takes : goal.ask_none-requires-clause-takes
ask_none-requires-clause-takes g c = c.requires.takes

pub ask_none-requires-clause-answers : goal.ask_none-requires-clause-answers
ask_none-requires-clause-answers g c = subst (λ w. GoesBy c.args.agent c.args.asked.now (way_of w) (g.P.Parts.state c.args.parts.now)) c.in-Answers.is c.requires.way

pub ask_at-requires-clause-server : goal.ask_at-requires-clause-server
ask_at-requires-clause-server g c = c.requires.server c.in-Goes.server (ap way_of c.in-Goes.is)

pub ask_at-requires-clause-takes : goal.ask_at-requires-clause-takes
ask_at-requires-clause-takes g c = c.requires.takes

pub ask_at-requires-clause-goes : goal.ask_at-requires-clause-goes
ask_at-requires-clause-goes g c = subst (λ w. GoesBy c.args.agent c.args.asked.now (way_of w) (g.P.Parts.state c.args.parts.now)) c.in-Goes.is c.requires.way

pub returns-in-Answers-clause-whole : goal.returns-in-Answers-clause-whole
returns-in-Answers-clause-whole g c = c.ask_none.ensures.whole

pub returns-in-Answers-clause-cut : goal.returns-in-Answers-clause-cut
returns-in-Answers-clause-cut g c = err_by c.ask_none.result (g.P.Parts.state c.ask_none.new.parts ≡ g.P.Parts.state c.args.parts.now) _ (λ e. inl e) c.ask_none.ensures.same

pub returns-in-Goes-clause-whole : goal.returns-in-Goes-clause-whole
returns-in-Goes-clause-whole g c = c.ask_at.ensures.whole

pub returns-in-Goes-clause-cut : goal.returns-in-Goes-clause-cut
returns-in-Goes-clause-cut g c = c.ask_at.ensures.cut

pub returns-in-Answers-clause-counted : goal.returns-in-Answers-clause-counted
returns-in-Answers-clause-counted g c =
    evaluates_adding (asked_reads c.args.asked.now + lacking c.ask_none.result) c.args.steps.now (g.P.Parts.state c.args.parts.now) (g.P.Parts.state c.ask_none.new.parts) (adds_most 0 (asked_reads c.args.asked.now + lacking c.ask_none.result) (g.P.Parts.state c.args.parts.now) (g.P.Parts.state c.ask_none.new.parts) (omega arith) c.ask_none.ensures.counted)

pub returns-in-Goes-clause-counted : goal.returns-in-Goes-clause-counted
returns-in-Goes-clause-counted g c =
    c.ask_at.ensures.counted

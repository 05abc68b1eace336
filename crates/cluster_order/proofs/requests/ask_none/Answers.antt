use Rattle.cluster_order.proofs.Numbering.{ask_none as refused_step}
use Rattle.cluster_order.proofs.Adding.{refused_adds}
use Rattle.cluster_order.proofs.requests.ask_none.Goals as goal

pub returns-clause-whole : goal.returns-clause-whole
returns-clause-whole g c = refused_step c.args.agent c.args.asked.now c.args.draw c.args.why _ _ _ c.requires.answers c.in_ok-refuse.ensures.ok c.shelve.ensures

pub returns-clause-counted : goal.returns-clause-counted
returns-clause-counted g c =
    refused_adds c.args.agent c.args.asked.now c.args.draw c.args.why (g.P.Parts.state c.args.parts.now) (g.P.Parts.state c.refuse.new.self) (g.P.Parts.state c.shelve.new.self) c.in_ok-refuse.ensures.ok c.shelve.ensures

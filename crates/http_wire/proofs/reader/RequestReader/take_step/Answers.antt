use Rattle.http_wire.proofs.Steps as steps
use Rattle.http_wire.proofs.reader.RequestReader.take_step.Goals as goal

pub invariant_of-self-in_default : goal.invariant_of-self-in_default
invariant_of-self-in_default c =
    let p = c.advance-fed.new.partial in
    let are = steps.keeps_held c.advance-fed.result.got p.top.items p.head p.body.items c.advance-fed.ensures.keeps c.in_default.not-Refused c.in_default.not-Memory in
    record {
      is = steps.goes_on_held _ _ c.in-None.is are;
      few = steps.held_few p.top.items p.head p.body.items are;
    }

pub invariant_of-self : goal.invariant_of-self
invariant_of-self c =
    let old = c.self.inside.partial in
    let new = c.advance-fed.new.partial in
    record {
      is = tt;
      few = steps.refused_few old.top.items old.body.items new.top.items new.body.items c.args.piece.now c.advance-fed.result.used c.advance-fed.result.got c.in-Refused.rejection c.in-Refused.is c.advance-fed.ensures.moves c.self.invariant.few;
    }

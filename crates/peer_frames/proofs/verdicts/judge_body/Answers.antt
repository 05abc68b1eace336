use Rattle.std.proofs.Common.{◌≡◌, ◌-◌, length, arith, sym, ◌∙◌, true, false}
use Rattle.peer_frames.proofs.Answering.{rest_le, read_from, whole, stuck, part, at_end, left_le, at_bad}
use Rattle.peer_frames.proofs.verdicts.judge_body.Goals as goal
use Rattle.peer_frames.proofs.verdicts.judge_body.Goals.{else-read-size-via-then-read-size+else-is_allowed, else-read-size-via-else-read-size}

pub overflow_sub-read : goal.overflow_sub-read
overflow_sub-read c = rest_le c.args.peers c.requires.peers c.args.body.now (λ i. omega (arith, c.type_inv.body i)) c.args.size c.requires.within c.in-Ok.frame c.in-Ok.rest.now c.in-Ok.ensures

pub returns-then-is_allowed : goal.returns-then-is_allowed
returns-then-is_allowed c =
    whole c.args.peers c.requires.peers c.args.body.now (λ i. omega (arith, c.type_inv.body i)) c.args.size c.requires.within c.in-Ok.frame c.in-Ok.rest.now c.in-Ok.ensures
    c.if-read-size.true (sym c.is_allowed.ensures ∙ c.if-is_allowed.true) c.requires.to

pub overflow_sub-result : goal.overflow_sub-result
overflow_sub-result c = read_from c.args.peers c.requires.peers c.args.body.now (λ i. omega (arith, c.type_inv.body i)) c.args.size c.requires.within c.in-Ok.frame c.in-Ok.rest.now c.in-Ok.ensures

pub returns-else-read-size : goal.returns-else-read-size
returns-else-read-size c =
    stuck c.args.peers c.requires.peers c.args.body.now (λ i. omega (arith, c.type_inv.body i)) c.args.size c.requires.within c.in-Ok.frame c.in-Ok.rest.now c.in-Ok.ensures
    (λ all allowed. elim c.else-read-size.branch [
      | else-read-size-via-then-read-size+else-is_allowed w ↦ (let no : false ≡ true = sym w.if-is_allowed.false ∙ w.is_allowed.ensures ∙ allowed in cc)
      | else-read-size-via-else-read-size w ↦ omega (arith, w.if-read-size.false, all)
    ])

pub returns-then-body-size : goal.returns-then-body-size
returns-then-body-size c =
    part c.args.peers c.requires.peers c.args.body.now (λ i. omega (arith, c.type_inv.body i)) c.args.size c.requires.within
    (rw (c.in-Err-Fault-Cut.field-0-is, c.in-Err-Fault-Cut.field-0-0-is) at c.in-Err-Fault-Cut.ensures) c.if-body-size.true

pub returns-else-body-size : goal.returns-else-body-size
returns-else-body-size c =
    at_end c.args.peers c.requires.peers c.args.body.now (λ i. omega (arith, c.type_inv.body i)) c.args.size c.requires.within
    (rw (c.in-Err-Fault-Cut.field-0-is, c.in-Err-Fault-Cut.field-0-0-is) at c.in-Err-Fault-Cut.ensures) c.requires.from c.if-body-size.false

pub overflow_sub-result-in-Err-Fault-Bad : goal.overflow_sub-result-in-Err-Fault-Bad
overflow_sub-result-in-Err-Fault-Bad c =
    left_le c.args.peers c.requires.peers c.args.body.now (λ i. omega (arith, c.type_inv.body i)) c.args.size c.requires.within c.in-Err-Fault-Bad.left
    (rw (c.in-Err-Fault-Bad.field-0-is, c.in-Err-Fault-Bad.field-0-0-is) at c.in-Err-Fault-Bad.ensures)

pub returns-in-Err-Fault-Bad : goal.returns-in-Err-Fault-Bad
returns-in-Err-Fault-Bad c =
    at_bad c.args.peers c.requires.peers c.args.body.now (λ i. omega (arith, c.type_inv.body i)) c.args.size c.requires.within c.in-Err-Fault-Bad.left
    (rw (c.in-Err-Fault-Bad.field-0-is, c.in-Err-Fault-Bad.field-0-0-is) at c.in-Err-Fault-Bad.ensures)

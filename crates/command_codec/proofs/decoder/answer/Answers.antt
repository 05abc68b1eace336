use Rattle.std.proofs.Common.{arith}
use Rattle.command_codec.proofs.Whole.{read_found, read_cut, read_bad}
use Rattle.command_codec.proofs.Answering.{begins_of, rest_le, cut_of, left_le, bad_of}
use Rattle.command_codec.proofs.decoder.answer.Goals as goal

pub overflow_sub-result : goal.overflow_sub-result
overflow_sub-result c = rest_le c.args.input.now c.in-Ok.command c.in-Ok.rest.now (read_found c.args.input.now (λ i. omega (arith, c.type_inv.input i)) c.in-Ok.command c.in-Ok.rest.now c.in-Ok.ensures)

pub overflow_sub-result-in-Err-Fault-Bad : goal.overflow_sub-result-in-Err-Fault-Bad
overflow_sub-result-in-Err-Fault-Bad c =
    left_le c.args.input.now c.in-Err-Fault-Bad.left (read_bad c.args.input.now (λ i. omega (arith, c.type_inv.input i)) c.in-Err-Fault-Bad.left
    (rw (c.in-Err-Fault-Bad.field-0-is, c.in-Err-Fault-Bad.field-0-0-is) at c.in-Err-Fault-Bad.ensures))

pub returns-in-Ok : goal.returns-in-Ok
returns-in-Ok c = begins_of c.args.input.now c.in-Ok.command c.in-Ok.rest.now (read_found c.args.input.now (λ i. omega (arith, c.type_inv.input i)) c.in-Ok.command c.in-Ok.rest.now c.in-Ok.ensures)

pub returns-in-Err-Fault-Cut : goal.returns-in-Err-Fault-Cut
returns-in-Err-Fault-Cut c = cut_of c.args.input.now (read_cut c.args.input.now (λ i. omega (arith, c.type_inv.input i)) (rw (c.in-Err-Fault-Cut.field-0-is, c.in-Err-Fault-Cut.field-0-0-is) at c.in-Err-Fault-Cut.ensures))

pub returns-in-Err-Fault-Bad : goal.returns-in-Err-Fault-Bad
returns-in-Err-Fault-Bad c =
    bad_of c.args.input.now c.in-Err-Fault-Bad.left (read_bad c.args.input.now (λ i. omega (arith, c.type_inv.input i)) c.in-Err-Fault-Bad.left
    (rw (c.in-Err-Fault-Bad.field-0-is, c.in-Err-Fault-Bad.field-0-0-is) at c.in-Err-Fault-Bad.ensures))

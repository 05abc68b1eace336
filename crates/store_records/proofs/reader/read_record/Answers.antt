use Rattle.std.proofs.Common.{arith, ◌≡◌, Ok, Err}
use Rattle.command_codec.specs.declared.fault.Fault.TheVariants.{Cut, Bad}
use Rattle.command_codec.proofs.Grammar.{IsBytes}
use Rattle.store_records.specs.RecordReading.{record_at}
use Rattle.store_records.proofs.RecordReads.{small_bytes, says_of, rest_within, begins_of, when_ok, when_cut, wrong_of}
use Rattle.store_records.proofs.reader.read_record.Goals as goal

pub overflow_sub-result : goal.overflow_sub-result
overflow_sub-result c =
    let bytes : IsBytes c.args.input.now = small_bytes c.args.input.now (λ i. omega (arith, c.type_inv.input i)) in
    rest_within c.args.input.now c.in-Ok.record c.in-Ok.rest.now (says_of c.args.input.now bytes (Ok (c.in-Ok.record, c.in-Ok.rest.now)) c.in-Ok.ensures)

pub overflow_sub-result-in-Err-Fault-Bad : goal.overflow_sub-result-in-Err-Fault-Bad
overflow_sub-result-in-Err-Fault-Bad c =
    let bytes : IsBytes c.args.input.now = small_bytes c.args.input.now (λ i. omega (arith, c.type_inv.input i)) in
    let read : record_at c.args.input.now ≡ Err (Bad c.in-Err-Fault-Bad.left) = rw (c.in-Err-Fault-Bad.field-0-is, c.in-Err-Fault-Bad.field-0-0-is) at c.in-Err-Fault-Bad.ensures in
    says_of c.args.input.now bytes (Err (Bad c.in-Err-Fault-Bad.left)) read

pub returns-in-Ok-clause-ok : goal.returns-in-Ok-clause-ok
returns-in-Ok-clause-ok c =
    let bytes : IsBytes c.args.input.now = small_bytes c.args.input.now (λ i. omega (arith, c.type_inv.input i)) in
    begins_of c.args.input.now c.in-Ok.record c.in-Ok.rest.now (says_of c.args.input.now bytes (Ok (c.in-Ok.record, c.in-Ok.rest.now)) c.in-Ok.ensures)

pub returns-in-Ok-clause-whenever_ok : goal.returns-in-Ok-clause-whenever_ok
returns-in-Ok-clause-whenever_ok c =
    let bytes : IsBytes c.args.input.now = small_bytes c.args.input.now (λ i. omega (arith, c.type_inv.input i)) in
    when_ok c.args.input.now bytes (Ok (c.in-Ok.record, c.in-Ok.rest.now)) c.in-Ok.ensures

pub returns-in-Ok-clause-whenever_cut : goal.returns-in-Ok-clause-whenever_cut
returns-in-Ok-clause-whenever_cut c =
    let bytes : IsBytes c.args.input.now = small_bytes c.args.input.now (λ i. omega (arith, c.type_inv.input i)) in
    when_cut c.args.input.now bytes (Ok (c.in-Ok.record, c.in-Ok.rest.now)) c.in-Ok.ensures

pub returns-in-Err-Fault-Cut-clause-cut : goal.returns-in-Err-Fault-Cut-clause-cut
returns-in-Err-Fault-Cut-clause-cut c = λ _.
    let bytes : IsBytes c.args.input.now = small_bytes c.args.input.now (λ i. omega (arith, c.type_inv.input i)) in
    let read : record_at c.args.input.now ≡ Err Cut = rw (c.in-Err-Fault-Cut.field-0-is, c.in-Err-Fault-Cut.field-0-0-is) at c.in-Err-Fault-Cut.ensures in
    says_of c.args.input.now bytes (Err Cut) read

pub returns-in-Err-Fault-Cut-clause-whenever_ok : goal.returns-in-Err-Fault-Cut-clause-whenever_ok
returns-in-Err-Fault-Cut-clause-whenever_ok c =
    let bytes : IsBytes c.args.input.now = small_bytes c.args.input.now (λ i. omega (arith, c.type_inv.input i)) in
    let read : record_at c.args.input.now ≡ Err Cut = rw (c.in-Err-Fault-Cut.field-0-is, c.in-Err-Fault-Cut.field-0-0-is) at c.in-Err-Fault-Cut.ensures in
    when_ok c.args.input.now bytes (Err Cut) read

pub returns-in-Err-Fault-Bad-clause-bad : goal.returns-in-Err-Fault-Bad-clause-bad
returns-in-Err-Fault-Bad-clause-bad c = λ at _.
    let bytes : IsBytes c.args.input.now = small_bytes c.args.input.now (λ i. omega (arith, c.type_inv.input i)) in
    let read : record_at c.args.input.now ≡ Err (Bad c.in-Err-Fault-Bad.left) = rw (c.in-Err-Fault-Bad.field-0-is, c.in-Err-Fault-Bad.field-0-0-is) at c.in-Err-Fault-Bad.ensures in
    wrong_of c.args.input.now bytes c.in-Err-Fault-Bad.left read

pub returns-in-Err-Fault-Bad-clause-whenever_ok : goal.returns-in-Err-Fault-Bad-clause-whenever_ok
returns-in-Err-Fault-Bad-clause-whenever_ok c =
    let bytes : IsBytes c.args.input.now = small_bytes c.args.input.now (λ i. omega (arith, c.type_inv.input i)) in
    let read : record_at c.args.input.now ≡ Err (Bad c.in-Err-Fault-Bad.left) = rw (c.in-Err-Fault-Bad.field-0-is, c.in-Err-Fault-Bad.field-0-0-is) at c.in-Err-Fault-Bad.ensures in
    when_ok c.args.input.now bytes (Err (Bad c.in-Err-Fault-Bad.left)) read

pub returns-in-Err-Fault-Bad-clause-whenever_cut : goal.returns-in-Err-Fault-Bad-clause-whenever_cut
returns-in-Err-Fault-Bad-clause-whenever_cut c =
    let bytes : IsBytes c.args.input.now = small_bytes c.args.input.now (λ i. omega (arith, c.type_inv.input i)) in
    let read : record_at c.args.input.now ≡ Err (Bad c.in-Err-Fault-Bad.left) = rw (c.in-Err-Fault-Bad.field-0-is, c.in-Err-Fault-Bad.field-0-0-is) at c.in-Err-Fault-Bad.ensures in
    when_cut c.args.input.now bytes (Err (Bad c.in-Err-Fault-Bad.left)) read

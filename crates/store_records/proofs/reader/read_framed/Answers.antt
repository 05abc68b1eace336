use Rattle.std.proofs.Common.{rules, arith, sym, subst, ◌≤◌, length}
use Rattle.std.proofs.lemmas.Grind.{common_steps}
use Rattle.command_codec.proofs.Grammar.{IsBytes}
use Rattle.store_records.proofs.RecordReads.{small_bytes, front_is_bytes, room_before}
use Rattle.store_records.proofs.reader.read_framed.Goals as goal

pub overflow_add-result-in-Err-Fault-Bad : goal.overflow_add-result-in-Err-Fault-Bad
overflow_add-result-in-Err-Fault-Bad c =
    let bytes : IsBytes c.args.bytes.now = small_bytes c.args.bytes.now (λ i. omega (arith, c.type_inv.bytes i)) in
    let front : IsBytes c.split_at.result.0.now = subst IsBytes (sym c.split_at.ensures.front) (front_is_bytes c.min-there.result c.args.bytes.now bytes) in
    let within : c.in-Err-Fault-Bad.left ≤ length c.split_at.result.0.now =
    room_before c.split_at.result.0.now front c.in-Err-Fault-Bad.left (rw (c.in-Err-Fault-Bad.field-0-is, c.in-Err-Fault-Bad.field-0-0-is) at c.in-Err-Fault-Bad.ensures) in
    first_of (search rules, grind (arith, common_steps, within))

use Rattle.std.proofs.Common.{nat_eq, sym, arith, length, eq-eqb}
use Rattle.std.proofs.lemmas.List.Sums.{position_or_len_is}
use Rattle.script_player.proofs.line.end_of.Goals as goal

pub returns-then-b-byte-clause-first : goal.returns-then-b-byte-clause-first
returns-then-b-byte-clause-first c =
    sym (position_or_len_is (λ b. nat_eq b c.args.byte) c.args.bytes.now c.loop-i.i 0 (omega arith) c.loop-i.invariant (λ _. eq-eqb _ _ c.if-b-byte.true))

pub returns-clause-first : goal.returns-clause-first
returns-clause-first c =
    sym (position_or_len_is (λ b. nat_eq b c.args.byte) c.args.bytes.now (length c.args.bytes.now) 0 (omega arith) (λ k below. c.loop-i.invariant k (omega arith)) (λ below. absurd (omega arith)))

use Rattle.std.proofs.Common.{ℕ, ap, sym, refl, arith, List, length, subst}
use Rattle.http_wire.specs.Stream.{IsTail, no_head}
use Rattle.http_wire.proofs.Exits.{nothing_yet}
use Rattle.http_wire.proofs.Steps.{both_none}
use Rattle.http_wire.proofs.Told.{told_first}
use Rattle.http_wire.proofs.reader.RequestReader.new.Goals as goal

pub invariant_of-result : goal.invariant_of-result
invariant_of-result c = record {
  is = (c.new.ensures.items, subst (IsTail no_head) (sym c.in_ok-with_capacity.ensures.items) nothing_yet);
  few = grind (arith, ap (λ (l : List ℕ). length l) c.new.ensures.items, ap (λ (l : List ℕ). length l) c.in_ok-with_capacity.ensures.items);
}

pub returns-clause-told : goal.returns-clause-told
returns-clause-told c = told_first _ _ (both_none _ _ c.in_ok-with_capacity.ensures.items c.new.ensures.items) refl

use Rattle.std.proofs.Common.{◌≡◌, ◌≢◌, ◌<◌, ◌≤◌, ltb, get_or, length, arith, rules, sym, ◌∙◌, ap, inl, inr}
use Rattle.std.proofs.lemmas.List.{get_or_default}
use Rattle.std.proofs.lemmas.List.Sorted.{IsPartitionPoint-from_clause, IsPartitionedBy-ltb}
use Rattle.std.proofs.lemmas.Bool.{cases_lt}
use Rattle.std.proofs.lemmas.Bool.Decides.{nat_tests}
use Rattle.raft_model.specs.World.{Packet}
use Rattle.raft_world.proofs.Numbering.{numbered_none}
use Rattle.raft_world.proofs.bag.place.Goals.{else-at-len-via-then-at-len+else-number, else-at-len-via-else-at-len}
use Rattle.raft_world.proofs.bag.place.Goals as goal

pub returns-then-number-clause-found : goal.returns-then-number-clause-found
returns-then-number-clause-found c =
    let ps = c.args.packets.now.items in
    let k = c.args.number in
    let at = c.partition_point-at.result in
    let part = IsPartitionPoint-from_clause (λ (p : Packet). ltb p.number k) ps at c.partition_point-at.ensures.partitioned (IsPartitionedBy-ltb (λ (p : Packet). p.number) ps k c.requires) (λ a r f called. search rules) in
    let low : at < length ps = omega (arith, c.if-at-len.true, c.len.ensures, c.args.packets.now.ok.0) in
    record {
      within = low;
      is = λ p. ap (λ (q : Packet). q.number) (get_or_default ps at p c.index.result.now low ∙ sym c.index.ensures) ∙ sym c.number.ensures ∙ c.if-number.true;
      below = λ i p g. let passes = part.0 i p (omega arith) g in grind (arith, nat_tests);
    }

pub returns-else-at-len-clause-absent : goal.returns-else-at-len-clause-absent
returns-else-at-len-clause-absent c =
    let ps = c.args.packets.now.items in
    let k = c.args.number in
    let at = c.partition_point-at.result in
    let part = IsPartitionPoint-from_clause (λ (p : Packet). ltb p.number k) ps at c.partition_point-at.ensures.partitioned (IsPartitionedBy-ltb (λ (p : Packet). p.number) ps k c.requires) (λ a r f called. search rules) in
    numbered_none k ps (λ i d g e.
    elim c.else-at-len.branch [
      | else-at-len-via-then-at-len+else-number w ↦
          let here : w.number.result ≡ (get_or ps at d).number = w.number.ensures ∙ ap (λ (q : Packet). q.number) (w.index.ensures ∙ get_or_default ps at w.index.result.now d (omega (arith, w.if-at-len.true, c.len.ensures, c.args.packets.now.ok.0))) in
          let low : at < length ps = omega (arith, w.if-at-len.true, c.len.ensures, c.args.packets.now.ok.0) in
          let fails = part.1 at d (omega arith) low in
          let least : k ≤ (get_or ps at d).number = grind (arith, nat_tests) in
          let other : (get_or ps at d).number ≢ k = λ same. w.if-number.false (here ∙ same) in
          elim (cases_lt i at) [
            | inl h ↦ let passes = part.0 i d (omega arith) h in grind (arith, nat_tests)
            | inr h ↦ let order = c.requires at i d h g in other (omega arith)
          ]
      | else-at-len-via-else-at-len w ↦ let passes = part.0 i d (omega arith) (omega (arith, g, w.if-at-len.false, c.len.ensures, c.args.packets.now.ok.0)) in grind (arith, nat_tests)
    ])

use Rattle.std.proofs.Common.{◌≡◌, ◌≢◌, ◌≤◌, ltb, get_or, ◌∙◌, ap, inl, inr, arith, rules}
use Rattle.std.proofs.lemmas.List.{get_or_default}
use Rattle.std.proofs.lemmas.List.Sorted.{IsPartitionPoint-from_clause, IsPartitionedBy-ltb}
use Rattle.std.proofs.lemmas.Bool.{cases_lt}
use Rattle.std.proofs.lemmas.Bool.Decides.{nat_tests}
use Rattle.cluster_requests.specs.declared.slot.HeldSlot.{HeldSlot}
use Rattle.cluster_requests.specs.Held.{slot_number}
use Rattle.cluster_requests.proofs.Slots.{numbers_rise}
use Rattle.cluster_requests.proofs.held.place.Goals.{else-at-slots-via-then-at-slots+else-number, else-at-slots-via-else-at-slots}
use Rattle.cluster_requests.proofs.held.place.Goals as goal

pub returns-else-at-slots : goal.returns-else-at-slots
returns-else-at-slots c =
    let ss = c.args.slots.now in
    let n = c.args.number in
    let at = c.partition_point-at.result in
    let rise = numbers_rise ss c.requires in
    let part = IsPartitionPoint-from_clause (λ (s : HeldSlot). ltb (slot_number s) n) ss at c.partition_point-at.ensures.partitioned (IsPartitionedBy-ltb slot_number ss n rise) (λ a r f called. search rules) in
    λ i d g e.
    elim c.else-at-slots.branch [
      | else-at-slots-via-then-at-slots+else-number w ↦
          let here : w.number.result ≡ slot_number (get_or ss at d) = w.number.ensures ∙ ap slot_number (w.index-slots-at.is ∙ get_or_default ss at w.index-slots-at.result d w.if-at-slots.true) in
          let fails = part.1 at d (omega arith) w.if-at-slots.true in
          let least : n ≤ slot_number (get_or ss at d) = grind (arith, nat_tests) in
          let other : slot_number (get_or ss at d) ≢ n = λ same. w.if-number.false (here ∙ same) in
          elim (cases_lt i at) [
            | inl h ↦ let passes = part.0 i d (omega arith) h in grind (arith, nat_tests)
            | inr h ↦ let order = rise at i d h g in other (omega arith)
          ]
      | else-at-slots-via-else-at-slots w ↦ let passes = part.0 i d (omega arith) (omega (arith, g, w.if-at-slots.false)) in grind (arith, nat_tests)
    ]

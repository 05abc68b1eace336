use Rattle.std.proofs.Common.{◌≡◌, ◌<◌, ◌-◌, ◌∙◌, length, get_or, ap, sym, arith}
use Rattle.std.proofs.lemmas.Bool.Decides.{nat_tests}
use Rattle.cluster_requests.specs.Held.{slot_number}
use Rattle.cluster_requests.proofs.Slots.{below_last}
use Rattle.cluster_requests.proofs.held.is_last.Goals as goal

pub returns-in-Some : goal.returns-in-Some
returns-in-Some c = λ t.
    below_last c.args.slots.now c.args.number c.requires (λ k d l.
    let own = c.number.ensures in
    let item = c.in-Some.ensures.item in
    let place : k ≡ length c.args.slots.now - 1 = omega arith in
    let here : slot_number (get_or c.args.slots.now k d) ≡ c.number.result = ap (λ n. slot_number (get_or c.args.slots.now n d)) place ∙ sym (ap slot_number (item.3.1 d)) ∙ sym own in
    let below : c.number.result < c.args.number = grind (arith, nat_tests) in
    omega (arith, here, below))

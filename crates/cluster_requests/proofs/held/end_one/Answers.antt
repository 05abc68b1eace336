use Rattle.std.proofs.Common.{◌≡◌, ◌∙◌, get_or, ap, sym, subst}
use Rattle.cluster_rules.specs.Step.{ended}
use Rattle.cluster_requests.specs.declared.slot.HeldSlot.TheVariants.{LetGo}
use Rattle.cluster_requests.specs.Held.{Rises, held_in, slot_ended, slot_number}
use Rattle.cluster_requests.proofs.Slots.{changed_at, ended_number, ended_slot, others_by, others_same, rises_set}
use Rattle.cluster_requests.proofs.held.end_one.Goals as goal

pub returns-in-Some-clause-held : goal.returns-in-Some-clause-held
returns-in-Some-clause-held c =
    let at = c.in-Some.at in
    let ss = c.args.slots.now in
    let found = c.in-Some.ensures in
    let any = LetGo 0 in
    let old = get_or ss at any in
    ap held_in (c.end_at.ensures any)
    ∙ changed_at c.args.number (ended c.args.server c.args.event) ss at any (slot_ended c.args.server c.args.event old) c.requires found.0 (found.1 any) (ended_slot c.args.number c.args.server c.args.event old (found.1 any))

pub returns-in-Some-clause-rises : goal.returns-in-Some-clause-rises
returns-in-Some-clause-rises c =
    let at = c.in-Some.at in
    let ss = c.args.slots.now in
    let found = c.in-Some.ensures in
    let any = LetGo 0 in
    let new = slot_ended c.args.server c.args.event (get_or ss at any) in
    let own : slot_number new ≡ c.args.number = ended_number c.args.server c.args.event (get_or ss at any) ∙ found.1 any in
    subst Rises (sym (c.end_at.ensures any)) (rises_set ss at new found.0 (own ∙ sym (found.1 new)) c.requires)

pub returns-in_default-clause-held : goal.returns-in_default-clause-held
returns-in_default-clause-held c = others_same c.args.number (ended c.args.server c.args.event) c.args.slots.now (others_by c.args.number c.args.slots.now c.in_default.ensures)

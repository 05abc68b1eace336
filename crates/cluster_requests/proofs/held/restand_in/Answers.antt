use Rattle.std.proofs.Common.{◌≡◌, ◌∙◌, get_or, ap, sym, subst}
use Rattle.cluster_rules.specs.Cluster.{Pending}
use Rattle.cluster_requests.specs.Contents.{stand_of}
use Rattle.cluster_requests.specs.declared.slot.HeldSlot.TheVariants.{LetGo}
use Rattle.cluster_requests.specs.Held.{Rises, held_in, slot_number, slot_restood}
use Rattle.cluster_requests.proofs.Slots.{changed_at, others_by, others_same, restood_slot, rises_set, same_slot}
use Rattle.cluster_requests.proofs.held.restand_in.Goals as goal

pub returns-in-Some-clause-held : goal.returns-in-Some-clause-held
returns-in-Some-clause-held c =
    let at = c.in-Some.at in
    let ss = c.args.slots.now in
    let number = c.args.number in
    let stand = stand_of c.args.stand in
    let found = c.in-Some.ensures in
    let any = LetGo 0 in
    let old = get_or ss at any in
    ap held_in (c.restand_at.ensures.slots any)
    ∙ changed_at number (λ (h : Pending). record h { stand = stand }) ss at any (slot_restood number stand old) c.requires.rises found.0 (found.1 any) (restood_slot number stand old)

pub returns-in-Some-clause-rises : goal.returns-in-Some-clause-rises
returns-in-Some-clause-rises c =
    let at = c.in-Some.at in
    let ss = c.args.slots.now in
    let number = c.args.number in
    let stand = stand_of c.args.stand in
    let found = c.in-Some.ensures in
    let any = LetGo 0 in
    let new = slot_restood number stand (get_or ss at any) in
    let own : slot_number new ≡ number = same_slot number stand (get_or ss at any) ∙ found.1 any in
    subst Rises (sym (c.restand_at.ensures.slots any)) (rises_set ss at new found.0 (own ∙ sym (found.1 new)) c.requires.rises)

pub returns-in_default-clause-held : goal.returns-in_default-clause-held
returns-in_default-clause-held c = others_same c.args.number (λ (h : Pending). record h { stand = stand_of c.args.stand }) c.args.slots.now (others_by c.args.number c.args.slots.now c.in_default.ensures)

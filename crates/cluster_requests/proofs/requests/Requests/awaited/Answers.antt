use Rattle.std.proofs.Common.{refl, sym, ap}
use Rattle.cluster_requests.specs.Requests.{Requests}
use Rattle.cluster_requests.proofs.Among.{no_out, found_waits, seen_not_held}
use Rattle.cluster_requests.proofs.requests.Requests.awaited.Goals as goal

pub returns-in-Some : goal.returns-in-Some
returns-in-Some c =
    let held = ap (λ (r : Requests). r.held) c.self.view_is in
    (refl, no_out c.args.number c.args.self.now.tray c.requires, found_waits c.args.number c.awaits.result c.in-Some.pending.now c.self.inside.held.requests c.args.self.now.held held (sym c.in-Some.ensures) c.awaits.ensures)

pub returns-in-None : goal.returns-in-None
returns-in-None c =
    let held = ap (λ (r : Requests). r.held) c.self.view_is in
    (refl, no_out c.args.number c.args.self.now.tray c.requires, seen_not_held c.args.number c.self.inside.held.requests c.args.self.now.held held (sym c.in-None.ensures))

use Rattle.std.proofs.Common.{◌≡◌, refl, ap, Some, None}
use Rattle.std.specs.List.{position}
use Rattle.cluster_requests.specs.Requests.{Requests}
use Rattle.cluster_requests.specs.Taking.{is_of}
use Rattle.cluster_requests.proofs.requests.Requests.collect.Goals as goal

pub same-self : goal.same-self
same-self c = refl

pub collect_at-requires : goal.collect_at-requires
collect_at-requires c =
    let tray = ap (λ (r : Requests). position (is_of c.args.number) r.tray) c.self.view_is in
    let found = c.in-Some.ensures in
    let place : position (is_of c.args.number) c.args.self.now.tray ≡ Some c.in-Some.at = cc in
    place

pub same-self-in-None : goal.same-self-in-None
same-self-in-None c = refl

pub awaited-requires : goal.awaited-requires
awaited-requires c =
    let tray = ap (λ (r : Requests). position (is_of c.args.number) r.tray) c.self.view_is in
    let found = c.in-None.ensures in
    let place : position (is_of c.args.number) c.args.self.now.tray ≡ None = cc in
    place

pub returns-in-Some : goal.returns-in-Some
returns-in-Some c = c.collect_at.ensures

pub returns-in-None : goal.returns-in-None
returns-in-None c = c.awaited.ensures

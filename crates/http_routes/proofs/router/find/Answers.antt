use Rattle.std.proofs.Common.{Some, sym, ap, ◌∙◌, ap₂}
use Rattle.matchit.specs.Seek.{first}
use Rattle.http_routes.proofs.Found.{are_bytes, router_finds}
use Rattle.http_routes.proofs.router.find.Goals as goal

pub between-requires : goal.between-requires
between-requires c =
    let text = c.as_str.ensures.value ∙ c.in_ok-text.ensures in
    let finds = ap₂ (λ r t. first r t) (sym c.requires) (sym text) ∙ c.in-Ok.ensures.found in
    (router_finds c.args.path.now _ (are_bytes c.args.path.now c.type_inv.path) finds).0

pub returns-in-Ok : goal.returns-in-Ok
returns-in-Ok c =
    let text = c.as_str.ensures.value ∙ c.in_ok-text.ensures in
    let finds = ap₂ (λ r t. first r t) (sym c.requires) (sym text) ∙ c.in-Ok.ensures.found in
    ap (λ part. Some (c.in-Ok.entry.value.now.route, part)) c.between.ensures
    ∙ sym (router_finds c.args.path.now _ (are_bytes c.args.path.now c.type_inv.path) finds).1

use Rattle.std.proofs.Common.{◌≡◌, drop, arith}
use Rattle.std.proofs.lemmas.Grind.{common_steps}
use Rattle.dns_server.proofs.Holding.{behind_two, made_holds}
use Rattle.dns_server.proofs.cache.cached_reply.Goals as goal

pub returns : goal.returns
returns c commands all e =
    let asked : c.in_ok-new.field-0 ≡ drop 2 c.args.packet.now = grind (arith, common_steps, behind_two c.args.packet.now, c.in_ok-new.ensures) in
    let reply : c.in_ok-new-2.field-0 ≡ drop 2 c.args.reply.now = grind (arith, common_steps, behind_two c.args.reply.now, c.in_ok-new-2.ensures) in
    made_holds commands c.args.packet.now c.args.reply.now (record { count = c.args.count; asked = c.in_ok-new.field-0; reply = c.in_ok-new-2.field-0 })
    c.requires.packet all asked reply e

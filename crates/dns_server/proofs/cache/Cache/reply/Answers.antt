use Rattle.std.proofs.Common.{◌≡◌, ◌++◌, take, drop, Some, ap, ◌∙◌, arith}
use Rattle.std.proofs.lemmas.Grind.{common_steps}
use Rattle.dns_server.proofs.Holding.{behind_two, found_replies}
use Rattle.dns_server.proofs.cache.Cache.reply.Goals as goal

pub returns-in_ok-with_id-in-Some : goal.returns-in_ok-with_id-in-Some
returns-in_ok-with_id-in-Some c commands all count =
    let asked : c.in-Some.cached.now.asked ≡ drop 2 c.args.packet.now = grind (arith, common_steps, behind_two c.args.packet.now, c.in-Some.ensures.same) in
    let bytes : c.in_ok-with_id-in-Some.field-0 ≡ take 2 c.args.packet.now ++ c.in-Some.cached.now.reply = grind (arith, common_steps, c.in_ok-with_id-in-Some.ensures, c.as_slice.ensures) in
    ap Some bytes
    ∙ found_replies commands c.args.packet.now c.in-Some.cached.now (c.in-Some.ensures.holds commands all) c.requires (c.in-Some.ensures.same.0 ∙ count) asked

use Rattle.std.proofs.Common.{rules, arith, ◌≡◌, ◌<◌, ◌++◌, length, take}
use Rattle.std.proofs.lemmas.Grind.{common_steps}
use Rattle.file_keeper.proofs.Finding.{given_some, next_is}
use Rattle.file_keeper.proofs.window.next_window.Goals as goal

pub returns-clause-ok : goal.returns-clause-ok
returns-clause-ok g c = λ b e.
    let is : c.extend_from_slice.new.self.items ≡ c.args.rest.now ++ take c.in-Ok.count c.read.new.into = first_of (search rules, grind (arith, common_steps)) in
    let room : 0 < length c.read.new.into = first_of (search rules, grind (arith, common_steps)) in
    next_is b c.args.at c.args.rest.now c.extend_from_slice.new.self.items c.in-Ok.count c.read.new.into
    (given_some _ c.args.at c.in-Ok.count c.read.new.into (g.J.Journal.bytes c.args.journal.now) c.in-Ok.ensures.given b e) room is

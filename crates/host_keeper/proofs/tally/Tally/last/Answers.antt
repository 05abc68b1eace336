use Rattle.std.proofs.Common.{◌≡◌, suc, ◌-◌, length, ap, ◌∙◌, arith}
use Rattle.host_keeper.specs.Tallies.{last_or}
use Rattle.host_keeper.proofs.Tallying.{last_at}
use Rattle.host_keeper.proofs.tally.Tally.last.Goals as goal

pub returns-in-len1-up : goal.returns-in-len1-up
returns-in-len1-up c =
    let all = c.as_slice.result.now in
    let long : length all ≡ suc (length all - 1) = omega (arith, c.in-len1-up.len_at_least) in
    last_at (length all - 1) all 0 long ∙ ap (last_or 0) (c.as_slice.ensures.value ∙ c.self.view_is)

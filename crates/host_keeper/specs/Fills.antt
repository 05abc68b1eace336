-- How full a log is, and what of that is said.
use Rattle.std.specs.Prelude.{ℕ, ◌+◌, ◌*◌, nat_le, nat_lt, ◌||◌, Option, None, Some, if◌then◌else◌}
use Rattle.cat_model.specs.LogLimits.{most_entries, most_bytes}
use Rattle.host_keeper.specs.declared.gauge.Fill.{Fill}
use Rattle.host_keeper.specs.declared.gauge.Fill.TheVariants.{Nearly, Full}

-- it has all of its entries, or no room for 1,024 bytes more
abbrev pub fill_of : ℕ → ℕ → Option Fill
fill_of entries bytes =
    if nat_le most_entries entries || nat_lt most_bytes (bytes + 1024) then Some Full
    else if nat_le (9 * most_entries) (10 * entries) || nat_le (9 * most_bytes) (10 * bytes) then Some Nearly
    else None

-- what of a fill is new after what was said: no fill is said twice, nor one below it later
abbrev pub news : Option Fill → Option Fill → Option Fill
news said None = None
news None (Some level) = Some level
news (Some Nearly) (Some Nearly) = None
news (Some Nearly) (Some Full) = Some Full
news (Some Full) (Some level) = None

-- the last of what was said
abbrev pub said_after : Option Fill → Option Fill → Option Fill
said_after said None = said
said_after None (Some level) = Some level
said_after (Some Nearly) (Some level) = Some level
said_after (Some Full) (Some level) = Some Full

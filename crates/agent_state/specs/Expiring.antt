-- Which checks the time changes.
use Rattle.std.specs.Prelude.{ℕ, ◌+◌, ◌&&◌, Bool, not, nat_le, codes}
use Rattle.cat_model.specs.Keys.{same_text}
use Rattle.cat_model.specs.Same.{same_status}
use Rattle.cat_model.specs.declared.row.Status.TheVariants.{Critical}
use Rattle.cluster_rules.specs.Agents.{Watched}

-- the check says already that its TTL is over
abbrev pub says_expired : Watched → Bool
says_expired w = same_status w.row.status Critical && same_text w.row.output (codes "TTL expired")

-- its TTL is over, and it says something else
abbrev pub turns : ℕ → Watched → Bool
turns now w = nat_le (w.since + w.ttl) now && not (says_expired w)

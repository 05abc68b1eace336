-- An agent's own check of its node, beside those that it is given.
use Rattle.std.specs.Prelude.{◌≡◌, false}
use Rattle.std.specs.List.{AllByRecursion as Each}
use Rattle.cat_model.specs.Keys.{same_text}
use Rattle.cat_model.specs.Syncs.{serf_id}
use Rattle.cluster_rules.specs.Agents.{Agent, Watched}

-- None of the checks that it was given has the ID of its own, so its own is listed once, as it was made.
abbrev pub KeepsOwn : Agent → Type 0
KeepsOwn g = Each (λ (w : Watched). same_text w.row.id serf_id ≡ false) g.checks

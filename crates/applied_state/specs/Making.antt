-- The session that a command makes.
use Rattle.std.specs.Prelude.{ℕ, List, [], ◌∷◌, Option, Some, None}
use Rattle.cat_model.specs.declared.command.Command.{Command}
use Rattle.cat_model.specs.declared.command.Command.TheVariants.{SessionCreate}
use Rattle.cat_model.specs.declared.row.SessionRow.{SessionRow}

-- the session that the command makes at this position, if it makes one and is not refused
abbrev pub made_at : ℕ → Command → Option SessionRow
made_at i (SessionCreate id name node checks behavior delay_ms ttl_ms) = Some (record { id = id; name = name; node = node; checks = checks; behavior = behavior; delay_ms = delay_ms; ttl_ms = ttl_ms; create = i; modify = i })
made_at i other = None

-- the identifier of that session, whether or not the command is refused
abbrev pub made_ids : Command → List ℕ
made_ids (SessionCreate id name node checks behavior delay_ms ttl_ms) = id ∷ []
made_ids other = []

-- Sessions whose end is to be proposed.
use Rattle.std.specs.Prelude.{ℕ, List}
use Rattle.cat_model.specs.declared.row.SessionRow.{SessionRow}
use Rattle.cluster_rules.specs.Offices.{Office, over_at}
use Rattle.session_ttl.specs.declared.ends.Ending.{Ending}
use Rattle.session_ttl.specs.declared.ends.Overdue.{Overdue}

abbrev pub ending_of : SessionRow → Ending
ending_of s = record { id = s.id; create = s.create }

abbrev pub create_of : Ending → ℕ
create_of e = e.create

-- with the clock at which it was over
abbrev pub overdue_of : List ℕ → Office → SessionRow → Overdue
overdue_of clocks o s = record { over_at = over_at clocks o s; ending = ending_of s }

abbrev pub over_in : Overdue → ℕ
over_in o = o.over_at

abbrev pub ending_in : Overdue → Ending
ending_in o = o.ending

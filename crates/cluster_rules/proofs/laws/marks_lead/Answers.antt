use Rattle.cluster_rules.proofs.Marks.{begun_marks}
use Rattle.cluster_rules.proofs.laws.marks_lead.Goals as goal

pub returns : goal.returns
returns c = begun_marks

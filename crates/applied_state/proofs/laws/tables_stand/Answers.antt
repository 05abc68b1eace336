use Rattle.applied_state.proofs.Standing.{tables_stand}
use Rattle.applied_state.proofs.laws.tables_stand.Goals as goal

pub returns : goal.returns
returns c = λ kv rows sessions queries index log keys lists same_sessions same_queries. tables_stand kv rows sessions queries index log keys lists same_sessions same_queries

use Rattle.catalog_query.specs.Unread.{answer_at, chans_at, index_at, execution_at}
use Rattle.catalog_query.proofs.laws.version_unread.Goals as goal

pub returns-clause-answers : goal.returns-clause-answers
returns-clause-answers c = answer_at

pub returns-clause-chans : goal.returns-clause-chans
returns-clause-chans c = chans_at

pub returns-clause-indexes : goal.returns-clause-indexes
returns-clause-indexes c = index_at

pub returns-clause-executions : goal.returns-clause-executions
returns-clause-executions c = execution_at

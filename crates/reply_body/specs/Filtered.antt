-- What of a reply is shown through a filter: of a list's elements those that the filter keeps, in their order. A filter is
-- asked of the JSON object that shows the element. Consul, HTTP API, "Filtering".
use Rattle.std.specs.Prelude.{List, filter, Option, None, Some}
use Rattle.serde_json.specs.Data.{Data}
use Rattle.cat_model.specs.declared.query.Instance.{Instance}
use Rattle.cat_model.specs.declared.query.Query.{Query}
use Rattle.cat_model.specs.declared.query.Query.TheVariants as q
use Rattle.cat_model.specs.declared.query.Answer.{Answer}
use Rattle.cat_model.specs.declared.query.Answer.TheVariants as a
use Rattle.row_objects.specs.Objects.{node_data, instance_data, check_data, health_data}
use Rattle.filter_expr.specs.Expressions.{Expression}
use Rattle.filter_expr.specs.Keeping.{keeps}
use Rattle.cluster_rules.specs.Replies as rules

-- the rows whose objects the filter keeps, all of them where there is none
abbrev pub kept : {A : Type 0} → (A → Data) → Option Expression → List A → List A
kept object None rows = rows
kept object (Some expression) rows = filter (λ row. keeps expression (object row)) rows

-- Only the six routes whose lists have these elements read filters.
abbrev pub kept_instances : (Instance → Data) → Option Expression → Answer → Answer
kept_instances object f (a.Instances xs) = a.Instances (kept object f xs)
kept_instances object f other = other

abbrev pub kept_other : Option Expression → Answer → Answer
kept_other f (a.Nodes rows) = a.Nodes (kept node_data f rows)
kept_other f (a.Checks rows) = a.Checks (kept check_data f rows)
kept_other f other = other

abbrev pub kept_answer : Option Expression → Query → Answer → Answer
kept_answer f (q.Key key) answer = answer
kept_answer f (q.Prefix prefix) answer = answer
kept_answer f (q.Keys prefix separator) answer = answer
kept_answer f (q.Service name tags) answer = kept_instances instance_data f answer
kept_answer f (q.HealthService name tags passing) answer = kept_instances health_data f answer
kept_answer f other answer = kept_other f answer

-- the content, of which only the answer to a read can list such elements
abbrev pub kept_content : Option Expression → rules.Content → rules.Content
kept_content f (rules.Shows query raw answer) = rules.Shows query raw (kept_answer f query answer)
kept_content f other = other

-- the reply as it is shown through a filter; all else of it stays
abbrev pub shown : Option Expression → rules.Reply → rules.Reply
shown f reply = record reply { content = kept_content f reply.content }

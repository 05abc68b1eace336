-- Without a filter all is shown.
use Rattle.std.proofs.Common.{◌≡◌, None, refl, ap}
use Rattle.cat_model.specs.declared.query.Answer.{Answer}
use Rattle.cat_model.specs.declared.query.Answer.TheVariants as a
use Rattle.cat_model.specs.declared.query.Query.{Query}
use Rattle.cat_model.specs.declared.query.Query.TheVariants as q
use Rattle.cat_model.specs.declared.query.Instance.{Instance}
use Rattle.serde_json.specs.Data.{Data}
use Rattle.row_objects.specs.Objects.{instance_data, health_data}
use Rattle.cluster_rules.specs.Replies as rules
use Rattle.reply_body.specs.Filtered.{kept_instances, kept_other, kept_answer, kept_content, shown}

instances_whole : (f : Instance → Data) (answer : Answer) → kept_instances f None answer ≡ answer
instances_whole f (a.Instances xs) = refl
instances_whole f (a.Rows x) = refl
instances_whole f (a.Names x) = refl
instances_whole f (a.Nodes x) = refl
instances_whole f (a.Services x) = refl
instances_whole f (a.NodeView x y) = refl
instances_whole f (a.Checks x) = refl
instances_whole f (a.Sessions x) = refl
instances_whole f (a.Queries x) = refl
instances_whole f a.Absent = refl

other_whole : (answer : Answer) → kept_other None answer ≡ answer
other_whole (a.Instances xs) = refl
other_whole (a.Rows x) = refl
other_whole (a.Names x) = refl
other_whole (a.Nodes x) = refl
other_whole (a.Services x) = refl
other_whole (a.NodeView x y) = refl
other_whole (a.Checks x) = refl
other_whole (a.Sessions x) = refl
other_whole (a.Queries x) = refl
other_whole a.Absent = refl

answer_whole : (query : Query) (answer : Answer) → kept_answer None query answer ≡ answer
answer_whole (q.Key key) answer = refl
answer_whole (q.Prefix prefix) answer = refl
answer_whole (q.Keys prefix separator) answer = refl
answer_whole (q.Service name tags) answer = instances_whole instance_data answer
answer_whole (q.HealthService name tags passing) answer = instances_whole health_data answer
answer_whole q.Nodes answer = other_whole answer
answer_whole q.Services answer = other_whole answer
answer_whole (q.NodeServices node) answer = other_whole answer
answer_whole (q.HealthChecks name) answer = other_whole answer
answer_whole (q.HealthNode node) answer = other_whole answer
answer_whole (q.HealthState state) answer = other_whole answer
answer_whole (q.SessionInfo id) answer = other_whole answer
answer_whole (q.SessionsOf node) answer = other_whole answer
answer_whole q.Sessions answer = other_whole answer
answer_whole (q.QueryInfo id) answer = other_whole answer
answer_whole q.Queries answer = other_whole answer

content_whole : (content : rules.Content) → kept_content None content ≡ content
content_whole (rules.Shows query raw answer) = ap (rules.Shows query raw) (answer_whole query answer)
content_whole (rules.Tells command applied) = refl
content_whole (rules.Runs ran) = refl
content_whole (rules.Renews row) = refl
content_whole (rules.Holds body) = refl
content_whole (rules.Defers command key) = refl
content_whole (rules.Says why) = refl
content_whole rules.Blank = refl

pub shown_whole : (reply : rules.Reply) → shown None reply ≡ reply
shown_whole reply = ap (λ c. record reply { content = c }) (content_whole reply.content)

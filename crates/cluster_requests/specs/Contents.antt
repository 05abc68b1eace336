-- What the program's contents, stands, starts and outs mean in the cluster's rules.
use Rattle.cat_model.specs.declared.query.Answer.{Answer}
use Rattle.cat_model.specs.declared.request.Request.TheVariants.{Read}
use Rattle.cat_model.specs.declared.request.Asked.{Asked}
use Rattle.cat_model.specs.declared.request.Asked.TheVariants.{Good}
use Rattle.cluster_rules.specs.Replies as rules
use Rattle.cluster_rules.specs.Cluster as cluster
use Rattle.cluster_requests.specs.declared.content.Content.{Content}
use Rattle.cluster_requests.specs.declared.content.Content.TheVariants.{Shows, Tells, Runs, Renews, Holds, Defers, Says, Blank}
use Rattle.cluster_requests.specs.declared.pending.Stand.{Stand}
use Rattle.cluster_requests.specs.declared.pending.Stand.TheVariants.{AtPlace, InRound, ForIndex, Ended}
use Rattle.cluster_requests.specs.declared.pending.Start.{Start}
use Rattle.cluster_requests.specs.declared.pending.Start.TheVariants.{Proposed, Probed, Looked}
use Rattle.cluster_requests.specs.declared.out.Given.{Given}
use Rattle.cluster_requests.specs.declared.out.Given.TheVariants.{Replied, Closed, Synced}

abbrev pub content_of : Content → rules.Content
content_of (Shows query raw answer) = rules.Shows query raw answer
content_of (Tells command applied) = rules.Tells command applied
content_of (Runs ran) = rules.Runs ran
content_of (Renews row) = rules.Renews row
content_of (Holds body) = rules.Holds body
content_of (Defers command key) = rules.Defers command key
content_of (Says why) = rules.Says why
content_of Blank = rules.Blank

abbrev pub stand_of : Stand → cluster.Stand
stand_of (AtPlace index term) = cluster.AtPlace index term
stand_of (InRound round deadline) = cluster.InRound round deadline
stand_of (ForIndex deadline looked) = cluster.ForIndex deadline looked
stand_of (Ended event) = cluster.Ended event

abbrev pub start_of : Start → cluster.Start
start_of (Proposed index entry) = cluster.Proposed index entry
start_of (Probed number server round) = cluster.Probed number server round
start_of (Looked number server applied) = cluster.Looked number server applied

abbrev pub out_of : Given → rules.Out
out_of (Replied reply) = rules.Replied reply
out_of (Closed number event) = rules.Closed number event
out_of (Synced agent count) = rules.Synced agent count

-- what a read shows with this answer
abbrev pub read_content : Asked → Answer → rules.Content
read_content (Good (Read query mode least wait raw)) answer = rules.Shows query raw answer
read_content other answer = rules.Blank

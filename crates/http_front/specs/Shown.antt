-- What the replies of a cluster that serves show.
use Rattle.std.specs.Prelude.{◌≡◌, ℕ, List}
use Rattle.cat_model.specs.declared.reply.Mark.{Mark}
use Rattle.raft_model.specs.Node.{Store}
use Rattle.cluster_rules.specs.Reached.{MayBegin}
use Rattle.cluster_rules.specs.Lasting.{Lasting}
use Rattle.cluster_rules.specs.Replies.{Question, Reply, reply_of}
use Rattle.http_exchanges.specs.declared.cluster.Ask.{Ask}
use Rattle.http_exchanges.specs.Marks.{log_of}

-- the request with this number
abbrev pub question : ℕ → Ask → Question
question number a = record { number = number; agent = a.agent; asked = a.asked; draw = a.draw }

-- The reply shows what its request and its kind give over the agreed log that the marks tell, and what it rests on lasts.
pub record Shows (number : ℕ) (a : Ask) (reply : Reply) (marks : List Mark) : Type 0 where
  pub shown : reply ≡ reply_of (question number a) reply.kind reply.known reply.contact (log_of marks)
  pub lasts : Lasting (question number a) reply.kind (log_of marks)

-- the same where the stores over which the cluster began were empty or such as an earlier run of as many servers left
abbrev pub ShowsOver : List Store → ℕ → Ask → Reply → List Mark → Type 0
ShowsOver stores number a reply marks = MayBegin stores → Shows number a reply marks

-- Small runs that compute.
use Rattle.std.specs.Prelude.{◌≡◌, true, false, List, [], ◌∷◌, Some, None, codes}
use Rattle.cat_model.specs.declared.query.Query.TheVariants as query
use Rattle.cat_model.specs.declared.query.Answer.TheVariants as answer
use Rattle.cat_model.specs.declared.command.Command.{Command}
use Rattle.cat_model.specs.declared.command.Command.TheVariants.{KvSet}
use Rattle.cat_model.specs.declared.applied.Applied.TheVariants as applied
use Rattle.cat_model.specs.declared.request.Mode.TheVariants.{Default, Consistent}
use Rattle.cat_model.specs.declared.request.Request.TheVariants.{Read, Write}
use Rattle.cat_model.specs.declared.request.Asked.{Asked}
use Rattle.cat_model.specs.declared.request.Asked.TheVariants.{Good}
use Rattle.cat_model.specs.declared.request.Draw.{Draw}
use Rattle.cat_model.specs.declared.request.Event.TheVariants as event
use Rattle.cat_model.specs.declared.reply.Kind.TheVariants.{Acked, At}
use Rattle.raft_model.specs.Runs.{fresh}
use Rattle.cluster_rules.specs.Replies.{Out, Replied, Shows, Tells}
use Rattle.cluster_rules.specs.Cluster.{Cluster, Probed, started}
use Rattle.cluster_rules.specs.Reached.{Move, Makes, Reached}

-- the words that are drawn for each request here
abbrev pub drawn : Draw
drawn = record { hi = 0; lo = 0 }

-- One server and a read that waits: it is answered unchanged once its full wait is over, though another key is set
-- meanwhile.
abbrev pub wait_a : Asked
wait_a = Good (Read (query.Key (codes "a")) Default 1 10000 false)

abbrev pub set_b : Command
set_b = KvSet (codes "b") 0 (codes "x")

-- the write of another key
abbrev pub put_b : Asked
put_b = Good (Write set_b)

-- the events, the last one first
abbrev pub full_wait : List Move
full_wait =
    Makes (event.Tick 1 1) ∷ Makes (event.Tick 1 9999) ∷ Makes (event.Ask 1 put_b drawn) ∷ Makes (event.Ask 1 wait_a drawn)
    ∷ Makes (event.Timeout 1) ∷ []

-- the replies, the second request first
abbrev pub full_wait_outs : List Out
full_wait_outs =
    Replied (record { number = 2; index = None; content = Tells set_b applied.Yes; known = false; contact = 0; kind = Acked 2 })
    ∷ Replied (record {
      number = 1;
      index = Some 1;
      content = Shows (query.Key (codes "a")) false answer.Absent;
      known = true;
      contact = 0;
      kind = At Default 2 1 10000 10000;
    })
    ∷ []

-- the run, and what it gives
pub record FullWaitRun : Type 0 where
  pub cluster : Cluster
  pub reached : Reached (started (fresh 1) 1) true full_wait cluster
  pub outs : cluster.tray ≡ full_wait_outs
  pub none_held : cluster.held ≡ []

-- One server and a consistent read: its round is confirmed by the server alone.
abbrev pub sure_a : Asked
sure_a = Good (Read (query.Key (codes "a")) Consistent 0 0 false)

-- the run, and what it gives
pub record ConsistentRun : Type 0 where
  pub cluster : Cluster
  pub reached : Reached (started (fresh 1) 1) true (Makes (event.Ask 1 sure_a drawn) ∷ Makes (event.Timeout 1) ∷ []) cluster
  pub outs : cluster.tray ≡ Replied (record {
    number = 1;
    index = Some 1;
    content = Shows (query.Key (codes "a")) false answer.Absent;
    known = true;
    contact = 0;
    kind = At Consistent 1 1 0 300000;
  }) ∷ []
  pub probed : cluster.starts ≡ Probed 1 1 (record { term = 1; number = 1; commit = 1 }) ∷ []

-- A consistent read at one server, computed step by step.
use Rattle.std.proofs.Common.{arith, inr}
use Rattle.std.specs.Prelude.{◌≢◌, [], refl, true, false}
use Rattle.cat_model.specs.Tables.{put}
use Rattle.cat_model.specs.Same.{same_kv}
use Rattle.cat_model.specs.Catalog.{same_catalog}
use Rattle.cat_model.specs.Machine.{broken, act, unless, end_sessions, apply, at_past}
use Rattle.cat_model.specs.Queries.{reads, answer_from}
use Rattle.cat_model.specs.Indexes.{some_vanishes, touches, past_index}
use Rattle.cat_model.specs.declared.request.Mode.TheVariants.{Consistent}
use Rattle.cat_model.specs.declared.request.Event.TheVariants as event
use Rattle.cat_model.specs.declared.reply.Kind.TheVariants.{At}
use Rattle.raft_model.specs.Node.{begun}
use Rattle.raft_model.specs.declared.message.Round.{Round}
use Rattle.raft_model.specs.Rules.{Timeout, Probe, done, does, timed_out, candidate, leads, probes}
use Rattle.raft_model.specs.Runs.{fresh, given, saved, empty_store}
use Rattle.raft_model.specs.Step.{Works as StoreWorks, Forgets}
use Rattle.raft_model.specs.World.{World, Acts as NodeActs, nothing_kept}
use Rattle.cluster_rules.specs.Replies.{Question, entered, shown}
use Rattle.cluster_rules.specs.Cluster.{Pending, InRound, ForIndex, Probed, Cluster, started, node_of, seated}
use Rattle.cluster_rules.specs.Due.{Replies, Holds, Applies, did, none, work, next_one, early, late}
use Rattle.cluster_rules.specs.Requests.{holding, moved, probes as probes_it}
use Rattle.cluster_rules.specs.Step.{marked, shelved, takes, handles, act as acts, over, done as whole_step, ClusterStep}
use Rattle.cluster_rules.specs.Reached.{at_start, by_event}
use Rattle.cluster_rules.specs.Runs.{drawn, sure_a, ConsistentRun}
use Rattle.cluster_rules.proofs.PlainSteps.{plain_step}

led : World
led = given (fresh 1) 1 Timeout

one : Cluster
one = seated (fresh 1) 1 (moved 1 led (marked (event.Timeout 1) (started (fresh 1) 1)))

two : Cluster
two = shelved (did 1 Applies one)

reader : Question
reader = record { number = 1; agent = 1; asked = sure_a; draw = drawn }

round : Round
round = record { term = 1; number = 1; commit = 1 }

asked_all : World
asked_all = given led 1 Probe

three : Cluster
three = holding reader 1 (InRound round 300000) (Probed 1 1 round) (moved 1 asked_all (marked (event.Ask 1 sure_a drawn) two))

looks : Pending
looks = record { question = reader; server = 1; stand = ForIndex 300000 false }

four : Cluster
four = did 1 (Replies reader (At Consistent 1 1 0 300000)) (did 1 (Holds looks) three)

timeout : NodeActs (fresh 1) 1 Timeout led
unfolding led given fresh
timeout = record {
  old = begun 1 1 empty_store nothing_kept;
  outcome = StoreWorks;
  new = saved (begun 1 1 empty_store nothing_kept) (done (begun 1 1 empty_store nothing_kept) Timeout).node;
  sent = (done (begun 1 1 empty_store nothing_kept) Timeout).sent;
  server = (omega arith, refl);
  fresh = tt;
  step = plain_step (begun 1 1 empty_store nothing_kept) Timeout (refl, refl);
  becomes = refl;
}

timeout_works : timeout.outcome ≢ Forgets
unfolding timeout led given fresh
timeout_works e = absurd (cc e)

probe : NodeActs led 1 Probe asked_all
unfolding asked_all led given fresh done does timed_out candidate leads
probe = record {
  old = node_of led 1;
  outcome = StoreWorks;
  new = saved (node_of led 1) (done (node_of led 1) Probe).node;
  sent = (done (node_of led 1) Probe).sent;
  server = (omega arith, refl);
  fresh = tt;
  step = plain_step (node_of led 1) Probe (refl, refl);
  becomes = refl;
}

first_step : ClusterStep (started (fresh 1) 1) (event.Timeout 1) two true
unfolding two one led given fresh done does timed_out candidate leads did timeout
first_step = whole_step 1 (marked (event.Timeout 1) (started (fresh 1) 1)) (did 1 Applies one) (none, refl)
    (acts one (did 1 Applies one) (takes Timeout led refl refl timeout refl) timeout_works (work Applies (next_one refl refl) none, refl) (over refl)) refl

second_step : ClusterStep two (event.Ask 1 sure_a drawn) (shelved four) true
unfolding four looks three round asked_all reader two one led given fresh done does timed_out candidate leads probes did entered shown put same_kv same_catalog act unless broken end_sessions apply at_past reads touches some_vanishes past_index answer_from probe
second_step = whole_step 1 (marked (event.Ask 1 sure_a drawn) two) four (none, refl)
    (acts three four (handles 1 sure_a drawn refl refl refl (probes_it 0 asked_all refl (inr refl) probe refl)) tt
    (work (Holds looks) (late refl refl [] [] _ refl refl) (work (Replies reader (At Consistent 1 1 0 300000)) (early [] [] looks refl refl) none), refl) (over refl)) refl

pub consistent_run : ConsistentRun
unfolding four looks three round asked_all reader two one led given fresh done does timed_out candidate leads probes did entered shown put same_kv same_catalog act unless broken end_sessions apply at_past reads touches some_vanishes past_index answer_from
consistent_run = record {
  cluster = shelved four;
  reached = by_event (event.Ask 1 sure_a drawn) true (by_event (event.Timeout 1) true at_start (omega arith, omega arith) first_step) (omega arith, omega arith) second_step;
  outs = refl;
  probed = refl;
}

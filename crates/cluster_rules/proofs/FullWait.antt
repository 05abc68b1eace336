-- A read that waits to the end of its time, computed step by step.
use Rattle.std.proofs.Common.{arith, inr}
use Rattle.std.specs.Prelude.{◌≢◌, ◌∷◌, [], refl, true, false}
use Rattle.cat_model.specs.Tables.{put}
use Rattle.cat_model.specs.Same.{same_kv}
use Rattle.cat_model.specs.Catalog.{same_catalog}
use Rattle.cat_model.specs.Kv.{write_kv, kv_set}
use Rattle.cat_model.specs.Machine.{broken, act, unless, end_sessions, apply, at_past}
use Rattle.cat_model.specs.Queries.{reads, answer_from}
use Rattle.cat_model.specs.Indexes.{some_vanishes, touches, past_index}
use Rattle.cat_model.specs.Spelling.{number_within}
use Rattle.cat_model.specs.declared.request.Mode.TheVariants.{Default}
use Rattle.cat_model.specs.declared.request.Event.TheVariants as event
use Rattle.cat_model.specs.declared.reply.Kind.TheVariants.{Acked, At}
use Rattle.raft_model.specs.Node.{begun}
use Rattle.raft_model.specs.Rules.{Timeout, Propose, done, does, timed_out, candidate, leads, proposes}
use Rattle.raft_model.specs.Runs.{fresh, given, saved, empty_store}
use Rattle.raft_model.specs.Step.{Works as StoreWorks, Forgets}
use Rattle.raft_model.specs.World.{World, Acts as NodeActs, nothing_kept}
use Rattle.cluster_rules.specs.Replies.{Question, entered, shown}
use Rattle.cluster_rules.specs.Cluster.{Pending, AtPlace, ForIndex, Proposed, Looked, Cluster, started, node_of, seated}
use Rattle.cluster_rules.specs.Due.{Replies, Holds, Applies, did, none, work, next_one, early}
use Rattle.cluster_rules.specs.Requests.{holding, moved, proposes as proposes_it, reads as reads_it}
use Rattle.cluster_rules.specs.Step.{marked, shelved, ticks, tends, takes, handles, act as acts, over, done as whole_step, ClusterStep}
use Rattle.cluster_rules.specs.Proposals.{none_left, in_turn, with_ends, looked}
use Rattle.cluster_rules.specs.Reached.{at_start, by_event}
use Rattle.cluster_rules.specs.Runs.{drawn, wait_a, put_b, set_b, FullWaitRun}
use Rattle.cluster_rules.proofs.PlainSteps.{plain_step}

led : World
led = given (fresh 1) 1 Timeout

one : Cluster
one = seated (fresh 1) 1 (moved 1 led (marked (event.Timeout 1) (started (fresh 1) 1)))

two : Cluster
two = shelved (did 1 Applies one)

reader : Question
reader = record { number = 1; agent = 1; asked = wait_a; draw = drawn }

waits : Pending
waits = record { question = reader; server = 1; stand = ForIndex 10000 true }

three : Cluster
three = holding reader 1 (ForIndex 10000 false) (Looked 1 1 1) (marked (event.Ask 1 wait_a drawn) two)

four : Cluster
four = shelved (did 1 (Holds waits) three)

writer : Question
writer = record { number = 2; agent = 1; asked = put_b; draw = drawn }

wrote : World
wrote = given led 1 (Propose 2 set_b)

five : Cluster
five = holding writer 1 (AtPlace 2 1) (Proposed 2 (record { term = 1; number = 2; command = set_b })) (moved 1 wrote (marked (event.Ask 1 put_b drawn) four))

six : Cluster
six = did 1 (Replies writer (Acked 2)) (did 1 Applies five)

later : World
later = record wrote { clocks = 9999 ∷ [] }

seven : Cluster
seven = shelved (looked 1 (with_ends 1 [] (moved 1 later (marked (event.Tick 1 9999) (shelved six)))))

latest : World
latest = record wrote { clocks = 10000 ∷ [] }

eight : Cluster
eight = moved 1 latest (marked (event.Tick 1 1) seven)

nine : Cluster
nine = shelved (looked 1 (with_ends 1 [] (did 1 (Replies reader (At Default 2 1 10000 10000)) eight)))

timeout : NodeActs (fresh 1) 1 Timeout led
unfolding led given fresh
timeout = record {
  old = begun 1 1 empty_store nothing_kept;
  outcome = StoreWorks;
  new = saved (begun 1 1 empty_store nothing_kept) (done (begun 1 1 empty_store nothing_kept) Timeout).node;
  sent = (done (begun 1 1 empty_store nothing_kept) Timeout).sent;
  server = (omega arith, refl);
  fresh = tt;
  step = plain_step (begun 1 1 empty_store nothing_kept) Timeout (refl, refl);
  becomes = refl;
}

timeout_works : timeout.outcome ≢ Forgets
unfolding timeout led given fresh
timeout_works e = absurd (cc e)

propose : NodeActs led 1 (Propose 2 set_b) wrote
unfolding wrote led given fresh done does timed_out candidate leads
propose = record {
  old = node_of led 1;
  outcome = StoreWorks;
  new = saved (node_of led 1) (done (node_of led 1) (Propose 2 set_b)).node;
  sent = (done (node_of led 1) (Propose 2 set_b)).sent;
  server = (omega arith, refl);
  fresh = inr (omega arith);
  step = plain_step (node_of led 1) (Propose 2 set_b) (refl, refl);
  becomes = refl;
}

first_step : ClusterStep (started (fresh 1) 1) (event.Timeout 1) two true
unfolding two one led given fresh done does timed_out candidate leads did timeout
first_step = whole_step 1 (marked (event.Timeout 1) (started (fresh 1) 1)) (did 1 Applies one) (none, refl)
    (acts one (did 1 Applies one) (takes Timeout led refl refl timeout refl) timeout_works (work Applies (next_one refl refl) none, refl) (over refl)) refl

second_step : ClusterStep two (event.Ask 1 wait_a drawn) four true
unfolding four three waits reader two one led given fresh done does timed_out candidate leads proposes did number_within entered shown put same_kv same_catalog write_kv kv_set act unless broken end_sessions apply at_past reads touches some_vanishes past_index answer_from
second_step = whole_step 1 (marked (event.Ask 1 wait_a drawn) two) (did 1 (Holds waits) three) (none, refl)
    (acts three _ (handles 1 wait_a drawn refl refl refl (reads_it Default 10000 refl (λ e. absurd (cc e)) (inr refl) refl)) tt
    (work (Holds waits) (early [] [] _ refl refl) none, refl) (over refl)) refl

third_step : ClusterStep four (event.Ask 1 put_b drawn) (shelved six) true
unfolding six five wrote writer four three waits reader two one led given fresh done does timed_out candidate leads proposes did number_within entered shown put same_kv same_catalog write_kv kv_set act unless broken end_sessions apply at_past reads touches some_vanishes past_index answer_from propose
third_step = whole_step 1 (marked (event.Ask 1 put_b drawn) four) six (none, refl)
    (acts five six (handles 1 put_b drawn refl refl refl (proposes_it set_b wrote refl refl (inr refl) refl propose refl refl)) tt
    (work Applies (next_one refl refl) (work (Replies writer (Acked 2)) (early (waits ∷ []) [] _ refl refl) none), refl) (over refl)) refl

fourth_step : ClusterStep (shelved six) (event.Tick 1 9999) seven true
unfolding seven later six five wrote writer four three waits reader two one led given fresh done does timed_out candidate leads proposes did number_within entered shown put same_kv same_catalog write_kv kv_set act unless broken end_sessions apply at_past reads touches some_vanishes past_index answer_from
fourth_step = whole_step 1 (marked (event.Tick 1 9999) (shelved six)) _ (none, refl)
    (acts _ _ (ticks 9999 later refl refl (node_of wrote 1, (omega arith, refl), refl) refl) tt (none, refl)
    (acts _ _ (tends 9999 true refl refl (in_turn 0 0 _ _ refl none_left none_left refl)) refl (none, refl) (over refl))) refl

fifth_step : ClusterStep seven (event.Tick 1 1) nine true
unfolding nine eight latest seven later six five wrote writer four three waits reader two one led given fresh done does timed_out candidate leads proposes did number_within entered shown put same_kv same_catalog write_kv kv_set act unless broken end_sessions apply at_past reads touches some_vanishes past_index answer_from
fifth_step = whole_step 1 (marked (event.Tick 1 1) seven) _ (none, refl)
    (acts eight _ (ticks 1 latest refl refl (node_of wrote 1, (omega arith, refl), refl) refl) tt
    (work (Replies reader (At Default 2 1 10000 10000)) (early [] [] _ refl refl) none, refl)
    (acts _ _ (tends 1 true refl refl (in_turn 0 0 _ _ refl none_left none_left refl)) refl (none, refl) (over refl))) refl

pub full_wait_run : FullWaitRun
unfolding nine eight latest seven later six five wrote writer four three waits reader two one led given fresh done does timed_out candidate leads proposes did number_within entered shown put same_kv same_catalog write_kv kv_set act unless broken end_sessions apply at_past reads touches some_vanishes past_index answer_from
full_wait_run = record {
  cluster = nine;
  reached =
      by_event (event.Tick 1 1) true
      (by_event (event.Tick 1 9999) true
      (by_event (event.Ask 1 put_b drawn) true
      (by_event (event.Ask 1 wait_a drawn) true
      (by_event (event.Timeout 1) true at_start (omega arith, omega arith) first_step)
      (omega arith, omega arith) second_step)
      (omega arith, omega arith) third_step)
      ((omega arith, omega arith), omega arith) fourth_step)
      ((omega arith, omega arith), omega arith) fifth_step;
  outs = refl;
  none_held = refl;
}

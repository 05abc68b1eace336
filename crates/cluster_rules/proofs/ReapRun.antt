-- Reaps, computed step by step.
use Rattle.std.proofs.Common.{arith, refl, inl, true, []}
use Rattle.std.specs.Prelude.{codes}
use Rattle.cat_model.specs.Tables.{put}
use Rattle.cat_model.specs.Same.{same_node, same_service, same_check, same_kv, same_session, same_query}
use Rattle.cat_model.specs.Catalog.{same_catalog}
use Rattle.cat_model.specs.Kv.{write_kv, kv_set, kv_lock, kv_delete, run_ops}
use Rattle.cat_model.specs.Machine.{broken, act, unless, register as registers, deregister, create_session, end_sessions, apply, freed, at_past}
use Rattle.cat_model.specs.Queries.{reads, answer_from}
use Rattle.cat_model.specs.Indexes.{some_vanishes, touches, past_index}
use Rattle.cat_model.specs.Identifiers.{identifier}
use Rattle.cat_model.specs.Spelling.{number_within, id_bytes, service_bytes, check_bytes, op_bytes}
use Rattle.cat_model.specs.Delays.{past_delay, ttl_start}
use Rattle.cat_model.specs.declared.command.Command.TheVariants as command
use Rattle.cat_model.specs.declared.request.Event.TheVariants as event
use Rattle.cat_model.specs.declared.request.Request.TheVariants.{Write}
use Rattle.cat_model.specs.declared.request.Asked.TheVariants.{Good}
use Rattle.raft_model.specs.Rules.{Timeout, Propose, done, does, timed_out, candidate, leads, proposes}
use Rattle.raft_model.specs.Runs.{fresh, given}
use Rattle.cluster_rules.specs.Replies.{entered, shown}
use Rattle.cluster_rules.specs.Cluster.{Cluster, started}
use Rattle.cluster_rules.specs.Due.{did}
use Rattle.cluster_rules.specs.Requests.{moved}
use Rattle.cluster_rules.specs.Proposals.{none_left, enters, in_turn, with_ends, looked}
use Rattle.cluster_rules.specs.Step.{marked, ClusterStep}
use Rattle.cluster_rules.specs.Reached.{at_start, by_event}
use Rattle.cluster_rules.proofs.Playing.{after_act, input_step, times_out, after_write, writes, ticked_world, ticks_on, GoesOn, at_on, given_on, after_on, seated_on, acts_on, wrote, next_question}
use Rattle.cluster_rules.specs.SessionRuns.{ReapRun, set_x, draw_of}

s0 : Cluster
s0 = started (fresh 1) 1

p_s0 : GoesOn s0.world 1
unfolding s0 fresh
p_s0 = (omega arith, omega arith, (refl, refl))

s1 : Cluster
s1 = after_act 3 1 (input_step s0.world 1 Timeout (marked (event.Timeout 1) s0))

p_s1 : GoesOn s1.world 1
unfolding s1
p_s1 = after_on 3 1 (input_step s0.world 1 Timeout (marked (event.Timeout 1) s0)) (seated_on s0.world 1 (moved 1 (given s0.world 1 Timeout) (marked (event.Timeout 1) s0)) (given_on s0.world 1 Timeout p_s0))

step1 : ClusterStep s0 (event.Timeout 1) s1 true
unfolding s1 s0 did given fresh done does timed_out candidate leads proposes number_within id_bytes check_bytes service_bytes op_bytes entered shown put same_node same_service same_check same_kv same_session same_query same_catalog write_kv kv_set kv_lock kv_delete run_ops act unless broken registers deregister create_session end_sessions apply freed at_past reads touches some_vanishes past_index answer_from identifier past_delay ttl_start
step1 = times_out s0 1 3 refl (at_on s0.world 1 p_s0) p_s0.2 (λ _. refl) refl

s2 : Cluster
s2 = after_write 3 1 s1 1 (set_x (codes "a")) (draw_of 1)

p_s2 : GoesOn s2.world 1
unfolding s2
p_s2 = after_on 3 1 (wrote (marked (event.Ask 1 (Good (Write (set_x (codes "a")))) (draw_of 1)) s1) 1 (next_question s1 1 (Good (Write (set_x (codes "a")))) (draw_of 1)) (set_x (codes "a"))) (given_on s1.world 1 _ p_s1)

step2 : ClusterStep s1 (event.Ask 1 (Good (Write (set_x (codes "a")))) (draw_of 1)) s2 true
unfolding s2 s1 s0 did given fresh done does timed_out candidate leads proposes number_within id_bytes check_bytes service_bytes op_bytes entered shown put same_node same_service same_check same_kv same_session same_query same_catalog write_kv kv_set kv_lock kv_delete run_ops act unless broken registers deregister create_session end_sessions apply freed at_past reads touches some_vanishes past_index answer_from identifier past_delay ttl_start
step2 = writes 3 1 s1 1 (set_x (codes "a")) (draw_of 1) refl refl refl refl refl (at_on s1.world 1 p_s1) p_s1.2 (omega arith) refl refl

s3 : Cluster
s3 = after_write 3 1 s2 1 (command.KvDelete (codes "a")) (draw_of 2)

p_s3 : GoesOn s3.world 1
unfolding s3
p_s3 = after_on 3 1 (wrote (marked (event.Ask 1 (Good (Write (command.KvDelete (codes "a")))) (draw_of 2)) s2) 1 (next_question s2 1 (Good (Write (command.KvDelete (codes "a")))) (draw_of 2)) (command.KvDelete (codes "a"))) (given_on s2.world 1 _ p_s2)

step3 : ClusterStep s2 (event.Ask 1 (Good (Write (command.KvDelete (codes "a")))) (draw_of 2)) s3 true
unfolding s3 s2 s1 s0 did given fresh done does timed_out candidate leads proposes number_within id_bytes check_bytes service_bytes op_bytes entered shown put same_node same_service same_check same_kv same_session same_query same_catalog write_kv kv_set kv_lock kv_delete run_ops act unless broken registers deregister create_session end_sessions apply freed at_past reads touches some_vanishes past_index answer_from identifier past_delay ttl_start
step3 = writes 3 1 s2 1 (command.KvDelete (codes "a")) (draw_of 2) refl refl refl refl refl (at_on s2.world 1 p_s2) p_s2.2 (omega arith) refl refl

t4 : Cluster
t4 = moved 1 (ticked_world s3.world 1 900000) (marked (event.Tick 1 900000) s3)

p_t4 : GoesOn t4.world 1
unfolding t4
p_t4 = p_s3

d4 : Cluster
d4 = moved 1 (given (looked 1 (with_ends 1 [] t4)).world 1 (Propose 0 command.Reap)) (looked 1 (with_ends 1 [] t4))

p_d4 : GoesOn d4.world 1
unfolding d4
p_d4 = given_on (looked 1 (with_ends 1 [] t4)).world 1 _ p_t4

s4 : Cluster
s4 = after_act 2 1 d4

p_s4 : GoesOn s4.world 1
unfolding s4
p_s4 = after_on 2 1 d4 p_d4

step4 : ClusterStep s3 (event.Tick 1 900000) s4 true
unfolding s4 d4 t4 s3 s2 s1 s0 did given fresh done does timed_out candidate leads proposes number_within id_bytes check_bytes service_bytes op_bytes entered shown put same_node same_service same_check same_kv same_session same_query same_catalog write_kv kv_set kv_lock kv_delete run_ops act unless broken registers deregister create_session end_sessions apply freed at_past reads touches some_vanishes past_index answer_from identifier past_delay ttl_start
step4 = ticks_on 0 2 1 900000 s3 t4 d4 refl (at_on s3.world 1 p_s3) refl refl (in_turn 0 1 t4 d4 refl none_left (enters (given (looked 1 (with_ends 1 [] t4)).world 1 (Propose 0 command.Reap)) refl refl (acts_on (looked 1 (with_ends 1 [] t4)).world 1 (Propose 0 command.Reap) p_t4 (inl refl)) refl none_left) refl) refl

s5 : Cluster
s5 = after_write 3 1 s4 1 (set_x (codes "b")) (draw_of 3)

p_s5 : GoesOn s5.world 1
unfolding s5
p_s5 = after_on 3 1 (wrote (marked (event.Ask 1 (Good (Write (set_x (codes "b")))) (draw_of 3)) s4) 1 (next_question s4 1 (Good (Write (set_x (codes "b")))) (draw_of 3)) (set_x (codes "b"))) (given_on s4.world 1 _ p_s4)

step5 : ClusterStep s4 (event.Ask 1 (Good (Write (set_x (codes "b")))) (draw_of 3)) s5 true
unfolding s5 s4 d4 t4 s3 s2 s1 s0 did given fresh done does timed_out candidate leads proposes number_within id_bytes check_bytes service_bytes op_bytes entered shown put same_node same_service same_check same_kv same_session same_query same_catalog write_kv kv_set kv_lock kv_delete run_ops act unless broken registers deregister create_session end_sessions apply freed at_past reads touches some_vanishes past_index answer_from identifier past_delay ttl_start
step5 = writes 3 1 s4 1 (set_x (codes "b")) (draw_of 3) refl refl refl refl refl (at_on s4.world 1 p_s4) p_s4.2 (omega arith) refl refl

s6 : Cluster
s6 = after_write 3 1 s5 1 (command.KvDelete (codes "b")) (draw_of 4)

p_s6 : GoesOn s6.world 1
unfolding s6
p_s6 = after_on 3 1 (wrote (marked (event.Ask 1 (Good (Write (command.KvDelete (codes "b")))) (draw_of 4)) s5) 1 (next_question s5 1 (Good (Write (command.KvDelete (codes "b")))) (draw_of 4)) (command.KvDelete (codes "b"))) (given_on s5.world 1 _ p_s5)

step6 : ClusterStep s5 (event.Ask 1 (Good (Write (command.KvDelete (codes "b")))) (draw_of 4)) s6 true
unfolding s6 s5 s4 d4 t4 s3 s2 s1 s0 did given fresh done does timed_out candidate leads proposes number_within id_bytes check_bytes service_bytes op_bytes entered shown put same_node same_service same_check same_kv same_session same_query same_catalog write_kv kv_set kv_lock kv_delete run_ops act unless broken registers deregister create_session end_sessions apply freed at_past reads touches some_vanishes past_index answer_from identifier past_delay ttl_start
step6 = writes 3 1 s5 1 (command.KvDelete (codes "b")) (draw_of 4) refl refl refl refl refl (at_on s5.world 1 p_s5) p_s5.2 (omega arith) refl refl

t7 : Cluster
t7 = moved 1 (ticked_world s6.world 1 899999) (marked (event.Tick 1 899999) s6)

p_t7 : GoesOn t7.world 1
unfolding t7
p_t7 = p_s6

d7 : Cluster
d7 = looked 1 (with_ends 1 [] t7)

p_d7 : GoesOn d7.world 1
unfolding d7
p_d7 = p_t7

s7 : Cluster
s7 = after_act 2 1 d7

p_s7 : GoesOn s7.world 1
unfolding s7
p_s7 = after_on 2 1 d7 p_d7

step7 : ClusterStep s6 (event.Tick 1 899999) s7 true
unfolding s7 d7 t7 s6 s5 s4 d4 t4 s3 s2 s1 s0 did given fresh done does timed_out candidate leads proposes number_within id_bytes check_bytes service_bytes op_bytes entered shown put same_node same_service same_check same_kv same_session same_query same_catalog write_kv kv_set kv_lock kv_delete run_ops act unless broken registers deregister create_session end_sessions apply freed at_past reads touches some_vanishes past_index answer_from identifier past_delay ttl_start
step7 = ticks_on 0 2 1 899999 s6 t7 d7 refl (at_on s6.world 1 p_s6) refl refl (in_turn 0 0 t7 d7 refl none_left none_left refl) refl

t8 : Cluster
t8 = moved 1 (ticked_world s7.world 1 1) (marked (event.Tick 1 1) s7)

p_t8 : GoesOn t8.world 1
unfolding t8
p_t8 = p_s7

d8 : Cluster
d8 = moved 1 (given (looked 1 (with_ends 1 [] t8)).world 1 (Propose 0 command.Reap)) (looked 1 (with_ends 1 [] t8))

p_d8 : GoesOn d8.world 1
unfolding d8
p_d8 = given_on (looked 1 (with_ends 1 [] t8)).world 1 _ p_t8

s8 : Cluster
s8 = after_act 2 1 d8

p_s8 : GoesOn s8.world 1
unfolding s8
p_s8 = after_on 2 1 d8 p_d8

step8 : ClusterStep s7 (event.Tick 1 1) s8 true
unfolding s8 d8 t8 s7 d7 t7 s6 s5 s4 d4 t4 s3 s2 s1 s0 did given fresh done does timed_out candidate leads proposes number_within id_bytes check_bytes service_bytes op_bytes entered shown put same_node same_service same_check same_kv same_session same_query same_catalog write_kv kv_set kv_lock kv_delete run_ops act unless broken registers deregister create_session end_sessions apply freed at_past reads touches some_vanishes past_index answer_from identifier past_delay ttl_start
step8 = ticks_on 0 2 1 1 s7 t8 d8 refl (at_on s7.world 1 p_s7) refl refl (in_turn 0 1 t8 d8 refl none_left (enters (given (looked 1 (with_ends 1 [] t8)).world 1 (Propose 0 command.Reap)) refl refl (acts_on (looked 1 (with_ends 1 [] t8)).world 1 (Propose 0 command.Reap) p_t8 (inl refl)) refl none_left) refl) refl

t9 : Cluster
t9 = moved 1 (ticked_world s8.world 1 900000) (marked (event.Tick 1 900000) s8)

p_t9 : GoesOn t9.world 1
unfolding t9
p_t9 = p_s8

d9 : Cluster
d9 = looked 1 (with_ends 1 [] t9)

p_d9 : GoesOn d9.world 1
unfolding d9
p_d9 = p_t9

s9 : Cluster
s9 = after_act 2 1 d9

p_s9 : GoesOn s9.world 1
unfolding s9
p_s9 = after_on 2 1 d9 p_d9

step9 : ClusterStep s8 (event.Tick 1 900000) s9 true
unfolding s9 d9 t9 s8 d8 t8 s7 d7 t7 s6 s5 s4 d4 t4 s3 s2 s1 s0 did given fresh done does timed_out candidate leads proposes number_within id_bytes check_bytes service_bytes op_bytes entered shown put same_node same_service same_check same_kv same_session same_query same_catalog write_kv kv_set kv_lock kv_delete run_ops act unless broken registers deregister create_session end_sessions apply freed at_past reads touches some_vanishes past_index answer_from identifier past_delay ttl_start
step9 = ticks_on 0 2 1 900000 s8 t9 d9 refl (at_on s8.world 1 p_s8) refl refl (in_turn 0 0 t9 d9 refl none_left none_left refl) refl

pub reap_run : ReapRun
unfolding s9 d9 t9 s8 d8 t8 s7 d7 t7 s6 s5 s4 d4 t4 s3 s2 s1 s0 did given fresh done does timed_out candidate leads proposes number_within id_bytes check_bytes service_bytes op_bytes entered shown put same_node same_service same_check same_kv same_session same_query same_catalog write_kv kv_set kv_lock kv_delete run_ops act unless broken registers deregister create_session end_sessions apply freed at_past reads touches some_vanishes past_index answer_from identifier past_delay ttl_start
reap_run = record {
  cluster = s9;
  reached = by_event (event.Tick 1 900000) true (by_event (event.Tick 1 1) true (by_event (event.Tick 1 899999) true (by_event (event.Ask 1 (Good (Write (command.KvDelete (codes "b")))) (draw_of 4)) true (by_event (event.Ask 1 (Good (Write (set_x (codes "b")))) (draw_of 3)) true (by_event (event.Tick 1 900000) true (by_event (event.Ask 1 (Good (Write (command.KvDelete (codes "a")))) (draw_of 2)) true (by_event (event.Ask 1 (Good (Write (set_x (codes "a")))) (draw_of 1)) true (by_event (event.Timeout 1) true (at_start) (omega arith, omega arith) step1) (omega arith, omega arith) step2) (omega arith, omega arith) step3) ((omega arith, omega arith), omega arith) step4) (omega arith, omega arith) step5) (omega arith, omega arith) step6) ((omega arith, omega arith), omega arith) step7) ((omega arith, omega arith), omega arith) step8) ((omega arith, omega arith), omega arith) step9;
  agreed = refl;
  before = s7;
  reached_before = (_, by_event (event.Tick 1 899999) true (by_event (event.Ask 1 (Good (Write (command.KvDelete (codes "b")))) (draw_of 4)) true (by_event (event.Ask 1 (Good (Write (set_x (codes "b")))) (draw_of 3)) true (by_event (event.Tick 1 900000) true (by_event (event.Ask 1 (Good (Write (command.KvDelete (codes "a")))) (draw_of 2)) true (by_event (event.Ask 1 (Good (Write (set_x (codes "a")))) (draw_of 1)) true (by_event (event.Timeout 1) true (at_start) (omega arith, omega arith) step1) (omega arith, omega arith) step2) (omega arith, omega arith) step3) ((omega arith, omega arith), omega arith) step4) (omega arith, omega arith) step5) (omega arith, omega arith) step6) ((omega arith, omega arith), omega arith) step7);
  not_yet = refl;
}

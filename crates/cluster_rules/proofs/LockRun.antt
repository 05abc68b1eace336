-- A lock delay, computed step by step.
use Rattle.std.proofs.Common.{arith, refl, true, []}
use Rattle.std.specs.Prelude.{codes}
use Rattle.cat_model.specs.Tables.{put}
use Rattle.cat_model.specs.Same.{same_node, same_service, same_check, same_kv, same_session, same_query}
use Rattle.cat_model.specs.Catalog.{same_catalog}
use Rattle.cat_model.specs.Kv.{write_kv, kv_set, kv_lock, kv_delete, run_ops}
use Rattle.cat_model.specs.Machine.{broken, act, unless, register as registers, deregister, create_session, end_sessions, apply, freed, at_past}
use Rattle.cat_model.specs.Queries.{reads, answer_from}
use Rattle.cat_model.specs.Indexes.{some_vanishes, touches, past_index}
use Rattle.cat_model.specs.Identifiers.{identifier}
use Rattle.cat_model.specs.Spelling.{number_within, id_bytes, service_bytes, check_bytes, op_bytes}
use Rattle.cat_model.specs.Delays.{past_delay, ttl_start}
use Rattle.cat_model.specs.declared.request.Mode.TheVariants.{Default}
use Rattle.cat_model.specs.declared.request.Event.TheVariants as event
use Rattle.cat_model.specs.declared.request.Request.TheVariants.{Write}
use Rattle.cat_model.specs.declared.request.Asked.TheVariants.{Good}
use Rattle.raft_model.specs.Rules.{Timeout, done, does, timed_out, candidate, leads, proposes}
use Rattle.raft_model.specs.Runs.{fresh, given}
use Rattle.cluster_rules.specs.Replies.{entered, shown}
use Rattle.cluster_rules.specs.Cluster.{Cluster, started}
use Rattle.cluster_rules.specs.Due.{did}
use Rattle.cluster_rules.specs.Requests.{moved}
use Rattle.cluster_rules.specs.Proposals.{none_left, in_turn, with_ends, looked}
use Rattle.cluster_rules.specs.Step.{marked, ClusterStep}
use Rattle.cluster_rules.specs.Reached.{at_start, by_event}
use Rattle.cluster_rules.proofs.Playing.{after_act, input_step, times_out, after_write, writes, after_delay, is_delayed, after_look, looks, ticked_world, ticks_on, GoesOn, at_on, given_on, after_on, seated_on, look_on, wrote, next_question}
use Rattle.cluster_rules.specs.SessionRuns.{LockRun, register, session_asked, lock_by, txn_by, get_k, destroy, draw_of, id_of}

s0 : Cluster
s0 = started (fresh 1) 1

p_s0 : GoesOn s0.world 1
unfolding s0 fresh
p_s0 = (omega arith, omega arith, (refl, refl))

s1 : Cluster
s1 = after_act 3 1 (input_step s0.world 1 Timeout (marked (event.Timeout 1) s0))

p_s1 : GoesOn s1.world 1
unfolding s1
p_s1 = after_on 3 1 (input_step s0.world 1 Timeout (marked (event.Timeout 1) s0)) (seated_on s0.world 1 (moved 1 (given s0.world 1 Timeout) (marked (event.Timeout 1) s0)) (given_on s0.world 1 Timeout p_s0))

step1 : ClusterStep s0 (event.Timeout 1) s1 true
unfolding s1 s0 did given fresh done does timed_out candidate leads proposes number_within id_bytes check_bytes service_bytes op_bytes entered shown put same_node same_service same_check same_kv same_session same_query same_catalog write_kv kv_set kv_lock kv_delete run_ops act unless broken registers deregister create_session end_sessions apply freed at_past reads touches some_vanishes past_index answer_from identifier past_delay ttl_start
step1 = times_out s0 1 3 refl (at_on s0.world 1 p_s0) p_s0.2 (λ _. refl) refl

s2 : Cluster
s2 = after_write 3 1 s1 1 (register) (draw_of 1)

p_s2 : GoesOn s2.world 1
unfolding s2
p_s2 = after_on 3 1 (wrote (marked (event.Ask 1 (Good (Write (register))) (draw_of 1)) s1) 1 (next_question s1 1 (Good (Write (register))) (draw_of 1)) (register)) (given_on s1.world 1 _ p_s1)

step2 : ClusterStep s1 (event.Ask 1 (Good (Write (register))) (draw_of 1)) s2 true
unfolding s2 s1 s0 did given fresh done does timed_out candidate leads proposes number_within id_bytes check_bytes service_bytes op_bytes entered shown put same_node same_service same_check same_kv same_session same_query same_catalog write_kv kv_set kv_lock kv_delete run_ops act unless broken registers deregister create_session end_sessions apply freed at_past reads touches some_vanishes past_index answer_from identifier past_delay ttl_start
step2 = writes 3 1 s1 1 (register) (draw_of 1) refl refl refl refl refl (at_on s1.world 1 p_s1) p_s1.2 (omega arith) refl refl

s3 : Cluster
s3 = after_write 3 1 s2 1 (session_asked 0) (draw_of 2)

p_s3 : GoesOn s3.world 1
unfolding s3
p_s3 = after_on 3 1 (wrote (marked (event.Ask 1 (Good (Write (session_asked 0))) (draw_of 2)) s2) 1 (next_question s2 1 (Good (Write (session_asked 0))) (draw_of 2)) (session_asked 0)) (given_on s2.world 1 _ p_s2)

step3 : ClusterStep s2 (event.Ask 1 (Good (Write (session_asked 0))) (draw_of 2)) s3 true
unfolding s3 s2 s1 s0 did given fresh done does timed_out candidate leads proposes number_within id_bytes check_bytes service_bytes op_bytes entered shown put same_node same_service same_check same_kv same_session same_query same_catalog write_kv kv_set kv_lock kv_delete run_ops act unless broken registers deregister create_session end_sessions apply freed at_past reads touches some_vanishes past_index answer_from identifier past_delay ttl_start
step3 = writes 3 1 s2 1 (session_asked 0) (draw_of 2) refl refl refl refl refl (at_on s2.world 1 p_s2) p_s2.2 (omega arith) refl refl

s4 : Cluster
s4 = after_write 3 1 s3 1 (lock_by (id_of 2) (codes "a")) (draw_of 3)

p_s4 : GoesOn s4.world 1
unfolding s4
p_s4 = after_on 3 1 (wrote (marked (event.Ask 1 (Good (Write (lock_by (id_of 2) (codes "a")))) (draw_of 3)) s3) 1 (next_question s3 1 (Good (Write (lock_by (id_of 2) (codes "a")))) (draw_of 3)) (lock_by (id_of 2) (codes "a"))) (given_on s3.world 1 _ p_s3)

step4 : ClusterStep s3 (event.Ask 1 (Good (Write (lock_by (id_of 2) (codes "a")))) (draw_of 3)) s4 true
unfolding s4 s3 s2 s1 s0 did given fresh done does timed_out candidate leads proposes number_within id_bytes check_bytes service_bytes op_bytes entered shown put same_node same_service same_check same_kv same_session same_query same_catalog write_kv kv_set kv_lock kv_delete run_ops act unless broken registers deregister create_session end_sessions apply freed at_past reads touches some_vanishes past_index answer_from identifier past_delay ttl_start
step4 = writes 3 1 s3 1 (lock_by (id_of 2) (codes "a")) (draw_of 3) refl refl refl refl refl (at_on s3.world 1 p_s3) p_s3.2 (omega arith) refl refl

s5 : Cluster
s5 = after_write 3 1 s4 1 (destroy (id_of 2)) (draw_of 4)

p_s5 : GoesOn s5.world 1
unfolding s5
p_s5 = after_on 3 1 (wrote (marked (event.Ask 1 (Good (Write (destroy (id_of 2)))) (draw_of 4)) s4) 1 (next_question s4 1 (Good (Write (destroy (id_of 2)))) (draw_of 4)) (destroy (id_of 2))) (given_on s4.world 1 _ p_s4)

step5 : ClusterStep s4 (event.Ask 1 (Good (Write (destroy (id_of 2)))) (draw_of 4)) s5 true
unfolding s5 s4 s3 s2 s1 s0 did given fresh done does timed_out candidate leads proposes number_within id_bytes check_bytes service_bytes op_bytes entered shown put same_node same_service same_check same_kv same_session same_query same_catalog write_kv kv_set kv_lock kv_delete run_ops act unless broken registers deregister create_session end_sessions apply freed at_past reads touches some_vanishes past_index answer_from identifier past_delay ttl_start
step5 = writes 3 1 s4 1 (destroy (id_of 2)) (draw_of 4) refl refl refl refl refl (at_on s4.world 1 p_s4) p_s4.2 (omega arith) refl refl

s6 : Cluster
s6 = after_write 3 1 s5 1 (session_asked 0) (draw_of 5)

p_s6 : GoesOn s6.world 1
unfolding s6
p_s6 = after_on 3 1 (wrote (marked (event.Ask 1 (Good (Write (session_asked 0))) (draw_of 5)) s5) 1 (next_question s5 1 (Good (Write (session_asked 0))) (draw_of 5)) (session_asked 0)) (given_on s5.world 1 _ p_s5)

step6 : ClusterStep s5 (event.Ask 1 (Good (Write (session_asked 0))) (draw_of 5)) s6 true
unfolding s6 s5 s4 s3 s2 s1 s0 did given fresh done does timed_out candidate leads proposes number_within id_bytes check_bytes service_bytes op_bytes entered shown put same_node same_service same_check same_kv same_session same_query same_catalog write_kv kv_set kv_lock kv_delete run_ops act unless broken registers deregister create_session end_sessions apply freed at_past reads touches some_vanishes past_index answer_from identifier past_delay ttl_start
step6 = writes 3 1 s5 1 (session_asked 0) (draw_of 5) refl refl refl refl refl (at_on s5.world 1 p_s5) p_s5.2 (omega arith) refl refl

s7 : Cluster
s7 = after_delay s6 1 1 (txn_by (id_of 5)) (draw_of 6) (codes "k")

p_s7 : GoesOn s7.world 1
unfolding s7
p_s7 = p_s6

step7 : ClusterStep s6 (event.Ask 1 (Good (Write (txn_by (id_of 5)))) (draw_of 6)) s7 true
unfolding s7 s6 s5 s4 s3 s2 s1 s0 did given fresh done does timed_out candidate leads proposes number_within id_bytes check_bytes service_bytes op_bytes entered shown put same_node same_service same_check same_kv same_session same_query same_catalog write_kv kv_set kv_lock kv_delete run_ops act unless broken registers deregister create_session end_sessions apply freed at_past reads touches some_vanishes past_index answer_from identifier past_delay ttl_start
step7 = is_delayed 1 s6 1 (txn_by (id_of 5)) (draw_of 6) (codes "k") refl refl refl refl refl

t8 : Cluster
t8 = moved 1 (ticked_world s7.world 1 14999) (marked (event.Tick 1 14999) s7)

p_t8 : GoesOn t8.world 1
unfolding t8
p_t8 = p_s7

d8 : Cluster
d8 = looked 1 (with_ends 1 [] t8)

p_d8 : GoesOn d8.world 1
unfolding d8
p_d8 = p_t8

s8 : Cluster
s8 = after_act 2 1 d8

p_s8 : GoesOn s8.world 1
unfolding s8
p_s8 = after_on 2 1 d8 p_d8

step8 : ClusterStep s7 (event.Tick 1 14999) s8 true
unfolding s8 d8 t8 s7 s6 s5 s4 s3 s2 s1 s0 did given fresh done does timed_out candidate leads proposes number_within id_bytes check_bytes service_bytes op_bytes entered shown put same_node same_service same_check same_kv same_session same_query same_catalog write_kv kv_set kv_lock kv_delete run_ops act unless broken registers deregister create_session end_sessions apply freed at_past reads touches some_vanishes past_index answer_from identifier past_delay ttl_start
step8 = ticks_on 0 2 1 14999 s7 t8 d8 refl (at_on s7.world 1 p_s7) refl refl (in_turn 0 0 t8 d8 refl none_left none_left refl) refl

s9 : Cluster
s9 = after_delay s8 1 1 (lock_by (id_of 5) (codes "b")) (draw_of 7) (codes "k")

p_s9 : GoesOn s9.world 1
unfolding s9
p_s9 = p_s8

step9 : ClusterStep s8 (event.Ask 1 (Good (Write (lock_by (id_of 5) (codes "b")))) (draw_of 7)) s9 true
unfolding s9 s8 d8 t8 s7 s6 s5 s4 s3 s2 s1 s0 did given fresh done does timed_out candidate leads proposes number_within id_bytes check_bytes service_bytes op_bytes entered shown put same_node same_service same_check same_kv same_session same_query same_catalog write_kv kv_set kv_lock kv_delete run_ops act unless broken registers deregister create_session end_sessions apply freed at_past reads touches some_vanishes past_index answer_from identifier past_delay ttl_start
step9 = is_delayed 1 s8 1 (lock_by (id_of 5) (codes "b")) (draw_of 7) (codes "k") refl refl refl refl refl

t10 : Cluster
t10 = moved 1 (ticked_world s9.world 1 1) (marked (event.Tick 1 1) s9)

p_t10 : GoesOn t10.world 1
unfolding t10
p_t10 = p_s9

d10 : Cluster
d10 = looked 1 (with_ends 1 [] t10)

p_d10 : GoesOn d10.world 1
unfolding d10
p_d10 = p_t10

s10 : Cluster
s10 = after_act 2 1 d10

p_s10 : GoesOn s10.world 1
unfolding s10
p_s10 = after_on 2 1 d10 p_d10

step10 : ClusterStep s9 (event.Tick 1 1) s10 true
unfolding s10 d10 t10 s9 s8 d8 t8 s7 s6 s5 s4 s3 s2 s1 s0 did given fresh done does timed_out candidate leads proposes number_within id_bytes check_bytes service_bytes op_bytes entered shown put same_node same_service same_check same_kv same_session same_query same_catalog write_kv kv_set kv_lock kv_delete run_ops act unless broken registers deregister create_session end_sessions apply freed at_past reads touches some_vanishes past_index answer_from identifier past_delay ttl_start
step10 = ticks_on 0 2 1 1 s9 t10 d10 refl (at_on s9.world 1 p_s9) refl refl (in_turn 0 0 t10 d10 refl none_left none_left refl) refl

s11 : Cluster
s11 = after_write 3 1 s10 1 (lock_by (id_of 5) (codes "b")) (draw_of 8)

p_s11 : GoesOn s11.world 1
unfolding s11
p_s11 = after_on 3 1 (wrote (marked (event.Ask 1 (Good (Write (lock_by (id_of 5) (codes "b")))) (draw_of 8)) s10) 1 (next_question s10 1 (Good (Write (lock_by (id_of 5) (codes "b")))) (draw_of 8)) (lock_by (id_of 5) (codes "b"))) (given_on s10.world 1 _ p_s10)

step11 : ClusterStep s10 (event.Ask 1 (Good (Write (lock_by (id_of 5) (codes "b")))) (draw_of 8)) s11 true
unfolding s11 s10 d10 t10 s9 s8 d8 t8 s7 s6 s5 s4 s3 s2 s1 s0 did given fresh done does timed_out candidate leads proposes number_within id_bytes check_bytes service_bytes op_bytes entered shown put same_node same_service same_check same_kv same_session same_query same_catalog write_kv kv_set kv_lock kv_delete run_ops act unless broken registers deregister create_session end_sessions apply freed at_past reads touches some_vanishes past_index answer_from identifier past_delay ttl_start
step11 = writes 3 1 s10 1 (lock_by (id_of 5) (codes "b")) (draw_of 8) refl refl refl refl refl (at_on s10.world 1 p_s10) p_s10.2 (omega arith) refl refl

s12 : Cluster
s12 = after_look 2 1 s11 1 (get_k) (draw_of 9) 0

p_s12 : GoesOn s12.world 1
unfolding s12
p_s12 = look_on 2 1 s11 1 (get_k) (draw_of 9) 0 p_s11

step12 : ClusterStep s11 (event.Ask 1 (get_k) (draw_of 9)) s12 true
unfolding s12 s11 s10 d10 t10 s9 s8 d8 t8 s7 s6 s5 s4 s3 s2 s1 s0 did given fresh done does timed_out candidate leads proposes number_within id_bytes check_bytes service_bytes op_bytes entered shown put same_node same_service same_check same_kv same_session same_query same_catalog write_kv kv_set kv_lock kv_delete run_ops act unless broken registers deregister create_session end_sessions apply freed at_past reads touches some_vanishes past_index answer_from identifier past_delay ttl_start
step12 = looks 2 1 s11 1 (get_k) (draw_of 9) Default 0 refl refl refl refl (λ e. absurd (cc e)) refl

pub lock_run : LockRun
unfolding s12 s11 s10 d10 t10 s9 s8 d8 t8 s7 s6 s5 s4 s3 s2 s1 s0 did given fresh done does timed_out candidate leads proposes number_within id_bytes check_bytes service_bytes op_bytes entered shown put same_node same_service same_check same_kv same_session same_query same_catalog write_kv kv_set kv_lock kv_delete run_ops act unless broken registers deregister create_session end_sessions apply freed at_past reads touches some_vanishes past_index answer_from identifier past_delay ttl_start
lock_run = record {
  cluster = s12;
  reached = by_event (event.Ask 1 (get_k) (draw_of 9)) true (by_event (event.Ask 1 (Good (Write (lock_by (id_of 5) (codes "b")))) (draw_of 8)) true (by_event (event.Tick 1 1) true (by_event (event.Ask 1 (Good (Write (lock_by (id_of 5) (codes "b")))) (draw_of 7)) true (by_event (event.Tick 1 14999) true (by_event (event.Ask 1 (Good (Write (txn_by (id_of 5)))) (draw_of 6)) true (by_event (event.Ask 1 (Good (Write (session_asked 0))) (draw_of 5)) true (by_event (event.Ask 1 (Good (Write (destroy (id_of 2)))) (draw_of 4)) true (by_event (event.Ask 1 (Good (Write (lock_by (id_of 2) (codes "a")))) (draw_of 3)) true (by_event (event.Ask 1 (Good (Write (session_asked 0))) (draw_of 2)) true (by_event (event.Ask 1 (Good (Write (register))) (draw_of 1)) true (by_event (event.Timeout 1) true (at_start) (omega arith, omega arith) step1) (omega arith, omega arith) step2) (omega arith, omega arith) step3) (omega arith, omega arith) step4) (omega arith, omega arith) step5) (omega arith, omega arith) step6) (omega arith, omega arith) step7) ((omega arith, omega arith), omega arith) step8) (omega arith, omega arith) step9) ((omega arith, omega arith), omega arith) step10) (omega arith, omega arith) step11) (omega arith, omega arith) step12;
  outs = refl;
  agreed = refl;
}

-- Once server 1 is ready no request is refused because it is not.
use Rattle.std.proofs.Common.{◌≡◌, ℕ, ◌<◌, ◌≤◌, ◌⊎◌, inl, inr, Bool, true, false, not, List, [], ◌++◌, length, sym, ◌∙◌, ap, subst, arith}
use Rattle.std.specs.Prelude.{nat_lt}
use Rattle.std.proofs.Math.Seq.{take-length}
use Rattle.std.proofs.lemmas.Bool.Decides.{nat_tests}
use Rattle.cat_model.specs.declared.reply.Kind.TheVariants.{Refused}
use Rattle.cat_model.specs.declared.reply.Mark.{Mark}
use Rattle.cat_model.specs.declared.reply.Mark.TheVariants.{Answered}
use Rattle.cat_model.specs.declared.reply.Refusal.TheVariants.{NotReady}
use Rattle.raft_model.specs.Facts.{IsReady}
use Rattle.raft_model.specs.Log.{last_term, term_at}
use Rattle.raft_model.specs.World.{IsReached, IsServer, World, here}
use Rattle.raft_model.proofs.Logs.{agree_term}
use Rattle.raft_model.proofs.Places.{own_of}
use Rattle.raft_model.proofs.Sound.{IsSound, Runs}
use Rattle.raft_model.proofs.Starts.{reached_sound}
use Rattle.raft_model.proofs.Tests.{no_bool}
use Rattle.raft_model.proofs.Worlds.{fits_at}
use Rattle.cluster_rules.specs.Cluster.{Cluster, applied_of, node_of}
use Rattle.cluster_rules.specs.Reached.{Move, Reached, at_start, by_advancing, by_event, by_handing, by_settling, by_taking}
use Rattle.cluster_rules.specs.Requests.{is_ready}
use Rattle.cluster_rules.specs.Sound.{IsAmong}
use Rattle.cluster_rules.proofs.Boundary.{commit_within, leader_there}
use Rattle.cluster_rules.proofs.Reached.{start_sound}
use Rattle.cluster_rules.proofs.Starting.{kept_start}
use Rattle.cluster_rules.proofs.Steps.{all_applied}
use Rattle.run_rules.specs.Serving.{AreServing, Serves}
use Rattle.rerun_rules.specs.Leading.{CameBad, Election, WasAt}
use Rattle.rerun_rules.proofs.Ahead.{IsAhead}
use Rattle.rerun_rules.proofs.Answering.{IsCalm, handed_kept, run_kept, settled_kept, start_kept, step_kept, taken_kept}
use Rattle.rerun_rules.proofs.Beginning.{empty_foremost, runs_on, start_ahead}
use Rattle.rerun_rules.proofs.Keeping.{IsKept, front_long}
use Rattle.rerun_rules.proofs.Ready.{elected_ready, ready_on, was_goes}
use Rattle.rerun_rules.proofs.Serving.{may_serve, run_since}

-- Behind what a ready server 1 has committed its log has entries of its own term alone.
own_behind : (w : World) → IsReached w → IsServer w 1 (node_of w 1) → IsReady (node_of w 1) → (m : ℕ) → (node_of w 1).commit ≤ m → m ≤ length (node_of w 1).log → term_at m (node_of w 1).log ≡ (node_of w 1).term
own_behind w r at ((up, lead), some, own) m l u =
    ap (term_at m) (sym ledger) ∙ s.sound.ledgers.own t m (let b = begun in omega arith) (let k = ap length ledger in omega arith)
  where
    t : ℕ
    t = (node_of w 1).term

    s : IsSound w
    s = reached_sound w r

    runs : Runs (length w.nodes) s.history 1 (node_of w 1)
    runs = elim (fits_at w s 1 (node_of w 1) at) [ inl x ↦ x.1 | inr x ↦ absurd (no_bool (node_of w 1).halted x.0 up) ]

    ledger : s.history.ledger (node_of w 1).term ≡ (node_of w 1).log
    ledger = ap s.history.ledger (sym runs.term) ∙ s.sound.roles.leading 1 (runs.role ∙ lead) ∙ runs.log

    begun : length (s.history.first (node_of w 1).term) < (node_of w 1).commit
    begun = own_of (length w.nodes) s.history s.sound (node_of w 1).term (node_of w 1).commit some
        (let k = ap length ledger in let c = commit_within w r 1 (node_of w 1) at in omega arith) (ap (term_at (node_of w 1).commit) ledger ∙ own)

-- So it has applied such an entry once it has caught up.
calm : (old : List Mark) (w : World) → IsReached w → IsServer w 1 (node_of w 1) → IsReady (node_of w 1) → IsCalm true old w
calm old w r at ready c same k none not_ready t =
    no_bool (is_ready c 1) (ap not (le_not (last_term (applied_of c 1)) (node_of c.world 1).term last_is)) not_ready
  where
    le_not : (a b : ℕ) → b ≤ a → nat_lt a b ≡ false
    le_not a b l = grind (arith, nat_tests)

    long : length (applied_of c 1) ≤ length (node_of c.world 1).log
    long = front_long (applied_of c 1) (node_of c.world 1).log k.front

    last_is : (node_of c.world 1).term ≤ last_term (applied_of c 1)
    last_is =
        let e : last_term (applied_of c 1) ≡ (node_of c.world 1).term =
        agree_term (length (applied_of c 1)) (length (applied_of c 1)) (applied_of c 1) (node_of c.world 1).log (omega arith) (take-length (applied_of c 1) ∙ k.front)
        ∙ subst (λ (z : World). (m : ℕ) → (node_of z 1).commit ≤ m → m ≤ length (node_of z 1).log → term_at m (node_of z 1).log ≡ (node_of z 1).term) (sym same) (own_behind w r at ready)
        (length (applied_of c 1)) (all_applied c 1 none) long in omega arith

-- A run since server 1 was ready.
run_calm : (start : Cluster) (whole : Bool) (moves : List Move) (c : Cluster) (r : Reached start whole moves c) → AreServing moves → IsAhead start.world → IsReached start.world →
    (d : Cluster) → WasAt d r → IsServer d.world 1 (node_of d.world 1) → IsReady (node_of d.world 1) → IsKept true d.past d → IsKept true d.past c
run_calm start whole moves c at_start s a w d e at ready k = subst (IsKept true d.past) e k
run_calm start whole moves c (by_event made all r fits step) s a w d (inl e) at ready k = subst (IsKept true d.past) e k
run_calm start whole moves c (by_event {whole = w₀} {moves = ms} {c = c₀} made all r fits step) s a w d (inr x) at ready k =
    let g = was_goes start w₀ ms c₀ r w d x in
    let n = ready_on d.world c₀.world g.before g.reached (g.on c₀.world here) (run_since start w₀ ms c₀ r s.1 a d x) ready at in
    let there = leader_there c₀.world 1 (runs_on c₀.world (run_since start w₀ ms c₀ r s.1 a d x).ahead n.0.1) in
    step_kept true d.past c₀ c made all step (may_serve made ms s.0) (calm d.past c₀.world g.reached there n) (run_calm start w₀ ms c₀ r s.1 a w d x at ready k)
run_calm start whole moves c (by_taking number out before after r is there) s a w d (inl e) at ready k = subst (IsKept true d.past) e k
run_calm start whole moves c (by_taking {whole = w₀} {moves = ms} {c = c₀} number out before after r is there) s a w d (inr x) at ready k = taken_kept true d.past number (before ++ after) c₀ (run_calm start w₀ ms c₀ r s.1 a w d x at ready k)
run_calm start whole moves c (by_handing out before after r is there) s a w d (inl e) at ready k = subst (IsKept true d.past) e k
run_calm start whole moves c (by_handing {whole = w₀} {moves = ms} {c = c₀} out before after r is there) s a w d (inr x) at ready k = handed_kept true d.past (before ++ after) c₀ (run_calm start w₀ ms c₀ r s a w d x at ready k)
run_calm start whole moves c (by_settling pairs all r ends) s a w d (inl e) at ready k = subst (IsKept true d.past) e k
run_calm start whole moves c (by_settling {whole = w₀} {moves = ms} {c = c₀} pairs all r ends) s a w d (inr x) at ready k = settled_kept true d.past pairs all c₀ (run_calm start w₀ ms c₀ r s.1 a w d x at ready k)
run_calm start whole moves c (by_advancing ms made r ends) s a w d x at ready k = absurd s.0

pub none_unready : (e : Election) (c : Cluster) (s : Serves e.size c) → WasAt e.cluster s.reached → (number term last : ℕ) (known : Bool) (contact : ℕ) → IsAmong (Answered number (Refused (NotReady term last)) known contact) c.past →
    IsAmong (Answered number (Refused (NotReady term last)) known contact) e.cluster.past ⊎ CameBad number (NotReady term last) c.past
none_unready e c s was number term last known contact m = elim (kept.told number (NotReady term last) known contact m tt) [ inl b ↦ inr b | inr o ↦ inl o ]
  where
    before : IsKept false [] e.cluster
    before =
        let t = e.serves in
        run_kept t.start t.whole t.moves e.cluster t.reached t.serving (start_kept e.size.stores t.start t.begins (start_ahead e.size.stores t.start t.begins e.sure (empty_foremost e.size.stores e.are_empty)))

    kept : IsKept true e.cluster.past c
    kept =
        let n = elected_ready e in
        run_calm s.start s.whole s.moves c s.reached s.serving (start_ahead e.size.stores s.start s.begins e.sure (empty_foremost e.size.stores e.are_empty))
        (start_sound s.start (kept_start e.size.stores s.start s.begins (inl e.are_empty))).parts.world e.cluster was
        (leader_there e.cluster.world 1 (runs_on e.cluster.world before.ahead n.0.1)) n
        (record { ahead = before.ahead; told = λ _ _ _ _ q _. inr q; held = before.held; front = before.front })

-- What the definitions do with each input but a message, and what a planned step then is.
use Rattle.std.proofs.Common.{◌≡◌, ◌≢◌, ℕ, suc, ◌+◌, ◌-◌, ◌≤◌, Bool, true, false, cond, not, ◌⊎◌, inl, inr, List, [], ◌∷◌, ◌++◌, length, None, Some, refl, sym, ◌∙◌, ap, subst, arith}
use Rattle.std.specs.Prelude.{◌==◌, ◌&&◌, nat_lt, ◌^◌, Result, Ok, Err, IfOk, OnErr, IsErrOf}
use Rattle.std.proofs.lemmas.Bool.Decides.{nat_tests}
use Rattle.std.proofs.lemmas.List.{append-nil}
use Rattle.cat_model.specs.declared.command.Command.{Command}
use Rattle.cat_model.specs.declared.command.Entry.{Entry}
use Rattle.cat_model.specs.declared.reply.Role.{Role}
use Rattle.cat_model.specs.declared.reply.Role.TheVariants.{Candidate, Follower, Leader}
use Rattle.raft_model.proofs.Tests.{at_bool}
use Rattle.raft_model.specs.Log.{Log}
use Rattle.raft_model.specs.Node.{Store, Node, Done, last, quiet}
use Rattle.raft_model.specs.Rules.{Beat, Input, Probe, Propose, Timeout, append_all, appended, ask_all, beats, candidate, does, done, has_round, is_confirmed, is_leader, leads, probes, proposal, proposes, stands, timed_out}
use Rattle.raft_model.specs.Step.{LogFails, NodeStep, Works}
use Rattle.raft_model.specs.Quorum.{is_majority}
use Rattle.raft_model.specs.declared.message.Round.{Round}
use Rattle.raft_model.specs.declared.message.Sent.{Sent}
use Rattle.raft_node.specs.Counting.{reached}
use Rattle.raft_node.specs.Nodes.{IsSame, Plans, appends, elects, may_stand, nowhere, planned_of, seen}
use Rattle.raft_model.specs.declared.message.Place.{Place}
use Rattle.raft_node.specs.declared.fault.ProposeFault.{ProposeFault}
use Rattle.raft_node.specs.declared.fault.ProposeFault.TheVariants.{NotLeader, Halted, Full, Memory as ProposeMemory}
use Rattle.raft_node.specs.Steps.{Becomes, FindsNoMemory, Makes, MayPropose, Proposes, Remains, Steps}
use Rattle.raft_node.specs.declared.state.Planned.{Planned}
use Rattle.raft_node.specs.declared.state.State.{State}

pub timeout_quiet : (n : Node) → may_stand n ≡ false → done n Timeout ≡ quiet n
unfolding done does timed_out
timeout_quiet n e = go n.halted n.role e
  where
    go : (h : Bool) (r : Role) → (not h && not (is_leader r) && nat_lt n.term (2 ^ 64 - 1)) ≡ false → cond h (quiet n) (timed_out n r) ≡ quiet n
    go true r e = refl
    go false Leader e = refl
    go false Follower e = ap (λ b. cond b (candidate (stands n)) (quiet n)) e
    go false Candidate e = ap (λ b. cond b (candidate (stands n)) (quiet n)) e

pub timeout_elects : (n : Node) → may_stand n ≡ true → done n Timeout ≡ elects n
unfolding done does timed_out elects
timeout_elects n e = go n.halted n.role e
  where
    go : (h : Bool) (r : Role) → (not h && not (is_leader r) && nat_lt n.term (2 ^ 64 - 1)) ≡ true → cond h (quiet n) (timed_out n r) ≡ candidate (stands n)
    go true r e = cc e
    go false Leader e = cc e
    go false Follower e = ap (λ b. cond b (candidate (stands n)) (quiet n)) e
    go false Candidate e = ap (λ b. cond b (candidate (stands n)) (quiet n)) e

pub quiet_works : (n : Node) (input : Input) → done n input ≡ quiet n → NodeStep Works n input n []
quiet_works n input e = subst (λ (d : Done). Becomes Works n d n []) (sym e) (n.store, inl ((refl, refl), refl), inl (refl, refl), refl, refl)

pub leader_is : (r : Role) → is_leader r ≡ true → r ≡ Leader
leader_is Leader e = refl
leader_is Follower e = cc e
leader_is Candidate e = cc e

pub leads_not : (r : Role) → is_leader r ≡ false → r ≢ Leader
leads_not Leader e = cc e
leads_not Follower e = λ q. cc q
leads_not Candidate e = λ q. cc q

pub leader_runs : (h : Bool) (r : Role) → (h ≡ true → r ≡ Follower) → is_leader r ≡ true → h ≡ false
leader_runs false r f e = refl
leader_runs true r f e = let q = leader_is r e in let p = f refl in cc (sym q ∙ p)

pub beat_quiet : (n : Node) → is_leader n.role ≡ false → done n Beat ≡ quiet n
unfolding done does beats
beat_quiet n e = go n.halted n.role e
  where
    go : (h : Bool) (r : Role) → is_leader r ≡ false → cond h (quiet n) (beats n r) ≡ quiet n
    go true r e = refl
    go false Leader e = cc e
    go false Follower e = refl
    go false Candidate e = refl

beat_is : (n : Node) → n.halted ≡ false → n.role ≡ Leader → done n Beat ≡ append_all n
unfolding done does beats
beat_is n h r = λ i. cond (h i) (quiet n) (beats n (r i))

probe_is : (n : Node) → n.halted ≡ false → n.role ≡ Leader → done n Probe ≡ append_all (record n { round = n.round + 1 })
unfolding done does probes
probe_is n h r = λ i. cond (h i) (quiet n) (probes n (r i))

pub proposes_is : (n : Node) (number : ℕ) (command : Command) → MayPropose n number command → done n (Propose number command) ≡ appends (proposal n number command) n
unfolding done does proposes appends
proposes_is n number command m =
    (λ i. cond (m.0 i) (quiet n) (proposes n (m.1 i) number command))
    ∙ ap (λ b. cond b (append_all (appended n (proposal n number command))) (quiet n)) m.2

pub beat_works : (n : Node) (store : Store) (st : State) (log more : Log) (sent : List Sent) → seen store st log ≡ n → more ≡ [] → n.halted ≡ false → n.role ≡ Leader →
    sent ≡ (append_all (seen nowhere st (log ++ more))).sent → NodeStep Works n Beat n sent
beat_works n store st log more sent v m h r s =
    let all : sent ≡ (append_all n).sent =
    s ∙ ap (λ (z : Log). (append_all (seen store st (log ++ z))).sent) m ∙ ap (λ (z : Log). (append_all (seen store st z)).sent) (append-nil log) ∙ ap (λ (z : Node). (append_all z).sent) v in
    subst (λ (d : Done). Becomes Works n d n sent) (sym (beat_is n h r)) (n.store, inl ((refl, refl), refl), inl (refl, refl), refl, all)

pub probe_works : (n : Node) (store : Store) (st st' : State) (log more : Log) (sent : List Sent) → seen store st log ≡ n → more ≡ [] → n.halted ≡ false → n.role ≡ Leader →
    seen nowhere st' [] ≡ record (seen nowhere st []) { round = st.round + 1 } → sent ≡ (append_all (seen nowhere st' (log ++ more))).sent → NodeStep Works n Probe (seen store st' log) sent
probe_works n store st st' log more sent v m h r e s =
    let next : seen store st' log ≡ record n { round = n.round + 1 } = ap (λ (z : Node). record z { store = store; log = log }) e ∙ ap (λ (z : Node). record z { round = z.round + 1 }) v in
    let all : sent ≡ (append_all (record n { round = n.round + 1 })).sent =
    s ∙ ap (λ (z : Log). (append_all (seen store st' (log ++ z))).sent) m ∙ ap (λ (z : Log). (append_all (seen store st' z)).sent) (append-nil log) ∙ ap (λ (z : Node). (append_all z).sent) next in
    let same = ap (λ (z : Node). z.store) next in
    subst (λ (d : Done). Becomes Works n d (seen store st' log) sent) (sym (probe_is n h r)) (n.store, inl ((refl, refl), refl), inl (refl, same), go next same, all)
  where
    go : seen store st' log ≡ record n { round = n.round + 1 } → store ≡ n.store → seen store st' log ≡ record n { round = n.round + 1; store = store }
    go next same = next ∙ ap (λ (z : Store). record n { round = n.round + 1; store = z }) (sym same)

-- a plan from a copy of a state
pub plans_same : (rule : Node → Done) (copy st : State) (log : Log) (p : Planned) → IsSame copy st → Plans rule copy log p → Plans rule st log p
plans_same rule copy st log p e h = record {
  done = λ store. h.done store ∙ ap (λ (z : Node). rule (record z { store = store; log = log })) e;
  fits = h.fits;
  running = h.running ∙ ap (λ (z : Node). z.halted) e;
  commit = λ l. h.commit (subst (λ (z : Node). z.commit ≤ length log) (sym e) l);
}

-- a plan of a node's parts, as a plan of the node
pub plan_of : (rule : Node → Done) (n : Node) (store : Store) (st : State) (log : Log) (p : Planned) → seen store st log ≡ n → Plans rule st log p → planned_of n.store n.log p ≡ rule n
plan_of rule n store st log p v h = subst (λ (z : Node). planned_of z.store z.log p ≡ rule z) v (h.done store)

appends_same : (e : Entry) (n : Node) → ((appends e n).node.halted ≡ n.halted) × ((appends e n).node.term ≡ n.term) × ((appends e n).node.vote ≡ n.vote)
unfolding appends
appends_same e n = at_bool (λ b. ((cond b (record n { log = n.log ++ e ∷ []; commit = length (n.log ++ e ∷ []) }) (record n { log = n.log ++ e ∷ [] })).halted ≡ n.halted)
    × ((cond b (record n { log = n.log ++ e ∷ []; commit = length (n.log ++ e ∷ []) }) (record n { log = n.log ++ e ∷ [] })).term ≡ n.term)
    × ((cond b (record n { log = n.log ++ e ∷ []; commit = length (n.log ++ e ∷ []) }) (record n { log = n.log ++ e ∷ [] })).vote ≡ n.vote)) (n.servers == 1) (λ _. (refl, refl, refl)) (λ _. (refl, refl, refl))

-- what became of a proposal
pub proposed : (old new : Node) (number : ℕ) (command : Command) (sent : List Sent) → MayPropose old number command → Makes old (appends (proposal old number command) old) new sent →
    (NodeStep Works old (Propose number command) new sent × (new.halted ≡ false)) ⊎ (NodeStep LogFails old (Propose number command) new [] × (new.halted ≡ true))
proposed old new number command sent m (inl w) =
    let same = appends_same (proposal old number command) old in
    inl (subst (λ (d : Done). Becomes Works old d new sent) (sym (proposes_is old number command m)) w, ap (λ (z : Node). z.halted) w.3 ∙ same.0 ∙ m.0)
proposed old new number command sent m (inr (inl v)) = let same = appends_same (proposal old number command) old in absurd (v.0 (same.1, same.2))
proposed old new number command sent m (inr (inr l)) =
    inr (subst (λ (d : Done). Becomes LogFails old d new []) (sym (proposes_is old number command m)) (l.0, l.1, l.2, l.3, l.4, refl), ap (λ (z : Node). z.halted) l.4)

pub not_forgotten : (old new : Node) (number : ℕ) (command : Command) → Remains old (appends (proposal old number command) old) new → new ≡ old
not_forgotten old new number command (inl e) = e
not_forgotten old new number command (inr v) = let same = appends_same (proposal old number command) old in absurd (v.0 (same.1, same.2))

-- a step that was made as the definitions do it
pub steps_as : (old new : Node) (input : Input) (d : Done) (sent : List Sent) → d ≡ done old input → Makes old d new sent → Steps old input new sent
steps_as old new input d sent e h = subst (λ (z : Done). Makes old z new sent) e h

pub memory_as : (old new : Node) (input : Input) (d : Done) → d ≡ done old input → Remains old d new → FindsNoMemory old input new
memory_as old new input d e h = subst (λ (z : Done). Remains old z new) e h

-- a candidate's plans
pub single_plan : (st st' : State) (log : Log) (p : Planned) → ((store : Store) → seen store st' log ≡ stands (seen store st log)) → (st'.servers == 1) ≡ true → st'.halted ≡ st.halted → st'.commit ≡ st.commit →
    st'.servers ≡ st.servers → Plans leads st' log p → Plans elects st log p
unfolding elects candidate
single_plan st st' log p e one halted commit servers h = record {
  done = λ store. h.done store ∙ ap leads (e store) ∙ ap (λ b. cond b (leads (stands (seen store st log))) (ask_all (stands (seen store st log)))) (sym (ap (λ k. k == 1) (sym servers) ∙ one));
  fits = h.fits;
  running = h.running ∙ halted;
  commit = λ l. h.commit (omega (arith, l, commit));
}

pub asking_plan : (st st' : State) (log : Log) (sent : List Sent) → ((store : Store) → seen store st' log ≡ stands (seen store st log)) → (st'.servers == 1) ≡ false → st'.halted ≡ st.halted → st'.commit ≡ st.commit →
    st'.servers ≡ st.servers → sent ≡ (ask_all (seen nowhere st' log)).sent → Plans elects st log (record { state = st'; tail = None; sent = sent })
unfolding elects candidate
asking_plan st st' log sent e more halted commit servers s = record {
  done = λ store. (λ i. record { node = seen store st' log; sent = s i }) ∙ ap ask_all (e store)
      ∙ ap (λ b. cond b (leads (stands (seen store st log))) (ask_all (stands (seen store st log)))) (sym (ap (λ k. k == 1) (sym servers) ∙ more));
  fits = λ t q. cc q;
  running = halted;
  commit = λ l. omega (arith, l, commit);
}

-- a candidate's state
pub stands_is : (copy st st' : State) (log : Log) → IsSame copy st →
    seen nowhere st' [] ≡ record (seen nowhere copy []) { term = st.term + 1; vote = Some copy.id; role = Candidate; leader = None; votes = copy.id ∷ [] } →
    (store : Store) → seen store st' log ≡ stands (seen store st log)
stands_is copy st st' log e f store =
    let t : st.term + 1 ≡ suc st.term = omega arith in
    ap (λ (z : Node). record z { store = store; log = log }) f
    ∙ ap (λ (z : Node). record z { term = st.term + 1; vote = Some z.id; role = Candidate; leader = None; votes = z.id ∷ []; store = store; log = log }) e
    ∙ ap (λ t. record (seen store st log) { term = t; vote = Some st.id; role = Candidate; leader = None; votes = st.id ∷ [] }) t

pub eq_not : (a b : ℕ) → a ≢ b → (a == b) ≡ false
eq_not a b e = grind (arith, nat_tests, e)

pub eq_does : (a b : ℕ) → a ≡ b → (a == b) ≡ true
eq_does a b e = grind (arith, nat_tests, e)

-- the plan of a proposal
pub enter_plan : (n : Node) (store : Store) (st copy : State) (log log' : Log) (p : Planned) (number : ℕ) (command : Command) → seen store st log ≡ n → log' ≡ log → IsSame copy st →
    Plans (appends (record { term = st.term; number = number; command = command })) copy log' p → planned_of n.store n.log p ≡ appends (proposal n number command) n
enter_plan n store st copy log log' p number command v l e h =
    plan_of (appends (record { term = st.term; number = number; command = command })) n store st log' p (ap (seen store st) l ∙ v) (plans_same (appends (record { term = st.term; number = number; command = command })) copy st log' p e h)
    ∙ ap (λ t. appends (record { term = t; number = number; command = command }) n) (ap (λ (z : Node). z.term) v)

pub entered : (old new : Node) (number : ℕ) (command : Command) (d : Done) (sent : List Sent) → MayPropose old number command → d ≡ appends (proposal old number command) old → Makes old d new sent → new.halted ≡ false →
    NodeStep Works old (Propose number command) new sent
entered old new number command d sent m e h f = go (proposed old new number command sent m (subst (λ (z : Done). Makes old z new sent) e h))
  where
    go : (NodeStep Works old (Propose number command) new sent × (new.halted ≡ false)) ⊎ (NodeStep LogFails old (Propose number command) new [] × (new.halted ≡ true)) → NodeStep Works old (Propose number command) new sent
    go (inl w) = w.0
    go (inr w) = cc (w.1, f)

pub enter_fails : (old new : Node) (number : ℕ) (command : Command) (d : Done) (sent : List Sent) → MayPropose old number command → d ≡ appends (proposal old number command) old → Makes old d new sent → new.halted ≡ true →
    NodeStep LogFails old (Propose number command) new []
enter_fails old new number command d sent m e h f = go (proposed old new number command sent m (subst (λ (z : Done). Makes old z new sent) e h))
  where
    go : (NodeStep Works old (Propose number command) new sent × (new.halted ≡ false)) ⊎ (NodeStep LogFails old (Propose number command) new [] × (new.halted ≡ true)) → NodeStep LogFails old (Propose number command) new []
    go (inl w) = cc (w.1, f)
    go (inr w) = w.0

pub enter_lacks : (old new : Node) (number : ℕ) (command : Command) (d : Done) → d ≡ appends (proposal old number command) old → Remains old d new → new ≡ old
enter_lacks old new number command d e h = not_forgotten old new number command (subst (λ (z : Done). Remains old z new) e h)

pub weaker_err : {T E : Type 0} (r : Result T E) (P Q : Type 0) → (P → Q) → OnErr r P → OnErr r Q
weaker_err (Ok x) P Q f h = tt
weaker_err (Err x) P Q f h = f h

-- a confirmed round
between : (a m : Bool) → false ≡ (a && false && m)
between true m = refl
between false m = refl

pub confirmed_led : (n : Node) (round : Round) → is_leader n.role ≡ false → false ≡ is_confirmed n round
confirmed_led n round e = ap (λ b. b && n.term == round.term && is_majority n.servers (has_round n round.number)) (sym e)

pub confirmed_other : (n : Node) (round : Round) → n.term ≢ round.term → false ≡ is_confirmed n round
confirmed_other n round e = between (is_leader n.role) (is_majority n.servers (has_round n round.number)) ∙ ap (λ b. is_leader n.role && b && is_majority n.servers (has_round n round.number)) (sym (eq_not n.term round.term e))

pub confirmed_is : (n : Node) (store : Store) (st : State) (log : Log) (round : Round) (acked : List ℕ) (b : Bool) → seen store st log ≡ n → acked ≡ st.acked.items → is_leader n.role ≡ true → st.term ≡ round.term →
    b ≡ is_majority st.servers (reached st.id acked round.number) → b ≡ is_confirmed n round
unfolding reached
confirmed_is n store st log round acked b v a l t h =
    h ∙ ap (λ xs. is_majority st.servers (reached st.id xs round.number)) a
    ∙ ap (λ (z : Node). is_majority z.servers (has_round z round.number)) v
    ∙ ap (λ x. x && true && is_majority n.servers (has_round n round.number)) (sym l)
    ∙ ap (λ x. is_leader n.role && x && is_majority n.servers (has_round n round.number)) (sym (eq_does n.term round.term (sym (ap (λ (z : Node). z.term) v) ∙ t)))

-- what a proposal that may be made answers
pub proposes_from : (old new : Node) (number : ℕ) (command : Command) (r : Result (Place × List Sent) ProposeFault) → MayPropose old number command →
    IfOk r (λ done. NodeStep Works old (Propose number command) new done.1) → IfOk r (λ done. done.0 ≡ record { index = last new; term = new.term }) →
    (IsErrOf r Halted → NodeStep LogFails old (Propose number command) new []) → OnErr r (IsErrOf r Halted ⊎ IsErrOf r ProposeMemory) → (IsErrOf r ProposeMemory → new ≡ old) →
    Proposes old number command new r
proposes_from old new number command (Ok (place, sent)) m w p h e k = (m, w, p)
proposes_from old new number command (Err NotLeader) m w p h (inl e) k = cc e
proposes_from old new number command (Err NotLeader) m w p h (inr e) k = cc e
proposes_from old new number command (Err Full) m w p h (inl e) k = cc e
proposes_from old new number command (Err Full) m w p h (inr e) k = cc e
proposes_from old new number command (Err Halted) m w p h e k = inr (m, h refl)
proposes_from old new number command (Err ProposeMemory) m w p h e k = (m.0, m.1, k refl)

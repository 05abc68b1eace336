-- A lock is proposed only once its key is free, and the end of a session for no request only once it is over.
use Rattle.std.proofs.Common.{◌≡◌, ℕ, suc, ◌<◌, ◌≤◌, inl, inr, Bool, true, false, cond, not, List, [], ◌∷◌, ◌++◌, take, map, filter, refl, sym, ◌∙◌, ap, subst, arith, Option, Some, None}
use Rattle.std.specs.Prelude.{◌==◌, nat_lt, nat_le, ◌&&◌}
use Rattle.std.specs.List.{AllByRecursion as Each}
use Rattle.cat_model.specs.declared.command.Command.{Command}
use Rattle.cat_model.specs.declared.command.Command.TheVariants.{KvLock, Txn, Reap, Deregister, SessionDestroy}
use Rattle.cat_model.specs.declared.command.TxnOp.{TxnOp}
use Rattle.cat_model.specs.declared.row.CheckRow.{CheckRow}
use Rattle.cat_model.specs.declared.row.NodeRow.{NodeRow}
use Rattle.cat_model.specs.declared.row.ServiceRow.{ServiceRow}
use Rattle.cat_model.specs.declared.row.SessionRow.{SessionRow}
use Rattle.cat_model.specs.declared.fired.Local.{Local}
use Rattle.cat_model.specs.declared.fired.Remote.{Remote}
use Rattle.cat_model.specs.declared.request.Event.{Event}
use Rattle.cat_model.specs.Log.{commands_of}
use Rattle.cat_model.specs.Machine.{catalog_at}
use Rattle.cat_model.specs.Syncs.{registers_service, registers_checks, node_plan, plan_of, plan, listed, serf_id, lacks_service, lacks_check, services_in_order, checks_in_order, other_checks, is_alien_service, is_alien_check, goes_along}
use Rattle.cat_model.specs.Catalog.{check_at}
use Rattle.raft_model.proofs.Tests.{at_bool, lt_tells_not, le_tells}
use Rattle.cluster_rules.specs.Replies.{Question}
use Rattle.cluster_rules.specs.Locks.{is_lock, OneLocks, LocksKey, first_delayed, delayed}
use Rattle.cluster_rules.specs.Offices.{over_at, is_over, is_pending, put_by, sorted_by}
use Rattle.cluster_rules.specs.Cluster.{Cluster, server_of, applied_of, clock_of, office_of, until_at}
use Rattle.cluster_rules.specs.Requests.{Handles, unready, full, proposes, stops, delays, probes, reads, renews}
use Rattle.cluster_rules.specs.Proposals.{Proposals, none_left, breaks, enters, refuses, over_rows, with_ends, ends_of, reaps_of, Tends, idles, in_turn, cut_off, Syncs, finds_none, plans, breaks_off, cut_first, did_own, agent_did}
use Rattle.cluster_rules.specs.Step.{Acts, takes, ticks, arms, restarts, handles, tends, syncs, Does, over, act, cut, cut_between, marked, ClusterStep, done, passed, cut_early}
use Rattle.cluster_rules.specs.Due.{due}
use Rattle.cluster_rules.specs.Sound.{IsAmong, IsSoundAtWork, Sound}
use Rattle.cluster_rules.specs.Guards.{IsOver, EndsOver, EndsNone, AllProposed, HandleIsGuarded, TendIsGuarded, SyncIsGuarded, ActIsGuarded, DoesGuardedly, StepIsGuarded}
use Rattle.cluster_rules.proofs.Asking.{AskIsNew}
use Rattle.cluster_rules.proofs.Due.{works_sound}
use Rattle.cluster_rules.proofs.Numbered.{numbered_of, was_numbered}
use Rattle.cluster_rules.proofs.Steps.{Facts, acts_sound, all_applied, marked_sound, facts_marked, facts_worked}
use Rattle.cluster_rules.proofs.Tools.{both, not_tells_not, eq_tells_not, each_append, all_among}

-- Locks.
no_key : (key : List ℕ) → Some key ≡ None → ⊥
no_key key e = cc e

each_free : (until : List ℕ → ℕ) (now : ℕ) (ops : List TxnOp) (key : List ℕ) → first_delayed until now ops ≡ None → OneLocks key ops → until key ≤ now
each_free until now [] key e x = absurd x
each_free until now (o ∷ ops) key e (inl p) = at_bool (λ b. (is_lock o.verb && nat_lt now (until o.key)) ≡ b → cond b (Some o.key) (first_delayed until now ops) ≡ None → until key ≤ now) (is_lock o.verb && nat_lt now (until o.key))
    (λ _ t e. absurd (no_key o.key e)) (λ _ t e. subst (λ z. until z ≤ now) p.1 (lt_tells_not now (until o.key) (sym (ap (λ b. b && nat_lt now (until o.key)) p.0) ∙ t))) refl e
each_free until now (o ∷ ops) key e (inr p) = each_free until now ops key (at_bool (λ b. cond b (Some o.key) (first_delayed until now ops) ≡ None → first_delayed until now ops ≡ None) (is_lock o.verb && nat_lt now (until o.key))
    (λ _ e. absurd (no_key o.key e)) (λ _ e. e) e) p

pub all_free : (until : List ℕ → ℕ) (now : ℕ) (command : Command) → delayed until now command ≡ None → (key : List ℕ) → LocksKey key command → until key ≤ now
all_free until now (KvLock k flags value session) e key x = subst (λ z. until z ≤ now) x
    (at_bool (λ b. nat_lt now (until k) ≡ b → cond b (Some k) None ≡ None → until k ≤ now) (nat_lt now (until k)) (λ _ t e. absurd (no_key k e)) (λ _ t e. lt_tells_not now (until k) t) refl e)
all_free until now (Txn ops) e key x = each_free until now ops key e x
all_free until now other e key x = absurd x

-- Sessions that are over.
among_put : {A : Type 0} (f : A → ℕ) (P : A → Type 0) (x : A) (ys : List A) → P x → Each P ys → Each P (put_by f x ys)
among_put f P x [] p q = (p, tt)
among_put f P x (y ∷ ys) p q = at_bool (λ b. Each P (cond b (x ∷ y ∷ ys) (y ∷ put_by f x ys))) (nat_le (f x) (f y)) (λ _. (p, q)) (λ _. (q.0, among_put f P x ys p q.1))

among_sorted : {A : Type 0} (f : A → ℕ) (P : A → Type 0) (xs : List A) → Each P xs → Each P (sorted_by f xs)
among_sorted f P [] q = tt
among_sorted f P (x ∷ xs) q = among_put f P x (sorted_by f xs) q.0 (among_sorted f P xs q.1)

among_filter : {A : Type 0} (test : A → Bool) (P Q : A → Type 0) → ((x : A) → test x ≡ true → P x → Q x) → (xs : List A) → Each P xs → Each Q (filter test xs)
among_filter test P Q f [] q = tt
among_filter test P Q f (x ∷ xs) q = at_bool (λ b. test x ≡ b → Each Q (cond b (x ∷ filter test xs) (filter test xs))) (test x)
    (λ _ t. (f x t q.0, among_filter test P Q f xs q.1)) (λ _ t. among_filter test P Q f xs q.1) refl

pub rows_over : (c : Cluster) (i : ℕ) → Each (IsOver c i) (over_rows c i)
rows_over c i = among_sorted (over_at (server_of c.servers i).clocks (office_of c i)) (IsOver c i) _
    (among_filter (is_over (server_of c.servers i).clocks (office_of c i) (clock_of c.world i)) (λ s. IsAmong s (catalog_at (commands_of (applied_of c i))).sessions) (IsOver c i)
    (λ s t m.
    let a = both (is_pending (office_of c i) s) (nat_le (over_at (server_of c.servers i).clocks (office_of c i) s) (clock_of c.world i)) t in
    let p = both (not (s.ttl_ms == 0)) _ a.0 in
    (m, eq_tells_not s.ttl_ms 0 (not_tells_not (s.ttl_ms == 0) p.0), le_tells _ _ a.1))
    _ (all_among (catalog_at (commands_of (applied_of c i))).sessions))

destroys : (id k : ℕ) → SessionDestroy k ≡ SessionDestroy id → k ≡ id
destroys id k e = cc e

pub ends_over : (c : Cluster) (i : ℕ) → Each (EndsOver c i) (ends_of (over_rows c i))
ends_over c i = by (over_rows c i) (rows_over c i)
  where
    by : (rows : List SessionRow) → Each (IsOver c i) rows → Each (EndsOver c i) (ends_of rows)
    by [] x = tt
    by (s ∷ rows) x = (λ id e. (s, destroys id s.id e, x.0), by rows x.1)

reaps_none : (c : Cluster) (i : ℕ) → Each EndsNone (reaps_of c i)
reaps_none c i = at_bool (λ b. Each EndsNone (cond b (Reap ∷ []) [])) _ (λ _. ((λ id e. cc e), tt)) (λ _. tt)

-- A plan only registers and deregisters.
registers : (n : NodeRow) (s : ServiceRow) → EndsNone (registers_service n s)
registers n s id e = cc e

registers_all : (n : NodeRow) (cs : List CheckRow) → EndsNone (registers_checks n cs)
registers_all n cs id e = cc e

each_made : {A : Type 0} (f : A → Command) → ((x : A) → EndsNone (f x)) → (xs : List A) → Each EndsNone (map f xs)
each_made f g [] = tt
each_made f g (x ∷ xs) = (g x, each_made f g xs)

node_none : (n : NodeRow) (serf : List CheckRow) (remote : Remote) → Each EndsNone (node_plan n serf remote)
node_none n serf remote = at_bool (λ b. Each EndsNone (cond b (registers_checks n serf ∷ []) [])) _ (λ _. (registers_all n serf, tt)) (λ _. tt)

in_five : (a b c d e : List Command) → Each EndsNone a → Each EndsNone b → Each EndsNone c → Each EndsNone d → Each EndsNone e → Each EndsNone (a ++ b ++ c ++ d ++ e)
in_five a b c d e p q r s t = each_append EndsNone (((a ++ b) ++ c) ++ d) e (each_append EndsNone ((a ++ b) ++ c) d (each_append EndsNone (a ++ b) c (each_append EndsNone a b p q) r) s) t

of_none : (n : NodeRow) (local : Local) (remote : Remote) → Each EndsNone (plan_of n local remote)
unfolding plan_of
of_none n local remote = in_five
    (node_plan n (listed (check_at (n.node, serf_id) local.checks)) remote)
    (map (registers_service n) (filter (lacks_service remote.services) (services_in_order local.services)))
    (map (λ c. registers_checks n (c ∷ [])) (filter (lacks_check remote.checks) (other_checks local)))
    (map (λ (s : ServiceRow). Deregister n.node s.id []) (filter (is_alien_service local.services) (services_in_order remote.services)))
    (map (λ (c : CheckRow). Deregister n.node [] c.id) (filter (λ c. is_alien_check local.checks c && not (goes_along local.services remote.services c)) (checks_in_order remote.checks)))
    (node_none n _ remote)
    (each_made (registers_service n) (registers n) _)
    (each_made (λ c. registers_checks n (c ∷ [])) (λ c. registers_all n (c ∷ [])) _)
    (each_made (λ (s : ServiceRow). Deregister n.node s.id []) (λ s id e. cc e) _)
    (each_made (λ (c : CheckRow). Deregister n.node [] c.id) (λ c id e. cc e) _)

pub plan_none : (local : Local) (remote : Remote) → Each EndsNone (plan local remote)
plan_none local remote = by local.node refl
  where
    by : (o : Option NodeRow) → local.node ≡ o → Each EndsNone (plan local remote)
    by None e = subst (λ (z : Option NodeRow). Each EndsNone (plan (record local { node = z }) remote)) (sym e) tt
    by (Some n) e = subst (λ (z : Option NodeRow). Each EndsNone (plan (record local { node = z }) remote)) (sym e) (of_none n (record local { node = Some n }) remote)

-- Whatever holds of each command of a list holds of each that was proposed.
all_proposed : (P : Command → Type 0) (i : ℕ) (commands : List Command) (c : Cluster) (n : ℕ) (c' : Cluster) (whole : Bool) (p : Proposals i commands c n c' whole) → Each P commands → AllProposed P i commands c n c' whole p
all_proposed P i commands c n c' whole none_left x = tt
all_proposed P i commands c n c' whole breaks x = tt
all_proposed P i (command ∷ commands) c n c' whole (enters {n = m} w' lead room a up more) x = (x.0, all_proposed P i commands _ m c' whole more x.1)
all_proposed P i (command ∷ commands) c n c' whole (refuses w' lead a why) x = x.0

handles_guarded : (c : Cluster) (i : ℕ) (q : Question) (c' : Cluster) (h : Handles c i q c') → 0 < q.number → HandleIsGuarded c i q c' h
handles_guarded c i q c' (unready st r e) n = tt
handles_guarded c i q c' (full command w' ask free go room a e) n = (all_free (until_at c i) (clock_of c.world i) command free, n)
handles_guarded c i q c' (proposes command w' ask free go room a up e) n = (all_free (until_at c i) (clock_of c.world i) command free, n)
handles_guarded c i q c' (stops command w' ask free go room a down e) n = (all_free (until_at c i) (clock_of c.world i) command free, n)
handles_guarded c i q c' (delays command key ask go d e) n = tt
handles_guarded c i q c' (probes wait w' ask go a e) n = tt
handles_guarded c i q c' (reads mode wait ask d go e) n = tt
handles_guarded c i q c' (renews id ask go e) n = tt

tends_guarded : (i : ℕ) (c c' : Cluster) (whole : Bool) (t : Tends i c c' whole) → TendIsGuarded i c c' whole t
tends_guarded i c c' whole (idles lead e) = tt
tends_guarded i c c' whole (in_turn n m c₁ c₂ lead p r e) = (all_proposed (EndsOver c i) i _ c n c₁ true p (ends_over c i), all_proposed EndsNone i _ _ m c₂ whole r (reaps_none (with_ends i (take n (over_rows c i)) c₁) i))
tends_guarded i c c' whole (cut_off n c₁ lead p e) = all_proposed (EndsOver c i) i _ c n c₁ false p (ends_over c i)

syncs_guarded : (i a : ℕ) (own : Bool) (c c' : Cluster) (whole : Bool) (y : Syncs i a own c c' whole) → SyncIsGuarded i a own c c' whole y
syncs_guarded i a own c c' whole (finds_none r e) = tt
syncs_guarded i a own c c' whole (plans n c₁ r p e) = all_proposed EndsNone i _ _ n c₁ true p (plan_none _ _)
syncs_guarded i a own c c' whole (breaks_off n some r p) = all_proposed EndsNone i _ _ n c' false p (plan_none _ _)
syncs_guarded i a own c c' whole (cut_first mine r e) = tt

-- a request that was just asked has a number
new_above : (c : Cluster) → IsSoundAtWork c → (q : Question) → AskIsNew c q → 0 < q.number
new_above c s q a = (was_numbered c.past (numbered_of c.world c.starts c.past s.marks) q a.now.was).0

acts_guarded : (n : ℕ) (c : Cluster) → IsSoundAtWork c → (i : ℕ) (made : Event) → (n ≡ 0 → Facts c made) → (c' : Cluster) (a : Acts n c i made c') → ActIsGuarded n c i made c' a
acts_guarded n c s i made f c' (takes input w' z is a e) = tt
acts_guarded n c s i made f c' (ticks ms w' z is st e) = tt
acts_guarded n c s i made f c' (arms nth w' z is st e) = tt
acts_guarded n c s i made f c' (restarts w' z is st e) = tt
acts_guarded n c s i made f c' (handles agent asked draw z is goes h) = handles_guarded c i _ c' h (new_above c s _ ((f z).asked agent asked draw is))
acts_guarded n c s i made f c' (tends ms whole z is t) = tends_guarded i c c' whole t
acts_guarded n c s i made f c' (syncs a whole z is goes y) = syncs_guarded i a (did_own made) (agent_did made c) c' whole y

does_guarded : (i : ℕ) (made : Event) (n : ℕ) (c c' : Cluster) (whole : Bool) (d : Does i made n c c' whole) → IsSoundAtWork c → (n ≡ 0 → Facts c made) → due i c ≡ None → DoesGuardedly i made n c c' whole d
does_guarded i made n c c' whole (over e) s f up = tt
does_guarded i made n c c' whole (act c₁ c₂ a r m more) s f up =
    let s₁ = acts_sound n c s i made f (all_applied c i up) c₁ a in
    (acts_guarded n c s i made f c₁ a, does_guarded i made (suc n) c₂ c' whole more (works_sound i c₁ c₂ m.0 s₁) (λ z. absurd (omega arith)) m.1)
does_guarded i made n c c' whole (cut c₁ a m short) s f up = acts_guarded n c s i made f c₁ a
does_guarded i made n c c' whole (cut_between l k) s f up = tt

pub step_guarded : (c c' : Cluster) (made : Event) (whole : Bool) (p : ClusterStep c made c' whole) → Sound c → StepIsGuarded c made c' whole p
step_guarded c c' made whole (done i c₁ c₂ m d e) s =
    does_guarded i made 0 c₁ c₂ whole d (works_sound i (marked made c) c₁ m.0 (marked_sound c s.parts made)) (λ _. facts_worked i (marked made c) c₁ made m.0 (facts_marked c s.parts made)) m.1
step_guarded c c' made whole (passed c₁ w p e) s = tt
step_guarded c c' made whole (cut_early i w c₁ short for d more e) s = tt

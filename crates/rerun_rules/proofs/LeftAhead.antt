-- In a cluster that serves over stores of which server 1's is ahead, server 1 stays ahead in its log too, and so do the
-- stores that the cluster leaves.
use Rattle.std.proofs.Common.{◌≡◌, ◌≢◌, ℕ, zero, suc, ◌<◌, ◌≤◌, ◌⊎◌, inl, inr, false, List, [], ◌∷◌, length, get_or, drop, take, refl, sym, ◌∙◌, ap, subst, arith, Some}
use Rattle.std.specs.Prelude.{◌==◌}
use Rattle.raft_model.specs.declared.message.Message.TheVariants.{Append, AskVote, No, Vote, Yes}
use Rattle.raft_model.specs.declared.message.Sent.{Sent}
use Rattle.raft_model.specs.Log.{Log, term_at}
use Rattle.raft_model.specs.Node.{Kept, Node, Store}
use Rattle.raft_model.specs.Rules.{Beat, Input, Probe, Propose, Receive, Timeout, done}
use Rattle.raft_model.specs.Step.{Forgets, LogFails, NodeStep, Outcome, VoteFails, Works}
use Rattle.raft_model.specs.World.{Acts, Begins, Drops, HoldAll, IsReached, IsServer, Ticks, World, step}
use Rattle.raft_model.proofs.Logs.{agree_length, agree_term}
use Rattle.raft_model.proofs.Matching.{ledger_bound}
use Rattle.raft_model.proofs.Packets.{AllPackets-numbered}
use Rattle.raft_model.proofs.Places.{log_follows}
use Rattle.raft_model.proofs.Sound.{AppendIsTrue, IsSound, IsTrueOf, Runs, kept_of}
use Rattle.raft_model.proofs.Starts.{reached_sound}
use Rattle.raft_model.proofs.Tests.{at_bool, eq_tells, no_bool}
use Rattle.raft_model.proofs.Worlds.{fits_at}
use Rattle.cluster_rules.specs.Cluster.{Cluster, no_node, node_of}
use Rattle.cluster_rules.specs.Reached.{AreSure, MayBegin}
use Rattle.cluster_rules.proofs.Reached.{start_sound}
use Rattle.cluster_rules.proofs.Starting.{kept_start}
use Rattle.cluster_rules.proofs.Tools.{eq_tells_not, get_default, is_node, is_place, item_other, item_same}
use Rattle.run_rules.specs.Serving.{Serves, Size}
use Rattle.rerun_rules.specs.Leading.{HoldBehind, IsAheadBy}
use Rattle.rerun_rules.proofs.Ahead.{IsAhead, May, StaysAhead, acts_ahead}
use Rattle.rerun_rules.proofs.Beginning.{ahead_foremost, start_ahead}
use Rattle.rerun_rules.proofs.Elected.{first_is, others_open}
use Rattle.rerun_rules.proofs.Following.{Accepts, done_log}
use Rattle.rerun_rules.proofs.Left.{holds_it}
use Rattle.rerun_rules.proofs.Longest.{IsSorted, Leads, accepted_leads, grown_leads}
use Rattle.rerun_rules.proofs.Serving.{Came, Keeps, run_ahead, run_keeps}

-- no server's log is more up to date than server 1's
abbrev IsLongest : World → Type 0
IsLongest w = (j : ℕ) → 0 < j → j ≤ length w.nodes → j ≢ 1 → Leads (node_of w 1).log (node_of w j).log

abbrev Holds : World → Type 0
Holds w = IsReached w × IsLongest w

there : (w : World) → 0 < length w.nodes → IsServer w 1 (node_of w 1)
there w l = (l, get_default w.nodes 0 (node_of w 1) no_node l)

sorted : (w : World) → IsSound w → IsServer w 1 (node_of w 1) → (node_of w 1).halted ≡ false → IsSorted (node_of w 1).log
sorted w s at up m n p mn l =
    let x : Log = (node_of w 1).log in
    let t = term_at n x in
    let f = log_follows w s x (inr (inl (1, node_of w 1, at, up, refl))) n l in
    let within = agree_length n (s.history.ledger t) x (sym f) l in
    let e = agree_term m n x (s.history.ledger t) mn f in
    let b = ledger_bound s.history.leaders s.history.first s.history.ledger s.sound.ledgers t m p (omega arith) in
    omega arith

-- a step leaves the log, or makes it what is to be
step_log : (o : Outcome) (old : Node) (input : Input) (new : Node) (sent : List Sent) → NodeStep o old input new sent → (new.log ≡ old.log) ⊎ (new.log ≡ (done old input).node.log)
step_log Works old input new sent (between, v, g, e, s) = inr (ap (λ (n : Node). n.log) e)
step_log VoteFails old input new sent (v, f, e, s) = inl (ap (λ (n : Node). n.log) e)
step_log LogFails old input new sent (between, v, g, f, e, s) = inl (ap (λ (n : Node). n.log) e)
step_log Forgets old input new sent (v, c, g, e, s) = inl (ap (λ (n : Node). n.log) e)

module _ (w : World) (i : ℕ) (input : Input) (w' : World) (a : Acts w i input w') (may : May w i input) (came : Came w input) (r : IsReached w) (r' : IsReached w') (ahead : IsAhead w) (longest : IsLongest w) where
  place : (0 < i) × (i ≤ length w.nodes)
  place = is_place w i a.old a.server

  was : node_of w i ≡ a.old
  was = is_node w i a.old a.server

  now : node_of w' i ≡ a.new
  now = ap (λ (z : World). node_of z i) a.becomes ∙ item_same no_node w.nodes i a.new place.0 place.1

  others : (j : ℕ) → j ≢ i → node_of w' j ≡ node_of w j
  others j d = ap (λ (z : World). node_of z j) a.becomes ∙ item_other no_node w.nodes i j a.new d

  x : StaysAhead w w'
  x = acts_ahead w i input w' a may ahead

  s : IsSound w
  s = reached_sound w r

  at : IsServer w 1 (node_of w 1)
  at = there w (let p = place.0 in let q = place.1 in omega arith)

  at' : IsServer w' 1 (node_of w' 1)
  at' = there w' (let p = place.0 in let q = place.1 in let n = x.count in omega arith)

  up : (node_of w 1).halted ≡ false
  up = (ahead.well 1 (omega arith) (is_place w 1 (node_of w 1) at).1).runs

  up' : (node_of w' 1).halted ≡ false
  up' = (x.ahead.well 1 (omega arith) (is_place w' 1 (node_of w' 1) at').1).runs

  runs : Runs (length w.nodes) s.history 1 (node_of w 1)
  runs = elim (fits_at w s 1 (node_of w 1) at) [ inl y ↦ y.1 | inr y ↦ absurd (no_bool (node_of w 1).halted y.0 up) ]

  -- what a follower accepts is of server 1's log
  accepts : (input : Input) (n m : Node) → May w i input → Came w input → Accepts n input m → Leads (node_of w 1).log n.log → Leads (node_of w 1).log m.log
  accepts (Receive from (Append term prev prev_term es commit round)) n m may (k, p, there, f, message) acc leads =
      let told : AppendIsTrue s.history p.from term prev prev_term es commit round = subst (IsTrueOf s.history p.from p.to) message (AllPackets-numbered (λ q. IsTrueOf s.history q.from q.to q.message) k w.bag.packets p there s.told) in
      let ledger : s.history.ledger term ≡ (node_of w 1).log = ap s.history.ledger (may.1.1 ∙ sym runs.term) ∙ s.sound.roles.leading 1 (runs.role ∙ may.1.2) ∙ runs.log in
      subst (Leads (node_of w 1).log) (sym acc.1)
      (accepted_leads (node_of w 1).log n.log prev es (sorted w s at up) acc.0 (let q = told.within in let z = ap length ledger in omega arith)
      (subst (λ (z : Log). es ≡ take (length es) (drop prev z)) ledger told.entries_are) leads)
  accepts (Receive from (AskVote term li lt)) n m may c acc leads = absurd acc
  accepts (Receive from (Vote term g)) n m may c acc leads = absurd acc
  accepts (Receive from (Yes term matched round)) n m may c acc leads = absurd acc
  accepts (Receive from (No term k)) n m may c acc leads = absurd acc
  accepts Timeout n m may c acc leads = absurd acc
  accepts Beat n m may c acc leads = absurd acc
  accepts (Propose number command) n m may c acc leads = absurd acc
  accepts Probe n m may c acc leads = absurd acc

  -- the server that makes the step
  taken : i ≢ 1 → Leads (node_of w 1).log a.new.log
  taken d = elim (step_log a.outcome a.old input a.new a.sent a.step) [
    | inl e ↦ subst (Leads (node_of w 1).log) (sym e) old
    | inr e ↦ subst (Leads (node_of w 1).log) (sym e) (elim (done_log a.old input (ap (λ (n : Node). n.role) (sym was) ∙ (ahead.follow i place.0 place.1 d).0) (λ q. d (subst (May w i) q may))) [
      | inl q ↦ subst (Leads (node_of w 1).log) (sym q) old
      | inr q ↦ accepts input a.old (done a.old input).node may came q old
    ])
  ]
    where
      old : Leads (node_of w 1).log a.old.log
      old = subst (λ (n : Node). Leads (node_of w 1).log n.log) was (longest i place.0 place.1 d)

  still : IsLongest w'
  still j p l d = grown_leads (node_of w 1).log (node_of w' 1).log (node_of w' j).log (sorted w' (reached_sound w' r') at' up') x.grows
      (at_bool (λ b. (j == i) ≡ b → Leads (node_of w 1).log (node_of w' j).log) (j == i)
      (λ _ e. let same = eq_tells j i e in subst (λ z. Leads (node_of w 1).log (node_of w' z).log) (sym same) (subst (λ (n : Node). Leads (node_of w 1).log n.log) (sym now) (taken (λ z. d (same ∙ z)))))
      (λ _ e. subst (λ (n : Node). Leads (node_of w 1).log n.log) (sym (others j (eq_tells_not j i e))) (longest j p (let n = x.count in omega arith) d)) refl)

keeps : Keeps Holds
keeps = record {
  acts = λ w i input w' a may came move st ahead h. let r' : IsReached w' = step move h.0 st in (r', still w i input w' a may came h.0 r' ahead h.1);
  tick = λ w i ms w' st h. (step (Ticks i ms) h.0 st, subst IsLongest (sym st.2) h.1);
  lose = λ w k w' st h. (step (Drops k) h.0 st, subst IsLongest (sym st.2) h.1);
}

begins_longest : (ss : List Store) (w : World) → Begins ss w → (first : Kept) → IsAheadBy first ss → IsLongest w
begins_longest ss w b first by zero p l d = absurd (omega arith)
begins_longest ss w b first by (suc zero) p l d = absurd (d refl)
begins_longest ss w b first by (suc (suc j)) p l d =
    subst (λ (z : Log). Leads z (node_of w (suc (suc j))).log) (sym (ap (λ (n : Node). n.log) (first_is (length ss) ss w.nodes b.nodes first by (omega arith)))) (others_open (length ss) first ss w.nodes b.nodes by j (omega arith)).log

-- The stores that are left.
abbrev IsBehind : Kept → Node → Type 0
IsBehind first n = (n.store.contents ≡ Some (kept_of n)) × (n.term ≤ first.term) × Leads first.log n.log

left_behind : (first : Kept) (ss : List Store) (ns : List Node) → HoldAll ss ns → ((j : ℕ) → j < length ns → IsBehind first (get_or ns j no_node)) → HoldBehind first ss
left_behind first [] [] h f = tt
left_behind first [] (n ∷ ns) h f = absurd h
left_behind first (s ∷ ss) [] h f = absurd h
left_behind first (s ∷ ss) (n ∷ ns) h f = let k = f 0 (omega arith) in ((kept_of n, h.0 ∙ k.0, k.1, k.2), left_behind first ss ns h.1 (λ j l. f (suc j) (omega arith)))

left_by : (ss : List Store) (ns : List Node) → HoldAll ss ns → (0 < length ns → (get_or ns 0 no_node).store.contents ≡ Some (kept_of (get_or ns 0 no_node))) → ((j : ℕ) → suc j < length ns → IsBehind (kept_of (get_or ns 0 no_node)) (get_or ns (suc j) no_node)) → IsAheadBy (kept_of (get_or ns 0 no_node)) ss
left_by [] [] h e f = tt
left_by [] (n ∷ ns) h e f = absurd h
left_by (s ∷ ss) [] h e f = absurd h
left_by (s ∷ ss) (n ∷ ns) h e f = (h.0 ∙ e (omega arith), left_behind (kept_of n) ss ns h.1 (λ j l. f j (omega arith)))

pub left_ahead : (size : Size) (c : Cluster) (first : Kept) (stores : List Store) → AreSure size.stores → IsAheadBy first size.stores → MayBegin size.stores → Serves size c → HoldAll stores c.world.nodes → (left : Kept) × IsAheadBy left stores
left_ahead size c first stores sure by kept s held =
    (kept_of (node_of c.world 1), left_by stores c.world.nodes held (λ l. contents 0 l) (λ j l. (contents (suc j) l, (ahead.follow (suc (suc j)) (omega arith) (omega arith) (λ e. omega arith)).1, holds.1 (suc (suc j)) (omega arith) (omega arith) (λ e. omega arith))))
  where
    start : IsAhead s.start.world
    start = start_ahead size.stores s.start s.begins sure (ahead_foremost size.stores first by)

    ahead : IsAhead c.world
    ahead = run_ahead s.start s.whole s.moves c s.reached s.serving start

    begun : Holds s.start.world
    begun = (
      (start_sound s.start (kept_start size.stores s.start s.begins kept)).parts.world,
      begins_longest size.stores s.start.world (subst (λ (z : World). Begins size.stores z) (sym (ap (λ (z : Cluster). z.world) s.begins.is)) s.begins.begins) first by,
    )

    holds : Holds c.world
    holds = run_keeps Holds keeps s.start s.whole s.moves c s.reached s.serving start begun

    contents : (j : ℕ) → j < length c.world.nodes → (node_of c.world (suc j)).store.contents ≡ Some (kept_of (node_of c.world (suc j)))
    contents j l = let z = reached_sound c.world holds.0 in holds_it (length c.world.nodes) z.history (suc j) (node_of c.world (suc j)) (z.fits j no_node l) (ahead.well (suc j) (omega arith) (omega arith)).runs

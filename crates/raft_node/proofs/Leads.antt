-- A leader's new entries, as they are planned.
use Rattle.std.proofs.Common.{◌≡◌, ℕ, ◌+◌, ◌<◌, ◌≤◌, Bool, true, false, cond, List, [], ◌∷◌, ◌++◌, length, take, Some, None, refl, sym, ◌∙◌, ap, subst, arith}
use Rattle.std.specs.Prelude.{◌==◌, nat_le}
use Rattle.std.proofs.lemmas.Bool.{cond-true, cond-false, lt-leb}
use Rattle.std.proofs.lemmas.List.{append-nil, length_push, take_all}
use Rattle.cat_model.specs.LogLimits.{keeps_limits, log_bytes, most_bytes, most_entries, is_full, is_noop, command_bytes}
use Rattle.cat_model.specs.declared.command.Command.{Command}
use Rattle.cat_model.specs.declared.command.Command.TheVariants.{Noop}
use Rattle.cat_model.specs.declared.command.Entry.{Entry}
use Rattle.raft_model.proofs.Tests.{and_is, and_tells, at_bool, le_is, le_tells}
use Rattle.raft_model.specs.Log.{Log}
use Rattle.raft_model.specs.Node.{Store, Node, last}
use Rattle.raft_model.specs.Rules.{append_all, appended, leading, leads, noop}
use Rattle.raft_model.specs.declared.message.Sent.{Sent}
use Rattle.raft_node.specs.Nodes.{MayReplace, Plans, appends, nowhere, seen}
use Rattle.raft_node.specs.declared.state.Planned.{Planned}
use Rattle.raft_node.specs.declared.state.State.{State}
use Rattle.raft_node.specs.declared.state.Tail.{Tail}

-- the command bytes of an entry more
pub bytes_push : (log : Log) (e : Entry) → log_bytes (log ++ e ∷ []) ≡ log_bytes log + cond (is_noop e.command) 0 (command_bytes e.command)
bytes_push [] e = omega arith
bytes_push (x ∷ log) e = let h = bytes_push log e in omega (arith, h)

-- a log that is not full in entries has room for a Noop
pub noop_fits : (log : Log) (term : ℕ) → length log < 262144 → keeps_limits log ≡ true → keeps_limits (log ++ noop term ∷ []) ≡ true
noop_fits log term l k =
    let h = and_tells (nat_le (length log) most_entries) (nat_le (log_bytes log) most_bytes) k in
    let b = le_tells (log_bytes log) most_bytes h.1 in
    let e = bytes_push log (noop term) in
    let n = length_push log (noop term) in
    and_is (nat_le (length (log ++ noop term ∷ [])) most_entries) (nat_le (log_bytes (log ++ noop term ∷ [])) most_bytes)
    (le_is (length (log ++ noop term ∷ [])) most_entries (omega (arith, l, n))) (le_is (log_bytes (log ++ noop term ∷ [])) most_bytes (omega (arith, b, e)))

-- the leader that has appended an entry
appended_is : (store : Store) (state : State) (log : Log) (e : Entry) (commit : ℕ) → commit ≡ cond (state.servers == 1) (length log + 1) state.commit →
    seen store (record state { commit = commit }) (log ++ e ∷ []) ≡ appended (seen store state log) e
appended_is store state log e commit h =
    let new : Node = seen store state (log ++ e ∷ []) in
    at_bool (λ b. commit ≡ cond b (length log + 1) state.commit → seen store (record state { commit = commit }) (log ++ e ∷ []) ≡ cond b (record new { commit = last new }) new)
    (state.servers == 1) (λ _ q. ap (λ c. record new { commit = c }) (q ∙ sym (length_push log e))) (λ _ q. ap (λ c. record new { commit = c }) q) h

whole : (log : Log) (e : Entry) → take (length log) log ++ e ∷ [] ≡ log ++ e ∷ []
whole log e = ap (λ (z : Log). z ++ e ∷ []) (take_all (length log) log (omega arith))

pub appends_plan : (state : State) (log : Log) (e : Entry) (commit : ℕ) (entries more : Log) (sent : List Sent) → (keeps_limits log ≡ true → keeps_limits (log ++ e ∷ []) ≡ true) →
    commit ≡ cond (state.servers == 1) (length log + 1) state.commit → entries ≡ e ∷ [] → more ≡ entries →
    sent ≡ (append_all (seen nowhere (record state { commit = commit }) (log ++ more))).sent →
    Plans (appends e) state log (record { state = record state { commit = commit }; tail = Some (record { keep = length log; entries = entries }); sent = sent })
unfolding appends
appends_plan state log e commit entries more sent limits h a b s =
    subst (λ (es : Log). sent ≡ (append_all (seen nowhere (record state { commit = commit }) (log ++ es))).sent → Plans (appends e) state log (record { state = record state { commit = commit }; tail = Some (record { keep = length log; entries = es }); sent = sent }))
    (sym a) go (s ∙ ap (λ (es : Log). (append_all (seen nowhere (record state { commit = commit }) (log ++ es))).sent) b)
  where
    replaces : MayReplace log (record { keep = length log; entries = e ∷ [] })
    replaces = record {
      within = omega arith;
      changes = λ q. let l = ap length (sym (whole log e) ∙ q) in omega (arith, length_push log e, l);
      limits = λ k. subst (λ (z : Log). keeps_limits z ≡ true) (sym (whole log e)) (limits k);
    }

    the_one : {t u : Tail} → Some t ≡ Some u → t ≡ u
    the_one q = cc q

    low : (b : Bool) → commit ≡ cond b (length log + 1) state.commit → state.commit ≤ length log → commit ≤ length log + 1
    low true q l = omega (arith, q)
    low false q l = omega (arith, q)

    go : sent ≡ (append_all (seen nowhere (record state { commit = commit }) (log ++ e ∷ []))).sent →
        Plans (appends e) state log (record { state = record state { commit = commit }; tail = Some (record { keep = length log; entries = e ∷ [] }); sent = sent })
    go s = record {
      done = λ store.
          (λ i. record { node = seen store (record state { commit = commit }) (whole log e i); sent = s i })
          ∙ ap append_all (appended_is store state log e commit h);
      fits = λ t q. subst (MayReplace log) (the_one q) replaces;
      running = refl;
      commit = λ l. omega (arith, low (state.servers == 1) h l, length_push log e, ap length (whole log e));
    }

-- a new leader whose log is full in entries
pub full_plan : (state state' : State) (log : Log) (sent : List Sent) → ((store : Store) → seen store state' log ≡ leading (seen store state log)) →
    262144 ≤ length log → sent ≡ (append_all (seen nowhere state' (log ++ []))).sent → state'.halted ≡ state.halted → state'.commit ≡ state.commit →
    Plans leads state log (record { state = state'; tail = None; sent = sent })
unfolding leads
full_plan state state' log sent led full s halted commit = record {
  done = λ store.
      (λ i. record { node = seen store state' log; sent = (s ∙ ap (λ (z : Log). (append_all (seen nowhere state' z)).sent) (append-nil log)) i })
      ∙ ap append_all (led store)
      ∙ ap append_all (sym (cond-true (is_full log) (leading (seen store state log)) (appended (leading (seen store state log)) (noop state.term)) (le_is most_entries (length log) full)));
  fits = λ t q. cc q;
  running = halted;
  commit = λ l. omega (arith, commit, l);
}

-- any other new leader
pub noop_plan : (state state' : State) (log : Log) (planned : Planned) → ((store : Store) → seen store state' log ≡ leading (seen store state log)) →
    length log < 262144 → state'.halted ≡ state.halted → state'.commit ≡ state.commit →
    Plans (appends (noop state.term)) state' log planned → Plans leads state log planned
unfolding leads appends
noop_plan state state' log planned led short halted commit p = record {
  done = λ store.
      p.done store
      ∙ ap (λ (n : Node). append_all (appended n (noop state.term))) (led store)
      ∙ ap append_all (sym (cond-false (is_full log) (leading (seen store state log)) (appended (leading (seen store state log)) (noop state.term)) (lt-leb most_entries (length log) short)));
  fits = p.fits;
  running = p.running ∙ halted;
  commit = λ l. p.commit (omega (arith, commit, l));
}

-- the same where the entry's command is known to be a Noop
pub noop_plan_at : (state state' : State) (log : Log) (planned : Planned) (command : Command) → command ≡ Noop → ((store : Store) → seen store state' log ≡ leading (seen store state log)) →
    length log < 262144 → state'.halted ≡ state.halted → state'.commit ≡ state.commit →
    Plans (appends (record { term = state.term; number = 0; command = command })) state' log planned → Plans leads state log planned
noop_plan_at state state' log planned command is led short halted commit p =
    noop_plan state state' log planned led short halted commit (subst (λ m. Plans (appends (record { term = state.term; number = 0; command = m })) state' log planned) is p)

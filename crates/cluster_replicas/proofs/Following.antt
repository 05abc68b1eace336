-- What becomes of the servers where a replica or a node changes.
use Rattle.std.proofs.Common.{◌≡◌, ℕ, zero, suc, ◌+◌, ◌<◌, ◌≤◌, length, take, set, get_or, List, [], ◌∷◌, ◌++◌, Some, refl, sym, ap, ◌∙◌, subst, arith, add-one}
use Rattle.std.proofs.lemmas.List.{map-append, length-append, get_or_default}
use Rattle.cat_model.specs.declared.command.Entry.{Entry}
use Rattle.cat_model.specs.Log.{commands_of}
use Rattle.raft_model.specs.Log.{Log, entry_at}
use Rattle.raft_model.specs.Node.{Node}
use Rattle.raft_model.specs.World.{World, IsServer}
use Rattle.applied_state.specs.States.{ReplicaState, applied_at, nothing_applied}
use Rattle.cluster_rules.specs.Cluster.{Server, no_node, no_server, node_of}
use Rattle.cluster_rules.specs.Due.{applies_entry}
use Rattle.cluster_replicas.specs.Servers.{AllFollow, Follows, server_with, servers_with}

some_is : {A : Type 0} (x y : A) → Some x ≡ Some y → x ≡ y
some_is x y e = cc e

take_more : (log : Log) (k : ℕ) (e : Entry) → entry_at (suc k) log ≡ Some e → take (suc k) log ≡ take k log ++ e ∷ []
take_more [] k e is = absurd (cc is)
take_more (x ∷ log) zero e is = ap (λ z. z ∷ []) (some_is x e is)
take_more (x ∷ log) (suc k) e is = ap (λ l. x ∷ l) (take_more log k e is)

entry_there : (log : Log) (k : ℕ) (e : Entry) → entry_at (suc k) log ≡ Some e → suc k ≤ length log
entry_there [] k e is = absurd (cc is)
entry_there (x ∷ log) zero e is = omega arith
entry_there (x ∷ log) (suc k) e is = let more = entry_there log k e is in omega arith

one_more : {A : Type 0} (xs : List A) (x : A) → length (xs ++ x ∷ []) ≡ suc (length xs)
one_more xs x = let a = length-append xs (x ∷ []) in omega arith

module _ (n : Node) (r : ReplicaState) (e : Entry) (clock : ℕ) (there : entry_at (suc (length r.commands)) n.log ≡ Some e) where
  grown : take (length (r.commands ++ e.command ∷ [])) n.log ≡ take (length r.commands) n.log ++ e ∷ []
  grown = ap (λ (k : ℕ). take k n.log) (one_more r.commands e.command) ∙ take_more n.log (length r.commands) e there

  pub follows_more : Follows n r → length r.commands < n.commit → Follows n (applied_at e.command clock r)
  follows_more f less =
      let size = one_more r.commands e.command in
      let within = entry_there n.log (length r.commands) e there in
      record {
        committed = omega arith;
        there = omega arith;
        same = ap (λ z. z ++ e.command ∷ []) f.same ∙ sym (map-append (λ (x : Entry). x.command) (take (length r.commands) n.log) (e ∷ [])) ∙ sym (ap commands_of grown);
      }

  pub server_more : server_with n (applied_at e.command clock r) ≡ applies_entry clock (server_with n r) (Some e)
  server_more = λ i. record { applied = grown i; clocks = r.clocks ++ clock ∷ []; office = r.office }

pub same_length : (ns : List Node) (rs : List ReplicaState) → AllFollow ns rs → length rs ≡ length ns
same_length [] [] a = refl
same_length [] (r ∷ rs) a = absurd a
same_length (n ∷ ns) [] a = absurd a
same_length (n ∷ ns) (r ∷ rs) a = ap suc (same_length ns rs a.1)

pub as_many : (ns : List Node) (rs : List ReplicaState) → AllFollow ns rs → length (servers_with ns rs) ≡ length ns
as_many [] rs a = refl
as_many (n ∷ ns) [] a = absurd a
as_many (n ∷ ns) (r ∷ rs) a = ap suc (as_many ns rs a.1)

pub follows_at : (ns : List Node) (rs : List ReplicaState) (at : ℕ) (n : Node) (r : ReplicaState) → AllFollow ns rs → at < length ns → Follows (get_or ns at n) (get_or rs at r)
follows_at [] rs at n r a l = absurd (omega arith)
follows_at (m ∷ ns) [] at n r a l = absurd a
follows_at (m ∷ ns) (q ∷ rs) zero n r a l = a.0
follows_at (m ∷ ns) (q ∷ rs) (suc at) n r a l = follows_at ns rs at n r a.1 (omega arith)

pub server_at : (ns : List Node) (rs : List ReplicaState) (at : ℕ) (n : Node) (r : ReplicaState) (none : Server) → AllFollow ns rs → at < length ns → get_or (servers_with ns rs) at none ≡ server_with (get_or ns at n) (get_or rs at r)
server_at [] rs at n r none a l = absurd (omega arith)
server_at (m ∷ ns) [] at n r none a l = absurd a
server_at (m ∷ ns) (q ∷ rs) zero n r none a l = refl
server_at (m ∷ ns) (q ∷ rs) (suc at) n r none a l = server_at ns rs at n r none a.1 (omega arith)

-- another replica at a place
pub replica_changes : (ns : List Node) (rs : List ReplicaState) (at : ℕ) (n : Node) (new : ReplicaState) → AllFollow ns rs → at < length ns → Follows (get_or ns at n) new
    → AllFollow ns (set rs at new) × (servers_with ns (set rs at new) ≡ set (servers_with ns rs) at (server_with (get_or ns at n) new))
replica_changes [] rs at n new a l f = absurd (omega arith)
replica_changes (m ∷ ns) [] at n new a l f = absurd a
replica_changes (m ∷ ns) (q ∷ rs) zero n new a l f = ((f, a.1), refl)
replica_changes (m ∷ ns) (q ∷ rs) (suc at) n new a l f = let t = replica_changes ns rs at n new a.1 (omega arith) f in ((a.0, t.0), ap (λ s. server_with m q ∷ s) t.1)

-- A node that has become another still has all that it had committed.
abbrev pub Keeps : Node → Node → Type 0
Keeps old new = (k : ℕ) → k ≤ old.commit → k ≤ length old.log → (k ≤ new.commit) × (k ≤ length new.log) × (take k new.log ≡ take k old.log)

-- another node at a place
pub node_changes : (ns : List Node) (rs : List ReplicaState) (at : ℕ) (old new : Node) → AllFollow ns rs → get_or ns at old ≡ old → Keeps old new
    → AllFollow (set ns at new) rs × (servers_with (set ns at new) rs ≡ servers_with ns rs)
node_changes [] rs at old new a is k = (a, refl)
node_changes (m ∷ ns) [] at old new a is k = absurd a
node_changes (m ∷ ns) (q ∷ rs) zero old new a is k =
    let f = subst (λ (z : Node). Follows z q) is a.0 in
    let kept = k (length q.commands) f.committed f.there in (
      (record { committed = kept.0; there = kept.1; same = f.same ∙ ap commands_of (sym kept.2) }, a.1),
      λ i. record { applied = (kept.2 ∙ ap (λ (z : Node). take (length q.commands) z.log) (sym is)) i; clocks = q.clocks; office = q.office } ∷ servers_with ns rs,
    )
node_changes (m ∷ ns) (q ∷ rs) (suc at) old new a is k = let t = node_changes ns rs at old new a.1 is k in ((a.0, t.0), ap (λ s. server_with m q ∷ s) t.1)

-- a server that begins again
pub begins : (ns : List Node) (rs : List ReplicaState) (at : ℕ) (new : Node) → AllFollow ns rs
    → AllFollow (set ns at new) (set rs at nothing_applied) × (servers_with (set ns at new) (set rs at nothing_applied) ≡ set (servers_with ns rs) at no_server)
begins [] [] at new a = (a, refl)
begins [] (r ∷ rs) at new a = absurd a
begins (m ∷ ns) [] at new a = absurd a
begins (m ∷ ns) (q ∷ rs) zero new a = ((record { committed = omega arith; there = omega arith; same = refl }, a.1), refl)
begins (m ∷ ns) (q ∷ rs) (suc at) new a = let t = begins ns rs at new a.1 in ((a.0, t.0), ap (λ s. server_with m q ∷ s) t.1)

-- server s, at its place
pub named : (at s : ℕ) → at + 1 ≡ s → suc at ≡ s
named at s e = sym (add-one at) ∙ e

pub is_node : (w : World) (s : ℕ) (n : Node) → IsServer w s n → n ≡ node_of w s
is_node w zero n is = absurd is
is_node w (suc at) n is = sym is.1 ∙ get_or_default w.nodes at n no_node is.0

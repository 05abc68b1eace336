-- The first entry of a new leader of term 1, where nobody has another one: who is sent it has it and says so, and the
-- leader commits it once a majority has it.
use Rattle.std.proofs.Common.{◌≡◌, ◌≢◌, ℕ, zero, suc, ◌+◌, ◌*◌, ◌<◌, ◌≤◌, ◌⊎◌, inl, inr, Bool, true, false, cond, List, [], ◌∷◌, length, replicate, max, Some, None, refl, sym, ◌∙◌, ap, subst, arith}
use Rattle.std.specs.Prelude.{nat_le, nat_lt, ◌&&◌, ◌||◌, ◌==◌}
use Rattle.std.proofs.lemmas.Bool.Decides.{nat_tests}
use Rattle.cat_model.specs.declared.reply.Role.TheVariants.{Follower, Leader}
use Rattle.raft_model.specs.declared.message.Message.TheVariants.{Append, AskVote, Vote, Yes}
use Rattle.raft_model.specs.Log.{Log}
use Rattle.raft_model.specs.Node.{Done, Node, Store, of_server, quiet, reply, set_server, to_others}
use Rattle.raft_model.specs.Quorum.{Servers, count, is_majority}
use Rattle.raft_model.specs.Rules.{Receive, accepts, after_yes, agreed_to, append_all, append_to, asked, does, done, has_index, is_up_to_date, leading, leads, may_vote, noop, noted, of_own_term, offered, received, voted, with_commit}
use Rattle.raft_model.proofs.Tests.{at_bool, at_all, eq_tells, le_is, lt_is, lt_tells, lt_tells_not, or_left}
use Rattle.cluster_rules.proofs.Tools.{eq_tells_not, item_other, item_same, length_set_server}

-- a log of this entry alone
abbrev pub first_log : Log
first_log = noop 1 ∷ []

abbrev pub IsBlank : Log → Type 0
IsBlank log = (log ≡ []) ⊎ (log ≡ first_log)

-- A follower in term 0 or 1.
abbrev pub as_follower : Node → ℕ → ℕ → Log → Node
as_follower m term commit log = record m { term = term; commit = commit; log = log; role = Follower; halted = false }

-- It votes or not, and its log is the same.
pub record Votes (log : Log) (d : Done) : Type 0 where
  pub log_is : d.node.log ≡ log
  pub granted : Bool
  pub sent : d.sent ≡ record { to = 1; message = Vote 1 granted } ∷ []

asked_votes : (n : Node) → n.term ≡ 1 → Votes n.log (asked n 1 0 0)
unfolding asked
asked_votes n t = at_bool (λ b. Votes n.log (cond b (reply (record n { vote = Some 1 }) 1 (Vote n.term true)) (reply n 1 (Vote n.term false)))) (may_vote n.vote 1 && is_up_to_date 0 0 n.log)
    (λ _. record { log_is = refl; granted = true; sent = ap (λ z. record { to = 1; message = Vote z true } ∷ []) t })
    (λ _. record { log_is = refl; granted = false; sent = ap (λ z. record { to = 1; message = Vote z false } ∷ []) t })

follower_votes : (m : Node) (term commit : ℕ) (log : Log) → term ≤ 1 → Votes log (done (as_follower m term commit log) (Receive 1 (AskVote 1 0 0)))
unfolding done does received of_own_term
follower_votes m zero commit log l = asked_votes (record (as_follower m 1 commit log) { vote = None; leader = None }) refl
follower_votes m (suc zero) commit log l = asked_votes (as_follower m 1 commit log) refl
follower_votes m (suc (suc t)) commit log l = absurd (omega arith)

-- It has the entry, and says so.
pub record Takes (round : ℕ) (d : Done) : Type 0 where
  pub log : d.node.log ≡ first_log
  pub sent : d.sent ≡ record { to = 1; message = Yes 1 1 round } ∷ []

follower_takes_none : (m : Node) (term commit c r : ℕ) → term ≤ 1 → Takes r (done (as_follower m term commit []) (Receive 1 (Append 1 0 0 first_log c r)))
unfolding done does received of_own_term offered accepts
follower_takes_none m zero zero c r l = record { log = refl; sent = refl }
follower_takes_none m zero (suc k) c r l = record { log = refl; sent = refl }
follower_takes_none m (suc zero) zero c r l = record { log = refl; sent = refl }
follower_takes_none m (suc zero) (suc k) c r l = record { log = refl; sent = refl }
follower_takes_none m (suc (suc t)) commit c r l = absurd (omega arith)

follower_takes_one : (m : Node) (term commit c r : ℕ) → term ≤ 1 → Takes r (done (as_follower m term commit first_log) (Receive 1 (Append 1 0 0 first_log c r)))
unfolding done does received of_own_term offered accepts
follower_takes_one m zero zero c r l = record { log = refl; sent = refl }
follower_takes_one m zero (suc zero) c r l = record { log = refl; sent = refl }
follower_takes_one m zero (suc (suc k)) c r l = record { log = refl; sent = refl }
follower_takes_one m (suc zero) zero c r l = record { log = refl; sent = refl }
follower_takes_one m (suc zero) (suc zero) c r l = record { log = refl; sent = refl }
follower_takes_one m (suc zero) (suc (suc k)) c r l = record { log = refl; sent = refl }
follower_takes_one m (suc (suc t)) commit c r l = absurd (omega arith)

follower_has_it : (m : Node) (term commit c r : ℕ) → term ≤ 1 → Takes r (done (as_follower m term commit first_log) (Receive 1 (Append 1 1 1 [] c r)))
unfolding done does received of_own_term offered accepts
follower_has_it m zero zero c r l = record { log = refl; sent = refl }
follower_has_it m zero (suc zero) c r l = record { log = refl; sent = refl }
follower_has_it m zero (suc (suc k)) c r l = record { log = refl; sent = refl }
follower_has_it m (suc zero) zero c r l = record { log = refl; sent = refl }
follower_has_it m (suc zero) (suc zero) c r l = record { log = refl; sent = refl }
follower_has_it m (suc zero) (suc (suc k)) c r l = record { log = refl; sent = refl }
follower_has_it m (suc (suc t)) commit c r l = absurd (omega arith)

-- any follower
pub record IsLow (n : Node) : Type 0 where
  pub up : n.halted ≡ false
  pub role : n.role ≡ Follower
  pub term : n.term ≤ 1

low_is : (n : Node) → IsLow n → (log : Log) → n.log ≡ log → as_follower n n.term n.commit log ≡ n
low_is n x log e =
    ap (λ z. record n { log = log; role = Follower; halted = z }) (sym x.up)
    ∙ ap (λ z. record n { log = log; role = z }) (sym x.role)
    ∙ ap (λ z. record n { log = z }) (sym e)

pub low_votes : (n : Node) → IsLow n → Votes n.log (done n (Receive 1 (AskVote 1 0 0)))
low_votes n x = subst (λ z. Votes n.log (done z (Receive 1 (AskVote 1 0 0)))) (low_is n x n.log refl) (follower_votes n n.term n.commit n.log x.term)

pub low_takes : (n : Node) (c r : ℕ) → IsLow n → IsBlank n.log → Takes r (done n (Receive 1 (Append 1 0 0 first_log c r)))
low_takes n c r x (inl e) = subst (λ z. Takes r (done z (Receive 1 (Append 1 0 0 first_log c r)))) (low_is n x [] e) (follower_takes_none n n.term n.commit c r x.term)
low_takes n c r x (inr e) = subst (λ z. Takes r (done z (Receive 1 (Append 1 0 0 first_log c r)))) (low_is n x first_log e) (follower_takes_one n n.term n.commit c r x.term)

pub low_has : (n : Node) (c r : ℕ) → IsLow n → n.log ≡ first_log → Takes r (done n (Receive 1 (Append 1 1 1 [] c r)))
low_has n c r x e = subst (λ z. Takes r (done z (Receive 1 (Append 1 1 1 [] c r)))) (low_is n x first_log e) (follower_has_it n n.term n.commit c r x.term)

-- Server 1 of so many leads in term 1 with this entry alone; it has committed it, or no majority has it that it knows.
pub record Reigns (servers : ℕ) (n : Node) : Type 0 where
  pub id : n.id ≡ 1
  pub servers_are : n.servers ≡ servers
  pub term : n.term ≡ 1
  pub log : n.log ≡ first_log
  pub role : n.role ≡ Leader
  pub matched : length n.matched ≡ servers
  pub next : length n.next ≡ servers
  pub commit : (n.commit ≡ 1) ⊎ ((n.commit ≡ 0) × (is_majority servers (has_index n 1) ≡ false))

abbrev pub as_leader : Node → ℕ → Node
as_leader m servers = record m { id = 1; servers = servers; term = 1; log = first_log; role = Leader; halted = false }

leader_is : (servers : ℕ) (n : Node) → n.halted ≡ false → Reigns servers n → as_leader n servers ≡ n
leader_is servers n up x =
    ap (λ z. record n { id = 1; servers = servers; term = 1; log = first_log; role = Leader; halted = z }) (sym up)
    ∙ ap (λ z. record n { id = 1; servers = servers; term = 1; log = first_log; role = z }) (sym x.role)
    ∙ ap (λ z. record n { id = 1; servers = servers; term = 1; log = z }) (sym x.log)
    ∙ ap (λ z. record n { id = 1; servers = servers; term = z }) (sym x.term)
    ∙ ap (λ z. record n { id = 1; servers = z }) (sym x.servers_are)
    ∙ ap (λ z. record n { id = z }) (sym x.id)

-- a vote does not matter any more
led_votes : (m : Node) (servers from : ℕ) (g : Bool) → done (as_leader m servers) (Receive from (Vote 1 g)) ≡ quiet (as_leader m servers)
unfolding done does received of_own_term voted
led_votes m servers from true = refl
led_votes m servers from false = refl

pub reigns_votes : (servers : ℕ) (n : Node) (from : ℕ) (g : Bool) → n.halted ≡ false → Reigns servers n → done n (Receive from (Vote 1 g)) ≡ quiet n
reigns_votes servers n from g up x = subst (λ z. done z (Receive from (Vote 1 g)) ≡ quiet z) (leader_is servers n up x) (led_votes n servers from g)

-- A Yes: one more server has the entry.
led_counts : (m : Node) (servers from r : ℕ) → done (as_leader m servers) (Receive from (Yes 1 1 r)) ≡ after_yes (as_leader m servers) (with_commit (noted (as_leader m servers) from 1 r)) from
unfolding done does received of_own_term agreed_to
led_counts m servers from r = refl

-- what becomes of it
pub record Counted (servers from : ℕ) (n : Node) (d : Done) : Type 0 where
  pub reigns : Reigns servers d.node
  pub has : 1 ≤ of_server d.node.matched from
  pub more : (j : ℕ) → of_server n.matched j ≤ of_server d.node.matched j
  pub next : of_server d.node.next from ≡ max (of_server n.next from) 2
  pub others : (j : ℕ) → j ≢ from → of_server d.node.next j ≡ of_server n.next j
  pub sent : ((d.sent ≡ []) × (d.node.commit ≡ n.commit)) ⊎ ((n.commit ≡ 0) × (d.node.commit ≡ 1) × (d.sent ≡ to_others 1 (append_to d.node) servers))

at_from : (xs : List ℕ) (i x : ℕ) → 0 < i → i ≤ length xs → of_server (set_server xs i x) i ≡ x
at_from xs zero x p l = absurd (omega arith)
at_from xs (suc i) x p l = item_same 0 xs (suc i) x p l

at_other : (xs : List ℕ) (i j x : ℕ) → j ≢ i → of_server (set_server xs i x) j ≡ of_server xs j
at_other xs i zero x d = refl
at_other xs i (suc j) x d = item_other 0 xs i (suc j) x d

raised_more : (xs : List ℕ) (i x j : ℕ) → of_server xs j ≤ of_server (set_server xs i (max (of_server xs i) x)) j
raised_more xs i x j = at_bool (λ b. (j == i) ≡ b → of_server xs j ≤ of_server (set_server xs i (max (of_server xs i) x)) j) (j == i)
    (λ _ e. subst (λ z. of_server xs z ≤ of_server (set_server xs i (max (of_server xs i) x)) z) (sym (eq_tells j i e)) (own xs i x))
    (λ _ e. let q = at_other xs i j (max (of_server xs i) x) (eq_tells_not j i e) in omega arith) refl
  where
    own : (xs : List ℕ) (i x : ℕ) → of_server xs i ≤ of_server (set_server xs i (max (of_server xs i) x)) i
    own xs zero x = omega arith
    own [] (suc i) x = omega arith
    own (y ∷ xs) (suc zero) x = omega arith
    own (y ∷ xs) (suc (suc i)) x = own xs (suc i) x

-- the commit that the own term's first entry gets
abbrev one_if : Bool → ℕ
one_if b = cond b 1 0

first_commit : (m : Node) (servers : ℕ) → (commit : ℕ) → (commit ≡ 1) ⊎ (commit ≡ 0) →
    let n : Node = record (as_leader m servers) { commit = commit } in
    ((with_commit n).commit ≡ 1) ⊎ (((with_commit n).commit ≡ 0) × (commit ≡ 0) × (is_majority servers (has_index n 1) ≡ false))
first_commit m servers zero o = at_bool (λ b. is_majority servers (has_index (record (as_leader m servers) { commit = 0 }) 1) ≡ b →
    (one_if b ≡ 1) ⊎ ((one_if b ≡ 0) × (zero ≡ zero) × (b ≡ false))) (is_majority servers (has_index (record (as_leader m servers) { commit = 0 }) 1)) (λ _ _. inl refl) (λ _ _. inr (refl, refl, refl)) refl
first_commit m servers (suc zero) o = inl refl
first_commit m servers (suc (suc k)) o = absurd (elim o [ inl e ↦ omega arith | inr e ↦ omega arith ])

-- a server is known to have all entries is sent none
quiet_after : (old n : Node) (from : ℕ) → n.commit ≡ old.commit → length n.log < of_server n.next from → after_yes old n from ≡ quiet n
unfolding after_yes
quiet_after old n from e l = ap (λ b. cond b (append_all n) (cond (nat_le (of_server n.next from) (length n.log)) (reply n from (append_to n from)) (quiet n))) no_rise ∙ ap (λ b. cond b (reply n from (append_to n from)) (quiet n)) no_more
  where
    no_rise : nat_lt old.commit n.commit ≡ false
    no_rise = let k = e in grind (arith, nat_tests)

    no_more : nat_le (of_server n.next from) (length n.log) ≡ false
    no_more = let k : length n.log < of_server n.next from = l in grind (arith, nat_tests)

loud_after : (old n : Node) (from : ℕ) → old.commit ≡ 0 → n.commit ≡ 1 → after_yes old n from ≡ append_all n
unfolding after_yes
loud_after old n from z o = ap (λ b. cond b (append_all n) (cond (nat_le (of_server n.next from) (length n.log)) (reply n from (append_to n from)) (quiet n))) (lt_is old.commit n.commit (omega arith))

reigns_counts_so : (servers from r : ℕ) (n : Node) → n ≡ as_leader n servers → Reigns servers n → 0 < from → from ≤ servers → Counted servers from n (after_yes n (with_commit (noted n from 1 r)) from)
reigns_counts_so servers from r n is x p l = elim committed [
  | inl one ↦ elim x.commit [
    | inl was ↦ subst (Counted servers from n) (sym (quiet_after n new from (one ∙ sym was) below)) (record { reigns = reigns (inl one); has = has; more = more; next = next; others = others; sent = inl (refl, one ∙ sym was) })
    | inr was ↦ subst (Counted servers from n) (sym (loud_after n new from was.0 one)) (record { reigns = reigns (inl one); has = has; more = more; next = next; others = others; sent = inr (was.0, one, ap (λ z. to_others z (append_to new) n.servers) x.id ∙ ap (to_others 1 (append_to new)) x.servers_are) })
  ]
  | inr none ↦ subst (Counted servers from n) (sym (quiet_after n new from (none.0 ∙ sym none.1) below)) (record { reigns = reigns (inr (none.0, none.2)); has = has; more = more; next = next; others = others; sent = inl (refl, none.0 ∙ sym none.1) })
]
  where
    new : Node
    new = with_commit (noted n from 1 r)

    committed : (new.commit ≡ 1) ⊎ ((new.commit ≡ 0) × (n.commit ≡ 0) × (is_majority servers (has_index new 1) ≡ false))
    committed = subst (λ (z : Node). ((with_commit (noted z from 1 r)).commit ≡ 1) ⊎ (((with_commit (noted z from 1 r)).commit ≡ 0) × (n.commit ≡ 0) × (is_majority servers (has_index (with_commit (noted z from 1 r)) 1) ≡ false))) (sym is)
        (first_commit (record n { matched = set_server n.matched from (max (of_server n.matched from) 1); acked = set_server n.acked from (max (of_server n.acked from) r); next = set_server n.next from (max (of_server n.next from) 2) }) servers n.commit
        (elim x.commit [ inl e ↦ inl e | inr e ↦ inr e.0 ]))

    reigns : ((new.commit ≡ 1) ⊎ ((new.commit ≡ 0) × (is_majority servers (has_index new 1) ≡ false))) → Reigns servers new
    reigns c = record {
      id = x.id;
      servers_are = x.servers_are;
      term = x.term;
      log = x.log;
      role = x.role;
      matched = length_set_server n.matched from (max (of_server n.matched from) 1) ∙ x.matched;
      next = length_set_server n.next from (max (of_server n.next from) 2) ∙ x.next;
      commit = c;
    }

    next : of_server new.next from ≡ max (of_server n.next from) 2
    next = at_from n.next from (max (of_server n.next from) 2) p (omega (arith, l, x.next))

    has : 1 ≤ of_server new.matched from
    has = let q = at_from n.matched from (max (of_server n.matched from) 1) p (omega (arith, l, x.matched)) in omega arith

    more : (j : ℕ) → of_server n.matched j ≤ of_server new.matched j
    more j = raised_more n.matched from 1 j

    others : (j : ℕ) → j ≢ from → of_server new.next j ≡ of_server n.next j
    others j d = at_other n.next from j (max (of_server n.next from) 2) d

    below : length new.log < of_server new.next from
    below = let k = ap length x.log in let q = next in omega arith

pub reigns_counts : (servers from r : ℕ) (n : Node) → n.halted ≡ false → Reigns servers n → 0 < from → from ≤ servers → Counted servers from n (done n (Receive from (Yes 1 1 r)))
reigns_counts servers from r n up x p l =
    let is = leader_is servers n up x in
    subst (Counted servers from n) (sym (subst (λ z. done z (Receive from (Yes 1 1 r)) ≡ after_yes z (with_commit (noted z from 1 r)) from) is (led_counts n servers from r))) (reigns_counts_so servers from r n (sym is) x p l)

-- who has all others' word has that of a majority
count_all : (p : Servers) (n : ℕ) → ((j : ℕ) → 0 < j → j ≤ n → p j ≡ true) → count p n ≡ n
count_all p zero f = refl
count_all p (suc n) f = ap (λ b. cond b (1 + count p n) (count p n)) (f (suc n) (omega arith) (omega arith)) ∙ (let k = count_all p n (λ j q l. f j q (omega arith)) in omega arith)

pub all_have : (servers : ℕ) (n : Node) → 0 < servers → Reigns servers n → ((j : ℕ) → 1 < j → j ≤ servers → 1 ≤ of_server n.matched j) → n.commit ≡ 1
all_have servers n some x f = elim x.commit [
  | inl e ↦ e
  | inr e ↦ absurd (let k = count_all (has_index n 1) servers has in let l = lt_tells_not servers (2 * count (has_index n 1) servers) e.1 in omega arith)
]
  where
    has : (j : ℕ) → 0 < j → j ≤ servers → has_index n 1 j ≡ true
    has zero p l = absurd (omega arith)
    has (suc zero) p l = or_left (1 == n.id) (nat_le 1 (of_server n.matched 1)) (ap (λ z. 1 == z) x.id)
    has (suc (suc j)) p l = or_right (suc (suc j) == n.id) (nat_le 1 (of_server n.matched (suc (suc j)))) (le_is 1 (of_server n.matched (suc (suc j))) (f (suc (suc j)) (omega arith) l))
      where
        or_right : (a b : Bool) → b ≡ true → (a || b) ≡ true
        or_right true b e = refl
        or_right false b e = e

-- A new leader with an empty log has the entry, and asks all others to take it.
itself_alone : (m : Node) (n : ℕ) → m.id ≡ 1 → ((p : ℕ) → of_server m.matched p ≡ 0) → count (has_index m 1) n ≤ 1
itself_alone m zero i f = omega arith
itself_alone m (suc zero) i f = at_bool (λ b. one_if b ≤ 1) (has_index m 1 1) (λ _. omega arith) (λ _. omega arith)
itself_alone m (suc (suc n)) i f =
    at_bool (λ b. has_index m 1 (suc (suc n)) ≡ b → cond b (1 + count (has_index m 1) (suc n)) (count (has_index m 1) (suc n)) ≤ 1) (has_index m 1 (suc (suc n)))
    (λ _ e. absurd (not_it e)) (λ _ _. itself_alone m (suc n) i f) refl
  where
    not_it : has_index m 1 (suc (suc n)) ≡ true → ⊥
    not_it e = let z = f (suc (suc n)) in let k = i in grind (arith, nat_tests)

pub record Opens (servers : ℕ) (d : Done) : Type 0 where
  pub reigns : Reigns servers d.node
  pub next : (j : ℕ) → 1 < j → j ≤ servers → of_server d.node.next j ≡ 1
  pub sent : d.sent ≡ to_others 1 (append_to d.node) servers

pub replicated : (n x j : ℕ) → 0 < j → j ≤ n → of_server (replicate n x) j ≡ x
replicated n x zero p l = absurd (omega arith)
replicated zero x (suc j) p l = absurd (omega arith)
replicated (suc n) x (suc zero) p l = refl
replicated (suc n) x (suc (suc j)) p l = replicated n x (suc j) (omega arith) (omega arith)

length_replicated : (n x : ℕ) → length (replicate n x) ≡ n
length_replicated zero x = refl
length_replicated (suc n) x = let k = length_replicated n x in omega arith

-- a candidate of so many servers with nothing in its log
abbrev as_candidate : Node → ℕ → Node
as_candidate m servers = record m { id = 1; servers = servers; term = 1; log = []; commit = 0 }

opens_so : (m : Node) (servers : ℕ) → 0 < servers → Opens servers (leads (as_candidate m servers))
unfolding leads
opens_so m servers some = record {
  reigns = record {
    id = kept (λ z. z.id ≡ 1) refl refl;
    servers_are = kept (λ z. z.servers ≡ servers) refl refl;
    term = kept (λ z. z.term ≡ 1) refl refl;
    log = kept (λ z. z.log ≡ first_log) refl refl;
    role = kept (λ z. z.role ≡ Leader) refl refl;
    matched = kept (λ z. length z.matched ≡ servers) (length_replicated servers 0) (length_replicated servers 0);
    next = kept (λ z. length z.next ≡ servers) (length_replicated servers 1) (length_replicated servers 1);
    commit = at_bool (λ b. (servers == 1) ≡ b → ((cond b one more).commit ≡ 1) ⊎ (((cond b one more).commit ≡ 0) × (is_majority servers (has_index (cond b one more) 1) ≡ false))) (servers == 1)
        (λ _ _. inl refl) (λ _ e. inr (refl, short (eq_tells_not servers 1 e))) refl;
  };
  next = λ j p l. kept (λ z. of_server z.next j ≡ 1) (replicated servers 1 j (omega arith) l) (replicated servers 1 j (omega arith) l);
  sent = at_bool (λ b. to_others (cond b one more).id (append_to (cond b one more)) (cond b one more).servers ≡ to_others 1 (append_to (cond b one more)) servers) (servers == 1) (λ _. refl) (λ _. refl);
}
  where
    more : Node
    more = record (leading (as_candidate m servers)) { log = first_log }

    one : Node
    one = record (leading (as_candidate m servers)) { log = first_log; commit = 1 }

    kept : (P : Node → Type 0) → P one → P more → P (cond (servers == 1) one more)
    kept P a b = at_bool (λ c. P (cond c one more)) (servers == 1) (λ _. a) (λ _. b)

    short : servers ≢ 1 → is_majority servers (has_index more 1) ≡ false
    short d = at_bool (λ b. nat_lt servers (2 * count (has_index more 1) servers) ≡ b → b ≡ false) (nat_lt servers (2 * count (has_index more 1) servers))
        (λ _ e. absurd (let l = lt_tells servers (2 * count (has_index more 1) servers) e in let c = itself_alone more servers refl (λ p. at_all (λ z. z ≡ 0) servers 0 p refl refl) in omega arith)) (λ _ _. refl) refl

pub leads_opens : (servers : ℕ) (n : Node) → 0 < servers → n.id ≡ 1 → n.servers ≡ servers → n.term ≡ 1 → n.log ≡ [] → n.commit ≡ 0 → Opens servers (leads n)
leads_opens servers n some i s t l c = subst (λ z. Opens servers (leads z)) is (opens_so n servers some)
  where
    is : as_candidate n servers ≡ n
    is = ap (λ z. record n { id = 1; servers = servers; term = 1; log = []; commit = z }) (sym c)
        ∙ ap (λ z. record n { id = 1; servers = servers; term = 1; log = z }) (sym l)
        ∙ ap (λ z. record n { id = 1; servers = servers; term = z }) (sym t)
        ∙ ap (λ z. record n { id = 1; servers = z }) (sym s)
        ∙ ap (λ z. record n { id = z }) (sym i)

-- the store does not matter
pub reigns_stored : (servers : ℕ) (n : Node) (store : Store) → Reigns servers n → Reigns servers (record n { store = store })
reigns_stored servers n store x = record { id = x.id; servers_are = x.servers_are; term = x.term; log = x.log; role = x.role; matched = x.matched; next = x.next; commit = x.commit }

-- Who wins its election asks all others to follow, and no limit of the bag stops it.
use Rattle.std.proofs.Common.{◌≡◌, ℕ, zero, suc, ◌+◌, ◌*◌, ◌-◌, ◌^◌, ◌<◌, ◌≤◌, ◌⊎◌, inl, inr, true, false, cond, List, [], ◌∷◌, ◌++◌, length, drop, replicate, Some, None, refl, sym, ◌∙◌, ap, subst, arith}
use Rattle.std.specs.Prelude.{nat_le, nat_lt, ◌&&◌, ◌==◌}
use Rattle.std.specs.List.{AllByRecursion as Each}
use Rattle.std.proofs.lemmas.List.{append_assoc, length-append}
use Rattle.cat_model.specs.declared.command.Entry.{Entry}
use Rattle.cat_model.specs.declared.reply.Role.TheVariants.{Follower, Leader}
use Rattle.raft_model.specs.declared.message.Message.{Message}
use Rattle.raft_model.specs.declared.message.Message.TheVariants.{Append}
use Rattle.raft_model.specs.declared.message.Sent.{Sent}
use Rattle.raft_model.specs.Limits.{batch, entries_bytes, is_full}
use Rattle.raft_model.specs.Log.{Log}
use Rattle.raft_model.specs.Node.{Done, Node, of_server, quiet, to_others}
use Rattle.raft_model.specs.Rules.{Receive, append_all, append_to, appended, does, done, leading, leads, noop, of_lower_term, of_own_term, offered, received, risen}
use Rattle.raft_model.specs.World.{Bag, Packet, message_bytes, numbered, packets_bytes, posted, posted_all, takes}
use Rattle.raft_model.proofs.Tests.{and_is, at_bool, eq_tells, le_is, lt_is, lt_tells, no_bool}
use Rattle.cluster_rules.specs.Sound.{IsAmong}
use Rattle.cluster_rules.proofs.Tools.{each_append, eq_tells_not}
use Rattle.rerun_rules.proofs.Bags.{among_last, among_left}
use Rattle.rerun_rules.proofs.Growing.{appended_log}
use Rattle.rerun_rules.proofs.Knowing.{offered_knows}
use Rattle.rerun_rules.proofs.Spreading.{Opens, leads_opens, replicated}
use Rattle.rerun_rules.proofs.Steady.{appended_role}

abbrev pub IsAppend : Message → Type 0
IsAppend (Append term prev prev_term entries commit round) = Unit {0}
IsAppend other = ⊥

-- Messages to all but server 1.
pub others_length : (f : ℕ → Message) (k : ℕ) → length (to_others 1 f k) ≤ k
others_length f zero = omega arith
others_length f (suc k) = at_bool (λ b. length (cond b (to_others 1 f k) (to_others 1 f k ++ record { to = suc k; message = f (suc k) } ∷ [])) ≤ suc k) (suc k == 1)
    (λ _. let n = others_length f k in omega arith) (λ _. let n = others_length f k in omega (arith, length-append (to_others 1 f k) (record { to = suc k; message = f (suc k) } ∷ [])))

pub others_to : (f : ℕ → Message) (j k : ℕ) → 1 < j → j ≤ k → IsAmong (record { to = j; message = f j }) (to_others 1 f k)
others_to f j zero l m = absurd (omega arith)
others_to f j (suc k) l m = at_bool (λ b. (suc k == 1) ≡ b → IsAmong (record { to = j; message = f j }) (cond b (to_others 1 f k) (to_others 1 f k ++ record { to = suc k; message = f (suc k) } ∷ []))) (suc k == 1)
    (λ _ e. absurd (let n = eq_tells (suc k) 1 e in omega arith))
    (λ _ _. at_bool (λ b. (j == suc k) ≡ b → IsAmong (record { to = j; message = f j }) (to_others 1 f k ++ record { to = suc k; message = f (suc k) } ∷ [])) (j == suc k)
    (λ _ e. subst (λ z. IsAmong (record { to = z; message = f z }) (to_others 1 f k ++ record { to = suc k; message = f (suc k) } ∷ [])) (sym (eq_tells j (suc k) e)) (among_last (to_others 1 f k) (record { to = suc k; message = f (suc k) })))
    (λ _ e. among_left (record { to = j; message = f j }) (to_others 1 f k) (record { to = suc k; message = f (suc k) } ∷ []) (others_to f j k l (let n = eq_tells_not j (suc k) e in omega arith))) refl) refl

-- A new leader: what it sends is small, and an Append goes to each other server.
abbrev pub IsSmall : Sent → Type 0
IsSmall s = message_bytes s.message ≤ 1000

pub record Wins (servers term : ℕ) (mine : Log) (d : Done) : Type 0 where
  pub role : d.node.role ≡ Leader
  pub calls : (j : ℕ) → 1 < j → j ≤ servers → (s : Sent) × IsAmong s d.sent × (s.to ≡ j) × IsAppend s.message
  pub small : Each IsSmall d.sent
  pub few : length d.sent ≤ servers
  pub opens : term ≡ 1 → mine ≡ [] → Opens servers d

-- It sends the Noop, or nothing.
drop_whole : (xs ys : Log) → drop (length xs) (xs ++ ys) ≡ ys
drop_whole [] ys = refl
drop_whole (x ∷ xs) ys = drop_whole xs ys

pub others_within : (P : Sent → Type 0) (servers : ℕ) (f : ℕ → Message) → ((j : ℕ) → 1 < j → j ≤ servers → P (record { to = j; message = f j })) → (k : ℕ) → k ≤ servers → Each P (to_others 1 f k)
others_within P servers f x zero l = tt
others_within P servers f x (suc k) l = at_bool (λ b. (suc k == 1) ≡ b → Each P (cond b (to_others 1 f k) (to_others 1 f k ++ record { to = suc k; message = f (suc k) } ∷ []))) (suc k == 1)
    (λ _ _. others_within P servers f x k (omega arith))
    (λ _ e. each_append P (to_others 1 f k) (record { to = suc k; message = f (suc k) } ∷ []) (others_within P servers f x k (omega arith)) (x (suc k) (let n = eq_tells_not (suc k) 1 e in omega arith) l, tt)) refl

small_new : (x term : ℕ) (mine log : Log) → x ≡ length mine + 1 → (log ≡ mine) ⊎ (log ≡ mine ++ noop term ∷ []) → 64 + entries_bytes (batch (drop (x - 1) log)) ≤ 1000
small_new x term mine log e o =
    let at : x - 1 ≡ length mine = omega arith in
    subst (λ z. 64 + entries_bytes (batch (drop z log)) ≤ 1000) (sym at)
    (elim o [
      | inl q ↦ subst (λ (z : Log). 64 + entries_bytes (batch z) ≤ 1000) (sym (ap (drop (length mine)) q ∙ (let n = append_none mine in ap (drop (length mine)) (sym n) ∙ drop_whole mine []))) (omega arith)
      | inr q ↦ subst (λ (z : Log). 64 + entries_bytes (batch z) ≤ 1000) (sym (ap (drop (length mine)) q ∙ drop_whole mine (noop term ∷ []))) (omega arith)
    ])
  where
    append_none : (xs : Log) → xs ++ [] ≡ xs
    append_none [] = refl
    append_none (x ∷ xs) = ap (λ (z : Log). x ∷ z) (append_none xs)

all_wins : (servers term : ℕ) (mine : Log) (m : Node) → m.role ≡ Leader → m.id ≡ 1 → m.servers ≡ servers → m.next ≡ replicate servers (length mine + 1) → (m.log ≡ mine) ⊎ (m.log ≡ mine ++ noop term ∷ []) → (term ≡ 1 → mine ≡ [] → Opens servers (append_all m)) → Wins servers term mine (append_all m)
all_wins servers term mine m r i s n l o =
    let e = ap (λ z. to_others z (append_to m) m.servers) i ∙ ap (to_others 1 (append_to m)) s in
    subst (λ (sent : List Sent). (term ≡ 1 → mine ≡ [] → Opens servers (record { node = m; sent = sent })) → Wins servers term mine (record { node = m; sent = sent })) (sym e)
    (λ o. record {
      role = r;
      calls = λ j p q. (record { to = j; message = append_to m j }, others_to (append_to m) j servers p q, refl, tt);
      small = others_within IsSmall servers (append_to m) (λ j p q. small_new (of_server m.next j) term mine m.log (ap (λ (z : List ℕ). of_server z j) n ∙ replicated servers (length mine + 1) j (omega arith) q) l) servers (omega arith);
      few = others_length (append_to m) servers;
      opens = o;
    }) o

appended_id : (n : Node) (e : Entry) → (appended n e).id ≡ n.id
appended_id n e = at_bool (λ c. (cond c (record n { log = n.log ++ e ∷ []; commit = length (n.log ++ e ∷ []) }) (record n { log = n.log ++ e ∷ [] })).id ≡ n.id) (n.servers == 1) (λ _. refl) (λ _. refl)

appended_servers : (n : Node) (e : Entry) → (appended n e).servers ≡ n.servers
appended_servers n e = at_bool (λ c. (cond c (record n { log = n.log ++ e ∷ []; commit = length (n.log ++ e ∷ []) }) (record n { log = n.log ++ e ∷ [] })).servers ≡ n.servers) (n.servers == 1) (λ _. refl) (λ _. refl)

appended_next : (n : Node) (e : Entry) → (appended n e).next ≡ n.next
appended_next n e = at_bool (λ c. (cond c (record n { log = n.log ++ e ∷ []; commit = length (n.log ++ e ∷ []) }) (record n { log = n.log ++ e ∷ [] })).next ≡ n.next) (n.servers == 1) (λ _. refl) (λ _. refl)

pub leads_wins : (servers term : ℕ) (mine : Log) (n : Node) → 0 < servers → n.id ≡ 1 → n.servers ≡ servers → n.term ≡ term → n.log ≡ mine → n.commit ≡ 0 → Wins servers term mine (leads n)
unfolding leads
leads_wins servers term mine n some i s t l c = at_bool (λ b. (term ≡ 1 → mine ≡ [] → Opens servers (append_all (cond b (leading n) (appended (leading n) (noop n.term))))) → Wins servers term mine (append_all (cond b (leading n) (appended (leading n) (noop n.term))))) (is_full n.log)
    (λ _. all_wins servers term mine (leading n) refl i s next (inl l))
    (λ _. all_wins servers term mine (appended (leading n) (noop n.term)) (appended_role (leading n) (noop n.term)) (appended_id (leading n) (noop n.term) ∙ i) (appended_servers (leading n) (noop n.term) ∙ s) (appended_next (leading n) (noop n.term) ∙ next)
    (inr (appended_log (leading n) (noop n.term) ∙ ap (λ (z : Log). z ++ noop n.term ∷ []) l ∙ ap (λ z. mine ++ noop z ∷ []) t)))
    (λ one none. leads_opens servers n some i s (t ∙ one) (l ∙ none) c)
  where
    next : replicate n.servers (length n.log + 1) ≡ replicate servers (length mine + 1)
    next = ap (λ z. replicate z (length n.log + 1)) s ∙ ap (λ (z : Log). replicate servers (length z + 1)) l

-- The bag. What is in it stays in front.
pub record Behind (bag bag' : Bag) : Type 0 where
  pub more : List Packet
  pub are : bag'.packets ≡ bag.packets ++ more

posted_behind : (from : ℕ) (s : Sent) (bag : Bag) → Behind bag (posted from s bag)
posted_behind from s bag = at_bool (λ b. Behind bag (cond b (record { packets = bag.packets ++ record { number = suc bag.last; from = from; to = s.to; message = s.message } ∷ []; last = suc bag.last }) bag)) (takes bag s.message)
    (λ _. record { more = record { number = suc bag.last; from = from; to = s.to; message = s.message } ∷ []; are = refl })
    (λ _. record { more = []; are = sym (append_none bag.packets) })
  where
    append_none : (xs : List Packet) → xs ++ [] ≡ xs
    append_none [] = refl
    append_none (x ∷ xs) = ap (λ (z : List Packet). x ∷ z) (append_none xs)

pub all_behind : (from : ℕ) (ss : List Sent) (bag : Bag) → Behind bag (posted_all from ss bag)
all_behind from [] bag = record { more = []; are = sym (append_none bag.packets) }
  where
    append_none : (xs : List Packet) → xs ++ [] ≡ xs
    append_none [] = refl
    append_none (x ∷ xs) = ap (λ (z : List Packet). x ∷ z) (append_none xs)
all_behind from (s ∷ ss) bag =
    let x = posted_behind from s bag in let y = all_behind from ss (posted from s bag) in
    record { more = x.more ++ y.more; are = y.are ∙ (ap (λ (z : List Packet). z ++ y.more) x.are ∙ append_assoc bag.packets x.more y.more) }

bytes_append : (ps qs : List Packet) → packets_bytes (ps ++ qs) ≡ packets_bytes ps + packets_bytes qs
bytes_append [] qs = omega arith
bytes_append (p ∷ ps) qs = let k = bytes_append ps qs in omega arith

-- a bag with room for so many small messages
pub record HasRoom (bag : Bag) (n : ℕ) : Type 0 where
  pub count : length bag.packets + n ≤ 4096
  pub bytes : packets_bytes bag.packets + 1000 * n ≤ 67108864
  pub numbers : bag.last + n < 2 ^ 64

-- the bag takes a small message where it has room, and has room for those behind it
pub bag_takes_it : (from : ℕ) (x : Sent) (ss : List Sent) (bag : Bag) → IsSmall x → HasRoom bag (suc (length ss)) →
    (posted from x bag ≡ record { packets = bag.packets ++ record { number = suc bag.last; from = from; to = x.to; message = x.message } ∷ []; last = suc bag.last })
    × HasRoom (record { packets = bag.packets ++ record { number = suc bag.last; from = from; to = x.to; message = x.message } ∷ []; last = suc bag.last }) (length ss)
bag_takes_it from x ss bag a r = (ap (λ b. cond b next bag) taken, room)
  where
    packet : Packet
    packet = record { number = suc bag.last; from = from; to = x.to; message = x.message }

    next : Bag
    next = record { packets = bag.packets ++ packet ∷ []; last = suc bag.last }

    taken : takes bag x.message ≡ true
    taken = let c = r.count in let b = r.bytes in let n = r.numbers in let k = a in
        and_is (nat_lt (length bag.packets) 4096 && nat_le (packets_bytes bag.packets + message_bytes x.message) 67108864) (nat_lt bag.last (2 ^ 64 - 1))
        (and_is (nat_lt (length bag.packets) 4096) (nat_le (packets_bytes bag.packets + message_bytes x.message) 67108864) (lt_is (length bag.packets) 4096 (omega arith)) (le_is (packets_bytes bag.packets + message_bytes x.message) 67108864 (omega arith)))
        (lt_is bag.last (2 ^ 64 - 1) (omega arith))

    room : HasRoom next (length ss)
    room = record {
      count = let c = r.count in omega (arith, length-append bag.packets (packet ∷ []));
      bytes = let b = r.bytes in let k = a in let z = bytes_append bag.packets (packet ∷ []) in omega arith;
      numbers = let n = r.numbers in omega arith;
    }

pub all_posted_in : (from : ℕ) (ss : List Sent) (bag : Bag) → Each IsSmall ss → HasRoom bag (length ss) → (s : Sent) → IsAmong s ss → (p : Packet) × IsAmong p (posted_all from ss bag).packets × (p.to ≡ s.to) × (p.message ≡ s.message)
all_posted_in from [] bag a r s m = absurd m
all_posted_in from (x ∷ ss) bag a r s m = subst (λ (b : Bag). (p : Packet) × IsAmong p (posted_all from ss b).packets × (p.to ≡ s.to) × (p.message ≡ s.message)) (sym takes_it.0)
    (elim m [ inl e ↦ itself e | inr z ↦ all_posted_in from ss next a.1 takes_it.1 s z ])
  where
    packet : Packet
    packet = record { number = suc bag.last; from = from; to = x.to; message = x.message }

    next : Bag
    next = record { packets = bag.packets ++ packet ∷ []; last = suc bag.last }

    takes_it : (posted from x bag ≡ next) × HasRoom next (length ss)
    takes_it = bag_takes_it from x ss bag a.0 r

    itself : s ≡ x → (p : Packet) × IsAmong p (posted_all from ss next).packets × (p.to ≡ s.to) × (p.message ≡ s.message)
    itself e =
        let z = all_behind from ss next in
        (packet, subst (IsAmong packet) (sym z.are) (among_left packet (bag.packets ++ packet ∷ []) z.more (among_last bag.packets packet)), ap (λ (q : Sent). q.to) (sym e), ap (λ (q : Sent). q.message) (sym e))

pub numbered_then : (k : ℕ) (ps qs : List Packet) (p : Packet) → numbered k ps ≡ Some p → numbered k (ps ++ qs) ≡ Some p
numbered_then k [] qs p e = absurd (cc e)
numbered_then k (x ∷ ps) qs p e = at_bool (λ b. cond b (Some x) (numbered k ps) ≡ Some p → cond b (Some x) (numbered k (ps ++ qs)) ≡ Some p) (x.number == k) (λ _ e. e) (λ _ e. numbered_then k ps qs p e) e

-- A follower that is sent an Append of no lower term follows its sender.
received_led : (n : Node) (from term prev prev_term : ℕ) (entries : Log) (commit round : ℕ) → n.role ≡ Follower → n.term ≤ term → (received n from (Append term prev prev_term entries commit round)).node.leader ≡ Some from
unfolding received of_own_term
received_led n from term prev prev_term entries commit round f l =
    at_bool (λ c. nat_lt term n.term ≡ c → (cond c (of_lower_term n from (Append term prev prev_term entries commit round)) (offered (risen n term) (risen n term).role from prev prev_term entries commit round)).node.leader ≡ Some from) (nat_lt term n.term)
    (λ _ e. absurd (let k = lt_tells term n.term e in omega arith))
    (λ _ _. at_bool (λ b. (offered (cond b (record n { term = term; vote = None; role = Follower; leader = None }) n) (cond b (record n { term = term; vote = None; role = Follower; leader = None }) n).role from prev prev_term entries commit round).node.leader ≡ Some from) (nat_lt n.term term)
    (λ _. (offered_knows (record n { term = term; vote = None; role = Follower; leader = None }) Follower from prev prev_term entries commit round refl).0)
    (λ _. (offered_knows n n.role from prev prev_term entries commit round f).0)) refl

pub done_led : (n : Node) (from term prev prev_term : ℕ) (entries : Log) (commit round : ℕ) → n.halted ≡ false → n.role ≡ Follower → n.term ≤ term → (done n (Receive from (Append term prev prev_term entries commit round))).node.leader ≡ Some from
unfolding done does
done_led n from term prev prev_term entries commit round up f l = at_bool (λ c. n.halted ≡ c → (cond c (quiet n) (received n from (Append term prev prev_term entries commit round))).node.leader ≡ Some from) n.halted
    (λ _ e. absurd (no_bool n.halted e up)) (λ _ _. received_led n from term prev prev_term entries commit round f l) refl

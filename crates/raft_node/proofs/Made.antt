-- What becomes of a planned step, as the store's calls go.
use Rattle.std.proofs.Common.{◌≡◌, ◌+◌, ◌-◌, ◌≤◌, Bool, true, false, ◌⊎◌, inl, inr, [], ◌++◌, length, take, Option, Some, None, refl, sym, ◌∙◌, ap, subst, arith}
use Rattle.std.specs.Option.{ForSome}
use Rattle.cat_model.specs.Keeping.{with_entries}
use Rattle.cat_model.specs.LogLimits.{keeps_limits}
use Rattle.cat_model.specs.declared.reply.Role.TheVariants.{Follower}
use Rattle.outside.specs.Keepers.{MayStore}
use Rattle.raft_model.specs.Log.{Log}
use Rattle.raft_model.specs.Node.{Kept, Store, Node}
use Rattle.raft_model.specs.Step.{CallWorks, CallFails, VoteSaved, changed, with_log, with_vote}
use Rattle.raft_model.specs.declared.message.Sent.{Sent}
use Rattle.raft_node.specs.Counts.{IsCount}
use Rattle.raft_node.specs.Nodes.{HoldsLog, IsKept, MayReplace, seen}
use Rattle.raft_node.specs.Steps.{IsFailed, IsStored, Makes, Remains, VoteFailed, VoteKept}
use Rattle.raft_node.specs.declared.counted.Counted.{Counted}
use Rattle.raft_node.specs.declared.state.State.{State}
use Rattle.raft_node.specs.declared.state.Tail.{Tail}
use Rattle.std.proofs.Common.{List}

-- a state after a failed call
abbrev pub halted_of : State → State
halted_of state = record state { role = Follower; leader = None; halted = true }

-- what holds of a store's contents after a change of them
told_after : (P Q : Kept → Type 0) (change : Kept → Kept) (held now : Option Kept) → ForSome held P → ((k : Kept) → P k → Q (change k)) → now ≡ changed change held → ForSome now Q
told_after P Q change None now h f e = λ kept q. cc (e, q)
told_after P Q change (Some k) now h f e = λ kept q. subst Q (inside (sym e ∙ q)) (f k (h k refl))
  where
    inside : {x y : Kept} → Some x ≡ Some y → x ≡ y
    inside q = cc q

told_same : (P Q : Kept → Type 0) (held now : Option Kept) → ForSome held P → ((k : Kept) → P k → Q k) → now ≡ held → ForSome now Q
told_same P Q held now h f e = λ kept q. f kept (h kept (sym e ∙ q))

told_maybe : (P Q : Kept → Type 0) (change : Kept → Kept) (held now : Option Kept) → ForSome held P → ((k : Kept) → P k → Q k) → ((k : Kept) → P k → Q (change k)) →
    (now ≡ held) ⊎ (now ≡ changed change held) → ForSome now Q
told_maybe P Q change held now h f g (inl e) = told_same P Q held now h f e
told_maybe P Q change held now h f g (inr e) = told_after P Q change held now h g e

-- of a running node the store tells the log, before and after its vote is saved
vote_told : (st st' : State) (log : Log) (saved : Bool) (before now : Store) → st.halted ≡ false → ForSome before.contents (HoldsLog st log) → VoteKept saved st st' before now →
    ForSome now.contents (HoldsLog st log)
vote_told st st' log true before now r h v = told_after (HoldsLog st log) (HoldsLog st log) (with_vote st'.term st'.vote) before.contents now.contents h (λ k p. record { limits = p.limits; same = p.same }) v.1.contents
vote_told st st' log false before now r h v = told_same (HoldsLog st log) (HoldsLog st log) before.contents now.contents h (λ k p. p) (ap (λ (s : Store). s.contents) v.1)

told_halts : (st : State) (log : Log) (k : Kept) → HoldsLog st log k → HoldsLog (halted_of st) log k
told_halts st log k p = record { limits = p.limits; same = λ q. absurd (cc q) }

told_runs : (st st' : State) (log : Log) (k : Kept) → st.halted ≡ false → HoldsLog st log k → HoldsLog st' log k
told_runs st st' log k r p = record { limits = p.limits; same = λ _. p.same r }

-- the node that saved its vote alone
pub vote_made : (s s' : Store) (st st' : State) (log : Log) (sent : List Sent) (saved : Bool) → VoteKept saved st st' s s' →
    Makes (seen s st log) (record { node = seen s st' log; sent = sent }) (seen s' st' log) sent
vote_made s s' st st' log sent true v = inl (s', inr (v.0, v.1), inl (refl, refl), refl, refl)
vote_made s s' st st' log sent false v = inl (s', inl (v.0, v.1), inl (refl, refl), refl, refl)

pub vote_halts : (s s' : Store) (st st' : State) (log : Log) (sent : List Sent) → VoteFailed st st' s s' →
    Makes (seen s st log) (record { node = seen s st' log; sent = sent }) (seen s' (halted_of st) log) []
vote_halts s s' st st' log sent v = inr (inl (v.0, v.1, refl, refl))

pub vote_keeps : (s s' : Store) (st st' : State) (log : Log) (count : Counted) (saved : Bool) → st.halted ≡ false → st'.halted ≡ false → st'.commit ≤ length log →
    IsKept s.contents st log count → VoteKept saved st st' s s' → IsKept s'.contents st' log count
vote_keeps s s' st st' log count saved r r' l k v = record {
  commit = l;
  halted = λ q. absurd (cc (q, r'));
  store = λ kept e. told_runs st st' log kept r (vote_told st st' log saved s s' r k.store v kept e);
  counted = k.counted;
}

halts_with : (s s' : Store) (st : State) (log : Log) (count : Counted) → IsKept s.contents st log count → ForSome s'.contents (HoldsLog (halted_of st) log) → IsKept s'.contents (halted_of st) log count
halts_with s s' st log count k h = record { commit = k.commit; halted = λ _. refl; store = h; counted = k.counted }

pub vote_halts_kept : (s s' : Store) (st st' : State) (log : Log) (count : Counted) → IsKept s.contents st log count → VoteFailed st st' s s' → IsKept s'.contents (halted_of st) log count
vote_halts_kept s s' st st' log count k v = halts_with s s' st log count k
    (told_maybe (HoldsLog st log) (HoldsLog (halted_of st) log) (with_vote st'.term st'.vote) s.contents s'.contents k.store (told_halts st log)
    (λ q p. record { limits = p.limits; same = λ e. absurd (cc e) }) v.1.contents)

-- what a running node asks of its store
pub may_store : (held : Option Kept) (st : State) (log : Log) (tail : Tail) → st.halted ≡ false → ForSome held (HoldsLog st log) → MayReplace log tail → ForSome held (MayStore (tail.keep + 1) tail.entries)
may_store held st log tail r h m = λ k e. let p = h k e in let same = p.same r in
    record {
      from = omega arith;
      no_gap = omega (arith, m.within, ap length same);
      limits = subst (λ (z : Log). keeps_limits (z ++ tail.entries) ≡ true) (sym (front k.log same)) (m.limits (subst (λ (z : Log). keeps_limits z ≡ true) same p.limits));
    }
  where
    front : (x : Log) → x ≡ log → take (tail.keep + 1 - 1) x ≡ take tail.keep log
    front x e = let q : tail.keep + 1 - 1 ≡ tail.keep = omega arith in ap (λ n. take n x) q ∙ ap (take tail.keep) e

-- the log that then stands
tail_log : (log : Log) (tail : Tail) (k : Kept) → k.log ≡ log → with_entries (tail.keep + 1) tail.entries k ≡ with_log (take tail.keep log ++ tail.entries) k
tail_log log tail k e = let q : tail.keep + 1 - 1 ≡ tail.keep = omega arith in ap (λ (z : Log). record k { log = z ++ tail.entries }) (ap (λ n. take n k.log) q ∙ ap (take tail.keep) e)

tail_told : (st : State) (log : Log) (tail : Tail) (held : Option Kept) → st.halted ≡ false → ForSome held (HoldsLog st log) →
    changed (with_entries (tail.keep + 1) tail.entries) held ≡ changed (with_log (take tail.keep log ++ tail.entries)) held
tail_told st log tail None r h = refl
tail_told st log tail (Some k) r h = ap (λ (z : Kept). Some z) (tail_log log tail k ((h k refl).same r))

tail_works : (st : State) (log : Log) (tail : Tail) (s s' : Store) → st.halted ≡ false → ForSome s.contents (HoldsLog st log) → CallWorks (with_entries (tail.keep + 1) tail.entries) s s' →
    CallWorks (with_log (take tail.keep log ++ tail.entries)) s s'
tail_works st log tail s s' r h c = record { unarmed = c.unarmed; armed = c.armed; faults = c.faults; contents = c.contents ∙ tail_told st log tail s.contents r h; sure = c.sure }

tail_fails : (st : State) (log : Log) (tail : Tail) (s s' : Store) → st.halted ≡ false → ForSome s.contents (HoldsLog st log) → CallFails (with_entries (tail.keep + 1) tail.entries) s s' →
    CallFails (with_log (take tail.keep log ++ tail.entries)) s s'
tail_fails st log tail s s' r h c = record { armed = c.armed; faults = c.faults; contents = go c.contents; sure = c.sure; asked = c.asked }
  where
    go : (s'.contents ≡ s.contents) ⊎ (s'.contents ≡ changed (with_entries (tail.keep + 1) tail.entries) s.contents) →
        (s'.contents ≡ s.contents) ⊎ (s'.contents ≡ changed (with_log (take tail.keep log ++ tail.entries)) s.contents)
    go (inl e) = inl e
    go (inr e) = inr (e ∙ tail_told st log tail s.contents r h)

vote_is_saved : (st st' : State) (x y : Log) (s t s' : Store) (saved : Bool) → VoteKept saved st st' s t → VoteSaved (seen s st x) (seen s' st' y) s t
vote_is_saved st st' x y s t s' true v = inr (v.0, v.1)
vote_is_saved st st' x y s t s' false v = inl (v.0, v.1)

-- the node that saved its vote where it changed, and stored its log
pub log_made : (s s' : Store) (st st' : State) (log : Log) (tail : Tail) (sent : List Sent) → st.halted ≡ false → ForSome s.contents (HoldsLog st log) → MayReplace log tail →
    IsStored st st' tail.keep tail.entries s s' →
    Makes (seen s st log) (record { node = seen s st' (take tail.keep log ++ tail.entries); sent = sent }) (seen s' st' (take tail.keep log ++ tail.entries)) sent
log_made s s' st st' log tail sent r h m (saved, between, v, w) =
    inl (
      between,
      vote_is_saved st st' log (take tail.keep log ++ tail.entries) s between s saved v,
      inr (m.changes, tail_works st log tail between s' r (vote_told st st' log saved s between r h v) w),
      refl,
      refl,
    )

pub log_halts : (s s' : Store) (st st' : State) (log : Log) (tail : Tail) (sent : List Sent) → st.halted ≡ false → ForSome s.contents (HoldsLog st log) → MayReplace log tail →
    IsFailed st st' tail.keep tail.entries s s' →
    Makes (seen s st log) (record { node = seen s st' (take tail.keep log ++ tail.entries); sent = sent }) (seen s' (halted_of st) log) []
log_halts s s' st st' log tail sent r h m (inl v) = inr (inl (v.0, v.1, refl, refl))
log_halts s s' st st' log tail sent r h m (inr (saved, between, v, w)) =
    inr (inr (
      between,
      vote_is_saved st st' log (take tail.keep log ++ tail.entries) s between s saved v,
      m.changes,
      tail_fails st log tail between s' r (vote_told st st' log saved s between r h v) w,
      refl,
      refl,
    ))

pub log_forgets : (s s' : Store) (st st' : State) (log : Log) (tail : Tail) (sent : List Sent) → MayReplace log tail → VoteKept true st st' s s' →
    Remains (seen s st log) (record { node = seen s st' (take tail.keep log ++ tail.entries); sent = sent })
    (seen s' (record st { term = st'.term; vote = st'.vote; role = Follower; leader = None }) log)
log_forgets s s' st st' log tail sent m v = inr (v.0, v.1, m.changes, refl, refl)

-- what then always holds
tail_held : (st st' : State) (log : Log) (tail : Tail) (k : Kept) → st.halted ≡ false → MayReplace log tail → HoldsLog st log k → HoldsLog st' (take tail.keep log ++ tail.entries) (with_entries (tail.keep + 1) tail.entries k)
tail_held st st' log tail k r m p =
    let e = ap (λ (z : Kept). z.log) (tail_log log tail k (p.same r)) in
    record {
      limits = subst (λ (z : Log). keeps_limits z ≡ true) (sym e) (m.limits (subst (λ (z : Log). keeps_limits z ≡ true) (p.same r) p.limits));
      same = λ _. e;
    }

pub log_keeps : (s s' : Store) (st st' : State) (log : Log) (tail : Tail) (count count' : Counted) → st.halted ≡ false → st'.halted ≡ false → st'.commit ≤ length (take tail.keep log ++ tail.entries) →
    MayReplace log tail → IsKept s.contents st log count → IsCount (take tail.keep log ++ tail.entries) count' → IsStored st st' tail.keep tail.entries s s' →
    IsKept s'.contents st' (take tail.keep log ++ tail.entries) count'
log_keeps s s' st st' log tail count count' r r' l m k c (saved, between, v, w) = record {
  commit = l;
  halted = λ q. absurd (cc (q, r'));
  store = told_after (HoldsLog st log) (HoldsLog st' (take tail.keep log ++ tail.entries)) (with_entries (tail.keep + 1) tail.entries) between.contents s'.contents
      (vote_told st st' log saved s between r k.store v) (λ q. tail_held st st' log tail q r m) w.contents;
  counted = c;
}

pub log_halts_kept : (s s' : Store) (st st' : State) (log : Log) (tail : Tail) (count : Counted) → st.halted ≡ false → MayReplace log tail → IsKept s.contents st log count →
    IsFailed st st' tail.keep tail.entries s s' → IsKept s'.contents (halted_of st) log count
log_halts_kept s s' st st' log tail count r m k (inl v) = vote_halts_kept s s' st st' log count k v
log_halts_kept s s' st st' log tail count r m k (inr (saved, between, v, w)) = halts_with s s' st log count k
    (told_maybe (HoldsLog st log) (HoldsLog (halted_of st) log) (with_entries (tail.keep + 1) tail.entries) between.contents s'.contents (vote_told st st' log saved s between r k.store v)
    (told_halts st log) (λ q p. record { limits = (tail_held st st log tail q r m p).limits; same = λ e. absurd (cc e) }) w.contents)

pub forgets_kept : (s s' : Store) (st st' : State) (log : Log) (count : Counted) → st.halted ≡ false → IsKept s.contents st log count → VoteKept true st st' s s' →
    IsKept s'.contents (record st { term = st'.term; vote = st'.vote; role = Follower; leader = None }) log count
forgets_kept s s' st st' log count r k v = record {
  commit = k.commit;
  halted = λ _. refl;
  store = λ kept e. told_runs st (record st { term = st'.term; vote = st'.vote; role = Follower; leader = None }) log kept r (vote_told st st' log true s s' r k.store v kept e);
  counted = k.counted;
}

-- the same of a node that is those parts, and of what is only equal
pub log_makes : (n : Node) (s s' : Store) (st st' : State) (log log' : Log) (tail : Tail) (sent : List Sent) → seen s st log ≡ n → st.halted ≡ false → ForSome s.contents (HoldsLog st log) → MayReplace n.log tail →
    log' ≡ take tail.keep log ++ tail.entries → IsStored st st' tail.keep tail.entries s s' →
    Makes n (record { node = seen n.store st' (take tail.keep n.log ++ tail.entries); sent = sent }) (seen s' st' log') sent
log_makes n s s' st st' log log' tail sent e r h m l i =
    subst (λ (x : Node). MayReplace x.log tail → Makes x (record { node = seen x.store st' (take tail.keep x.log ++ tail.entries); sent = sent }) (seen s' st' log') sent) e
    (λ m. subst (λ (z : Log). Makes (seen s st log) (record { node = seen s st' (take tail.keep log ++ tail.entries); sent = sent }) (seen s' st' z) sent) (sym l) (log_made s s' st st' log tail sent r h m i)) m

pub log_fails : (n : Node) (s s' : Store) (st st' new : State) (log log' : Log) (tail : Tail) (sent out : List Sent) → seen s st log ≡ n → st.halted ≡ false → ForSome s.contents (HoldsLog st log) → MayReplace n.log tail →
    log' ≡ log → new ≡ halted_of st → out ≡ [] → IsFailed st st' tail.keep tail.entries s s' →
    Makes n (record { node = seen n.store st' (take tail.keep n.log ++ tail.entries); sent = sent }) (seen s' new log') out
log_fails n s s' st st' new log log' tail sent out e r h m l a o i =
    subst (λ (x : Node). MayReplace x.log tail → Makes x (record { node = seen x.store st' (take tail.keep x.log ++ tail.entries); sent = sent }) (seen s' new log') out) e
    (λ m. subst (λ (z : Log). Makes (seen s st log) (record { node = seen s st' (take tail.keep log ++ tail.entries); sent = sent }) (seen s' new z) out) (sym l)
    (subst (λ (z : State). Makes (seen s st log) (record { node = seen s st' (take tail.keep log ++ tail.entries); sent = sent }) (seen s' z log) out) (sym a)
    (subst (λ (z : List Sent). Makes (seen s st log) (record { node = seen s st' (take tail.keep log ++ tail.entries); sent = sent }) (seen s' (halted_of st) log) z) (sym o)
    (log_halts s s' st st' log tail sent r h m i)))) m

pub log_saves_vote : (n : Node) (s s' : Store) (st st' new : State) (log log' : Log) (tail : Tail) (sent : List Sent) → seen s st log ≡ n → MayReplace n.log tail →
    log' ≡ log → new ≡ record st { term = st'.term; vote = st'.vote; role = Follower; leader = None } → VoteKept true st st' s s' →
    Remains n (record { node = seen n.store st' (take tail.keep n.log ++ tail.entries); sent = sent }) (seen s' new log')
log_saves_vote n s s' st st' new log log' tail sent e m l a v =
    subst (λ (x : Node). MayReplace x.log tail → Remains x (record { node = seen x.store st' (take tail.keep x.log ++ tail.entries); sent = sent }) (seen s' new log')) e
    (λ m. subst (λ (z : Log). Remains (seen s st log) (record { node = seen s st' (take tail.keep log ++ tail.entries); sent = sent }) (seen s' new z)) (sym l)
    (subst (λ (z : State). Remains (seen s st log) (record { node = seen s st' (take tail.keep log ++ tail.entries); sent = sent }) (seen s' z log)) (sym a)
    (log_forgets s s' st st' log tail sent m v))) m

-- another state that runs alike, over the same log and store
pub kept_same : (held : Option Kept) (st st' : State) (log : Log) (count : Counted) → st'.commit ≡ st.commit → st'.halted ≡ st.halted → st'.role ≡ st.role → IsKept held st log count → IsKept held st' log count
kept_same held st st' log count c h r k = record {
  commit = omega (arith, c, k.commit);
  halted = λ q. r ∙ k.halted (sym h ∙ q);
  store = λ kept e. record { limits = (k.store kept e).limits; same = λ q. (k.store kept e).same (sym h ∙ q) };
  counted = k.counted;
}

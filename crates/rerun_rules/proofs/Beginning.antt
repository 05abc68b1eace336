-- Over reliable stores of which server 1's is foremost, server 1 is ahead from the beginning on.
use Rattle.std.proofs.Common.{◌≡◌, ◌≢◌, ℕ, zero, suc, ◌<◌, ◌≤◌, inl, inr, true, List, [], ◌∷◌, length, get_or, refl, sym, ◌∙◌, ap, subst, arith, None, Some}
use Rattle.cat_model.specs.declared.reply.Role.TheVariants.{Follower, Leader}
use Rattle.cat_model.specs.Role.{leads as is_leading}
use Rattle.raft_model.specs.Node.{Kept, Node, Store}
use Rattle.raft_model.specs.Step.{Starts, as_before}
use Rattle.raft_model.specs.World.{AreEmpty, Bag, Begins, StartAll, World, nothing_kept}
use Rattle.raft_model.proofs.Moving.{reads_told}
use Rattle.raft_model.proofs.Tests.{at_bool, eq_tells}
use Rattle.std.specs.Prelude.{not, ◌&&◌, ◌==◌}
use Rattle.cluster_rules.specs.Cluster.{Cluster, no_node, node_of, runs_leading}
use Rattle.cluster_rules.specs.Reached.{AreSure, AreUnarmed, IsBegun}
use Rattle.cluster_rules.proofs.Boundary.{leading_tells}
use Rattle.cluster_rules.proofs.Tools.{eq_tells_not, is_node, is_place, there_or_none}
use Rattle.run_rules.specs.Serving.{Serves, Size}
use Rattle.rerun_rules.specs.Leading.{HoldBehind, HoldUpTo, IsAheadBy, IsForemost, OnlyFirstLeads, WasAt}
use Rattle.rerun_rules.proofs.Ahead.{AreAllFirsts, AreBelow, HoldsFirst, IsAhead, IsWell, call_works}
use Rattle.rerun_rules.proofs.Serving.{run_ahead, run_since}

-- a server that starts
start_well : (id servers : ℕ) (s : Store) (n : Node) → Starts id servers s n → s.sure ≡ true → s.armed ≡ 0 → IsWell n
start_well id servers s n (kept, c, reads, e) sure unarmed = record { runs = ap (λ (z : Node). z.halted) e; store = call_works as_before s n.store c (sure, unarmed) }

start_role : (id servers : ℕ) (s : Store) (n : Node) → Starts id servers s n → n.role ≡ Follower
start_role id servers s n (kept, c, reads, e) = ap (λ (z : Node). z.role) e

start_leader : (id servers : ℕ) (s : Store) (n : Node) → Starts id servers s n → n.leader ≡ None
start_leader id servers s n (kept, c, reads, e) = ap (λ (z : Node). z.leader) e

start_term : (id servers : ℕ) (s : Store) (n : Node) → Starts id servers s n → (kept : Kept) → s.contents ≡ Some kept → n.term ≡ kept.term
start_term id servers s n (read, c, reads, e) kept told = ap (λ (z : Node). z.term) e ∙ ap (λ (k : Kept). k.term) (reads_told s kept read told reads)

-- all of them
all_well : (servers id : ℕ) (ss : List Store) (ns : List Node) → StartAll servers id ss ns → AreSure ss → AreUnarmed ss → (j : ℕ) → j < length ns → IsWell (get_or ns j no_node)
all_well servers id [] [] a s u j l = absurd (omega arith)
all_well servers id [] (n ∷ ns) a s u j l = absurd a
all_well servers id (x ∷ ss) [] a s u j l = absurd a
all_well servers id (x ∷ ss) (n ∷ ns) a s u zero l = start_well id servers x n a.0 s.0 u.0
all_well servers id (x ∷ ss) (n ∷ ns) a s u (suc j) l = all_well servers (suc id) ss ns a.1 s.1 u.1 j (omega arith)

all_leaderless : (servers id : ℕ) (ss : List Store) (ns : List Node) → StartAll servers id ss ns → (j : ℕ) → j < length ns → (get_or ns j no_node).leader ≡ None
all_leaderless servers id [] [] a j l = absurd (omega arith)
all_leaderless servers id [] (n ∷ ns) a j l = absurd a
all_leaderless servers id (x ∷ ss) [] a j l = absurd a
all_leaderless servers id (x ∷ ss) (n ∷ ns) a zero l = start_leader id servers x n a.0
all_leaderless servers id (x ∷ ss) (n ∷ ns) a (suc j) l = all_leaderless servers (suc id) ss ns a.1 j (omega arith)

all_behind : (servers id t : ℕ) (ss : List Store) (ns : List Node) → StartAll servers id ss ns → HoldUpTo t ss → (j : ℕ) → j < length ns → ((get_or ns j no_node).role ≡ Follower) × ((get_or ns j no_node).term ≤ t)
all_behind servers id t [] [] a h j l = absurd (omega arith)
all_behind servers id t [] (n ∷ ns) a h j l = absurd a
all_behind servers id t (x ∷ ss) [] a h j l = absurd a
all_behind servers id t (x ∷ ss) (n ∷ ns) a ((kept, told, under), more) zero l = (start_role id servers x n a.0, let k = start_term id servers x n a.0 kept told in omega arith)
all_behind servers id t (x ∷ ss) (n ∷ ns) a h (suc j) l = all_behind servers (suc id) t ss ns a.1 h.1 j (omega arith)

others_behind : (servers : ℕ) (ss : List Store) (ns : List Node) → StartAll servers 1 ss ns → IsForemost ss → (j : ℕ) → j < length ns → j ≢ 0 → ((get_or ns j no_node).role ≡ Follower) × ((get_or ns j no_node).term ≤ (get_or ns 0 no_node).term)
others_behind servers [] [] a f j l d = absurd (omega arith)
others_behind servers [] (n ∷ ns) a f j l d = absurd a
others_behind servers (x ∷ ss) [] a f j l d = absurd a
others_behind servers (x ∷ ss) (n ∷ ns) a f zero l d = absurd (d refl)
others_behind servers (x ∷ ss) (n ∷ ns) a (kept, told, h) (suc j) l d =
    all_behind servers 2 n.term ss ns a.1 (subst (λ t. HoldUpTo t ss) (sym (start_term 1 servers x n a.0 kept told)) h) j (omega arith)

begins_ahead : (ss : List Store) (w : World) → Begins ss w → AreSure ss → AreUnarmed ss → IsForemost ss → IsAhead w
begins_ahead ss w b s u f = record {
  well = well;
  follow = follow;
  told = subst (λ (z : Bag). AreBelow (node_of w 1).term z.packets) (sym b.bag) tt;
  appends = subst (λ (z : Bag). AreAllFirsts (node_of w 1) z.packets) (sym b.bag) tt;
  led = led;
}
  where
    led : (i : ℕ) → 0 < i → i ≤ length w.nodes → i ≢ 1 → HoldsFirst (node_of w 1) (node_of w i)
    led zero p l d = absurd (omega arith)
    led (suc j) p l d = inl (all_leaderless (length ss) 1 ss w.nodes b.nodes j (omega arith))

    well : (i : ℕ) → 0 < i → i ≤ length w.nodes → IsWell (node_of w i)
    well zero p l = absurd (omega arith)
    well (suc j) p l = all_well (length ss) 1 ss w.nodes b.nodes s u j (omega arith)

    follow : (i : ℕ) → 0 < i → i ≤ length w.nodes → i ≢ 1 → ((node_of w i).role ≡ Follower) × ((node_of w i).term ≤ (node_of w 1).term)
    follow zero p l d = absurd (omega arith)
    follow (suc j) p l d = others_behind (length ss) ss w.nodes b.nodes f j (omega arith) (λ e. d (ap suc e))

pub start_ahead : (ss : List Store) (c : Cluster) → IsBegun ss c → AreSure ss → IsForemost ss → IsAhead c.world
start_ahead ss c b s f = subst (λ (z : Cluster). IsAhead z.world) (sym b.is) (begins_ahead ss b.world b.begins s b.unarmed f)

-- what it is to be ahead, told of servers that are there
only_first : (w : World) → IsAhead w → OnlyFirstLeads w
only_first w a = record {
  run = λ i n at. let p = is_place w i n at in ap (λ (z : Node). z.halted) (sym (is_node w i n at)) ∙ (a.well i p.0 p.1).runs;
  follow = λ i n at d. let p = is_place w i n at in ap (λ (z : Node). z.role) (sym (is_node w i n at)) ∙ (a.follow i p.0 p.1 d).0;
  terms = λ i n at. at_bool (λ b. (i == 1) ≡ b → n.term ≤ (node_of w 1).term) (i == 1)
      (λ _ e. let q = ap (λ z. (node_of w z).term) (eq_tells i 1 e) in let k = ap (λ (z : Node). z.term) (is_node w i n at) in omega arith)
      (λ _ e. let p = is_place w i n at in let k = ap (λ (z : Node). z.term) (is_node w i n at) in let l = (a.follow i p.0 p.1 (eq_tells_not i 1 e)).1 in omega arith) refl;
  messages = a.told;
}

pub only_first_leads : (size : Size) (c : Cluster) → AreSure size.stores → IsForemost size.stores → Serves size c → OnlyFirstLeads c.world
only_first_leads size c sure first s = only_first c.world (run_ahead s.start s.whole s.moves c s.reached s.serving (start_ahead size.stores s.start s.begins sure first))

-- a leader that is there runs
pub runs_on : (w : World) → IsAhead w → (node_of w 1).role ≡ Leader → runs_leading w 1 ≡ true
runs_on w a r = elim (there_or_none w 1) [
  | inl n ↦ absurd (let k = ap (λ (z : Node). z.role) n in cc (k, r))
  | inr at ↦ let p = is_place w 1 (node_of w 1) at in
      ap (λ b. not b && is_leading (node_of w 1).role) (a.well 1 p.0 p.1).runs ∙ ap is_leading r
]

pub leads_on : (size : Size) (c earlier : Cluster) (s : Serves size c) → AreSure size.stores → IsForemost size.stores → WasAt earlier s.reached → runs_leading earlier.world 1 ≡ true →
    (runs_leading c.world 1 ≡ true) × ((node_of c.world 1).term ≡ (node_of earlier.world 1).term)
leads_on size c earlier s sure first was lead =
    let x = run_since s.start s.whole s.moves c s.reached s.serving (start_ahead size.stores s.start s.begins sure first) earlier was in
    let o = x.on (leading_tells earlier.world 1 lead).1 in
    (runs_on c.world x.ahead o.0, o.1)

-- Empty stores hold term 0.
empty_up : (ss : List Store) → AreEmpty ss → HoldUpTo 0 ss
empty_up [] e = tt
empty_up (s ∷ ss) e = ((nothing_kept, e.0, omega arith), empty_up ss e.1)

pub empty_foremost : (ss : List Store) → AreEmpty ss → IsForemost ss
empty_foremost [] e = tt
empty_foremost (s ∷ ss) e = (nothing_kept, e.0, empty_up ss e.1)

-- A server that is ahead in both, its term and its log, is so in its term.
behind_up : (first : Kept) (ss : List Store) → HoldBehind first ss → HoldUpTo first.term ss
behind_up first [] h = tt
behind_up first (s ∷ ss) ((kept, told, low, log), more) = ((kept, told, low), behind_up first ss more)

pub ahead_foremost : (ss : List Store) (first : Kept) → IsAheadBy first ss → IsForemost ss
ahead_foremost [] first a = tt
ahead_foremost (s ∷ ss) first a = (first, a.0, behind_up first ss a.1)

empty_behind : (ss : List Store) → AreEmpty ss → HoldBehind nothing_kept ss
empty_behind [] e = tt
empty_behind (s ∷ ss) e = ((nothing_kept, e.0, omega arith, (omega arith, λ _. omega arith)), empty_behind ss e.1)

pub empty_ahead : (ss : List Store) → AreEmpty ss → IsAheadBy nothing_kept ss
empty_ahead [] e = tt
empty_ahead (s ∷ ss) e = (e.0, empty_behind ss e.1)

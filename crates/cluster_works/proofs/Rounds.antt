-- Where the first round of a line is not past, none of them is.
use Rattle.std.proofs.Common.{◌≡◌, ◌⊎◌, inl, inr, ℕ, ◌<◌, ◌≤◌, ◌==◌, ◌&&◌, ◌||◌, nat_le, nat_lt, Bool, true, false, List, [], refl, sym, ap, ◌∙◌, subst, arith}
use Rattle.std.proofs.lemmas.Bool.Decides.{nat_tests}
use Rattle.std.proofs.lemmas.List.Elements.{All-contains, All-from_recursion}
use Rattle.std.specs.Prelude.{Contains, ◌*◌}
use Rattle.std.specs.List.{AllByRecursion as Each}
use Rattle.raft_model.proofs.Agreement.{majority_more}
use Rattle.raft_model.proofs.Tests.{le_is, le_tells, lt_is, lt_tells, or_false}
use Rattle.raft_model.specs.Node.{Node, of_server}
use Rattle.raft_model.specs.Quorum.{count, is_majority}
use Rattle.raft_model.specs.Rules.{has_round, is_confirmed, is_leader}
use Rattle.read_watch.specs.Lines.{IsFrom, Line, Waiter, WaitsIn, line_of}
use Rattle.cluster_rules.specs.Cluster.{node_of}
use Rattle.cluster_replicas.specs.Servers.{Servers}
use Rattle.cluster_works.specs.Looking.{is_round_past}

-- at this node a round of this term and number is past
abbrev past_at : Node → ℕ → ℕ → Bool
past_at n term number = nat_lt term n.term || is_confirmed n (record { term = term; number = number; commit = 0 })

-- who acknowledged a round acknowledged the earlier ones
earlier_by : (b : Bool) (k m acked : ℕ) → k ≤ m → (b || nat_le m acked) ≡ true → (b || nat_le k acked) ≡ true
earlier_by true k m acked l e = refl
earlier_by false k m acked l e = let t = le_tells m acked e in le_is k acked (omega (arith, l, t))

has_earlier : (n : Node) (k m s : ℕ) → k ≤ m → has_round n m s ≡ true → has_round n k s ≡ true
has_earlier n k m s l e = earlier_by (s == n.id) k m (of_server n.acked s) l e

majority_earlier : (n : Node) (k m : ℕ) → k ≤ m → is_majority n.servers (has_round n m) ≡ true → is_majority n.servers (has_round n k) ≡ true
majority_earlier n k m l e =
    lt_is n.servers (2 * count (has_round n k) n.servers)
    (majority_more n.servers (has_round n m) (has_round n k) (λ s. has_earlier n k m s l) (lt_tells n.servers (2 * count (has_round n m) n.servers) e))

and_so : (a b c : Bool) → (b ≡ true → c ≡ true) → (a && b) ≡ true → (a && c) ≡ true
and_so true b c f e = f e
and_so false b c f e = e

so_not : (a b : Bool) → (b ≡ true → a ≡ true) → a ≡ false → b ≡ false
so_not a false f e = refl
so_not a true f e = sym (f refl) ∙ e

confirmed_earlier : (n : Node) (term k m : ℕ) → k ≤ m → is_confirmed n (record { term = term; number = m; commit = 0 }) ≡ true → is_confirmed n (record { term = term; number = k; commit = 0 }) ≡ true
confirmed_earlier n term k m l e = and_so (is_leader n.role && n.term == term) (is_majority n.servers (has_round n m)) (is_majority n.servers (has_round n k)) (majority_earlier n k m l) e

neither_is : (a b : Bool) → a ≡ false → b ≡ false → (a || b) ≡ false
neither_is a b e f = ap (λ x. x || b) e ∙ f

middle_not : (a b c : Bool) → b ≡ false → (a && b && c) ≡ false
middle_not true b c e = ap (λ x. x && c) e
middle_not false b c e = refl

not_below : (a b c : ℕ) → nat_lt a c ≡ false → a ≤ b → nat_lt b c ≡ false
not_below a b c e l = grind (arith, nat_tests)

not_own : (a b c : ℕ) → nat_lt a c ≡ false → a < b → (c == b) ≡ false
not_own a b c e l = grind (arith, nat_tests)

-- the place of this term and number goes before that one, or is it
abbrev GoesBefore : (term number term' number' : ℕ) → Type 0
GoesBefore term number term' number' = (term < term') ⊎ ((term ≡ term') × (number ≤ number'))

-- Behind a round that is not past none is: a term above the node's is not its own, and what a majority has not
-- acknowledged it did not acknowledge with a later one.
behind_first : (n : Node) (term number term' number' : ℕ) → GoesBefore term number term' number' → past_at n term number ≡ false → past_at n term' number' ≡ false
behind_first n term number term' number' (inl above) e =
    let q = or_false (nat_lt term n.term) (is_confirmed n (record { term = term; number = number; commit = 0 })) e in
    neither_is (nat_lt term' n.term) (is_confirmed n (record { term = term'; number = number'; commit = 0 }))
    (not_below term term' n.term q.0 (omega (arith, above)))
    (middle_not (is_leader n.role) (n.term == term') (is_majority n.servers (has_round n number')) (not_own term term' n.term q.0 above))
behind_first n term number term' number' (inr (same, later)) e =
    let q = or_false (nat_lt term n.term) (is_confirmed n (record { term = term; number = number; commit = 0 })) e in
    subst (λ t. past_at n t number' ≡ false) same
    (neither_is (nat_lt term n.term) (is_confirmed n (record { term = term; number = number'; commit = 0 })) q.0
    (so_not (is_confirmed n (record { term = term; number = number; commit = 0 })) (is_confirmed n (record { term = term; number = number'; commit = 0 })) (confirmed_earlier n term number number' later) q.1))

pub first_waits : (s : Servers) (i term number : ℕ) (lines : List Line) (past : Bool) → Each (IsFrom (term, number)) (line_of lines i) → past ≡ is_round_past s i term number → past ≡ false → (n term' number' : ℕ) → WaitsIn i n term' number' lines → is_round_past s i term' number' ≡ false
first_waits s i term number lines past each is fails n term' number' x =
    behind_first (node_of s.world i) term number term' number'
    (All-contains (IsFrom (term, number)) (line_of lines i) (term', number', n) (All-from_recursion (IsFrom (term, number)) (line_of lines i) each) x) (sym is ∙ fails)

in_none : {A : Type 0} (e : Waiter) → Contains [] e → A
in_none e (k, l, is) = absurd (omega (arith, l))

pub none_wait : (s : Servers) (i : ℕ) (lines : List Line) → line_of lines i ≡ [] → (n term number : ℕ) → WaitsIn i n term number lines → is_round_past s i term number ≡ false
none_wait s i lines none n term number x = in_none (term, number, n) (subst (λ (line : Line). Contains line (term, number, n)) none x)

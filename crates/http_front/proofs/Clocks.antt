-- The tick of one clock leaves all others of its kind, and how many there are.
use Rattle.std.proofs.Common.{◌≡◌, ◌≢◌, ◌⊎◌, inl, inr, ℕ, zero, suc, ◌+◌, ◌^◌, ◌<◌, ◌≤◌, Bool, true, false, List, [], ◌∷◌, ◌++◌, length, take, reverse, refl, sym, ◌∙◌, ap, subst, append-nil, arith, Some, None, Result, Ok, Err}
use Rattle.std.specs.Prelude.{OnOk, nat_le, nat_lt, ◌&&◌, if◌then◌else◌}
use Rattle.cat_model.specs.declared.command.Command.{Command}
use Rattle.cat_model.specs.declared.memory.Memory.{Memory}
use Rattle.cat_model.specs.declared.request.Event.TheVariants as event
use Rattle.raft_model.specs.Node.{of_server, set_server}
use Rattle.raft_model.specs.World.{World}
use Rattle.raft_model.proofs.Tests.{at_bool, le_tells, lt_tells_not}
use Rattle.cluster_rules.specs.Cluster.{Cluster, clock_of}
use Rattle.cluster_rules.specs.Due.{Works, work}
use Rattle.cluster_rules.specs.Requests.{moved}
use Rattle.cluster_rules.specs.Proposals.{Proposals, none_left, breaks, enters, refuses, over_rows, with_ends, looked, Tends, idles, in_turn, cut_off}
use Rattle.cluster_rules.specs.Step.{Acts, takes, ticks as ticks_act, arms, restarts, handles, tends, syncs, Does, over, act, cut, cut_between, Passes, loses, replies, stays, leaderless, noted, shelved, ClusterStep, done, passed, cut_early}
use Rattle.cluster_rules.proofs.Tools.{le_tells_not, set_other}
use Rattle.cluster_order.proofs.Keeping.{tended_servers, works_keep}
use Rattle.run_rules.specs.declared.misfit.Misfit.{Misfit}
use Rattle.run_rules.specs.declared.misfit.Misfit.TheVariants.{NoAgent, NoServer, Clock}
use Rattle.run_rules.specs.Lines.{clock_misfit, misfit}
use Rattle.run_rules.proofs.Serving.{agents_after}
use Rattle.turn_lock.specs.Lists.{Among, numbers}
use Rattle.turn_lock.proofs.Lists.{among_left, among_right, numbers_append}
use Rattle.http_exchanges.specs.Marks.{TicksAll, Whose, Servers, Agents, ticks}
use Rattle.http_exchanges.proofs.MarkLists.{joined}
use Rattle.http_front.specs.Ticks.{Leaves, LeavesLater, PassesEnd, TicksEach, TicksWholly, count_of, tick_of}
use Rattle.http_front.proofs.Steps.{ticked_mark}

-- of server i's ticks: the clocks of all other servers stand as they did, and there are as many servers
record Stands (i : ℕ) (c c' : Cluster) : Type 0 where
  servers : length c'.servers ≡ length c.servers
  others : (s : ℕ) → s ≢ i → clock_of c'.world s ≡ clock_of c.world s

stands_all : (i : ℕ) (c : Cluster) → Stands i c c
stands_all i c = record { servers = refl; others = λ s d. refl }

stands_on : (i : ℕ) (a b c : Cluster) → Stands i a b → Stands i b c → Stands i a c
stands_on i a b c x y = record { servers = y.servers ∙ x.servers; others = λ s d. y.others s d ∙ x.others s d }

by_equal : (i : ℕ) (a b c : Cluster) → c ≡ b → Stands i a b → Stands i a c
by_equal i a b c e x = subst (Stands i a) (sym e) x

works_stand : (i j : ℕ) (c c' : Cluster) → Works j c c' → Stands i c c'
works_stand i j c c' w = let k = works_keep j c c' w in record { servers = k.servers; others = λ s d. ap (λ (z : World). clock_of z s) k.world }

-- what a server proposes leaves all clocks
proposed_clock : (i : ℕ) (commands : List Command) (c : Cluster) (n : ℕ) (c' : Cluster) (whole : Bool) → Proposals i commands c n c' whole → (s : ℕ) → clock_of c'.world s ≡ clock_of c.world s
proposed_clock i commands c n c' whole none_left s = refl
proposed_clock i commands c n c' whole breaks s = refl
proposed_clock i (command ∷ commands) c n c' whole (enters {n = m} w' lead room a up more) s = proposed_clock i commands (moved i w' c) m c' whole more s ∙ ap (λ (z : World). clock_of z s) a.becomes
proposed_clock i (command ∷ commands) c n c' whole (refuses w' lead a why) s = ap (λ (z : World). clock_of z s) a.becomes

tended_clock : (i : ℕ) (c c' : Cluster) (whole : Bool) → Tends i c c' whole → (s : ℕ) → clock_of c'.world s ≡ clock_of c.world s
tended_clock i c c' whole (idles lead e) s = ap (λ (z : Cluster). clock_of z.world s) e
tended_clock i c c' whole (in_turn n m c₁ c₂ lead p r e) s =
    ap (λ (z : Cluster). clock_of z.world s) e ∙ (proposed_clock i _ (looked i (with_ends i (take n (over_rows c i)) c₁)) m c₂ whole r s ∙ proposed_clock i _ c n c₁ true p s)
tended_clock i c c' whole (cut_off n c₁ lead p e) s = ap (λ (z : Cluster). clock_of z.world s) e ∙ proposed_clock i _ c n c₁ false p s

clock_other : (clocks : List ℕ) (i s x : ℕ) → s ≢ i → of_server (set_server clocks i x) s ≡ of_server clocks s
clock_other clocks zero s x d = refl
clock_other clocks (suc i) zero x d = refl
clock_other clocks (suc i) (suc s) x d = set_other clocks i s x 0 (λ e. d (ap suc e))

-- the acts of a tick
acts_stand : (n i ms : ℕ) (c : Cluster) (j : ℕ) (c' : Cluster) → Acts n c j (event.Tick i ms) c' → Stands i c c'
acts_stand n i ms c j c' (takes input w' z is a e) = absurd (cc is)
acts_stand n i ms c j c' (ticks_act d w' z is (old, at, w) e) = record {
  servers = ap (λ (z : Cluster). length z.servers) e;
  others = λ s o. ap (λ (z : Cluster). clock_of z.world s) e ∙ (ap (λ (z : World). clock_of z s) w ∙ clock_other c.world.clocks j s _ (λ q. o (q ∙ same_server is)));
}
  where
    same_server : event.Tick i ms ≡ event.Tick j d → j ≡ i
    same_server e = cc e
acts_stand n i ms c j c' (arms nth w' z is w e) = absurd (cc is)
acts_stand n i ms c j c' (restarts w' z is w e) = absurd (cc is)
acts_stand n i ms c j c' (handles agent asked draw z is goes h) = absurd (cc is)
acts_stand n i ms c j c' (tends d whole z is t) = record { servers = tended_servers j c c' whole t; others = λ s o. tended_clock j c c' whole t s }
acts_stand n i ms c j c' (syncs a whole z is goes y) = absurd (cc is)

does_stand : (i ms j n : ℕ) (c c' : Cluster) (whole : Bool) → Does j (event.Tick i ms) n c c' whole → Stands i c c'
does_stand i ms j n c c' whole (over e) = stands_all i c
does_stand i ms j n c c' whole (act c₁ c₂ a r m more) = stands_on i c c₁ c' (acts_stand n i ms c j c₁ a) (stands_on i c₁ c₂ c' (works_stand i j c₁ c₂ m.0) (does_stand i ms j (suc n) c₂ c' whole more))
does_stand i ms j n c c' whole (cut c₁ a m short) = stands_on i c c₁ c' (acts_stand n i ms c j c₁ a) (works_stand i j c₁ c' m)
does_stand i ms j n c c' whole (cut_between l k) = stands_all i c

passes_stand : (i ms : ℕ) (c c' : Cluster) → Passes c (event.Tick i ms) c' → Stands i c c'
passes_stand i ms c c' (loses k w' is w e) = absurd (cc is)
passes_stand i ms c c' (replies agent asked draw why is goes e) = absurd (cc is)
passes_stand i ms c c' (stays own free e) = absurd (cc own)
passes_stand i ms c c' (leaderless a why own is goes e) = absurd (cc own)

-- a mark and outs are no matter of clocks
in_between : (i ms : ℕ) (c b : Cluster) → Stands i (noted (event.Tick i ms) c) b → Stands i c (shelved b)
in_between i ms c b x = record { servers = x.servers; others = x.others }

step_stands : (i ms : ℕ) (c c' : Cluster) (whole : Bool) → ClusterStep c (event.Tick i ms) c' whole → Stands i c c'
step_stands i ms c c' whole (done j c₁ c₂ m d e) =
    by_equal i c (shelved c₂) c' e (in_between i ms c c₂ (stands_on i (noted (event.Tick i ms) c) c₁ c₂ (works_stand i j (noted (event.Tick i ms) c) c₁ m.0) (does_stand i ms j 0 c₁ c₂ whole d)))
step_stands i ms c c' whole (passed c₁ w p e) = by_equal i c (shelved c₁) c' e (in_between i ms c c₁ (passes_stand i ms (noted (event.Tick i ms) c) c₁ p))
step_stands i ms c c' whole (cut_early j w c₁ short for d more e) = by_equal i c (shelved c₁) c' e (in_between i ms c c₁ (works_stand i j (noted (event.Tick i ms) c) c₁ (work w d more)))

-- A tick that does not fit a server that is there would take its clock past its end.
past_end : (c : Cluster) (s ms : ℕ) (why : Misfit) → 0 < s → s ≤ length c.servers → misfit c (event.Tick s ms) ≡ Some why → 2 ^ 53 < clock_of c.world s + ms
unfolding misfit
past_end c s ms why some there e = at_bool (λ b. clock_misfit c s ms (if b then None else Some NoServer) ≡ Some why → 2 ^ 53 < clock_of c.world s + ms) (nat_lt 0 s && nat_le s (length c.servers))
    (λ _ f. clock_past f)
    (λ n f. absurd (is_there n)) e
  where
    clock_past : clock_misfit c s ms None ≡ Some why → 2 ^ 53 < clock_of c.world s + ms
    clock_past f = at_bool (λ b. (if b then None else Some Clock) ≡ Some why → 2 ^ 53 < clock_of c.world s + ms) (nat_le (clock_of c.world s + ms) (2 ^ 53)) (λ _ g. absurd (cc g)) (λ n g. le_tells_not (clock_of c.world s + ms) (2 ^ 53) n) f

    neither : (a b : Bool) → (a ≡ false → ⊥) → (b ≡ false → ⊥) → (a && b) ≡ false → ⊥
    neither true true p q e = absurd (cc e)
    neither true false p q e = q refl
    neither false b p q e = p refl

    is_there : (nat_lt 0 s && nat_le s (length c.servers)) ≡ false → ⊥
    is_there n = neither (nat_lt 0 s) (nat_le s (length c.servers)) (λ q. let k = lt_tells_not 0 s q in omega (arith, k, some)) (λ q. let k = le_tells_not s (length c.servers) q in omega (arith, k, there)) n

-- Nor is an agent there whose tick does not fit.
not_there : (c : Cluster) (a ms : ℕ) (why : Misfit) → 0 < a → a ≤ length c.agents → misfit c (event.AgentTick a ms) ≡ Some why → ⊥
unfolding misfit
not_there c a ms why some there e = at_bool (λ b. (if b then None else Some NoAgent) ≡ Some why → ⊥) (nat_lt 0 a && nat_le a (length c.agents)) (λ _ f. absurd (cc f)) (λ n f. is_there n) e
  where
    neither : (x y : Bool) → (x ≡ false → ⊥) → (y ≡ false → ⊥) → (x && y) ≡ false → ⊥
    neither true true p q e = absurd (cc e)
    neither true false p q e = q refl
    neither false y p q e = p refl

    is_there : (nat_lt 0 a && nat_le a (length c.agents)) ≡ false → ⊥
    is_there n = neither (nat_lt 0 a) (nat_le a (length c.agents)) (λ q. let k = lt_tells_not 0 a q in omega (arith, k, some)) (λ q. let k = le_tells_not a (length c.agents) q in omega (arith, k, there)) n

-- the same of both
misses : (whose : Whose) (c : Cluster) (n ms : ℕ) (why : Misfit) → 0 < n → n ≤ count_of whose c → misfit c (tick_of whose n ms) ≡ Some why → PassesEnd whose c n ms
misses Servers c n ms why some there e = past_end c n ms why some there e
misses Agents c n ms why some there e = not_there c n ms why some there e

leaves_all : (whose : Whose) (n : ℕ) (c : Cluster) → Leaves whose n c c
leaves_all whose n c = record { count = refl; far = λ k ms d p. p }

step_leaves : (whose : Whose) (n ms : ℕ) (c c' : Cluster) (whole : Bool) → ClusterStep c (tick_of whose n ms) c' whole → Leaves whose n c c'
step_leaves Servers n ms c c' whole s = let x = step_stands n ms c c' whole s in record { count = x.servers; far = λ k by d p. subst (λ z. 2 ^ 53 < z + by) (x.others k d) p }
step_leaves Agents n ms c c' whole s = record { count = agents_after c c' (event.AgentTick n ms) whole s; far = λ k by d p. p }

-- a tick that fits, and one that does not
pub ticks_wholly : (whose : Whose) (c c' : Cluster) (n ms : ℕ) (r : Result (Unit {0}) Memory) → OnOk r (ClusterStep c (tick_of whose n ms) c' true) → OnOk r (TicksWholly whose n ms c c')
ticks_wholly whose c c' n ms (Ok u) whole = let w = ticked_mark whose c c' n ms true whole in record {
  rest = w.rest;
  are = w.are;
  went = λ some there. inl w.went;
  leaves = step_leaves whose n ms c c' true whole;
}
ticks_wholly whose c c' n ms (Err why) whole = whole

pub wholly_none : (whose : Whose) (c : Cluster) (n ms : ℕ) (why : Misfit) → misfit c (tick_of whose n ms) ≡ Some why → TicksWholly whose n ms c c
wholly_none whose c n ms why e = record {
  rest = [];
  are = sym (append-nil (reverse c.past));
  went = λ some there. inr (misses whose c n ms why some there e);
  leaves = leaves_all whose n c;
}

-- one clock after another
pub each_none : (whose : Whose) (ms : ℕ) (c : Cluster) → TicksEach whose 0 ms c c
each_none whose ms c = record { rest = []; are = sym (append-nil (reverse c.past)); each = λ k some few. absurd (omega (arith, some, few)) }

pub later_none : (whose : Whose) (c : Cluster) → LeavesLater whose 0 c c
later_none whose c = record { count = refl; far = λ k ms l p. p }

pub later_next : (whose : Whose) (n : ℕ) (a b c : Cluster) → LeavesLater whose n a b → Leaves whose (n + 1) b c → LeavesLater whose (n + 1) a c
later_next whose n a b c x y = record {
  count = y.count ∙ x.count;
  far = λ k ms l p. x.far k ms (omega (arith, l)) (y.far k ms (λ e. absurd (omega (arith, l, e))) p);
}

pub each_next : (whose : Whose) (n ms : ℕ) (a b c : Cluster) → n < count_of whose a → LeavesLater whose n a b → TicksEach whose n ms a b → TicksWholly whose (n + 1) ms b c → TicksEach whose (n + 1) ms a c
each_next whose n ms a b c there later x y = record {
  rest = x.rest ++ y.rest;
  are = joined (reverse a.past) (reverse b.past) (reverse c.past) x.rest y.rest x.are y.are;
  each = λ k some few. one k some few;
}
  where
    all : (k : ℕ) → Among k (numbers (ticks whose) x.rest ++ numbers (ticks whose) y.rest) → Among k (numbers (ticks whose) (x.rest ++ y.rest))
    all k z = subst (Among k) (sym (numbers_append (ticks whose) x.rest y.rest)) z

    before : (k : ℕ) → Among k (numbers (ticks whose) x.rest) ⊎ PassesEnd whose a k ms → Among k (numbers (ticks whose) (x.rest ++ y.rest)) ⊎ PassesEnd whose a k ms
    before k (inl z) = inl (all k (among_left k (numbers (ticks whose) x.rest) (numbers (ticks whose) y.rest) z))
    before k (inr p) = inr p

    now : Among (n + 1) (numbers (ticks whose) y.rest) ⊎ PassesEnd whose b (n + 1) ms → Among (n + 1) (numbers (ticks whose) (x.rest ++ y.rest)) ⊎ PassesEnd whose a (n + 1) ms
    now (inl z) = inl (all (n + 1) (among_right (n + 1) (numbers (ticks whose) x.rest) (numbers (ticks whose) y.rest) z))
    now (inr p) = inr (later.far (n + 1) ms (omega arith) p)

    last : Among (n + 1) (numbers (ticks whose) (x.rest ++ y.rest)) ⊎ PassesEnd whose a (n + 1) ms
    last = now (y.went (omega arith) (let e = later.count in omega (arith, e, there)))

    one : (k : ℕ) → 0 < k → k ≤ n + 1 → Among k (numbers (ticks whose) (x.rest ++ y.rest)) ⊎ PassesEnd whose a k ms
    one k some few = at_bool (λ b. Among k (numbers (ticks whose) (x.rest ++ y.rest)) ⊎ PassesEnd whose a k ms) (nat_le k n)
        (λ t. before k (x.each k some (le_tells k n t)))
        (λ f. let d = le_tells_not k n f in let e : n + 1 ≡ k = omega (arith, d, few) in subst (λ z. Among z (numbers (ticks whose) (x.rest ++ y.rest)) ⊎ PassesEnd whose a z ms) e last)

-- each of so many
pub each_of : (whose : Whose) (n last count ms : ℕ) (c c' : Cluster) → count ≡ last → last ≤ n → TicksEach whose n ms c c' → TicksEach whose count ms c c'
each_of whose n last count ms c c' e l x = record {
  rest = x.rest;
  are = x.are;
  each = λ k some few. x.each k some (omega (arith, e, l, few));
}

-- all servers' clocks, and all agents' behind them
pub all_ticked : (servers agents ms : ℕ) (a b c : Cluster) → TicksEach Servers servers ms a b → TicksEach Agents agents ms b c → TicksAll servers agents (λ s. clock_of a.world s) ms (reverse a.past) (reverse c.past)
all_ticked servers agents ms a b c x y = record {
  rest = x.rest ++ y.rest;
  are = joined (reverse a.past) (reverse b.past) (reverse c.past) x.rest y.rest x.are y.are;
  each_server = λ s some few. server s (x.each s some few);
  each_agent = λ n some few. agent n (y.each n some few);
}
  where
    among : (whose : Whose) (n : ℕ) → Among n (numbers (ticks whose) x.rest ++ numbers (ticks whose) y.rest) → Among n (numbers (ticks whose) (x.rest ++ y.rest))
    among whose n z = subst (Among n) (sym (numbers_append (ticks whose) x.rest y.rest)) z

    server : (s : ℕ) → Among s (numbers (ticks Servers) x.rest) ⊎ (2 ^ 53 < clock_of a.world s + ms) → Among s (numbers (ticks Servers) (x.rest ++ y.rest)) ⊎ (2 ^ 53 < clock_of a.world s + ms)
    server s (inl z) = inl (among Servers s (among_left s (numbers (ticks Servers) x.rest) (numbers (ticks Servers) y.rest) z))
    server s (inr p) = inr p

    agent : (n : ℕ) → Among n (numbers (ticks Agents) y.rest) ⊎ ⊥ → Among n (numbers (ticks Agents) (x.rest ++ y.rest))
    agent n (inl z) = among Agents n (among_right n (numbers (ticks Agents) x.rest) (numbers (ticks Agents) y.rest) z)
    agent n (inr p) = absurd p

pub all_on_ok : {T E : Type 0} (r : Result T E) (servers agents ms : ℕ) (a b c : Cluster) → TicksEach Servers servers ms a b → OnOk r (TicksEach Agents agents ms b c) → OnOk r (TicksAll servers agents (λ s. clock_of a.world s) ms (reverse a.past) (reverse c.past))
all_on_ok (Ok t) servers agents ms a b c x y = all_ticked servers agents ms a b c x y
all_on_ok (Err e) servers agents ms a b c x y = y

-- The agreed list that stands in a server's log: it stays as servers step, and grows as they commit.
use Rattle.std.proofs.Common.{◌≡◌, ◌≢◌, ℕ, ◌<◌, ◌≤◌, eqb, true, false, cond, ◌⊎◌, inl, inr, min, length, take, set, get_or, List, [], refl, sym, ap, ◌∙◌, subst, arith}
use Rattle.std.specs.Prelude.{nat_lt, ◌==◌}
use Rattle.std.proofs.lemmas.Bool.{cases_lt}
use Rattle.std.proofs.lemmas.Bool.Decides.{eqb_tells}
use Rattle.std.proofs.lemmas.List.{get_or-map, get_or-set_same, get_or-set_other, get_or_default, length-set, length-take, length-take-le, take_all}
use Rattle.raft_model.specs.Log.{Log}
use Rattle.raft_model.specs.Node.{Node, committed}
use Rattle.raft_model.specs.World.{longer}
use Rattle.raft_model.proofs.Tests.{at_bool, eq_is, eq_tells, no_bool}
use Rattle.raft_world.specs.declared.agreed.Agreed.{Agreed}
use Rattle.raft_world.specs.declared.agreed.Agreed.TheVariants.{Kept, Committed}
use Rattle.raft_world.specs.Agreeing.{IsWithin, count_of, grown, left, log_at, shown, Stands}
use Rattle.raft_world.specs.Fronts.{HasFront}

log_is : (nodes : List Node) (at : ℕ) (n : Node) → at < length nodes → log_at nodes at ≡ (get_or nodes at n).log
log_is nodes at n l = get_or-map (λ m. m.log) nodes at n [] l

log_here : (nodes : List Node) (at : ℕ) (new : Node) → at < length nodes → log_at (set nodes at new) at ≡ new.log
log_here nodes at new l =
    log_is (set nodes at new) at new (omega (arith, length-set nodes at new)) ∙ ap (λ (m : Node). m.log) (get_or-set_same nodes at new new l)

log_other : (nodes : List Node) (at j : ℕ) (new : Node) → j ≢ at → j < length nodes → log_at (set nodes at new) j ≡ log_at nodes j
log_other nodes at j new ne l =
    log_is (set nodes at new) j new (omega (arith, length-set nodes at new)) ∙ ap (λ (m : Node). m.log) (get_or-set_other nodes at j new new ne)
    ∙ sym (log_is nodes j new l)

-- two servers at one place are one
one : (nodes : List Node) (at : ℕ) (n m : Node) → at < length nodes → get_or nodes at n ≡ n → get_or nodes at m ≡ m → n ≡ m
one nodes at n m l a b = sym a ∙ get_or_default nodes at n m l ∙ b

-- the agreed list after a server's step
pub record Stays (a : Agreed) (before now : List Node) : Type 0 where
  pub list : shown a now ≡ shown a before
  pub stands : Stands a now

stays_other : (nodes : List Node) (at : ℕ) (new : Node) (j k : ℕ) → j ≢ at → Stands (Committed j k) nodes → Stays (Committed j k) nodes (set nodes at new)
stays_other nodes at new j k ne s =
    let same : log_at (set nodes at new) j ≡ log_at nodes j = log_other nodes at j new ne s.0 in
    record {
      list = ap (take k) same;
      stands = (
        omega (arith, s.0, length-set nodes at new),
        omega (arith, s.1, ap length same),
        λ n q. subst (λ z. HasFront (take k z) n) (sym same) (s.2 n (sym (get_or-set_other nodes at j new n ne) ∙ q)),
      );
    }

module _ (nodes : List Node) (at : ℕ) (old new : Node) (l : at < length nodes) (here : get_or nodes at old ≡ old) (keep : (x : Log) → HasFront x old → HasFront x new) where
  stays_here : (k : ℕ) → Stands (Committed at k) nodes → Stays (Committed at k) nodes (set nodes at new)
  stays_here k s =
      let front : HasFront (take k (log_at nodes at)) new = keep (take k (log_at nodes at)) (s.2 old here) in
      let count : length (take k (log_at nodes at)) ≡ k = length-take-le k (log_at nodes at) s.1 in
      let same : take k (log_at (set nodes at new) at) ≡ take k (log_at nodes at) = ap (take k) (log_here nodes at new l) ∙ subst (λ m. take m new.log ≡ take k (log_at nodes at)) count front.1 in
      record {
        list = same;
        stands = (
          omega (arith, l, length-set nodes at new),
          omega (arith, length-take k (log_at (set nodes at new) at), ap length same, count),
          λ n q. subst (λ z. HasFront z n) (sym same) (subst (λ (z : Node). HasFront (take k (log_at nodes at)) z) (sym (get_or-set_same nodes at new n l) ∙ q) front),
        );
      }

  pub stays : (a : Agreed) → Stands a nodes → Stays a nodes (set nodes at new)
  stays (Kept entries) s = record { list = refl; stands = tt }
  stays (Committed j k) s = go (eqb_tells j at)
    where
      go : ((eqb j at ≡ true) × (j ≡ at)) ⊎ ((eqb j at ≡ false) × (j ≢ at)) → Stays (Committed j k) nodes (set nodes at new)
      go (inl e) = subst (λ z. Stands (Committed z k) nodes → Stays (Committed z k) nodes (set nodes at new)) (sym e.1) (stays_here k) s
      go (inr e) = stays_other nodes at new j k e.1 s

count_is : (a : Agreed) (nodes : List Node) → Stands a nodes → length (shown a nodes) ≡ count_of a
count_is (Kept entries) nodes s = refl
count_is (Committed at k) nodes s = length-take-le k (log_at nodes at) s.1

take_within : (m : ℕ) (x : Log) → take (min m (length x)) x ≡ take m x
take_within m x = go (cases_lt m (length x))
  where
    go : (m < length x) ⊎ (length x ≤ m) → take (min m (length x)) x ≡ take m x
    go (inl h) = let e : min m (length x) ≡ m = omega arith in ap (λ z. take z x) e
    go (inr h) = take_all (min m (length x)) x (omega arith) ∙ sym (take_all m x h)

module _ (nodes : List Node) (at : ℕ) (n : Node) (l : at < length nodes) (here : get_or nodes at n ≡ n) where
  log_of : log_at nodes at ≡ n.log
  log_of = log_is nodes at n l ∙ ap (λ (m : Node). m.log) here

  -- the list of so many entries that the server has committed
  committed_is : (c : ℕ) → c ≡ min n.commit (length n.log) → take c (log_at nodes at) ≡ committed n
  committed_is c is = (λ i. take (is i) (log_of i)) ∙ take_within n.commit n.log

  committed_stands : (c : ℕ) → c ≡ min n.commit (length n.log) → Stands (Committed at c) nodes
  committed_stands c is =
      let within : c ≤ length (log_at nodes at) = omega (arith, is, ap length log_of) in
      let count : length (take c (log_at nodes at)) ≡ c = length-take-le c (log_at nodes at) within in
      let front : HasFront (take c (log_at nodes at)) n =
      (omega (arith, is, count), subst (λ m. take m n.log ≡ take c (log_at nodes at)) (sym count) (ap (take c) (sym log_of))) in
      (l, within, λ m q. subst (λ (z : Node). HasFront (take c (log_at nodes at)) z) (one nodes at n m l here q) front)

  pub grown_list : (a : Agreed) (c : ℕ) → c ≡ min n.commit (length n.log) → Stands a nodes → shown (grown a at c) nodes ≡ longer (shown a nodes) (committed n)
  grown_list a c is s =
      let shorter : nat_lt (length (shown a nodes)) (length (committed n)) ≡ nat_lt (count_of a) c =
      (λ i. nat_lt (count_is a nodes s i) ((length-take n.commit n.log ∙ sym is) i)) in
      at_bool (λ b. shown (cond b (Committed at c) a) nodes ≡ cond b (committed n) (shown a nodes)) (nat_lt (count_of a) c) (λ _. committed_is c is) (λ _. refl)
      ∙ ap (λ b. cond b (committed n) (shown a nodes)) (sym shorter)

  pub grown_stands : (a : Agreed) (c : ℕ) → c ≡ min n.commit (length n.log) → Stands a nodes → Stands (grown a at c) nodes
  grown_stands a c is s = at_bool (λ b. Stands (cond b (Committed at c) a) nodes) (nat_lt (count_of a) c) (λ _. committed_stands c is) (λ _. s)

-- it stands in another server's log, or in none
abbrev pub IsApart : Agreed → ℕ → Type 0
IsApart (Kept entries) at = Unit {0}
IsApart (Committed j k) at = j ≢ at

pub stays_apart : (nodes : List Node) (at : ℕ) (new : Node) (a : Agreed) → IsApart a at → Stands a nodes → Stays a nodes (set nodes at new)
stays_apart nodes at new (Kept entries) apart s = record { list = refl; stands = tt }
stays_apart nodes at new (Committed j k) apart s = stays_other nodes at new j k apart s

-- what is left where a server is to lose its log
pub record IsLeft (a now : Agreed) (nodes : List Node) (at : ℕ) : Type 0 where
  pub list : shown now nodes ≡ shown a nodes
  pub stands : Stands now nodes
  pub apart : IsApart now at
  pub count : count_of now ≡ count_of a

pub leaves : (a : Agreed) (nodes : List Node) (at : ℕ) (log : Log) → log ≡ log_at nodes at → Stands a nodes → IsLeft a (left a at log) nodes at
leaves (Kept entries) nodes at log is s = record { list = refl; stands = tt; apart = tt; count = refl }
leaves (Committed j k) nodes at log is s =
    at_bool (λ b. (j == at ≡ b) → IsLeft (Committed j k) (cond b (Kept (take k log)) (Committed j k)) nodes at) (j == at)
    (λ _ e. let q = eq_tells j at e in let same : log ≡ log_at nodes j = is ∙ ap (log_at nodes) (sym q) in
    record { list = ap (take k) same; stands = tt; apart = tt; count = length-take-le k log (omega (arith, s.1, ap length same)) })
    (λ _ e. record { list = refl; stands = s; apart = λ q. no_bool (j == at) (eq_is j at q) e; count = refl })
    refl

pub within_log : (a : Agreed) (nodes : List Node) (at : ℕ) (log : Log) → log ≡ log_at nodes at → Stands a nodes → IsWithin a at log
within_log (Kept entries) nodes at log is s = tt
within_log (Committed j k) nodes at log is s = λ q. omega (arith, s.1, ap length (is ∙ ap (log_at nodes) (sym q)))

pub log_there : (nodes : List Node) (at : ℕ) (n : Node) → at < length nodes → n ≡ get_or nodes at n → n.log ≡ log_at nodes at
log_there nodes at n l e = ap (λ (m : Node). m.log) e ∙ sym (log_is nodes at n l)

-- what stands in that server's log is copied
pub left_there : (a : Agreed) (place count at : ℕ) (log entries : Log) → a ≡ Committed place count → place ≡ at → entries ≡ take count log → Kept entries ≡ left a at log
left_there a place count at log entries is here copy =
    ap (λ x. Kept x) copy ∙ ap (λ b. cond b (Kept (take count log)) (Committed place count)) (sym (eq_is place at here)) ∙ ap (λ x. left x at log) (sym is)

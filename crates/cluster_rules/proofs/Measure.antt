-- Each work leaves less to do.
use Rattle.std.proofs.Common.{◌≡◌, ◌≢◌, ℕ, suc, ◌+◌, ◌-◌, ◌<◌, ◌≤◌, true, false, cond, not, List, [], ◌∷◌, length, refl, sym, ◌∙◌, ap, subst, arith}
use Rattle.std.specs.Prelude.{◌==◌}
use Rattle.std.specs.List.{AllByRecursion as Each}
use Rattle.std.proofs.lemmas.Bool.Decides.{nat_tests}
use Rattle.std.proofs.lemmas.List.{length-append}
use Rattle.raft_model.specs.Log.{entry_at}
use Rattle.raft_model.specs.Node.{set_server}
use Rattle.raft_model.proofs.Tests.{at_bool}
use Rattle.cluster_rules.specs.Cluster.{Server, Stand, AtPlace, InRound, ForIndex, Ended, Pending, Cluster, no_server, node_of, server_of, applied_of, clock_of}
use Rattle.cluster_rules.specs.Due.{Work, Applies, without, with_held, applies_entry, IsDue, did}
use Rattle.cluster_rules.specs.Left.{stand_weight, weight, total, left}
use Rattle.cluster_rules.specs.Sound.{Ascends}
use Rattle.cluster_rules.proofs.Cases.{Leaves, due_cases}
use Rattle.cluster_rules.proofs.Entries.{entry_there}
use Rattle.cluster_rules.proofs.Tools.{each_map, eq_self, item_same}

stand_above : (s : Stand) → 1 ≤ stand_weight s
stand_above (Ended event) = omega arith
stand_above (AtPlace index term) = omega arith
stand_above (InRound round deadline) = omega arith
stand_above (ForIndex deadline looked) = at_bool (λ b. 1 ≤ cond b 1 2) looked (λ _. omega arith) (λ _. omega arith)

weight_above : (i : ℕ) (h : Pending) → 1 ≤ weight i h
weight_above i h = at_bool (λ b. 1 ≤ cond b (stand_weight h.stand) 3) (h.server == i) (λ _. stand_above h.stand) (λ _. omega arith)

-- a held request whose number no other has
record IsOne (hs : List Pending) (h : Pending) : Type 0 where
  fewer : (i : ℕ) → total i (without h.question.number hs) < total i hs
  less : (i : ℕ) (new : Pending) → new.question.number ≡ h.question.number → weight i new < weight i h → total i (with_held new hs) < total i hs

without_most : (i n : ℕ) (hs : List Pending) → total i (without n hs) ≤ total i hs
without_most i n [] = omega arith
without_most i n (h ∷ hs) =
    let r = without_most i n hs in
    at_bool (λ b. total i (cond (not b) (h ∷ without n hs) (without n hs)) ≤ weight i h + total i hs) (h.question.number == n) (λ _. omega (arith, r)) (λ _. omega (arith, r))

with_none : (i : ℕ) (new : Pending) (hs : List Pending) → Each (λ (g : Pending). g.question.number ≢ new.question.number) hs → total i (with_held new hs) ≡ total i hs
with_none i new [] a = refl
with_none i new (h ∷ hs) a =
    let r = with_none i new hs a.1 in
    at_bool (λ b. (h.question.number == new.question.number) ≡ b → weight i (cond b new h) + total i (with_held new hs) ≡ weight i h + total i hs) (h.question.number == new.question.number)
    (λ _ e. absurd (a.0 (eq_is h.question.number new.question.number e))) (λ _ _. ap (λ z. weight i h + z) r) refl
  where
    eq_is : (a b : ℕ) → (a == b) ≡ true → a ≡ b
    eq_is a b e = grind (arith, nat_tests)

one_more : (g : Pending) (hs : List Pending) (h : Pending) → g.question.number ≢ h.question.number → IsOne hs h → IsOne (g ∷ hs) h
one_more g hs h d o = record {
  fewer = λ i. let r = o.fewer i in
      at_bool (λ b. total i (cond (not b) (g ∷ without h.question.number hs) (without h.question.number hs)) < weight i g + total i hs) (g.question.number == h.question.number) (λ _. omega (arith, r)) (λ _. omega (arith, r));
  less = λ i new e l. let r = o.less i new e l in
      at_bool (λ b. (g.question.number == new.question.number) ≡ b → weight i (cond b new g) + total i (with_held new hs) < weight i g + total i hs) (g.question.number == new.question.number)
      (λ _ t. absurd (d (same g.question.number new.question.number t ∙ e))) (λ _ _. omega (arith, r)) refl;
}
  where
    same : (a b : ℕ) → (a == b) ≡ true → a ≡ b
    same a b e = grind (arith, nat_tests)

one_first : (h : Pending) (hs : List Pending) → Each (λ (g : Pending). g.question.number ≢ h.question.number) hs → IsOne (h ∷ hs) h
one_first h hs a = record {
  fewer = λ i. let r = without_most i h.question.number hs in let k = weight_above i h in
      at_bool (λ b. b ≡ true → total i (cond (not b) (h ∷ without h.question.number hs) (without h.question.number hs)) < weight i h + total i hs) (h.question.number == h.question.number)
      (λ _ _. omega (arith, r, k)) (λ _ e. absurd (cc e)) (eq_self h.question.number);
  less = λ i new e l. let r = with_none i new hs (subst (λ z. Each (λ (g : Pending). g.question.number ≢ z) hs) (sym e) a) in
      at_bool (λ b. b ≡ true → weight i (cond b new h) + total i (with_held new hs) < weight i h + total i hs) (h.question.number == new.question.number)
      (λ _ _. omega (arith, r, l)) (λ _ t. absurd (cc t)) (subst (λ z. (h.question.number == z) ≡ true) (sym e) (eq_self h.question.number));
}

all_one : (hs : List Pending) → Ascends hs → Each (IsOne hs) hs
all_one [] a = tt
all_one (h ∷ hs) a = (one_first h hs (each_map (λ (g : Pending). h.question.number < g.question.number) (λ (g : Pending). g.question.number ≢ h.question.number) (λ g l e. omega arith) hs a.0), rest hs a.0 (all_one hs a.1))
  where
    rest : (gs : List Pending) → Each (λ (g : Pending). h.question.number < g.question.number) gs → Each (IsOne hs) gs → Each (IsOne (h ∷ hs)) gs
    rest [] d o = tt
    rest (g ∷ gs) d o = (one_more h hs g (λ e. let k = d.0 in omega arith) o.0, rest gs d.1 o.1)

same_held : (i : ℕ) (h : Pending) → h.server ≡ i → weight i h ≡ stand_weight h.stand
same_held i h at = at_bool (λ b. b ≡ true → cond b (stand_weight h.stand) 3 ≡ stand_weight h.stand) (h.server == i) (λ _ _. refl) (λ _ e. absurd (cc e)) (is_same h.server i at)
  where
    is_same : (a b : ℕ) → a ≡ b → (a == b) ≡ true
    is_same a b e = grind (arith, nat_tests)

module _ (c : Cluster) (ascends : Ascends c.held) (i : ℕ) (above : 0 < i) (within : i ≤ length c.servers) (kept : (node_of c.world i).commit ≤ length (node_of c.world i).log) where
  -- the next entry is there, since what is committed is in the log
  module _ (m : length (applied_of c i) < (node_of c.world i).commit) where
    longer : length (applies_entry (clock_of c.world i) (server_of c.servers i) (entry_at (suc (length (applied_of c i))) (node_of c.world i).log)).applied ≡ suc (length (applied_of c i))
    longer =
        let e = entry_there (suc (length (applied_of c i))) (node_of c.world i).log (omega arith) (omega (arith, m, kept)) in
        ap (λ z. length (applies_entry (clock_of c.world i) (server_of c.servers i) z).applied) e.1 ∙ length-append (applied_of c i) (e.0 ∷ []) ∙ plus (length (applied_of c i))
      where
        plus : (n : ℕ) → n + 1 ≡ suc n
        plus n = omega arith

    applied_longer : length (server_of (set_server c.servers i (applies_entry (clock_of c.world i) (server_of c.servers i) (entry_at (suc (length (applied_of c i))) (node_of c.world i).log))) i).applied ≡ suc (length (applied_of c i))
    applied_longer =
        ap (λ (z : Server). length z.applied) (item_same no_server c.servers i (applies_entry (clock_of c.world i) (server_of c.servers i) (entry_at (suc (length (applied_of c i))) (node_of c.world i).log)) above within) ∙ longer

  more : (k t t' : ℕ) → t' < t → k + t' < k + t
  more k t t' l = omega arith

  goes : (h : Pending) → IsOne c.held h → (node_of c.world i).commit - length (applied_of c i) + total i (without h.question.number c.held) < left i c
  goes h o = more ((node_of c.world i).commit - length (applied_of c i)) (total i c.held) (total i (without h.question.number c.held)) (o.fewer i)

  keeps : (h new : Pending) → IsOne c.held h → new.question.number ≡ h.question.number → weight i new < weight i h → (node_of c.world i).commit - length (applied_of c i) + total i (with_held new c.held) < left i c
  keeps h new o e d = more ((node_of c.world i).commit - length (applied_of c i)) (total i c.held) (total i (with_held new c.held)) (o.less i new e d)

  -- a request of this server that turns to look, or has looked
  lighter : (h : Pending) (stand : Stand) → h.server ≡ i → stand_weight stand < stand_weight h.stand → weight i (record h { stand = stand }) < weight i h
  lighter h stand at l = let x = same_held i h at in let y = same_held i (record h { stand = stand }) at in omega (arith, x, y, l)

  falls : (commit a b t : ℕ) → a < commit → b ≡ suc a → commit - b + t < commit - a + t
  falls commit a b t m n = omega (arith, m, n)

  leaves : (h : Pending) → IsOne c.held h → h.server ≡ i → Leaves c i (λ w. left i (did i w c) < left i c) h
  unfolding did
  leaves h o at = record {
    halted = λ e n. goes h o;
    closes = λ event e. goes h o;
    lands = λ index term e l. goes h o;
    rises = λ round deadline e l. goes h o;
    answers = λ deadline looked query mode least wait raw st ask due. goes h o;
    refuses = λ deadline query mode least wait raw st ask below early l. goes h o;
    sees = λ deadline query mode least wait raw st ask below. keeps h (record h { stand = ForIndex deadline true }) o refl (lighter h (ForIndex deadline true) at (let p = ap stand_weight st in omega (arith, p)));
    runs = λ deadline looked name limit mode st ask. goes h o;
    turns = λ round deadline st up confirmed l. keeps h (record h { stand = ForIndex deadline false }) o refl (lighter h (ForIndex deadline false) at (let p = ap stand_weight st in omega (arith, p)));
  }

  applies_less : length (applied_of c i) < (node_of c.world i).commit → left i (did i Applies c) < left i c
  unfolding did
  applies_less m =
      falls (node_of c.world i).commit (length (applied_of c i)) (length (server_of (set_server c.servers i (applies_entry (clock_of c.world i) (server_of c.servers i) (entry_at (suc (length (applied_of c i))) (node_of c.world i).log))) i).applied)
      (total i c.held) m (applied_longer m)

  pub did_less : (w : Work) → IsDue i c w → left i (did i w c) < left i c
  did_less w d = due_cases c i (λ w. left i (did i w c) < left i c) (IsOne c.held) (all_one c.held ascends) leaves applies_less w d

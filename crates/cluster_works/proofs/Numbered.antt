-- Held requests by their numbers, which ascend.
use Rattle.std.proofs.Common.{◌≡◌, ◌≢◌, ℕ, ◌<◌, Bool, true, false, cond, not, List, [], ◌∷◌, ◌++◌, None, Some, refl, ap, ◌∙◌, subst, arith}
use Rattle.std.proofs.lemmas.Bool.Decides.{nat_tests}
use Rattle.std.specs.Prelude.{◌==◌}
use Rattle.std.specs.List.{AllByRecursion as Each, find}
use Rattle.raft_model.proofs.Tests.{at_bool, eq_tells}
use Rattle.cluster_rules.specs.Cluster.{Pending}
use Rattle.cluster_rules.specs.Due.{without}
use Rattle.cluster_rules.specs.Sound.{Ascends}
use Rattle.cluster_rules.proofs.Tools.{eq_self, eq_tells_not}
use Rattle.cluster_works.specs.Looking.{numbered_in}

below_other : (a b : ℕ) → a < b → (a == b) ≡ false
below_other a b l = grind (arith, nat_tests)

behind : (h : Pending) (hs gs : List Pending) → Each (λ (g : Pending). h.question.number < g.question.number) gs → Each (λ (g : Pending). numbered_in g.question.number hs ≡ Some g) gs
    → Each (λ (g : Pending). numbered_in g.question.number (h ∷ hs) ≡ Some g) gs
behind h hs [] above all = tt
behind h hs (g ∷ gs) above all = (ap (λ b. cond b (Some h) (numbered_in g.question.number hs)) (below_other h.question.number g.question.number above.0) ∙ all.0, behind h hs gs above.1 all.1)

-- each is the one of its number
pub each_numbered : (held : List Pending) → Ascends held → Each (λ (h : Pending). numbered_in h.question.number held ≡ Some h) held
each_numbered [] a = tt
each_numbered (h ∷ hs) a = (ap (λ b. cond b (Some h) (numbered_in h.question.number hs)) (eq_self h.question.number), behind h hs hs a.0 (each_numbered hs a.1))

-- what is found is one of the list
pub record IsOneOf (test : Pending → Bool) (held : List Pending) (h : Pending) : Type 0 where
  pub before : List Pending
  pub after : List Pending
  pub there : held ≡ before ++ h ∷ after
  pub passes : test h ≡ true

one_behind : (test : Pending → Bool) (x : Pending) (held : List Pending) (h : Pending) → IsOneOf test held h → IsOneOf test (x ∷ held) h
one_behind test x held h o = record { before = x ∷ o.before; after = o.after; there = ap (λ l. x ∷ l) o.there; passes = o.passes }

one_by : (test : Pending → Bool) (b : Bool) (x : Pending) (held : List Pending) (h : Pending) → test x ≡ b → cond b (Some x) (find test held) ≡ Some h → (find test held ≡ Some h → IsOneOf test held h) → IsOneOf test (x ∷ held) h
one_by test true x held h e found go = let same : x ≡ h = cc found in subst (λ (y : Pending). IsOneOf test (x ∷ held) y) same (record { before = []; after = held; there = refl; passes = e })
one_by test false x held h e found go = one_behind test x held h (go found)

pub one_found : (test : Pending → Bool) (held : List Pending) (h : Pending) → find test held ≡ Some h → IsOneOf test held h
one_found test [] h e = absurd (cc e)
one_found test (x ∷ held) h e = one_by test (test x) x held h refl e (λ f. one_found test held h f)

-- nothing that is found passes nowhere
none_by : (test : Pending → Bool) (b : Bool) (x : Pending) (held : List Pending) → test x ≡ b → cond b (Some x) (find test held) ≡ None → (find test held ≡ None → Each (λ (h : Pending). test h ≡ false) held) → Each (λ (h : Pending). test h ≡ false) (x ∷ held)
none_by test true x held e found go = absurd (cc found)
none_by test false x held e found go = (e, go found)

pub none_found : (test : Pending → Bool) (held : List Pending) → find test held ≡ None → Each (λ (h : Pending). test h ≡ false) held
none_found test [] e = tt
none_found test (x ∷ held) e = none_by test (test x) x held refl e (λ f. none_found test held f)

-- it has the number that was looked for
pub number_of_found : (number : ℕ) (held : List Pending) (h : Pending) → numbered_in number held ≡ Some h → h.question.number ≡ number
number_of_found number held h e = eq_tells h.question.number number (one_found (λ (g : Pending). g.question.number == number) held h e).passes

-- at one place of a list
pub each_at : (P : Pending → Type 0) (before after : List Pending) (h : Pending) → Each P (before ++ h ∷ after) → P h
each_at P [] after h all = all.0
each_at P (x ∷ before) after h all = each_at P before after h all.1

pub each_one : (P : Pending → Type 0) (test : Pending → Bool) (held : List Pending) (h : Pending) → IsOneOf test held h → Each P held → P h
each_one P test held h o all = each_at P o.before o.after h (subst (Each P) o.there all)

-- of two lists of facts
pub each_on : (P Q : Pending → Type 0) (held : List Pending) → Each (λ (h : Pending). P h → Q h) held → Each P held → Each Q held
each_on P Q [] f all = tt
each_on P Q (h ∷ held) f all = (f.0 all.0, each_on P Q held f.1 all.1)

-- those of other numbers
pub others_left : (number : ℕ) (held : List Pending) → Each (λ (h : Pending). h.question.number ≢ number) (without number held)
others_left number [] = tt
others_left number (h ∷ held) =
    at_bool (λ b. (h.question.number == number) ≡ b → Each (λ (g : Pending). g.question.number ≢ number) (cond (not b) (h ∷ without number held) (without number held))) (h.question.number == number)
    (λ _ _. others_left number held) (λ _ e. (eq_tells_not h.question.number number e, others_left number held)) refl

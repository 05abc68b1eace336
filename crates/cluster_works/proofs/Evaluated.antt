-- How often queries are evaluated to find what is due, and what doing it leaves to be looked for.
use Rattle.std.proofs.Common.{◌≡◌, ◌≢◌, ℕ, suc, ◌+◌, ◌<◌, ◌≤◌, true, false, cond, not, List, [], ◌∷◌, Result, Ok, Err, refl, sym, ◌∙◌, ap, subst, arith}
use Rattle.std.specs.Prelude.{◌==◌, IfOk}
use Rattle.std.specs.List.{AllByRecursion as Each}
use Rattle.std.proofs.lemmas.Bool.Decides.{nat_tests}
use Rattle.cat_model.specs.declared.reply.Kind.{Kind}
use Rattle.cat_model.specs.declared.reply.Kind.TheVariants.{Acked, At, Refused}
use Rattle.cat_model.specs.declared.reply.Refusal.{Refusal}
use Rattle.cat_model.specs.declared.reply.Refusal.TheVariants as refusal
use Rattle.raft_model.specs.Log.{Log, term_at}
use Rattle.raft_model.proofs.Tests.{at_bool}
use Rattle.cluster_rules.specs.Cluster.{Cluster, ForIndex, Pending, applied_of}
use Rattle.cluster_rules.specs.Due as rules
use Rattle.cluster_rules.specs.Due.{Replies, Holds, Closes, Applies, IsDue, did, has_looked, with_held, without}
use Rattle.cluster_rules.specs.Sound.{Ascends}
use Rattle.cluster_rules.proofs.Cases.{Leaves, due_cases}
use Rattle.cluster_rules.proofs.Tools.{each_map, eq_self}
use Rattle.cluster_order.specs.Evaluations.{EvaluatesIn, reads_answered, unlooked, unlooked_in}
use Rattle.cluster_order.proofs.Adding.{one, unlooked_more, without_most}
use Rattle.cluster_requests.specs.Contents.{stand_of}
use Rattle.cluster_works.specs.declared.work.Work.{Work}
use Rattle.cluster_works.specs.declared.work.Work.TheVariants.{Answer, Hold, Close, Apply}
use Rattle.cluster_works.specs.Evaluating.{Counts, evaluations, evaluations_of_kind}
use Rattle.cluster_works.specs.Working.{DidWork, IsWork}

-- What a call counts.
pub counts_one : {E : Type 0} (before after : ℕ) (result : Result Work E) → IfOk result (λ work. evaluations work ≡ 1) → after ≡ before + 1 → Counts evaluations before after result
counts_one before after (Ok work) e s = omega (arith, e, s)
counts_one before after (Err why) e s = (omega (arith, s), omega (arith, s))

pub counts_none : {E : Type 0} (count : ℕ) (result : Result Work E) → IfOk result (λ work. evaluations work ≡ 0) → Counts evaluations count count result
counts_none count (Ok work) e = omega (arith, e)
counts_none count (Err why) e = (omega arith, omega arith)

-- a held request whose number no other has
record IsOne (hs : List Pending) (h : Pending) : Type 0 where
  fewer : unlooked_in (without h.question.number hs) + one h.stand ≤ unlooked_in hs
  other : (new : Pending) → new.question.number ≡ h.question.number → unlooked_in (with_held new hs) + one h.stand ≤ unlooked_in hs + one new.stand

is_same : (a b : ℕ) → (a == b) ≡ true → a ≡ b
is_same a b e = grind (arith, nat_tests)

with_none : (new : Pending) (hs : List Pending) → Each (λ (g : Pending). g.question.number ≢ new.question.number) hs → unlooked_in (with_held new hs) ≡ unlooked_in hs
with_none new [] a = refl
with_none new (h ∷ hs) a =
    let r = with_none new hs a.1 in
    let x = unlooked_more h hs in
    let y = unlooked_more h (with_held new hs) in
    at_bool (λ b. (h.question.number == new.question.number) ≡ b → unlooked_in (cond b new h ∷ with_held new hs) ≡ unlooked_in (h ∷ hs)) (h.question.number == new.question.number)
    (λ _ e. absurd (a.0 (is_same h.question.number new.question.number e))) (λ _ _. omega (arith, r, x, y)) refl

one_more : (g : Pending) (hs : List Pending) (h : Pending) → g.question.number ≢ h.question.number → IsOne hs h → IsOne (g ∷ hs) h
one_more g hs h d o = record {
  fewer = let r = o.fewer in let x = unlooked_more g hs in let y = unlooked_more g (without h.question.number hs) in
      at_bool (λ b. unlooked_in (cond (not b) (g ∷ without h.question.number hs) (without h.question.number hs)) + one h.stand ≤ unlooked_in (g ∷ hs)) (g.question.number == h.question.number)
      (λ _. omega (arith, r, x)) (λ _. omega (arith, r, x, y));
  other = λ new e. let r = o.other new e in let x = unlooked_more g hs in let y = unlooked_more g (with_held new hs) in
      at_bool (λ b. (g.question.number == new.question.number) ≡ b → unlooked_in (cond b new g ∷ with_held new hs) + one h.stand ≤ unlooked_in (g ∷ hs) + one new.stand) (g.question.number == new.question.number)
      (λ _ t. absurd (d (is_same g.question.number new.question.number t ∙ e))) (λ _ _. omega (arith, r, x, y)) refl;
}

one_first : (h : Pending) (hs : List Pending) → Each (λ (g : Pending). g.question.number ≢ h.question.number) hs → IsOne (h ∷ hs) h
one_first h hs a = record {
  fewer = let r = without_most h.question.number hs in let x = unlooked_more h hs in
      at_bool (λ b. b ≡ true → unlooked_in (cond (not b) (h ∷ without h.question.number hs) (without h.question.number hs)) + one h.stand ≤ unlooked_in (h ∷ hs)) (h.question.number == h.question.number)
      (λ _ _. omega (arith, r, x)) (λ _ e. absurd (cc e)) (eq_self h.question.number);
  other = λ new e. let r = with_none new hs (subst (λ z. Each (λ (g : Pending). g.question.number ≢ z) hs) (sym e) a) in let x = unlooked_more h hs in let y = unlooked_more new (with_held new hs) in
      at_bool (λ b. b ≡ true → unlooked_in (cond b new h ∷ with_held new hs) + one h.stand ≤ unlooked_in (h ∷ hs) + one new.stand) (h.question.number == new.question.number)
      (λ _ _. omega (arith, r, x, y)) (λ _ t. absurd (cc t)) (subst (λ z. (h.question.number == z) ≡ true) (sym e) (eq_self h.question.number));
}

all_one : (hs : List Pending) → Ascends hs → Each (IsOne hs) hs
all_one [] a = tt
all_one (h ∷ hs) a = (one_first h hs (each_map (λ (g : Pending). h.question.number < g.question.number) (λ (g : Pending). g.question.number ≢ h.question.number) (λ g l e. omega arith) hs a.0), rest hs a.0 (all_one hs a.1))
  where
    rest : (gs : List Pending) → Each (λ (g : Pending). h.question.number < g.question.number) gs → Each (IsOne hs) gs → Each (IsOne (h ∷ hs)) gs
    rest [] d o = tt
    rest (g ∷ gs) d o = (one_more h hs g (λ e. let k = d.0 in omega arith) o.0, rest gs d.1 o.1)

-- What a work of the rules takes, as the program finds it.
abbrev cost : rules.Work → ℕ
cost (Replies q kind) = evaluations_of_kind kind
cost (Holds h) = cond (has_looked h.stand) 1 0
cost other = 0

same_cost : (log : Log) (work : Work) (w : rules.Work) → IsWork log work w → evaluations work ≡ cost w
same_cost log (Answer number kind content) (Replies q other) f = ap evaluations_of_kind f.1
same_cost log (Answer number kind content) (Holds h) f = absurd f
same_cost log (Answer number kind content) (Closes n event) f = absurd f
same_cost log (Answer number kind content) Applies f = absurd f
same_cost log (Hold number stand) (Replies q other) f = absurd f
same_cost log (Hold number stand) (Holds h) f = ap (λ s. cond (has_looked s) 1 0) f.1
same_cost log (Hold number stand) (Closes n event) f = absurd f
same_cost log (Hold number stand) Applies f = absurd f
same_cost log (Close number event) (Replies q other) f = absurd f
same_cost log (Close number event) (Holds h) f = absurd f
same_cost log (Close number event) (Closes n made) f = refl
same_cost log (Close number event) Applies f = absurd f
same_cost log Apply (Replies q other) f = absurd f
same_cost log Apply (Holds h) f = absurd f
same_cost log Apply (Closes n event) f = absurd f
same_cost log Apply Applies f = refl

module _ (c : Cluster) (ascends : Ascends c.held) (i : ℕ) where
  -- it takes no more than what is looked for no more, and the answers of reads
  abbrev Pays : rules.Work → Type 0
  Pays w = cost w + unlooked (did i w c) + reads_answered c ≤ unlooked c + reads_answered (did i w c)

  goes : (h : Pending) → IsOne c.held h → 0 + unlooked_in (without h.question.number c.held) + reads_answered c ≤ unlooked c + reads_answered c
  goes h o = let r = o.fewer in omega (arith, r)

  answers_one : (h : Pending) → IsOne c.held h → (n : ℕ) → n ≡ reads_answered c + 1 → 1 + unlooked_in (without h.question.number c.held) + reads_answered c ≤ unlooked c + n
  answers_one h o n e = let r = o.fewer in omega (arith, r, e)

  looked_for : (h : Pending) → IsOne c.held h → one h.stand ≡ 1 → 1 + unlooked_in (without h.question.number c.held) + reads_answered c ≤ unlooked c + reads_answered c
  looked_for h o e = let r = o.fewer in omega (arith, r, e)

  waits_on : (h new : Pending) → IsOne c.held h → new.question.number ≡ h.question.number → (n : ℕ) → n + one new.stand ≤ one h.stand → n + unlooked_in (with_held new c.held) + reads_answered c ≤ unlooked c + reads_answered c
  waits_on h new o e n l = let r = o.other new e in omega (arith, r, l)

  plus_one : (n : ℕ) → suc n ≡ n + 1
  plus_one n = omega arith

  leaves : (h : Pending) → IsOne c.held h → h.server ≡ i → Leaves c i Pays h
  unfolding did
  leaves h o at = record {
    halted = λ e n. goes h o;
    closes = λ event e. goes h o;
    lands = λ index term e l. at_bool (λ b. Pays (Replies h.question (cond b (Acked index) (Refused (refusal.Lost term (term_at index (applied_of c i))))))) (term_at index (applied_of c i) == term) (λ _. goes h o) (λ _. goes h o);
    rises = λ round deadline e l. goes h o;
    answers = λ deadline looked query mode least wait raw st ask due. answers_one h o (suc (reads_answered c)) (plus_one (reads_answered c));
    refuses = λ deadline query mode least wait raw st ask below early l. looked_for h o (ap one st);
    sees = λ deadline query mode least wait raw st ask below. waits_on h (record h { stand = ForIndex deadline true }) o refl 1 (let e = ap one st in omega (arith, e));
    runs = λ deadline looked name limit mode st ask. goes h o;
    turns = λ round deadline st up confirmed l. waits_on h (record h { stand = ForIndex deadline false }) o refl 0 (let e = ap one st in omega (arith, e));
  }

  applies_none : Pays Applies
  unfolding did
  applies_none = omega arith

  did_pays : (w : rules.Work) → IsDue i c w → Pays w
  did_pays w d = due_cases c i Pays (IsOne c.held) (all_one c.held ascends) leaves (λ _. applies_none) w d

  paid : (k o n m u v r s : ℕ) → o ≡ k + n → n ≡ m → m + v + r ≤ u + s → o + v + r ≤ k + 0 + u + s
  paid k o n m u v r s x y z = omega (arith, x, y, z)

  pub work_evaluates : (new : Cluster) (k o : ℕ) (work : Work) → DidWork i work c new → o ≡ k + evaluations work → EvaluatesIn 0 k o c new
  work_evaluates new k o work (w, d, e, f) s =
      subst (λ (z : Cluster). EvaluatesIn 0 k o c z) (sym e)
      (record { grows = omega (arith, s); counted = paid k o (evaluations work) (cost w) (unlooked c) (unlooked (did i w c)) (reads_answered c) (reads_answered (did i w c)) s (same_cost (applied_of c i) work w f) (did_pays w d) })

-- Where nothing was done, one at most was evaluated.
refused_most : (why : Refusal) → evaluations_of_kind (Refused why) ≤ 1
refused_most (refusal.TooMany waiting) = omega arith
refused_most other = omega arith

kind_most : (kind : Kind) → evaluations_of_kind kind ≤ 1
kind_most (At mode prefix index clock deadline) = omega arith
kind_most (Refused why) = refused_most why
kind_most other = omega arith

work_most : (work : Work) → evaluations work ≤ 1
work_most (Answer number kind content) = kind_most kind
work_most (Hold number stand) = at_bool (λ b. cond b 1 0 ≤ 1) (has_looked (stand_of stand)) (λ _. omega arith) (λ _. omega arith)
work_most (Close number event) = omega arith
work_most Apply = omega arith

pub none_evaluates : (k o : ℕ) (c : Cluster) → o ≡ k + 0 → EvaluatesIn 0 k o c c
none_evaluates k o c s = record { grows = omega (arith, s); counted = omega (arith, s) }

pub lacking_evaluates : (k o : ℕ) (c new : Cluster) → new ≡ c → k ≤ o → o ≤ k + 1 → EvaluatesIn 1 k o c new
lacking_evaluates k o c new e l m = subst (λ (z : Cluster). EvaluatesIn 1 k o c z) (sym e) (record { grows = l; counted = omega (arith, m) })

pub found_lacking : (k o : ℕ) (c new : Cluster) (work : Work) → new ≡ c → o ≡ k + evaluations work → EvaluatesIn 1 k o c new
found_lacking k o c new work e s = let m = work_most work in lacking_evaluates k o c new e (omega (arith, s)) (omega (arith, s, m))

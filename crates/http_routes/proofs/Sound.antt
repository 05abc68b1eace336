-- What `first` finds fits the path.
use Rattle.std.proofs.Common.{◌≡◌, ◌≢◌, ℕ, zero, suc, ◌-◌, ◌<◌, ◌≤◌, ◌==◌, ◌&&◌, List, [], ◌∷◌, Bool, true, false, length, take, drop, refl, sym, ap, ◌∙◌, subst, arith, inl, inr, true≢false, cond, Option, Some, None}
use Rattle.std.specs.Prelude.{ltb}
use Rattle.std.specs.List.{All}
use Rattle.std.proofs.lemmas.List.Elements.{All-cons, All-nil}
use Rattle.std.proofs.lemmas.List.{take-append-drop}
use Rattle.std.proofs.Math.Seq.{take-length}
use Rattle.std.proofs.lemmas.Bool.{and_parts, ltb-true}
use Rattle.std.proofs.lemmas.Option.{none-some}
use Rattle.matchit.specs.Rows.{RowsOf, param_token, catch_all_token}
use Rattle.matchit.specs.Seek.{slash, segment, has_slash, cuts, better, own, step, or_else, longest_from, longest_suffix, with_suffix, param_step, seek, same_text}
use Rattle.http_routes.proofs.Fits.{FitsToken, Fits, HasRow}

own_row : {K : Type 0} (rs : RowsOf K) (k : K) → own rs ≡ Some k → HasRow [] k rs
own_row {K} [] k e = absurd (none-some _ e)
own_row {K} (([], l) ∷ rest) k e =
    inl (refl, sym (ap (λ (o : Option K). elim o as (λ _. K) [ None ↦ l | Some x ↦ x ]) e))
own_row {K} ((x ∷ t, l) ∷ rest) k e = inr (own_row rest k e)

step_by : {K : Type 0} (b x : ℕ) (t : List ℕ) (l : K) (rest : RowsOf K) (p : List ℕ) (k : K) (test : Bool)
    → (x == b) ≡ test
    → (HasRow p k (step b rest) → HasRow (b ∷ p) k rest)
    → HasRow p k (cond test ((t, l) ∷ step b rest) (step b rest)) → HasRow (b ∷ p) k ((x ∷ t, l) ∷ rest)
step_by b x t l rest p k true e more (inl h) =
    inl (ap (λ (u : List ℕ). b ∷ u) h.0 ∙ ap (λ (n : ℕ). n ∷ t) (grind (arith, e)), h.1)
step_by b x t l rest p k true e more (inr h) = inr (more h)
step_by b x t l rest p k false e more h = inr (more h)

step_row : {K : Type 0} (b : ℕ) (rs : RowsOf K) (p : List ℕ) (k : K) → HasRow p k (step b rs) → HasRow (b ∷ p) k rs
step_row b [] p k h = h
step_row b (([], l) ∷ rest) p k h = inr (step_row b rest p k h)
step_row b ((x ∷ t, l) ∷ rest) p k h = step_by b x t l rest p k (x == b) refl (λ m. step_row b rest p k m) h

with_by : {K : Type 0} (t : List ℕ) (l : K) (rest some : RowsOf K) (p : List ℕ) (k : K) (test : Bool)
    → (HasRow p k some → HasRow p k rest) → HasRow p k (cond test ((t, l) ∷ some) some) → HasRow p k ((t, l) ∷ rest)
with_by t l rest some p k true more (inl h) = inl h
with_by t l rest some p k true more (inr h) = inr (more h)
with_by t l rest some p k false more h = inr (more h)

with_suffix_row : {K : Type 0} (s : List ℕ) (rs : RowsOf K) (p : List ℕ) (k : K) → HasRow p k (with_suffix s rs)
    → HasRow p k rs
with_suffix_row s [] p k h = h
with_suffix_row s ((t, l) ∷ rest) p k h =
    with_by t l rest (with_suffix s rest) p k (same_text (segment t) s) (λ m. with_suffix_row s rest p k m) h

-- ---- segments

abbrev Short : List ℕ → List ℕ → Type 0
Short seg best = 0 < length best → length best < length seg

better_by : (seg best suffix : List ℕ) (test : Bool) → (ltb (length best) (length suffix) && cuts seg suffix) ≡ test
    → Short seg best → Short seg (cond test suffix best)
better_by seg best suffix true e short =
    λ _. ltb-true (length suffix) (length seg) (and_parts _ _ (and_parts _ _ e).1).0
better_by seg best suffix false e short = short

longest_short : {K : Type 0} (seg best : List ℕ) (rs : RowsOf K) → Short seg best → Short seg (longest_from seg best rs)
longest_short seg best [] short = short
longest_short seg best ((t, l) ∷ rest) short =
    longest_short seg (better seg best (segment t)) rest (better_by seg best (segment t) _ refl short)

plain_by : (b : ℕ) (rest : List ℕ) (test : Bool) → (b == slash) ≡ test
    → ((m : ℕ) → m < length (segment rest) → All (λ c. c ≢ slash) (take m rest))
    → (n : ℕ) → n < length (cond test (b ∷ []) (b ∷ segment rest)) → All (λ c. c ≢ slash) (take n (b ∷ rest))
plain_by b rest test e more zero less = All-nil _
plain_by b rest true e more (suc m) less = absurd (omega (arith, less))
plain_by b rest false e more (suc m) less =
    All-cons (λ c. c ≢ slash) b (take m rest) (λ is. true≢false (grind (arith, is, e))) (more m (omega (arith, less)))

seg_plain : (path : List ℕ) (n : ℕ) → n < length (segment path) → All (λ c. c ≢ slash) (take n path)
seg_plain [] n less = absurd (omega (arith, less))
seg_plain (b ∷ rest) n less = plain_by b rest (b == slash) refl (seg_plain rest) n less

seg_len_by : (b : ℕ) (rest : List ℕ) (test : Bool) → length (segment rest) ≤ length rest
    → length (cond test (b ∷ []) (b ∷ segment rest)) ≤ length (b ∷ rest)
seg_len_by b rest true le = omega arith
seg_len_by b rest false le = omega (arith, le)

seg_len : (path : List ℕ) → length (segment path) ≤ length path
seg_len [] = omega arith
seg_len (b ∷ rest) = seg_len_by b rest (b == slash) (seg_len rest)

slash_by : (b : ℕ) (rest : List ℕ) (test : Bool) → (b == slash) ≡ test
    → (has_slash rest ≡ false → All (λ c. c ≢ slash) rest)
    → cond test true (has_slash rest) ≡ false → All (λ c. c ≢ slash) (b ∷ rest)
slash_by b rest true e more none = absurd (true≢false none)
slash_by b rest false e more none =
    All-cons (λ c. c ≢ slash) b rest (λ is. true≢false (grind (arith, is, e))) (more none)

no_slash : (path : List ℕ) → has_slash path ≡ false → All (λ c. c ≢ slash) path
no_slash [] e = All-nil _
no_slash (b ∷ rest) e = slash_by b rest (b == slash) refl (no_slash rest) e

-- ---- a parameter

taken : (p : List ℕ) (b : ℕ) (path : List ℕ) (n : ℕ) → 0 < n → n ≤ length (b ∷ path)
    → All (λ c. c ≢ slash) (take n (b ∷ path))
    → Fits p (drop (n - 1) path) → FitsToken param_token (Fits p) (b ∷ path)
taken p b path zero some within plain fits = absurd (omega (arith, some))
taken p b path (suc m) some within plain fits =
    let same : suc m - 1 ≡ m = omega arith in
    inl (
      refl,
      take (suc m) (b ∷ path),
      drop m path,
      sym (take-append-drop (suc m) (b ∷ path)),
      (omega arith, plain),
      subst (λ (j : ℕ). Fits p (drop j path)) same fits,
    )

chosen_n : {K : Type 0} → (long : List ℕ) (t1 t2 : Bool) (rs : RowsOf K) (bp : List ℕ) → ℕ × RowsOf K
chosen_n long t1 t2 rs bp =
    cond t1 (length (segment bp) - length long, with_suffix long rs) (cond t2 (0, []) (length bp, rs))

param_by : {K : Type 0} (rs : RowsOf K) (b : ℕ) (path p : List ℕ) (k : K) (long : List ℕ) (t1 t2 : Bool)
    → Short (segment (b ∷ path)) long → ltb 0 (length long) ≡ t1 → has_slash (b ∷ path) ≡ t2
    → HasRow p k (chosen_n long t1 t2 rs (b ∷ path)).1 → Fits p (drop ((chosen_n long t1 t2 rs (b ∷ path)).0 - 1) path)
    → HasRow p k rs × FitsToken param_token (Fits p) (b ∷ path)
unfolding chosen_n
param_by rs b path p k long true t2 short e1 e2 row fits =
    let some = ltb-true 0 (length long) e1 in
    let less = short some in
    let bound = seg_len (b ∷ path) in
    let n = length (segment (b ∷ path)) - length long in (
      with_suffix_row long rs p k row,
      taken p b path n (omega (arith, less)) (omega (arith, bound))
          (seg_plain (b ∷ path) n (omega (arith, less, some))) fits,
    )
param_by rs b path p k long false true short e1 e2 row fits = absurd row
param_by rs b path p k long false false short e1 e2 row fits = (
  row,
  taken p b path (length (b ∷ path)) (omega arith) (omega arith)
      (subst (λ (u : List ℕ). All (λ c. c ≢ slash) u) (sym (take-length (b ∷ path))) (no_slash (b ∷ path) e2)) fits,
)

param_fits : {K : Type 0} (rs : RowsOf K) (b : ℕ) (path p : List ℕ) (k : K) → HasRow p k (param_step rs (b ∷ path)).1
    → Fits p (drop ((param_step rs (b ∷ path)).0 - 1) path) → HasRow p k rs × FitsToken param_token (Fits p) (b ∷ path)
unfolding param_step chosen_n
param_fits rs b path p k row fits =
    param_by rs b path p k (longest_suffix (segment (b ∷ path)) rs) _ _
    (longest_short (segment (b ∷ path)) [] rs (λ some. absurd (omega (arith, some)))) refl refl row fits

-- ---- the walk

abbrev Found : {K : Type 0} → RowsOf K → List ℕ → K → Type 0
Found rs path k = (p : List ℕ) × HasRow p k rs × Fits p path

one_of : {K : Type 0} (a c d : Option K) (k : K) {G : Type 0} → or_else a (or_else c d) ≡ Some k
    → (a ≡ Some k → G) → (c ≡ Some k → G) → (d ≡ Some k → G) → G
one_of (Some x) c d k e fa fc fd = fa e
one_of None (Some x) d k e fa fc fd = fc e
one_of None None d k e fa fc fd = fd e

pub no_drop : (n : ℕ) → drop {A = ℕ} n [] ≡ []
no_drop zero = refl
no_drop (suc n) = refl

pub sound : {K : Type 0} (path : List ℕ) (skip : ℕ) (rs : RowsOf K) (k : K) → seek skip rs path ≡ Some k
    → Found rs (drop skip path) k
unfolding seek
sound [] skip rs k e = ([], own_row rs k e, no_drop skip)
sound (b ∷ path) (suc skip) rs k e = sound path skip rs k e
sound (b ∷ path) zero rs k e =
    one_of (seek 0 (step b rs) path)
    (seek ((param_step (step param_token rs) (b ∷ path)).0 - 1) (param_step (step param_token rs) (b ∷ path)).1 path)
    (own (step catch_all_token rs)) k e
    (λ e1. let f = sound path 0 (step b rs) k e1 in (b ∷ f.0, step_row b rs f.0 k f.1, inr (inr (path, refl, f.2))))
    (λ e2. let f = sound path _ _ k e2 in
    let g = param_fits (step param_token rs) b path f.0 k f.1 f.2 in
    (param_token ∷ f.0, step_row param_token rs f.0 k g.0, g.1))
    (λ e3. (
      catch_all_token ∷ [],
      step_row catch_all_token rs [] k (own_row (step catch_all_token rs) k e3),
      inr
          (inl (refl, omega arith)),
    ))

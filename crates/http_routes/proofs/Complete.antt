-- A path that fits a row is found.
use Rattle.std.proofs.Common.{◌≡◌, ◌≢◌, ℕ, zero, suc, ◌+◌, ◌-◌, ◌<◌, ◌==◌, ◌&&◌, List, [], ◌∷◌, ◌++◌, Bool, true, false, length, drop, refl, sym, ap, ◌∙◌, subst, arith, append-nil, length-append, inl, inr, true≢false, cond, Option, Some, None, is_some, nat_eq}
use Rattle.std.specs.Prelude.{ltb}
use Rattle.std.specs.Cmp.Lexicographic.{pointwise}
use Rattle.std.specs.List.{All}
use Rattle.std.proofs.lemmas.List.Elements.{All-head, All-tail}
use Rattle.std.proofs.Math.Seq.{drop-length, drop-append_seam}
use Rattle.std.proofs.lemmas.Bool.{lt-ltb, ne_eqb}
use Rattle.http_routes.proofs.Sound.{no_drop}
use Rattle.matchit.specs.Rows.{RowsOf, param_token, catch_all_token}
use Rattle.matchit.specs.Seek.{slash, segment, has_slash, cuts, own, step, or_else, longest_from, with_suffix, param_step, seek, same_text}
use Rattle.http_routes.proofs.Fits.{Fits, HasRow, Ends, Whole, AllWhole, head_of, tail_of}

Plain : List ℕ → Type 0
Plain s = All (λ c. c ≢ slash) s

abbrev AllEnds : {K : Type 0} → RowsOf K → Type 0
AllEnds [] = Unit {0}
AllEnds ((t, k) ∷ rest) = Ends t × AllEnds rest

-- ---- rows

in_step_by : {K : Type 0} (b x : ℕ) (t p : List ℕ) (l k : K) (rest : RowsOf K) (test : Bool) → (x == b) ≡ test
    → ((b ∷ p ≡ x ∷ t) × (k ≡ l)) → HasRow p k (cond test ((t, l) ∷ step b rest) (step b rest))
in_step_by b x t p l k rest true e h = inl (ap tail_of h.0, h.1)
in_step_by b x t p l k rest false e h = absurd (true≢false (grind (arith, ap head_of h.0, e)))

in_step_later : {K : Type 0} (b x : ℕ) (t p : List ℕ) (l k : K) (rest : RowsOf K) (test : Bool)
    → HasRow p k (step b rest) → HasRow p k (cond test ((t, l) ∷ step b rest) (step b rest))
in_step_later b x t p l k rest true h = inr h
in_step_later b x t p l k rest false h = h

in_step : {K : Type 0} (b : ℕ) (rs : RowsOf K) (p : List ℕ) (k : K) → HasRow (b ∷ p) k rs → HasRow p k (step b rs)
in_step b [] p k h = h
in_step b (([], l) ∷ rest) p k (inl h) = absurd (length_differs h.0)
  where
    length_differs : {y : ℕ} {ys : List ℕ} → y ∷ ys ≡ [] → ⊥
    length_differs {y} {ys} e = omega (arith, ap (λ (u : List ℕ). length u) e)
in_step b (([], l) ∷ rest) p k (inr h) = in_step b rest p k h
in_step b ((x ∷ t, l) ∷ rest) p k (inl h) = in_step_by b x t p l k rest (x == b) refl h
in_step b ((x ∷ t, l) ∷ rest) p k (inr h) = in_step_later b x t p l k rest (x == b) (in_step b rest p k h)

step_whole_by : {K : Type 0} (b x : ℕ) (t : List ℕ) (l : K) (rest : RowsOf K) (test : Bool)
    → Whole t → AllWhole (step b rest) → AllWhole (cond test ((t, l) ∷ step b rest) (step b rest))
step_whole_by b x t l rest true w more = (w, more)
step_whole_by b x t l rest false w more = more

step_whole : {K : Type 0} (b : ℕ) (rs : RowsOf K) → AllWhole rs → AllWhole (step b rs)
step_whole b [] w = w
step_whole b (([], l) ∷ rest) w = step_whole b rest w.1
step_whole b ((x ∷ t, l) ∷ rest) w = step_whole_by b x t l rest (x == b) w.0.2 (step_whole b rest w.1)

step_ends_by : {K : Type 0} (x : ℕ) (t : List ℕ) (l : K) (rest : RowsOf K) (test : Bool) → (x == param_token) ≡ test
    → (x ≡ param_token → Ends t) → AllEnds (step param_token rest)
    → AllEnds (cond test ((t, l) ∷ step param_token rest) (step param_token rest))
step_ends_by x t l rest true e w more = (w (grind (arith, e)), more)
step_ends_by x t l rest false e w more = more

step_ends : {K : Type 0} (rs : RowsOf K) → AllWhole rs → AllEnds (step param_token rs)
step_ends [] w = w
step_ends (([], l) ∷ rest) w = step_ends rest w.1
step_ends ((x ∷ t, l) ∷ rest) w = step_ends_by x t l rest (x == param_token) refl w.0.0 (step_ends rest w.1)

with_whole_by : {K : Type 0} (t : List ℕ) (l : K) (some : RowsOf K) (test : Bool) → Whole t → AllWhole some
    → AllWhole (cond test ((t, l) ∷ some) some)
with_whole_by t l some true w more = (w, more)
with_whole_by t l some false w more = more

with_whole : {K : Type 0} (s : List ℕ) (rs : RowsOf K) → AllWhole rs → AllWhole (with_suffix s rs)
with_whole s [] w = w
with_whole s ((t, l) ∷ rest) w =
    with_whole_by t l (with_suffix s rest) (same_text (segment t) s) w.0 (with_whole s rest w.1)

in_with_by : {K : Type 0} (t p : List ℕ) (l k : K) (some : RowsOf K) (test : Bool) → HasRow p k some
    → HasRow p k (cond test ((t, l) ∷ some) some)
in_with_by t p l k some true h = inr h
in_with_by t p l k some false h = h

in_with : {K : Type 0} (s : List ℕ) (rs : RowsOf K) (p : List ℕ) (k : K) → same_text (segment p) s ≡ true
    → HasRow p k rs → HasRow p k (with_suffix s rs)
in_with s [] p k e h = h
in_with s ((t, l) ∷ rest) p k e (inl h) =
    subst (λ (u : List ℕ). HasRow p k
    (cond (same_text (segment u) s) ((t, l) ∷ with_suffix s rest) (with_suffix s rest))) h.0 (rw e (inl h))
in_with s ((t, l) ∷ rest) p k e (inr h) =
    in_with_by t p l k (with_suffix s rest) (same_text (segment t) s) (in_with s rest p k e h)

own_some : {K : Type 0} (rs : RowsOf K) (k : K) → HasRow [] k rs → is_some (own rs) ≡ true
own_some [] k h = absurd h
own_some (([], l) ∷ rest) k h = refl
own_some ((x ∷ t, l) ∷ rest) k (inl h) = absurd (omega (arith, ap (λ (u : List ℕ). length u) h.0))
own_some ((x ∷ t, l) ∷ rest) k (inr h) = own_some rest k h

-- ---- segments

seg_slash : (part rest : List ℕ) → Plain part → segment (part ++ slash ∷ rest) ≡ part ++ slash ∷ []
unfolding Plain
seg_slash [] rest plain = refl
seg_slash (b ∷ part) rest plain =
    rw (ne_eqb b slash (All-head (λ c. c ≢ slash) b part plain))
    (ap (λ (u : List ℕ). b ∷ u) (seg_slash part rest (All-tail (λ c. c ≢ slash) b part plain)))

seg_plain : (path : List ℕ) → Plain path → segment path ≡ path
unfolding Plain
seg_plain [] plain = refl
seg_plain (b ∷ path) plain =
    rw (ne_eqb b slash (All-head (λ c. c ≢ slash) b path plain))
    (ap (λ (u : List ℕ). b ∷ u) (seg_plain path (All-tail (λ c. c ≢ slash) b path plain)))

no_slash : (path : List ℕ) → Plain path → has_slash path ≡ false
unfolding Plain
no_slash [] plain = refl
no_slash (b ∷ path) plain = rw (ne_eqb b slash (All-head (λ c. c ≢ slash) b path plain))
    (no_slash path (All-tail (λ c. c ≢ slash) b path plain))

plain_drop : (n : ℕ) (s : List ℕ) → Plain s → Plain (drop n s)
unfolding Plain
plain_drop zero s plain = plain
plain_drop (suc n) [] plain = plain
plain_drop (suc n) (b ∷ s) plain = plain_drop n s (All-tail (λ c. c ≢ slash) b s plain)

not_slash_last : (s : List ℕ) → Plain s → pointwise nat_eq (slash ∷ []) s ≡ false
unfolding Plain
not_slash_last [] plain = refl
not_slash_last (b ∷ s) plain = rw (ne_eqb slash b (λ same. All-head (λ c. c ≢ slash) b s plain (sym same))) refl

-- ---- the longest suffix, where each is empty or a slash

and_false : (a b : Bool) → b ≡ false → (a && b) ≡ false
and_false true b e = e
and_false false b e = refl

stays_none : {K : Type 0} (seg : List ℕ) (rs : RowsOf K) → AllEnds rs → cuts seg (slash ∷ []) ≡ false
    → longest_from seg [] rs ≡ []
stays_none seg [] ends none = refl
stays_none seg (([], l) ∷ rest) ends none = stays_none seg rest ends.1 none
stays_none seg ((y ∷ t, l) ∷ rest) ends none =
    rw (ends.0, none) (stays_none seg rest ends.1 none)

stays_slash : {K : Type 0} (seg : List ℕ) (rs : RowsOf K) → AllEnds rs → longest_from seg (slash ∷ []) rs ≡ slash ∷ []
stays_slash seg [] ends = refl
stays_slash seg (([], l) ∷ rest) ends = stays_slash seg rest ends.1
stays_slash seg ((y ∷ t, l) ∷ rest) ends = rw ends.0 (stays_slash seg rest ends.1)

finds_slash : {K : Type 0} (seg : List ℕ) (rs : RowsOf K) (t : List ℕ) (k : K) → AllEnds rs
    → cuts seg (slash ∷ []) ≡ true
    → HasRow (slash ∷ t) k rs → longest_from seg [] rs ≡ slash ∷ []
finds_slash seg [] t k ends cut h = absurd h
finds_slash seg (([], l) ∷ rest) t k ends cut (inl h) = absurd (omega (arith, ap (λ (u : List ℕ). length u) h.0))
finds_slash seg (([], l) ∷ rest) t k ends cut (inr h) = finds_slash seg rest t k ends.1 cut h
finds_slash seg ((y ∷ u, l) ∷ rest) t k ends cut h = rw (ends.0, cut) (stays_slash seg rest ends.1)

-- ---- a parameter

plain_all : (path : List ℕ) → Plain path → All (λ c. c ≢ slash) path
unfolding Plain
plain_all path plain = plain

-- a part that ends the path
at_end : {K : Type 0} (rs : RowsOf K) (bp : List ℕ) → AllEnds rs → Plain bp → param_step rs bp ≡ (length bp, rs)
unfolding param_step
at_end rs bp ends plain =
    let none : cuts bp (slash ∷ []) ≡ false = and_false _ _ (not_slash_last _ (plain_drop (length bp - 1) bp plain)) in
    rw (seg_plain bp plain, stays_none bp rs ends none, no_slash bp plain) refl

-- a part before a slash
before_slash : {K : Type 0} (rs : RowsOf K) (part rest t : List ℕ) (k : K) → AllEnds rs → Plain part → 0 < length part
    → HasRow (slash ∷ t) k rs → param_step rs (part ++ slash ∷ rest) ≡ (length part, with_suffix (slash ∷ []) rs)
unfolding param_step
before_slash rs part rest t k ends plain some h =
    let seg = seg_slash part rest plain in
    let size : length (part ++ slash ∷ []) ≡ length part + 1 = length-append part (slash ∷ []) in
    let last : drop (length (part ++ slash ∷ []) - 1) (part ++ slash ∷ []) ≡ slash ∷ [] =
    (let e : length (part ++ slash ∷ []) - 1 ≡ length part = omega (arith, size) in rw e
    (drop-append_seam part (slash ∷ []))) in
    let cut : cuts (part ++ slash ∷ []) (slash ∷ []) ≡ true =
    (let more : ltb 1 (length (part ++ slash ∷ [])) ≡ true = lt-ltb 1 _ (omega (arith, size, some)) in rw
    (more, last) refl) in
    rw (seg, finds_slash (part ++ slash ∷ []) rs t k ends cut h, size)
    (ap (λ (n : ℕ). (n, with_suffix (slash ∷ []) rs)) (omega arith))

-- ---- the walk

left_some : {K : Type 0} (a c : Option K) → is_some a ≡ true → is_some (or_else a c) ≡ true
left_some None c e = absurd (true≢false (sym e))
left_some (Some x) c e = refl

right_some : {K : Type 0} (a c : Option K) → is_some c ≡ true → is_some (or_else a c) ≡ true
right_some None c e = e
right_some (Some x) c e = refl

mid_some : {K : Type 0} (a c d : Option K) → is_some c ≡ true → is_some (or_else a (or_else c d)) ≡ true
mid_some a c d e = right_some a (or_else c d) (left_some c d e)

pub not_empty : {x : ℕ} {xs : List ℕ} → [] ≡ x ∷ xs → ⊥
not_empty {x} {xs} e = omega (arith, ap (λ (u : List ℕ). length u) e)

pub fits_empty : (p : List ℕ) → Fits p [] → p ≡ []
fits_empty [] f = refl
fits_empty (x ∷ t) (inl f) = absurd (grind (arith, ap (λ (u : List ℕ). length u) f.3, f.4.0, length-append))
fits_empty (x ∷ t) (inr (inl f)) = absurd (omega (arith, f.1))
fits_empty (x ∷ t) (inr (inr f)) = absurd (not_empty f.1)

row_whole : {K : Type 0} (rs : RowsOf K) (p : List ℕ) (k : K) → AllWhole rs → HasRow p k rs → Whole p
row_whole [] p k w h = absurd h
row_whole ((t, l) ∷ rest) p k w (inl h) = subst Whole (sym h.0) w.0
row_whole ((t, l) ∷ rest) p k w (inr h) = row_whole rest p k w.1 h

row_ends : {K : Type 0} (rs : RowsOf K) (p : List ℕ) (k : K) → AllEnds rs → HasRow p k rs → Ends p
row_ends [] p k w h = absurd h
row_ends ((t, l) ∷ rest) p k w (inl h) = subst Ends (sym h.0) w.0
row_ends ((t, l) ∷ rest) p k w (inr h) = row_ends rest p k w.1 h

tail_drop : (b : ℕ) (path part rest : List ℕ) → b ∷ path ≡ part ++ rest → 0 < length part
    → drop (length part - 1) path ≡ rest
tail_drop b path [] rest e some = absurd (omega (arith, some))
tail_drop b path (c ∷ part) rest e some =
    let size : length (c ∷ part) - 1 ≡ length part = omega arith in
    let same : path ≡ part ++ rest = ap tail_of e in
    rw (size, same) (drop-append_seam part rest)

-- what a literal slash at the front of a pattern fits
pub slash_fits : (t rest : List ℕ) → Fits (slash ∷ t) rest → (more : List ℕ) × (rest ≡ slash ∷ more)
slash_fits t rest (inl f) = absurd (omega (arith, f.0))
slash_fits t rest (inr (inl f)) = absurd (omega (arith, f.0))
slash_fits t rest (inr (inr f)) = (f.0, f.1)

pub complete : {K : Type 0} (path : List ℕ) (skip : ℕ) (rs : RowsOf K) (p : List ℕ) (k : K) → AllWhole rs
    → HasRow p k rs
    → Fits p (drop skip path) → is_some (seek skip rs path) ≡ true
unfolding seek Plain
complete [] skip rs p k whole h f =
    own_some rs k (subst (λ (u : List ℕ). HasRow u k rs)
    (fits_empty p (subst (λ (u : List ℕ). Fits p u) (no_drop skip) f)) h)
complete (b ∷ path) (suc skip) rs p k whole h f = complete path skip rs p k whole h f
complete (b ∷ path) zero rs [] k whole h f = absurd (not_empty (sym f))
complete (b ∷ path) zero rs (x ∷ t) k whole h (inr (inr f)) =
    let byte : b ≡ x = ap head_of f.1 in
    let more : path ≡ f.0 = ap tail_of f.1 in
    left_some (seek 0 (step b rs) path)
    (or_else (seek ((param_step (step param_token rs) (b ∷ path)).0 - 1)
    (param_step (step param_token rs) (b ∷ path)).1 path) (own (step catch_all_token rs)))
    (complete path 0 (step b rs) t k (step_whole b rs whole)
    (in_step b rs t k (subst (λ (c : ℕ). HasRow (c ∷ t) k rs) (sym byte) h))
    (subst (λ (u : List ℕ). Fits t u) (sym more) f.2))
complete (b ∷ path) zero rs (x ∷ t) k whole h (inr (inl f)) =
    let none : t ≡ [] = (row_whole rs (x ∷ t) k whole h).1 f.0 in
    let row = in_step catch_all_token rs [] k
    (subst (λ (u : List ℕ). HasRow u k rs)
    (ap (λ (c : ℕ). c ∷ t) f.0 ∙ ap (λ (u : List ℕ). catch_all_token ∷ u) none) h) in
    right_some (seek 0 (step b rs) path)
    (or_else (seek ((param_step (step param_token rs) (b ∷ path)).0 - 1)
    (param_step (step param_token rs) (b ∷ path)).1 path) (own (step catch_all_token rs)))
    (right_some (seek ((param_step (step param_token rs) (b ∷ path)).0 - 1)
    (param_step (step param_token rs) (b ∷ path)).1 path) (own (step catch_all_token rs))
    (own_some (step catch_all_token rs) k row))
complete {K} (b ∷ path) zero rs (x ∷ []) k whole h (inl f) =
    let rows : RowsOf K = step param_token rs in
    let row : HasRow [] k rows = in_step param_token rs [] k (subst (λ (c : ℕ). HasRow (c ∷ []) k rs) f.0 h) in
    let all : b ∷ path ≡ f.1 = f.3 ∙ (ap (λ (u : List ℕ). f.1 ++ u) f.5 ∙ append-nil f.1) in
    let at = at_end rows (b ∷ path) (step_ends rs whole) (subst Plain (sym all) f.4.1) in
    let size : length (b ∷ path) - 1 ≡ length path = omega arith in
    mid_some (seek 0 (step b rs) path) (seek ((param_step rows (b ∷ path)).0 - 1) (param_step rows (b ∷ path)).1 path)
    (own (step catch_all_token rs))
    (subst (λ (q : ℕ × RowsOf K). is_some (seek (q.0 - 1) q.1 path) ≡ true) (sym at)
    (complete path (length (b ∷ path) - 1) rows [] k (step_whole param_token rs whole) row
    (ap (λ (n : ℕ). drop n path) size ∙ drop-length path)))
complete {K} (b ∷ path) zero rs (x ∷ y ∷ t) k whole h (inl f) =
    let rows : RowsOf K = step param_token rs in
    let first_row : HasRow (y ∷ t) k rows =
    in_step param_token rs (y ∷ t) k (subst (λ (c : ℕ). HasRow (c ∷ y ∷ t) k rs) f.0 h) in
    let ends : y ≡ slash = row_ends rows (y ∷ t) k (step_ends rs whole) first_row in
    let row : HasRow (slash ∷ t) k rows = subst (λ (c : ℕ). HasRow (c ∷ t) k rows) ends first_row in
    let fits : Fits (slash ∷ t) f.2 = subst (λ (c : ℕ). Fits (c ∷ t) f.2) ends f.5 in
    let more = slash_fits t f.2 fits in
    let whole_path : b ∷ path ≡ f.1 ++ slash ∷ more.0 = f.3 ∙ ap (λ (u : List ℕ). f.1 ++ u) more.1 in
    let at = before_slash rows f.1 more.0 t k (step_ends rs whole) f.4.1 f.4.0 row in
    let same : param_step rows (b ∷ path) ≡ (length f.1, with_suffix (slash ∷ []) rows) =
    ap (λ (u : List ℕ). param_step rows u) whole_path ∙ at in
    let rest : drop (length f.1 - 1) path ≡ f.2 = tail_drop b path f.1 f.2 f.3 f.4.0 in
    mid_some (seek 0 (step b rs) path) (seek ((param_step rows (b ∷ path)).0 - 1) (param_step rows (b ∷ path)).1 path)
    (own (step catch_all_token rs))
    (subst (λ (q : ℕ × RowsOf K). is_some (seek (q.0 - 1) q.1 path) ≡ true) (sym same)
    (complete path (length f.1 - 1) (with_suffix (slash ∷ []) rows) (slash ∷ t) k
    (with_whole (slash ∷ []) rows (step_whole param_token rs whole))
    (in_with (slash ∷ []) rows (slash ∷ t) k refl row) (subst (λ (u : List ℕ). Fits (slash ∷ t) u) (sym rest) fits)))

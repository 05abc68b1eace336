-- A path fits a pattern exactly where it is the front, what stands for the name, and the back.
use Rattle.std.proofs.Common.{◌≡◌, ◌≢◌, ℕ, ◌<◌, ◌-◌, ◌==◌, ◌&&◌, ◌||◌, not, nat_lt, nat_eq, Bool, true, false, cond, List, [], ◌∷◌, ◌++◌, length, take, drop, Option, Some, None, refl, sym, ap, ◌∙◌, subst, arith, inl, inr, true≢false, append-nil, length-append}
use Rattle.std.specs.Prelude.{option_and_then}
use Rattle.std.specs.List.{All, list_all}
use Rattle.std.proofs.lemmas.Option.{none-some}
use Rattle.std.proofs.lemmas.Bool.{and_parts, ltb-true, lt-ltb}
use Rattle.std.proofs.lemmas.Bool.Decides.{Decides-eqb}
use Rattle.std.proofs.lemmas.List.Elements.{All-head, All-tail, All-nil, All-cons}
use Rattle.std.proofs.lemmas.Slice.Eq.{starts_is, ends_is}
use Rattle.std.proofs.Math.Seq.{drop-append_seam, take-append_seam}
use Rattle.matchit.specs.Rows.{param_token, catch_all_token}
use Rattle.matchit.specs.Seek.{slash}
use Rattle.http_routes.proofs.Fits.{Fits}
use Rattle.http_routes.specs.Paths.{front_of, back_of, behind, ahead_of, has, may_stand, if_stands, takes}
use Rattle.http_routes.proofs.Good.{tokens, middle, is_plain, ends, is_whole, is_row}

pub never : (t : Bool) → not t ≡ true → t ≡ true → ⊥
never true e is = true≢false (sym e)
never false e is = true≢false (sym is)

pub plain_byte : (b : ℕ) → is_plain b ≡ true → (b < 128) × (b ≢ 63)
plain_byte b e =
    let tests = and_parts (nat_lt b 128) (not (b == 63)) e in
    (ltb-true b 128 tests.0, λ is. never (b == 63) tests.1 ((Decides-eqb b 63).1 is))

pub Plain : List ℕ → Type 0
Plain text = list_all is_plain text ≡ true

pub plain_head : (b : ℕ) (text : List ℕ) → Plain (b ∷ text) → (b < 128) × (b ≢ 63)
unfolding Plain
plain_head b text e = plain_byte b (and_parts (is_plain b) (list_all is_plain text) e).0

pub plain_tail : (b : ℕ) (text : List ℕ) → Plain (b ∷ text) → Plain text
unfolding Plain
plain_tail b text e = (and_parts (is_plain b) (list_all is_plain text) e).1

-- ---- texts among the tokens

fits_text : (t p path : List ℕ) → Plain t → Fits (t ++ p) path → (rest : List ℕ) × (path ≡ t ++ rest) × Fits p rest
fits_text [] p path plain f = (path, refl, f)
fits_text (x ∷ t) p path plain (inl f) = absurd (omega (arith, f.0, (plain_head x t plain).0))
fits_text (x ∷ t) p path plain (inr (inl f)) = absurd (omega (arith, f.0, (plain_head x t plain).0))
fits_text (x ∷ t) p path plain (inr (inr f)) =
    let more = fits_text t p f.0 (plain_tail x t plain) f.2 in
    (more.0, f.1 ∙ ap (λ (u : List ℕ). x ∷ u) more.1, more.2)

text_fits : (t p rest : List ℕ) → Fits p rest → Fits (t ++ p) (t ++ rest)
text_fits [] p rest f = f
text_fits (x ∷ t) p rest f = inr (inr (t ++ rest, refl, text_fits t p rest f))

fits_back : (t rest : List ℕ) → Plain t → Fits t rest → rest ≡ t
fits_back [] rest plain f = f
fits_back (x ∷ t) rest plain (inl f) = absurd (omega (arith, f.0, (plain_head x t plain).0))
fits_back (x ∷ t) rest plain (inr (inl f)) = absurd (omega (arith, f.0, (plain_head x t plain).0))
fits_back (x ∷ t) rest plain (inr (inr f)) =
    f.1 ∙ ap (λ (u : List ℕ). x ∷ u) (fits_back t f.0 (plain_tail x t plain) f.2)

back_fits : (t : List ℕ) → Fits t t
back_fits [] = refl
back_fits (x ∷ t) = inr (inr (t, refl, back_fits t))

-- ---- the name

mid : Bool → Bool → List ℕ
mid t1 t2 = cond t1 (cond t2 (catch_all_token ∷ []) (param_token ∷ [])) []

stands : Bool → Bool → List ℕ → Bool
stands t1 t2 part = cond t1 (nat_lt 0 (length part) && (t2 || not (has 47 part))) (nat_eq (length part) 0)

no_slash_by : (b : ℕ) (part : List ℕ) (t : Bool) → (b == 47) ≡ t → b ≢ slash → has 47 part ≡ false
    → (t || has 47 part) ≡ false
no_slash_by b part true e other rest = absurd (other ((Decides-eqb b 47).0 e))
no_slash_by b part false e other rest = rest

no_slash : (part : List ℕ) → All (λ b. b ≢ slash) part → has 47 part ≡ false
no_slash [] all = refl
no_slash (b ∷ part) all =
    no_slash_by b part (b == 47) refl (All-head (λ c. c ≢ slash) b part all)
    (no_slash part (All-tail (λ c. c ≢ slash) b part all))

slash_less_by : (b : ℕ) (part : List ℕ) (t : Bool) → (b == 47) ≡ t
    → (not (has 47 part) ≡ true → All (λ c. c ≢ slash) part)
    → not (t || has 47 part) ≡ true → All (λ c. c ≢ slash) (b ∷ part)
slash_less_by b part true is more e = absurd (true≢false (sym e))
slash_less_by b part false is more e =
    All-cons (λ c. c ≢ slash) b part (λ same. true≢false (sym ((Decides-eqb b 47).1 same) ∙ is)) (more e)

slash_less : (part : List ℕ) → not (has 47 part) ≡ true → All (λ b. b ≢ slash) part
slash_less [] e = All-nil _
slash_less (b ∷ part) e = slash_less_by b part (b == 47) refl (slash_less part) e

pub nil_of : (t : List ℕ) → (length t == 0) ≡ true → t ≡ []
nil_of [] e = refl
nil_of (x ∷ t) e = absurd (omega (arith, (Decides-eqb (length (x ∷ t)) 0).0 e))

fits_mid : (t1 t2 : Bool) (back rest : List ℕ) → Plain back → All (λ b. b < 256) rest
    → is_whole (mid t1 t2 ++ back) ≡ true → Fits (mid t1 t2 ++ back) rest
    → (part : List ℕ) × (rest ≡ part ++ back) × (stands t1 t2 part ≡ true)
unfolding mid stands
fits_mid false t2 back rest plain small whole f = ([], fits_back back rest plain f, refl)
fits_mid true true back rest plain small whole (inl f) = absurd (omega (arith, f.0))
fits_mid true true back rest plain small whole (inr (inl f)) =
    let none : back ≡ [] = nil_of back (and_parts (length back == 0) (is_whole back) whole).0 in
    let some : nat_lt 0 (length rest) ≡ true = lt-ltb 0 (length rest) f.1 in
    (rest, sym (append-nil rest) ∙ ap (λ (u : List ℕ). rest ++ u) (sym none), rw some refl)
fits_mid true true back rest plain small whole (inr (inr f)) =
    absurd (omega (
      arith,
      All-head (λ b. b < 256) catch_all_token f.0
          (subst (λ (u : List ℕ). All (λ b. b < 256) u) f.1 small),
    ))
fits_mid true false back rest plain small whole (inl f) =
    let some : nat_lt 0 (length f.1) ≡ true = lt-ltb 0 (length f.1) f.4.0 in
    (f.1, f.3 ∙ ap (λ (u : List ℕ). f.1 ++ u) (fits_back back f.2 plain f.5), rw (some, no_slash f.1 f.4.1) refl)
fits_mid true false back rest plain small whole (inr (inl f)) = absurd (omega (arith, f.0))
fits_mid true false back rest plain small whole (inr (inr f)) =
    absurd (omega (
      arith,
      All-head (λ b. b < 256) param_token f.0
          (subst (λ (u : List ℕ). All (λ b. b < 256) u) f.1 small),
    ))

mid_fits : (t1 t2 : Bool) (back part : List ℕ) → stands t1 t2 part ≡ true → Fits (mid t1 t2 ++ back) (part ++ back)
unfolding mid stands
mid_fits false t2 back part e = subst (λ (u : List ℕ). Fits back (u ++ back)) (sym (nil_of part e)) (back_fits back)
mid_fits true true back part e =
    let some = ltb-true 0 (length part) (and_parts (nat_lt 0 (length part)) true e).0 in
    inr (inl (refl, omega (arith, some, length-append part back)))
mid_fits true false back part e =
    let tests = and_parts (nat_lt 0 (length part)) (not (has 47 part)) e in
    inl (refl, part, back, refl, (ltb-true 0 (length part) tests.0, slash_less part tests.1), back_fits back)

-- ---- patterns

-- the path is the front, this part and the back
pub record Split (pattern path part : List ℕ) : Type 0 where
  pub whole : path ≡ front_of pattern ++ (part ++ back_of pattern)
  pub stands : may_stand pattern part ≡ true

pub row_tests : (pattern : List ℕ) → is_row pattern ≡ true
    → (is_whole (tokens pattern) ≡ true) × (Plain (front_of pattern) × Plain (back_of pattern))
unfolding Plain
row_tests pattern e =
    let last = and_parts (is_whole (tokens pattern) && list_all is_plain (front_of pattern))
    (list_all is_plain (back_of pattern)) e in
    let rest = and_parts (is_whole (tokens pattern)) (list_all is_plain (front_of pattern)) last.0 in
    (rest.0, (rest.1, last.1))

whole_rest : (t p : List ℕ) → is_whole (t ++ p) ≡ true → is_whole p ≡ true
whole_rest [] p e = e
whole_rest (x ∷ t) p e = whole_rest t p
    (and_parts ((not (x == param_token) || ends (t ++ p)) && (not (x == catch_all_token) || length (t ++ p) == 0))
    (is_whole (t ++ p)) e).1

pub fits_split : (pattern path : List ℕ) → is_row pattern ≡ true → All (λ b. b < 256) path
    → Fits (tokens pattern) path → (part : List ℕ) × Split pattern path part
unfolding mid stands
fits_split pattern path row small f =
    let tests = row_tests pattern row in
    let rest = fits_text (front_of pattern) (middle pattern ++ back_of pattern) path tests.1.0 f in
    let small_rest = all_drop (front_of pattern) rest.0 (subst (λ (u : List ℕ). All (λ b. b < 256) u) rest.1 small) in
    let part = fits_mid (has 123 pattern) (has 42 pattern) (back_of pattern) rest.0 tests.1.1 small_rest
    (whole_rest (front_of pattern) _ tests.0) rest.2 in
    (part.0, record { whole = rest.1 ∙ ap (λ (u : List ℕ). front_of pattern ++ u) part.1; stands = part.2 })
  where
    all_drop : (front rest : List ℕ) → All (λ b. b < 256) (front ++ rest) → All (λ b. b < 256) rest
    all_drop [] rest all = all
    all_drop (b ∷ front) rest all = all_drop front rest (All-tail (λ b. b < 256) b (front ++ rest) all)

pub split_fits : (pattern path part : List ℕ) → Split pattern path part → Fits (tokens pattern) path
unfolding mid stands
split_fits pattern path part split =
    subst (λ (u : List ℕ). Fits (tokens pattern) u) (sym split.whole)
    (text_fits (front_of pattern) _ _ (mid_fits (has 123 pattern) (has 42 pattern) (back_of pattern) part split.stands))

-- ---- what a pattern takes

and_then_some : {A B : Type 0} (f : A → Option B) (o : Option A) (y : B) → option_and_then f o ≡ Some y
    → (x : A) × (o ≡ Some x) × (f x ≡ Some y)
and_then_some f None y e = absurd (none-some _ e)
and_then_some f (Some x) y e = (x, refl, e)

pub some_of : {A : Type 0} (x y : A) → Some x ≡ Some y → x ≡ y
some_of {A} x y e = ap (λ (o : Option A). elim o as (λ _. A) [ None ↦ x | Some z ↦ z ]) e

cond_some : {A : Type 0} (t : Bool) (x y : A) → cond t (Some x) None ≡ Some y → (t ≡ true) × (x ≡ y)
cond_some true x y e = (refl, some_of x y e)
cond_some false x y e = absurd (none-some _ e)

pub taken : (pattern path part : List ℕ) → takes pattern path ≡ Some part → Split pattern path part
taken pattern path part e =
    let front = front_of pattern in
    let back = back_of pattern in
    let a = and_then_some (λ (rest : List ℕ). option_and_then (if_stands pattern) (ahead_of back rest))
    (behind front path) part e in
    let b = and_then_some (if_stands pattern) (ahead_of back a.0) part a.2 in
    let c = cond_some (may_stand pattern b.0) b.0 part b.2 in
    let begins = cond_some _ (drop (length front) path) a.0 a.1 in
    let ends = cond_some _ (take (length a.0 - length back) a.0) b.0 b.1 in
    let path_is : path ≡ front ++ a.0 =
    (starts_is Decides-eqb path front _ refl).0 begins.0 ∙ ap (λ (u : List ℕ). front ++ u) begins.1 in
    let rest_is : a.0 ≡ part ++ back =
    (ends_is Decides-eqb a.0 back _ refl).0 ends.0 ∙ ap (λ (u : List ℕ). u ++ back) (ends.1 ∙ c.1) in
    record {
      whole = path_is ∙ ap (λ (u : List ℕ). front ++ u) rest_is;
      stands = subst (λ (u : List ℕ). may_stand pattern u ≡ true) c.1 c.0;
    }

behind_it : (front rest : List ℕ) → behind front (front ++ rest) ≡ Some rest
behind_it front rest =
    let begins = (starts_is Decides-eqb (front ++ rest) front _ refl).1 rest refl in
    rw (begins, drop-append_seam front rest) refl

ahead_it : (back part : List ℕ) → ahead_of back (part ++ back) ≡ Some part
ahead_it back part =
    let ends = (ends_is Decides-eqb (part ++ back) back _ refl).1 part refl in
    let size : length (part ++ back) - length back ≡ length part = omega (arith, length-append part back) in
    rw (ends, size, take-append_seam part back) refl

pub takes_it : (pattern path part : List ℕ) → Split pattern path part → takes pattern path ≡ Some part
takes_it pattern path part split =
    rw (
      split.whole,
      behind_it (front_of pattern) (part ++ back_of pattern),
      ahead_it
          (back_of pattern) part,
      split.stands,
    ) refl

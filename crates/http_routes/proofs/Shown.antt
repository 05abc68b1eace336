-- A path with `?` for each byte that is no ASCII fits what the path fits.
use Rattle.std.proofs.Common.{◌≡◌, ◌≢◌, ℕ, ◌<◌, ◌==◌, nat_lt, Bool, true, false, cond, List, [], ◌∷◌, ◌++◌, map, length, refl, sym, ap, ◌∙◌, arith, true≢false}
use Rattle.std.specs.List.{All}
use Rattle.std.proofs.lemmas.List.{map-append}
use Rattle.std.proofs.lemmas.List.Elements.{All-cons, All-nil}
use Rattle.std.proofs.lemmas.Bool.{ltb-true, lt-ltb, cond-true}
use Rattle.http_routes.specs.Paths.{front_of, back_of, has, may_stand}
use Rattle.http_routes.specs.Routers.{shown}
use Rattle.http_routes.proofs.Fits.{head_of, tail_of}
use Rattle.http_routes.proofs.Good.{is_row}
use Rattle.http_routes.proofs.Patterns.{Plain, plain_head, plain_tail, row_tests, Split}

shown_plain : (b : ℕ) → b < 128 → shown b ≡ b
shown_plain b less = cond-true _ b 63 (lt-ltb b 128 less)

shown_is : (b x : ℕ) → x < 128 → x ≢ 63 → shown b ≡ x → b ≡ x
shown_is b x less other e = by (nat_lt b 128) e
  where
    by : (t : Bool) → cond t b 63 ≡ x → b ≡ x
    by true e = e
    by false e = absurd (other (sym e))

-- ---- texts

shown_text : (t : List ℕ) → Plain t → map shown t ≡ t
shown_text [] plain = refl
shown_text (x ∷ t) plain =
    ap (λ (y : ℕ). y ∷ map shown t) (shown_plain x (plain_head x t plain).0)
    ∙ ap (λ (u : List ℕ). x ∷ u) (shown_text t (plain_tail x t plain))

text_shown : (t r : List ℕ) → Plain t → map shown r ≡ t → r ≡ t
text_shown [] [] plain e = refl
text_shown [] (b ∷ r) plain e = absurd (omega (arith, ap (λ (u : List ℕ). length u) e))
text_shown (x ∷ t) [] plain e = absurd (omega (arith, ap (λ (u : List ℕ). length u) e))
text_shown (x ∷ t) (b ∷ r) plain e =
    let facts = plain_head x t plain in
    ap (λ (y : ℕ). y ∷ r) (shown_is b x facts.0 facts.1 (ap head_of e))
    ∙ ap (λ (u : List ℕ). x ∷ u) (text_shown t r (plain_tail x t plain) (ap tail_of e))

-- a list whose image is two lists is two lists
parted : (a c r : List ℕ) → map shown r ≡ a ++ c
    → (u : List ℕ) × (v : List ℕ) × (r ≡ u ++ v) × (map shown u ≡ a) × (map shown v ≡ c)
parted [] c r e = ([], r, refl, refl, e)
parted (x ∷ a) c [] e = absurd (omega (arith, ap (λ (u : List ℕ). length u) e))
parted (x ∷ a) c (b ∷ r) e =
    let more = parted a c r (ap tail_of e) in (
      b ∷ more.0,
      more.1,
      ap (λ (u : List ℕ). b ∷ u) more.2,
      ap (λ (y : ℕ). y ∷ map shown more.0) (ap head_of e)
          ∙ ap (λ (u : List ℕ). x ∷ u) more.3,
      more.4,
    )

-- ---- what stands for a name

slash_shown : (b : ℕ) → (shown b == 47) ≡ (b == 47)
slash_shown b = by (nat_lt b 128) refl
  where
    by : (t : Bool) → nat_lt b 128 ≡ t → (cond t b 63 == 47) ≡ (b == 47)
    by true e = refl
    by false e = other (b == 47) refl
      where
        other : (u : Bool) → (b == 47) ≡ u → false ≡ u
        other true is = absurd (true≢false (sym (lt-ltb b 128 (grind (arith, is))) ∙ e))
        other false is = refl

has_shown : (part : List ℕ) → has 47 (map shown part) ≡ has 47 part
has_shown [] = refl
has_shown (b ∷ part) = rw (slash_shown b, has_shown part) refl

length_shown : (part : List ℕ) → length (map shown part) ≡ length part
length_shown [] = refl
length_shown (b ∷ part) = omega (arith, length_shown part)

stand_shown : (pattern part : List ℕ) → may_stand pattern (map shown part) ≡ may_stand pattern part
stand_shown pattern part = rw (length_shown part, has_shown part) refl

-- ---- patterns

pub split_shown : (pattern path part : List ℕ) → is_row pattern ≡ true → Split pattern path part
    → Split pattern (map shown path) (map shown part)
split_shown pattern path part row split =
    let tests = row_tests pattern row in
    record {
      whole =
          ap (map shown) split.whole
          ∙ (map-append shown (front_of pattern) (part ++ back_of pattern)
          ∙ (ap (λ (u : List ℕ). u ++ map shown (part ++ back_of pattern)) (shown_text (front_of pattern) tests.1.0)
          ∙ (ap (λ (u : List ℕ). front_of pattern ++ u) (map-append shown part (back_of pattern))
          ∙ ap (λ (u : List ℕ). front_of pattern ++ (map shown part ++ u)) (shown_text (back_of pattern) tests.1.1))));
      stands = stand_shown pattern part ∙ split.stands;
    }

pub shown_split : (pattern path seen : List ℕ) → is_row pattern ≡ true → Split pattern (map shown path) seen
    → (part : List ℕ) × Split pattern path part
shown_split pattern path seen row split =
    let tests = row_tests pattern row in
    let one = parted (front_of pattern) (seen ++ back_of pattern) path split.whole in
    let two = parted seen (back_of pattern) one.1 one.4 in (
      two.0,
      record {
        whole =
            one.2 ∙ (ap (λ (u : List ℕ). u ++ one.1) (text_shown (front_of pattern) one.0 tests.1.0 one.3)
            ∙ ap (λ (u : List ℕ). front_of pattern ++ u)
            (two.2 ∙ ap (λ (u : List ℕ). two.0 ++ u) (text_shown (back_of pattern) two.1 tests.1.1 two.4)));
        stands = sym (stand_shown pattern two.0) ∙ (ap (may_stand pattern) two.3 ∙ split.stands);
      },
    )

pub small_shown : (path : List ℕ) → All (λ b. b < 256) (map shown path)
small_shown [] = All-nil _
small_shown (b ∷ path) = All-cons (λ c. c < 256) (shown b) (map shown path) (less (nat_lt b 128) refl)
    (small_shown path)
  where
    less : (t : Bool) → nat_lt b 128 ≡ t → cond t b 63 < 256
    less true e = omega (arith, ltb-true b 128 e)
    less false e = omega arith

-- Two patterns that one path fits overlap; a table in which none do has one row for a path.
use Rattle.std.proofs.Common.{◌≡◌, ◌≢◌, ℕ, ◌<◌, ◌≤◌, ◌==◌, List, [], ◌∷◌, ◌++◌, true, false, refl, sym, ap, ◌∙◌, subst, arith, inl, inr}
use Rattle.std.specs.List.{All}
use Rattle.std.proofs.lemmas.List.Elements.{All-head, All-tail}
use Rattle.std.proofs.lemmas.Bool.{ne_eqb}
use Rattle.std.proofs.lemmas.Bool.Decides.{Decides-eqb}
use Rattle.matchit.specs.Seek.{slash}
use Rattle.http_routes.proofs.Complete.{slash_fits, fits_empty, not_empty}
use Rattle.http_routes.proofs.Fits.{Fits, Ends, Whole, overlaps, head_of, tail_of}

Opens : List ℕ → Type 0
Opens [] = Unit {0}
Opens (b ∷ rest) = b ≡ slash

-- two parts of one path, each before its end or a slash, are the same
same_part : (a c r q : List ℕ) → All (λ b. b ≢ slash) a → All (λ b. b ≢ slash) c → Opens r → Opens q → a ++ r ≡ c ++ q
    → (a ≡ c) × (r ≡ q)
unfolding Opens
same_part [] [] r q pa pc opr opq e = (refl, e)
same_part [] (y ∷ c) r q pa pc opr opq e =
    absurd (All-head (λ b. b ≢ slash) y c pc (opens_head r y (c ++ q) opr e))
  where
    opens_head : (r : List ℕ) (y : ℕ) (more : List ℕ) → Opens r → r ≡ y ∷ more → y ≡ slash
    opens_head [] y more o e = absurd (not_empty e)
    opens_head (b ∷ r) y more o e = sym (ap head_of e) ∙ o
same_part (x ∷ a) [] r q pa pc opr opq e =
    absurd (All-head (λ b. b ≢ slash) x a pa (opens_head q x (a ++ r) opq (sym e)))
  where
    opens_head : (r : List ℕ) (y : ℕ) (more : List ℕ) → Opens r → r ≡ y ∷ more → y ≡ slash
    opens_head [] y more o e = absurd (not_empty e)
    opens_head (b ∷ r) y more o e = sym (ap head_of e) ∙ o
same_part (x ∷ a) (y ∷ c) r q pa pc opr opq e =
    let more = same_part a c r q (All-tail (λ b. b ≢ slash) x a pa) (All-tail (λ b. b ≢ slash) y c pc) opr opq
    (ap tail_of e) in
    (ap (λ (n : ℕ). n ∷ a) (ap head_of e) ∙ ap (λ (u : List ℕ). y ∷ u) more.0, more.1)

opens_of : (t rest : List ℕ) → Ends t → Fits t rest → Opens rest
unfolding Opens
opens_of [] rest ends f = subst Opens (sym f) tt
opens_of (y ∷ t) rest ends f =
    let m = slash_fits t rest (subst (λ (c : ℕ). Fits (c ∷ t) rest) ends f) in subst Opens (sym m.1) refl

abbrev pub Small : List ℕ → Type 0
Small path = All (λ b. b < 256) path

tail_small : (path : List ℕ) (x : ℕ) (rest : List ℕ) → path ≡ x ∷ rest → Small path → Small rest
tail_small path x rest e small = All-tail (λ b. b < 256) x rest (subst (λ (u : List ℕ). All (λ b. b < 256) u) e small)

head_small : (path : List ℕ) (x : ℕ) (rest : List ℕ) → path ≡ x ∷ rest → Small path → x < 256
head_small path x rest e small = All-head (λ b. b < 256) x rest (subst (λ (u : List ℕ). All (λ b. b < 256) u) e small)

drop_small : (part rest : List ℕ) → Small (part ++ rest) → Small rest
drop_small [] rest small = small
drop_small (b ∷ part) rest small = drop_small part rest (All-tail (λ b. b < 256) b (part ++ rest) small)

not_small : (x n : ℕ) → x < 256 → 256 ≤ n → (x == n) ≡ false
not_small x n less big = ne_eqb x n (λ same. omega (arith, less, big, same))

same_byte : (x y : ℕ) → x ≡ y → (x == y) ≡ true
same_byte x y = (Decides-eqb x y).1

pub overlap : (p q path : List ℕ) → Whole p → Whole q → Small path → Fits p path → Fits q path → overlaps p q ≡ true
overlap [] [] path wp wq s f g = refl
overlap [] (y ∷ q) path wp wq s f g =
    absurd (not_empty (sym (fits_empty (y ∷ q) (subst (λ (u : List ℕ). Fits (y ∷ q) u) f g))))
overlap (x ∷ p) [] path wp wq s f g =
    absurd (not_empty (sym (fits_empty (x ∷ p) (subst (λ (u : List ℕ). Fits (x ∷ p) u) g f))))
overlap (x ∷ p) (y ∷ q) path wp wq s (inr (inl f)) g = rw f.0 refl
overlap (x ∷ p) (y ∷ q) path wp wq s (inl f) (inr (inl g)) = rw (f.0, g.0) refl
overlap (x ∷ p) (y ∷ q) path wp wq s (inr (inr f)) (inr (inl g)) =
    rw (g.0, not_small x 257 (head_small path x f.0 f.1 s) (omega arith)) refl
overlap (x ∷ p) (y ∷ q) path wp wq s (inl f) (inl g) =
    let same = same_part f.1 g.1 f.2 g.2 f.4.1 g.4.1 (opens_of p f.2 (wp.0 f.0) f.5) (opens_of q g.2 (wq.0 g.0) g.5)
    (sym f.3 ∙ g.3) in
    rw (f.0, g.0) (overlap p q f.2 wp.2 wq.2 (drop_small f.1 f.2 (subst Small f.3 s)) f.5
    (subst (λ (u : List ℕ). Fits q u) (sym same.1) g.5))
overlap (x ∷ p) (y ∷ q) path wp wq s (inl f) (inr (inr g)) =
    let small = head_small path y g.0 g.1 s in
    rw (f.0, not_small y 257 small (omega arith), not_small y 256 small (omega arith)) refl
overlap (x ∷ p) (y ∷ q) path wp wq s (inr (inr f)) (inl g) =
    let small = head_small path x f.0 f.1 s in
    rw (g.0, not_small x 257 small (omega arith), not_small x 256 small (omega arith)) refl
overlap (x ∷ p) (y ∷ q) path wp wq s (inr (inr f)) (inr (inr g)) =
    let small = head_small path x f.0 f.1 s in
    let small_y = head_small path y g.0 g.1 s in
    let same : x ∷ f.0 ≡ y ∷ g.0 = sym f.1 ∙ g.1 in
    rw (
      not_small x 257 small (omega arith),
      not_small y 257 small_y (omega arith),
      not_small x 256 small (omega arith),
      not_small y 256 small_y (omega arith),
      same_byte x y (ap head_of same),
      overlap p q f.0 wp.2 wq.2 (tail_small path x f.0 f.1 s) f.2
          (subst (λ (u : List ℕ). Fits q u) (sym (ap tail_of same)) g.2),
    ) refl

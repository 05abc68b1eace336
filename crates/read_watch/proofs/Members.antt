-- Numbers on a list.
use Rattle.std.proofs.Common.{◌≡◌, ◌≢◌, ℕ, zero, suc, ◌+◌, ◌<◌, ◌≤◌, Bool, true, false, cond, not, ◌||◌, List, [], ◌∷◌, ◌++◌, refl, sym, ◌∙◌, ap, subst, map, filter, take, length, get_or, arith, Contains, Some, nat_eq}
use Rattle.std.specs.Ordering.{nat_cmp}
use Rattle.std.specs.Map.{lookup}
use Rattle.std.specs.BTreeMap.{is_at}
use Rattle.std.proofs.lemmas.Bool.{eqb-true, eq-eqb, true≢false}
use Rattle.std.proofs.lemmas.List.{take_more}
use Rattle.std.proofs.lemmas.Map.Views.{Contains-from_any}
use Rattle.cat_model.specs.declared.query.Chan.{Chan}
use Rattle.read_watch.proofs.Holds.{key_same}
use Rattle.read_watch.specs.Watch.{is_among}

pub listed : (n : ℕ) (xs : List ℕ) → is_among n xs ≡ true → Contains xs n
listed n xs h = Contains-from_any {eq = λ q y. nat_eq y q} (λ x y e. sym (eqb-true y x e)) n xs h

pub or_true : (a b : Bool) → b ≡ true → (a || b) ≡ true
or_true true b h = refl
or_true false b h = h

pub among : (n : ℕ) (xs : List ℕ) → Contains xs n → is_among n xs ≡ true
among n [] h = absurd (omega (arith, h.1))
among n (x ∷ xs) (zero, low, e) = ap (λ b. b || is_among n xs) (eq-eqb x n e)
among n (x ∷ xs) (suc k, low, e) = or_true (nat_eq x n) (is_among n xs) (among n xs (k, omega (arith, low), e))

-- what passes stays
among_passing : (p : ℕ → Bool) (n : ℕ) (xs : List ℕ) → p n ≡ true → is_among n xs ≡ true → is_among n (filter p xs) ≡ true
among_passing p n [] g h = h
among_passing p n (x ∷ xs) g h = go (among_passing p n xs g) (nat_eq x n) refl (p x) refl h
  where
    go : (is_among n xs ≡ true → is_among n (filter p xs) ≡ true) → (b : Bool) → nat_eq x n ≡ b → (c : Bool) → p x ≡ c → (b || is_among n xs) ≡ true → is_among n (cond c (x ∷ filter p xs) (filter p xs)) ≡ true
    go more true a true c k = ap (λ b. b || is_among n (filter p xs)) a
    go more true a false c k = absurd (true≢false (sym g ∙ ap p (sym (eqb-true x n a)) ∙ c))
    go more false a true c k = or_true (nat_eq x n) (is_among n (filter p xs)) (more k)
    go more false a false c k = more k

among_not : (p : ℕ → Bool) (n : ℕ) (xs : List ℕ) → p n ≡ false → is_among n (filter p xs) ≡ true → ⊥
among_not p n [] g h = true≢false (sym h)
among_not p n (x ∷ xs) g h = go (among_not p n xs g) (p x) refl h
  where
    go : (is_among n (filter p xs) ≡ true → ⊥) → (c : Bool) → p x ≡ c → is_among n (cond c (x ∷ filter p xs) (filter p xs)) ≡ true → ⊥
    go more false c k = more k
    go more true c k = both (nat_eq x n) refl k
      where
        both : (b : Bool) → nat_eq x n ≡ b → (b || is_among n (filter p xs)) ≡ true → ⊥
        both true a m = true≢false (sym c ∙ ap p (eqb-true x n a) ∙ g)
        both false a m = more m

eqb_not : (n m : ℕ) → n ≢ m → nat_eq n m ≡ false
eqb_not n m d = go (nat_eq n m) refl
  where
    go : (b : Bool) → nat_eq n m ≡ b → b ≡ false
    go true e = absurd (d (eqb-true n m e))
    go false e = refl

pub others_kept : (m : ℕ) (xs ys : List ℕ) → ys ≡ filter (λ y. not (nat_eq y m)) xs → (n : ℕ) → n ≢ m → Contains xs n → Contains ys n
others_kept m xs ys e n d h = subst (λ l. Contains l n) (sym e) (listed n _ (among_passing (λ y. not (nat_eq y m)) n xs (ap not (eqb_not n m d)) (among n xs h)))

pub none_kept : (m : ℕ) (xs ys : List ℕ) → ys ≡ filter (λ y. not (nat_eq y m)) xs → Contains ys m → ⊥
none_kept m xs ys e h = among_not (λ y. not (nat_eq y m)) m xs (ap not (eq-eqb m m refl)) (among m _ (subst (λ l. Contains l m) e h))

-- a number that is not among the first i + 1 is not among the first i, and not at i
any_append : (n : ℕ) (xs ys : List ℕ) → is_among n (xs ++ ys) ≡ (is_among n xs || is_among n ys)
any_append n [] ys = refl
any_append n (x ∷ xs) ys = go (nat_eq x n) (any_append n xs ys)
  where
    go : (b : Bool) → is_among n (xs ++ ys) ≡ (is_among n xs || is_among n ys) → (b || is_among n (xs ++ ys)) ≡ ((b || is_among n xs) || is_among n ys)
    go true e = refl
    go false e = e

or_first : (a b : Bool) → (a || b) ≡ false → a ≡ false
or_first false b h = refl
or_first true b h = h

or_second : (a b : Bool) → (a || b) ≡ false → b ≡ false
or_second false b h = h
or_second true b h = absurd (true≢false h)

pub not_before : (n i : ℕ) (xs : List ℕ) → i < length xs → is_among n (take (i + 1) xs) ≡ false → (is_among n (take i xs) ≡ false) × (n ≢ get_or xs i 0)
not_before n i xs low h =
    let e : (is_among n (take i xs) || (nat_eq (get_or xs i 0) n || false)) ≡ false = sym (any_append n (take i xs) (get_or xs i 0 ∷ [])) ∙ ap (is_among n) (sym (take_more xs i 0 low)) ∙ h in
    (or_first _ _ e, λ q. true≢false (sym (eq-eqb (get_or xs i 0) n (sym q)) ∙ or_first (nat_eq (get_or xs i 0) n) false (or_second (is_among n (take i xs)) _ e)))

-- the number of an entry whose value passes is listed
pub passing_listed : (p : List Chan → Bool) (n : ℕ) (v : List Chan) (es : List (ℕ × List Chan)) → lookup (is_at (nat_cmp n)) es ≡ Some v → p v ≡ true → Contains (map (λ e. e.0) (filter (λ e. p e.1) es)) n
passing_listed p n v es h g = listed n _ (go es h)
  where
    go : (es : List (ℕ × List Chan)) → lookup (is_at (nat_cmp n)) es ≡ Some v → is_among n (map (λ e. e.0) (filter (λ e. p e.1) es)) ≡ true
    go [] h = cc
    go (e ∷ es) h = each (go es) (is_at (nat_cmp n) e.0) refl (p e.1) refl h
      where
        each : (lookup (is_at (nat_cmp n)) es ≡ Some v → is_among n (map (λ e. e.0) (filter (λ e. p e.1) es)) ≡ true) → (b : Bool) → is_at (nat_cmp n) e.0 ≡ b → (c : Bool) → p e.1 ≡ c → cond b (Some e.1) (lookup (is_at (nat_cmp n)) es) ≡ Some v
            → is_among n (map (λ (d : ℕ × List Chan). d.0) (cond c (e ∷ filter (λ d. p d.1) es) (filter (λ d. p d.1) es))) ≡ true
        each more true a true c k = ap (λ b. b || is_among n (map (λ d. d.0) (filter (λ d. p d.1) es))) (eq-eqb e.0 n (key_same n e.0 a))
        each more true a false c k = let i : e.1 ≡ v = cc in absurd (true≢false (sym g ∙ ap p (sym i) ∙ c))
        each more false a true c k = or_true (nat_eq e.0 n) _ (more k)
        each more false a false c k = more k

-- who passes was there
passing_among : (p : ℕ → Bool) (n : ℕ) (xs : List ℕ) → is_among n (filter p xs) ≡ true → is_among n xs ≡ true
passing_among p n [] h = h
passing_among p n (x ∷ xs) h = go (passing_among p n xs) (p x) h
  where
    go : (is_among n (filter p xs) ≡ true → is_among n xs ≡ true) → (c : Bool) → is_among n (cond c (x ∷ filter p xs) (filter p xs)) ≡ true → (nat_eq x n || is_among n xs) ≡ true
    go more false k = or_true (nat_eq x n) (is_among n xs) (more k)
    go more true k = both (nat_eq x n) k
      where
        both : (b : Bool) → (b || is_among n (filter p xs)) ≡ true → (b || is_among n xs) ≡ true
        both true m = refl
        both false m = more m

pub passing_were : (p : ℕ → Bool) (n : ℕ) (xs ys : List ℕ) → ys ≡ filter p xs → Contains ys n → Contains xs n
passing_were p n xs ys e h = listed n xs (passing_among p n xs (among n _ (subst (λ l. Contains l n) e h)))

or_none : (a : Bool) → (a || false) ≡ true → a ≡ true
or_none true h = refl
or_none false h = h

-- a number among the first i + 1 that is not at i is among the first i
pub before_it : (n i : ℕ) (xs : List ℕ) → i < length xs → n ≢ get_or xs i 0 → is_among n (take (i + 1) xs) ≡ true → is_among n (take i xs) ≡ true
before_it n i xs low d h =
    let e : (is_among n (take i xs) || (nat_eq (get_or xs i 0) n || false)) ≡ true = sym (any_append n (take i xs) (get_or xs i 0 ∷ [])) ∙ ap (is_among n) (sym (take_more xs i 0 low)) ∙ h in
    or_none _ (ap (λ b. is_among n (take i xs) || (b || false)) (sym (eqb_not (get_or xs i 0) n (λ q. d (sym q)))) ∙ e)

-- as many are taken as there are
pub whole_taken : (i : ℕ) (xs : List ℕ) → length xs ≤ i → take i xs ≡ xs
whole_taken zero [] h = refl
whole_taken zero (x ∷ xs) h = absurd (omega (arith, h))
whole_taken (suc i) [] h = refl
whole_taken (suc i) (x ∷ xs) h = ap (λ l. x ∷ l) (whole_taken i xs (omega (arith, h)))

-- How fields follow one another in bytes, and when the bytes say the value and where it ends.
--     Field f V      what begins with f x for a valid x says x and what follows
--     Then f V G     f x for a valid x, and then what G x relates
--     Done x         nothing more: the value is x
--     Unique R       of two spellings that begin the same bytes, the values and the rests are equal
use Rattle.std.proofs.Common.{◌≡◌, ℕ, List, [], ◌∷◌, ◌++◌, length, refl, sym, ap, subst, ◌∙◌, arith, append_assoc}

pub record Field {A : Type 0} (f : A → List ℕ) (V : A → Type 0) : Type 0 where
  pub unique : (x y : A) (r s : List ℕ) → V x → V y → f x ++ r ≡ f y ++ s → (x ≡ y) × (r ≡ s)

pub record Then {A C : Type 0} (f : A → List ℕ) (V : A → Type 0) (G : A → C → List ℕ → Type 0) (c : C) (bytes : List ℕ) : Type 0 where
  pub head : A
  pub valid : V head
  pub rest : List ℕ
  pub next : G head c rest
  pub is : bytes ≡ f head ++ rest

pub record Done {C : Type 0} (x : C) (c : C) (bytes : List ℕ) : Type 0 where
  pub same : c ≡ x
  pub none : bytes ≡ []

pub record Same {C : Type 0} (c d : C) (s t : List ℕ) (r q : List ℕ) : Type 0 where
  pub value : c ≡ d
  pub bytes : s ≡ t
  pub rest : r ≡ q

pub record Unique {C : Type 0} (R : C → List ℕ → Type 0) : Type 0 where
  pub law : (c d : C) (s t r q : List ℕ) → R c s → R d t → s ++ r ≡ t ++ q → Same c d s t r q

pub done_unique : {C : Type 0} (x : C) → Unique (Done x)
done_unique x = record {
  law = λ c d s t r q a b e. record {
    value = a.same ∙ sym b.same;
    bytes = a.none ∙ sym b.none;
    rest = let s_none : s ≡ [] = a.none in let t_none : t ≡ [] = b.none in
        sym (ap (λ l. l ++ r) s_none) ∙ e ∙ ap (λ l. l ++ q) t_none;
  };
}

regrouped : (s a b r : List ℕ) → s ≡ a ++ b → s ++ r ≡ a ++ (b ++ r)
regrouped s a b r e = ap (λ l. l ++ r) e ∙ append_assoc a b r

pub then_unique : {A C : Type 0} (f : A → List ℕ) (V : A → Type 0) (G : A → C → List ℕ → Type 0) → Field f V → ((x : A) → V x → Unique (G x)) → Unique (Then f V G)
then_unique {A} {C} f V G field more = record {
  law = λ c d s t r q a b e.
      let one = field.unique a.head b.head (a.rest ++ r) (b.rest ++ q) a.valid b.valid (sym (regrouped s (f a.head) a.rest r a.is) ∙ e ∙ regrouped t (f b.head) b.rest q b.is) in
      let b_next : G a.head d b.rest = subst (λ (x : A). G x d b.rest) (sym one.0) b.next in
      let two = (more a.head a.valid).law c d a.rest b.rest r q a.next b_next one.1 in
      record {
        value = two.value;
        bytes = a.is ∙ ap (λ l. f a.head ++ l) two.bytes ∙ ap (λ h. f h ++ b.rest) one.0 ∙ sym b.is;
        rest = two.rest;
      };
}

-- the values of a unique relation that holds of the field's bytes make a field
pub field_from_unique : {A : Type 0} (f : A → List ℕ) (V : A → Type 0) (R : A → List ℕ → Type 0) → ((x : A) → V x → R x (f x)) → Unique R → Field f V
field_from_unique f V R spelled u = record {
  unique = λ x y r s v w e. let same = u.law x y (f x) (f y) r s (spelled x v) (spelled y w) e in (same.value, same.rest);
}

-- so does a way back
pub field_from_back : {A : Type 0} (f : A → List ℕ) (V : A → Type 0) (back : List ℕ → A × List ℕ) → ((x : A) (r : List ℕ) → V x → back (f x ++ r) ≡ (x, r)) → Field f V
field_from_back {A} f V back again = record {
  unique = λ x y r s v w e.
      let same : (x, r) ≡ (y, s) = sym (again x r v) ∙ ap back e ∙ again y s w in
      (ap (λ (p : A × List ℕ). p.0) same, ap (λ (p : A × List ℕ). p.1) same);
}

pub field_weaker : {A : Type 0} (f : A → List ℕ) (V W : A → Type 0) → ((x : A) → W x → V x) → Field f V → Field f W
field_weaker f V W weaker field = record { unique = λ x y r s v w e. field.unique x y r s (weaker x v) (weaker y w) e }

-- lists of one length at the front
pub fronts : {A : Type 0} (x y r s : List A) → length x ≡ length y → x ++ r ≡ y ++ s → (x ≡ y) × (r ≡ s)
fronts [] [] r s l e = (refl, e)
fronts [] (b ∷ y) r s l e = absurd (omega arith)
fronts (a ∷ x) [] r s l e = absurd (omega arith)
fronts (a ∷ x) (b ∷ y) r s l e =
    let heads : a ≡ b = cc in
    let more : x ++ r ≡ y ++ s = cc in
    let rest = fronts x y r s (omega arith) more in
    let tails : x ≡ y = rest.0 in
    (cc, rest.1)

-- What is read as a test of one member is one of the eight forms, and each of these is read.
use Rattle.std.proofs.Common.{◌≡◌, ◌⊎◌, ℕ, List, [], ◌∷◌, Option, None, Some, refl, sym, ap, subst, ◌∙◌, inl, inr}
use Rattle.std.specs.Option.{option_map, option_and_then}
use Rattle.std.proofs.lemmas.Option.{none-some, same_Some, option_and_then_some}
use Rattle.filter_expr.specs.declared.lexer.Token.{Token}
use Rattle.filter_expr.specs.declared.lexer.Token.TheVariants as k
use Rattle.filter_expr.specs.declared.selectors.Shape.{Shape}
use Rattle.filter_expr.specs.declared.selectors.Selector.{Selector}
use Rattle.filter_expr.specs.declared.selectors.Sort.{Sort}
use Rattle.filter_expr.specs.declared.selectors.Sort.TheVariants as sorts
use Rattle.filter_expr.specs.declared.expression.Literal.{Literal}
use Rattle.filter_expr.specs.declared.expression.Test.{Test}
use Rattle.filter_expr.specs.declared.expression.Test.TheVariants.{Equals, Has, IsEmpty}
use Rattle.filter_expr.specs.Expressions.{Expression, Is, Not}
use Rattle.filter_expr.specs.Selectors.{selector_at, sort_of}
use Rattle.filter_expr.specs.Tests.{value_of, literal_of, equals_literal, has_value, is_blank, selected, with_value, equality, membership, emptiness, short_test, long_test, test_of}
use Rattle.filter_expr.specs.Phrases.{IsValue, word, quoted, Compares, Lists, MayBeEmpty, IsTest, equal, unequal, among, not_among, contains, not_contains, empty, not_empty}

pub map_some : {A B P : Type 0} (f : A → B) (o : Option A) (y : B) → option_map f o ≡ Some y → ((x : A) → o ≡ Some x → f x ≡ y → P) → P
map_some f None y e go = absurd (none-some y e)
map_some f (Some x) y e go = go x refl (same_Some _ _ e)

value_told : {v : Token} {text : List ℕ} → IsValue v text → value_of v ≡ Some text
value_told word = refl
value_told quoted = refl

value_found : (v : Token) (text : List ℕ) → value_of v ≡ Some text → IsValue v text
value_found (k.Word w) text e = subst (IsValue (k.Word w)) (same_Some w text e) word
value_found (k.Quoted q) text e = subst (IsValue (k.Quoted q)) (same_Some q text e) quoted
value_found other text e = absurd (none-some text e)

-- ---- each form is read

compares_told : {s : Shape} {path : List ℕ} {v : Token} {m : Selector} {l : Literal} → Compares s path v m l → with_value s (k.Word path) v equals_literal ≡ Some (Equals m l)
compares_told c = rw (c.names, value_told c.says, c.reads) refl

has_listed : (m : Selector) (text : List ℕ) → sort_of m ≡ sorts.Texts → has_value m text ≡ Some (Has m text)
has_listed m text e = rw e refl

lists_told : {s : Shape} {path : List ℕ} {v : Token} {m : Selector} {text : List ℕ} → Lists s path v m text → with_value s (k.Word path) v has_value ≡ Some (Has m text)
lists_told {m = m} {text = text} c = rw (c.names, value_told c.says) (has_listed m text c.is_list)

blank_any : (m : Selector) → (sort_of m ≡ sorts.Text) ⊎ (sort_of m ≡ sorts.Texts) → is_blank m ≡ Some (IsEmpty m)
blank_any m (inl e) = rw e refl
blank_any m (inr e) = rw e refl

blank_told : {s : Shape} {path : List ℕ} {m : Selector} → MayBeEmpty s path m → option_and_then is_blank (selected s (k.Word path)) ≡ Some (IsEmpty m)
blank_told {m = m} c = rw c.names (blank_any m c.is_any)

pub test_told : {s : Shape} {ts : List Token} {e : Expression} → IsTest s ts e → test_of s ts ≡ Some e
unfolding equality membership emptiness short_test long_test
test_told (equal c) = ap (option_map Is) (compares_told c)
test_told (unequal c) = ap (λ t. option_map Not (option_map Is t)) (compares_told c)
test_told (among c) = ap (option_map Is) (lists_told c)
test_told (not_among c) = ap (λ t. option_map Not (option_map Is t)) (lists_told c)
test_told (contains c) = ap (option_map Is) (lists_told c)
test_told (not_contains c) = ap (λ t. option_map Not (option_map Is t)) (lists_told c)
test_told (empty c) = ap (option_map Is) (blank_told c)
test_told (not_empty c) = ap (λ t. option_map Not (option_map Is t)) (blank_told c)

-- ---- what is read is one of the forms

-- a fact of a path and an expression, at what these are
at_word : (P : Token → Expression → Type 0) (a : Token) (path : List ℕ) (e made : Expression) → a ≡ k.Word path → made ≡ e → P (k.Word path) made → P a e
at_word P a path e made is same h = subst (λ t. P t e) (sym is) (subst (P (k.Word path)) same h)

record Compared (s : Shape) (a v : Token) (test : Test) : Type 0 where
  path : List ℕ
  m : Selector
  l : Literal
  is : a ≡ k.Word path
  compares : Compares s path v m l
  same : Equals m l ≡ test

compares_found : (s : Shape) (a v : Token) (test : Test) → with_value s a v equals_literal ≡ Some test → Compared s a v test
compares_found s (k.Word path) v test e =
    option_and_then_some (λ selector. option_and_then (equals_literal selector) (value_of v)) (selector_at s path) test e (λ m names rest.
    option_and_then_some (equals_literal m) (value_of v) test rest (λ text says made.
    map_some (λ literal. Equals m literal) (literal_of (sort_of m) text) test made (λ l reads same.
    record { path = path; m = m; l = l; is = refl; compares = record { names = names; text = text; says = value_found v text says; reads = reads }; same = same })))
compares_found s other v test e = absurd (none-some test e)

record Listed (s : Shape) (a v : Token) (test : Test) : Type 0 where
  path : List ℕ
  m : Selector
  text : List ℕ
  is : a ≡ k.Word path
  lists : Lists s path v m text
  same : Has m text ≡ test

sort_listed : (m : Selector) (text : List ℕ) (sort : Sort) (test : Test) → sort_of m ≡ sort → has_value m text ≡ Some test → (sort ≡ sorts.Texts) × (Has m text ≡ test)
sort_listed m text sorts.Texts test is e = (refl, same_Some _ _ (rw is at e))
sort_listed m text sorts.Text test is e = absurd (none-some test (rw is at e))
sort_listed m text sorts.Number test is e = absurd (none-some test (rw is at e))
sort_listed m text sorts.Truth test is e = absurd (none-some test (rw is at e))

lists_found : (s : Shape) (a v : Token) (test : Test) → with_value s a v has_value ≡ Some test → Listed s a v test
lists_found s (k.Word path) v test e =
    option_and_then_some (λ selector. option_and_then (has_value selector) (value_of v)) (selector_at s path) test e (λ m names rest.
    option_and_then_some (has_value m) (value_of v) test rest (λ text says made.
    let sort = sort_listed m text (sort_of m) test refl made in
    record { path = path; m = m; text = text; is = refl; lists = record { names = names; says = value_found v text says; is_list = sort.0 }; same = sort.1 }))
lists_found s other v test e = absurd (none-some test e)

record Blank (s : Shape) (a : Token) (test : Test) : Type 0 where
  path : List ℕ
  m : Selector
  is : a ≡ k.Word path
  may : MayBeEmpty s path m
  same : IsEmpty m ≡ test

sort_blank : (m : Selector) (sort : Sort) (test : Test) → sort_of m ≡ sort → is_blank m ≡ Some test → ((sort ≡ sorts.Text) ⊎ (sort ≡ sorts.Texts)) × (IsEmpty m ≡ test)
sort_blank m sorts.Text test is e = (inl refl, same_Some _ _ (rw is at e))
sort_blank m sorts.Texts test is e = (inr refl, same_Some _ _ (rw is at e))
sort_blank m sorts.Number test is e = absurd (none-some test (rw is at e))
sort_blank m sorts.Truth test is e = absurd (none-some test (rw is at e))

blank_found : (s : Shape) (a : Token) (test : Test) → option_and_then is_blank (selected s a) ≡ Some test → Blank s a test
blank_found s (k.Word path) test e =
    option_and_then_some is_blank (selector_at s path) test e (λ m names made.
    let sort = sort_blank m (sort_of m) test refl made in
    record { path = path; m = m; is = refl; may = record { names = names; is_any = sort.0 }; same = sort.1 })
blank_found s other test e = absurd (none-some test e)

-- the three kinds of tests, and their negations, in any place among tokens
found_equality : (P : Token → Expression → Type 0) (s : Shape) (a v : Token) (e : Expression) → ((path : List ℕ) (m : Selector) (l : Literal) → Compares s path v m l → P (k.Word path) (Is (Equals m l))) → equality s a v ≡ Some e → P a e
unfolding equality
found_equality P s a v e form h = map_some Is (with_value s a v equals_literal) e h (λ test made is. let f = compares_found s a v test made in at_word P a f.path e (Is (Equals f.m f.l)) f.is (ap Is f.same ∙ is) (form f.path f.m f.l f.compares))

found_membership : (P : Token → Expression → Type 0) (s : Shape) (a v : Token) (e : Expression) → ((path : List ℕ) (m : Selector) (text : List ℕ) → Lists s path v m text → P (k.Word path) (Is (Has m text))) → membership s a v ≡ Some e → P a e
unfolding membership
found_membership P s a v e form h = map_some Is (with_value s a v has_value) e h (λ test made is. let f = lists_found s a v test made in at_word P a f.path e (Is (Has f.m f.text)) f.is (ap Is f.same ∙ is) (form f.path f.m f.text f.lists))

found_emptiness : (P : Token → Expression → Type 0) (s : Shape) (a : Token) (e : Expression) → ((path : List ℕ) (m : Selector) → MayBeEmpty s path m → P (k.Word path) (Is (IsEmpty m))) → emptiness s a ≡ Some e → P a e
unfolding emptiness
found_emptiness P s a e form h = map_some Is (option_and_then is_blank (selected s a)) e h (λ test made is. let f = blank_found s a test made in at_word P a f.path e (Is (IsEmpty f.m)) f.is (ap Is f.same ∙ is) (form f.path f.m f.may))

-- the negation of what is found
found_not : (P : Expression → Type 0) (o : Option Expression) (e : Expression) → ((a : Expression) → o ≡ Some a → P (Not a)) → option_map Not o ≡ Some e → P e
found_not P o e form h = map_some Not o e h (λ a made is. subst P is (form a made))

short_found : (s : Shape) (a b c : Token) (e : Expression) → short_test s a b c ≡ Some e → IsTest s (a ∷ b ∷ c ∷ []) e
unfolding short_test
short_found s a k.Equal c e h = found_equality (λ t d. IsTest s (t ∷ k.Equal ∷ c ∷ []) d) s a c e (λ path m l x. equal x) h
short_found s a k.Unequal c e h = found_not (IsTest s (a ∷ k.Unequal ∷ c ∷ [])) (equality s a c) e (λ d made. found_equality (λ t b. IsTest s (t ∷ k.Unequal ∷ c ∷ []) (Not b)) s a c d (λ path m l x. unequal x) made) h
short_found s a k.In c e h = found_membership (λ t d. IsTest s (a ∷ k.In ∷ t ∷ []) d) s c a e (λ path m text x. among x) h
short_found s a k.Contains c e h = found_membership (λ t d. IsTest s (t ∷ k.Contains ∷ c ∷ []) d) s a c e (λ path m text x. contains x) h
short_found s a k.Is k.Empty e h = found_emptiness (λ t d. IsTest s (t ∷ k.Is ∷ k.Empty ∷ []) d) s a e (λ path m x. empty x) h
short_found s a k.Is other e h = absurd (none-some e h)
short_found s a other c e h = absurd (none-some e h)

long_found : (s : Shape) (a b c d : Token) (e : Expression) → long_test s a b c d ≡ Some e → IsTest s (a ∷ b ∷ c ∷ d ∷ []) e
unfolding long_test
long_found s a k.Not k.In d e h = found_not (IsTest s (a ∷ k.Not ∷ k.In ∷ d ∷ [])) (membership s d a) e (λ inner made. found_membership (λ t b. IsTest s (a ∷ k.Not ∷ k.In ∷ t ∷ []) (Not b)) s d a inner (λ path m text x. not_among x) made) h
long_found s a k.Not k.Contains d e h = found_not (IsTest s (a ∷ k.Not ∷ k.Contains ∷ d ∷ [])) (membership s a d) e (λ inner made. found_membership (λ t b. IsTest s (t ∷ k.Not ∷ k.Contains ∷ d ∷ []) (Not b)) s a d inner (λ path m text x. not_contains x) made) h
long_found s a k.Not other d e h = absurd (none-some e h)
long_found s a k.Is k.Not k.Empty e h = found_not (IsTest s (a ∷ k.Is ∷ k.Not ∷ k.Empty ∷ [])) (emptiness s a) e (λ inner made. found_emptiness (λ t b. IsTest s (t ∷ k.Is ∷ k.Not ∷ k.Empty ∷ []) (Not b)) s a inner (λ path m x. not_empty x) made) h
long_found s a k.Is k.Not other e h = absurd (none-some e h)
long_found s a k.Is other d e h = absurd (none-some e h)
long_found s a other c d e h = absurd (none-some e h)

pub test_found : (s : Shape) (ts : List Token) (e : Expression) → test_of s ts ≡ Some e → IsTest s ts e
test_found s [] e h = absurd (none-some e h)
test_found s (a ∷ []) e h = absurd (none-some e h)
test_found s (a ∷ b ∷ []) e h = absurd (none-some e h)
test_found s (a ∷ b ∷ c ∷ []) e h = short_found s a b c e h
test_found s (a ∷ b ∷ c ∷ d ∷ []) e h = long_found s a b c d e h
test_found s (a ∷ b ∷ c ∷ d ∷ f ∷ ts) e h = absurd (none-some e h)

-- What is left of the waiters when those that are hit are taken out.
use Rattle.std.proofs.Common.{◌≡◌, ◌≢◌, ℕ, Bool, true, false, cond, not, ◌||◌, ◌&&◌, List, [], ◌∷◌, ◌++◌, refl, sym, ◌∙◌, ap, subst, map, filter, Option, Some, None, nat_eq}
use Rattle.std.specs.Ordering.{nat_cmp}
use Rattle.std.specs.List.{AllByRecursion, list_any}
use Rattle.std.specs.List.Sorted.{IsStrictlySortedBy}
use Rattle.std.specs.Map.{lookup, remove_entry, keys_of}
use Rattle.std.specs.BTreeMap.{is_at}
use Rattle.std.specs.declared.cmp.Ordering.TheVariants.{Less, Equal}
use Rattle.std.proofs.lemmas.Bool.{eqb-true, eq-eqb, true≢false}
use Rattle.std.proofs.lemmas.Cmp.{nat_cmp_total}
use Rattle.std.proofs.lemmas.Map.Keys.{sorted_head, sorted_tail}
use Rattle.std.proofs.lemmas.Map.Lookups.{exact_unsigned, btree_set_from_contains}
use Rattle.cat_model.specs.Reach.{is_on}
use Rattle.cat_model.specs.declared.query.Chan.{Chan}
use Rattle.index_list.specs.Nodes.{Nodes}
use Rattle.index_list.specs.Places.{has}
use Rattle.index_list.proofs.Keeping.{has_more}
use Rattle.read_watch.specs.declared.waiters.Waiting.{Waiting}
use Rattle.read_watch.specs.Held.{Held, shown, is_off}
use Rattle.read_watch.specs.Hits.{IsFound, AllHit, ChanNoted}
use Rattle.read_watch.proofs.Holds.{at_itself, is_equal, key_same}
use Rattle.read_watch.proofs.Hits.{hit_found}

nat_cmp_self : (a : ℕ) → nat_cmp a a ≡ Equal
nat_cmp_self a = is_equal (nat_cmp a a) (at_itself a)

not_less : (a : ℕ) → nat_cmp a a ≢ Less
not_less a h = let e : Equal ≡ Less = sym (nat_cmp_self a) ∙ h in cc

-- the test of a key in the map is the equality of numbers
at_is_eq : (a b : ℕ) → is_at (nat_cmp a) b ≡ nat_eq a b
at_is_eq a b = go (is_at (nat_cmp a) b) refl (nat_eq a b) refl
  where
    go : (x : Bool) → is_at (nat_cmp a) b ≡ x → (y : Bool) → nat_eq a b ≡ y → x ≡ y
    go true h true k = refl
    go false h false k = refl
    go true h false k = sym (sym k ∙ eq-eqb a b (sym (key_same a b h)))
    go false h true k = sym h ∙ ap (is_at (nat_cmp a)) (sym (eqb-true a b k)) ∙ at_itself a

-- the entries that pass, where no key is this one
pass_same : (k : ℕ) (p : ℕ × Waiting → Bool) (es : List (ℕ × Waiting)) → AllByRecursion (λ y. nat_eq k y ≡ false) (keys_of es) → filter p es ≡ filter (λ e. p e && not (nat_eq k e.0)) es
pass_same k p [] h = refl
pass_same k p (e ∷ es) h = go (pass_same k p es h.1) (p e) (nat_eq k e.0) h.0
  where
    go : filter p es ≡ filter (λ e'. p e' && not (nat_eq k e'.0)) es → (b d : Bool) → d ≡ false
        → cond b (e ∷ filter p es) (filter p es) ≡ cond (b && not d) (e ∷ filter (λ e'. p e' && not (nat_eq k e'.0)) es) (filter (λ e'. p e' && not (nat_eq k e'.0)) es)
    go more true true g = absurd (true≢false g)
    go more true false g = ap (λ l. e ∷ l) more
    go more false d g = more

others_apart : (k : ℕ) (ks : List ℕ) → AllByRecursion (λ y. nat_cmp k y ≡ Less) ks → AllByRecursion (λ y. nat_eq k y ≡ false) ks
others_apart k [] h = tt
others_apart k (y ∷ ks) h = (go (nat_eq k y) refl, others_apart k ks h.1)
  where
    go : (b : Bool) → nat_eq k y ≡ b → b ≡ false
    go true e = absurd (not_less k (ap (nat_cmp k) (eqb-true k y e) ∙ h.0))
    go false e = refl

-- an entry that is taken out of those that pass is one that passes no more
remove_is : (k : ℕ) (p : ℕ × Waiting → Bool) (es : List (ℕ × Waiting)) → IsStrictlySortedBy nat_cmp (keys_of es) → remove_entry (is_at (nat_cmp k)) (filter p es) ≡ filter (λ e. p e && not (nat_eq k e.0)) es
remove_is k p [] h = refl
remove_is k p (e ∷ es) h = go (remove_is k p es (sorted_tail nat_cmp e.0 (keys_of es) h)) (p e) (is_at (nat_cmp k) e.0) (nat_eq k e.0) refl (at_is_eq k e.0) refl
  where
    rest : List (ℕ × Waiting)
    rest = filter (λ e'. p e' && not (nat_eq k e'.0)) es

    same : nat_eq k e.0 ≡ true → filter p es ≡ rest
    same q = pass_same k p es (subst (λ z. AllByRecursion (λ y. nat_eq z y ≡ false) (keys_of es)) (sym (eqb-true k e.0 q)) (others_apart e.0 (keys_of es) (sorted_head nat_cmp e.0 (keys_of es) h)))

    go : remove_entry (is_at (nat_cmp k)) (filter p es) ≡ rest → (b t d : Bool) → is_at (nat_cmp k) e.0 ≡ t → t ≡ d → nat_eq k e.0 ≡ d
        → remove_entry (is_at (nat_cmp k)) (cond b (e ∷ filter p es) (filter p es)) ≡ cond (b && not d) (e ∷ rest) rest
    go more false t d g f q = more
    go more true true true g f q = ap (λ z. cond z (filter p es) (e ∷ remove_entry (is_at (nat_cmp k)) (filter p es))) g ∙ same q
    go more true true false g f q = absurd (true≢false f)
    go more true false true g f q = absurd (true≢false (sym f))
    go more true false false g f q = ap (λ z. cond z (filter p es) (e ∷ remove_entry (is_at (nat_cmp k)) (filter p es))) g ∙ ap (λ l. e ∷ l) more

filter_same_test : (p q : ℕ × Waiting → Bool) (es : List (ℕ × Waiting)) → ((e : ℕ × Waiting) → p e ≡ q e) → filter p es ≡ filter q es
filter_same_test p q [] h = refl
filter_same_test p q (e ∷ es) h = λ i. cond (h e i) (e ∷ filter_same_test p q es h i) (filter_same_test p q es h i)

-- one more key was taken out
pub off_more : (ks : List ℕ) (k : ℕ) (es : List (ℕ × Waiting)) → IsStrictlySortedBy nat_cmp (keys_of es) → remove_entry (is_at (nat_cmp k)) (filter (is_off ks) es) ≡ filter (is_off (ks ++ k ∷ [])) es
off_more ks k es h = remove_is k (is_off ks) es h ∙ filter_same_test (λ e. is_off ks e && not (nat_eq k e.0)) (is_off (ks ++ k ∷ [])) es (λ e. both (has e.0 ks) (nat_eq k e.0) ∙ sym (ap not (has_more e.0 ks k)))
  where
    both : (a b : Bool) → (not a && not b) ≡ not (a || b)
    both true b = refl
    both false b = refl

-- no key was taken out
pub off_none : (es : List (ℕ × Waiting)) → filter (is_off []) es ≡ es
off_none [] = refl
off_none (e ∷ es) = ap (λ l. e ∷ l) (off_none es)

-- a key that is found behind a first one differs from it
behind : (k j : ℕ) (p : Waiting) (es : List (ℕ × Waiting)) → AllByRecursion (λ y. nat_cmp k y ≡ Less) (keys_of es) → lookup (is_at (nat_cmp j)) es ≡ Some p → is_at (nat_cmp j) k ≡ false
behind k j p [] a h = cc
behind k j p (e ∷ es) a h = go (behind k j p es a.1) (is_at (nat_cmp j) e.0) refl h
  where
    differs : e.0 ≡ j → (b : Bool) → is_at (nat_cmp j) k ≡ b → b ≡ false
    differs f true g = absurd (not_less k (ap (nat_cmp k) (key_same j k g ∙ sym f) ∙ a.0))
    differs f false g = refl

    go : (lookup (is_at (nat_cmp j)) es ≡ Some p → is_at (nat_cmp j) k ≡ false) → (b : Bool) → is_at (nat_cmp j) e.0 ≡ b → cond b (Some e.1) (lookup (is_at (nat_cmp j)) es) ≡ Some p → is_at (nat_cmp j) k ≡ false
    go more true f g = differs (key_same j e.0 f) (is_at (nat_cmp j) k) refl
    go more false f g = more g

-- where exactly the keys of the entries that pass a test were taken out, the others are left
off_is : (keys : List ℕ) (q : ℕ × Waiting → Bool) (es : List (ℕ × Waiting)) → IsStrictlySortedBy nat_cmp (keys_of es) → ((key : ℕ) (p : Waiting) → lookup (is_at (nat_cmp key)) es ≡ Some p → has key keys ≡ q (key, p)) → filter (is_off keys) es ≡ filter (λ e. not (q e)) es
off_is keys q [] s h = refl
off_is keys q (e ∷ es) s h =
    let here : has e.0 keys ≡ q e = h e.0 e.1 (ap (λ b. cond b (Some e.1) (lookup (is_at (nat_cmp e.0)) es)) (at_itself e.0)) in
    let rest : filter (is_off keys) es ≡ filter (λ e'. not (q e')) es = off_is keys q es (sorted_tail nat_cmp e.0 (keys_of es) s)
    (λ key p l. h key p (ap (λ b. cond b (Some e.1) (lookup (is_at (nat_cmp key)) es)) (behind e.0 key p es (sorted_head nat_cmp e.0 (keys_of es) s) l) ∙ l)) in
    λ i. cond (not (here i)) (e ∷ rest i) (rest i)

abbrev pub is_hit : List Chan → ℕ × Waiting → Bool
is_hit fired e = is_on fired e.1.chans

shown_filter : (t : List Chan → Bool) (es : List (ℕ × Waiting)) → map shown (filter (λ e. t e.1.chans) es) ≡ filter (λ w. t w.1) (map shown es)
shown_filter t [] = refl
shown_filter t (e ∷ es) = go (shown_filter t es) (t e.1.chans)
  where
    go : map shown (filter (λ e'. t e'.1.chans) es) ≡ filter (λ w. t w.1) (map shown es) → (b : Bool) → map shown (cond b (e ∷ filter (λ e'. t e'.1.chans) es) (filter (λ e'. t e'.1.chans) es)) ≡ cond b (shown e ∷ filter (λ w. t w.1) (map shown es)) (filter (λ w. t w.1) (map shown es))
    go more true = ap (λ l. shown e ∷ l) more
    go more false = more

-- the tests by order and by equality find the same
has_found : (key : ℕ) (l : List ℕ) → list_any (is_at (nat_cmp key)) l ≡ has key l
has_found key [] = refl
has_found key (x ∷ l) = λ i. (at_is_eq key x ∙ flip key x) i || has_found key l i
  where
    flip : (a b : ℕ) → nat_eq a b ≡ nat_eq b a
    flip a b = go (nat_eq a b) refl (nat_eq b a) refl
      where
        go : (x : Bool) → nat_eq a b ≡ x → (y : Bool) → nat_eq b a ≡ y → x ≡ y
        go true h true k = refl
        go false h false k = refl
        go true h false k = sym (eq-eqb b a (sym (eqb-true a b h))) ∙ k
        go false h true k = sym h ∙ eq-eqb a b (sym (eqb-true b a k))

-- a waiter is among those found exactly where it is hit
has_is : (es : List (ℕ × Waiting)) (s : Nodes ℕ) (fired : List Chan) (found : List ℕ) → Held es s → AllHit es fired found → AllByRecursion (ChanNoted s es fired found) fired
    → (key : ℕ) (p : Waiting) → lookup (is_at (nat_cmp key)) es ≡ Some p → has key found ≡ is_on fired p.chans
has_is es s fired found w sound noted key p h = sym (has_found key found) ∙ go (list_any (is_at (nat_cmp key)) found) refl (is_on fired p.chans) refl
  where
    on : IsFound found key → is_on fired p.chans ≡ true
    on e =
        let i = sound.each key e in
        let q : Some p ≡ Some i.waiting = sym h ∙ i.here in
        let r : p ≡ i.waiting = cc in ap (λ (z : Waiting). is_on fired z.chans) r ∙ i.on

    go : (a : Bool) → list_any (is_at (nat_cmp key)) found ≡ a → (b : Bool) → is_on fired p.chans ≡ b → a ≡ b
    go true e true f = refl
    go false e false f = refl
    go true e false f = sym (on e) ∙ f
    go false e true f = sym e ∙ hit_found s es fired found key p.node p.chans noted h (w.all key p h) f

-- what is left when those that were found are taken out
pub left_is : (es es' : List (ℕ × Waiting)) (s : Nodes ℕ) (fired : List Chan) (found gone : List ℕ) → Held es s → AllHit es fired found → AllByRecursion (ChanNoted s es fired found) fired → gone ≡ found → es' ≡ filter (is_off gone) es → map shown es' ≡ filter (λ w. not (is_on fired w.1)) (map shown es)
left_is es es' s fired found gone w sound noted g e =
    ap (map shown) (e ∙ ap (λ l. filter (is_off l) es) g ∙ off_is found (is_hit fired) es w.order (has_is es s fired found w sound noted)) ∙ shown_filter (λ chans. not (is_on fired chans)) es

keys_filter : (p : ℕ × Waiting → Bool) (es : List (ℕ × Waiting)) → IsStrictlySortedBy nat_cmp (keys_of es) → IsStrictlySortedBy nat_cmp (keys_of (filter p es))
unfolding IsStrictlySortedBy
keys_filter p [] h = tt
keys_filter p (e ∷ es) h = go (keys_filter p es h.1) (p e)
  where
    less : (k : ℕ) (fs : List (ℕ × Waiting)) → AllByRecursion (λ y. nat_cmp k y ≡ Less) (keys_of fs) → AllByRecursion (λ y. nat_cmp k y ≡ Less) (keys_of (filter p fs))
    less k [] a = tt
    less k (f ∷ fs) a = at (less k fs a.1) (p f)
      where
        at : AllByRecursion (λ y. nat_cmp k y ≡ Less) (keys_of (filter p fs)) → (b : Bool) → AllByRecursion (λ y. nat_cmp k y ≡ Less) (keys_of (cond b (f ∷ filter p fs) (filter p fs)))
        at more true = (a.0, more)
        at more false = more

    go : IsStrictlySortedBy nat_cmp (keys_of (filter p es)) → (b : Bool) → IsStrictlySortedBy nat_cmp (keys_of (cond b (e ∷ filter p es) (filter p es)))
    go more true = (less e.0 es h.0, more)
    go more false = more

-- whether what was looked up passes
abbrev pub passes : (ℕ × Waiting → Bool) → ℕ → Option Waiting → Bool
passes q key None = false
passes q key (Some p) = q (key, p)

absent : (q : ℕ × Waiting → Bool) (key : ℕ) (es : List (ℕ × Waiting)) → AllByRecursion (λ y. nat_cmp key y ≡ Less) (keys_of es) → has key (keys_of (filter q es)) ≡ false
absent q key [] a = refl
absent q key (e ∷ es) a = go (absent q key es a.1) (q e) (nat_eq e.0 key) refl
  where
    go : has key (keys_of (filter q es)) ≡ false → (c b : Bool) → nat_eq e.0 key ≡ b → has key (keys_of (cond c (e ∷ filter q es) (filter q es))) ≡ false
    go more false b f = more
    go more true true f = absurd (not_less key (ap (nat_cmp key) (sym (eqb-true e.0 key f)) ∙ a.0))
    go more true false f = ap (λ z. z || has key (keys_of (filter q es))) f ∙ more

-- a key is among those of the entries that pass exactly where its entry passes
passing : (q : ℕ × Waiting → Bool) (key : ℕ) (es : List (ℕ × Waiting)) → IsStrictlySortedBy nat_cmp (keys_of es) → has key (keys_of (filter q es)) ≡ passes q key (lookup (is_at (nat_cmp key)) es)
passing q key [] s = refl
passing q key (e ∷ es) s = go (passing q key es (sorted_tail nat_cmp e.0 (keys_of es) s)) (is_at (nat_cmp key) e.0) refl (q e) refl
  where
    rest : List (ℕ × Waiting)
    rest = filter q es

    same : is_at (nat_cmp key) e.0 ≡ true → q (key, e.1) ≡ q e
    same f = ap (λ z. q (z, e.1)) (sym (key_same key e.0 f))

    differs : is_at (nat_cmp key) e.0 ≡ false → nat_eq e.0 key ≡ false
    differs f = at_false (nat_eq e.0 key) refl
      where
        at_false : (b : Bool) → nat_eq e.0 key ≡ b → b ≡ false
        at_false true g = sym (sym f ∙ ap (is_at (nat_cmp key)) (eqb-true e.0 key g) ∙ at_itself key)
        at_false false g = refl

    go : has key (keys_of rest) ≡ passes q key (lookup (is_at (nat_cmp key)) es) → (b : Bool) → is_at (nat_cmp key) e.0 ≡ b → (c : Bool) → q e ≡ c
        → has key (keys_of (cond c (e ∷ rest) rest)) ≡ passes q key (cond b (Some e.1) (lookup (is_at (nat_cmp key)) es))
    go more true f true g = ap (λ z. z || has key (keys_of rest)) (eq-eqb e.0 key (key_same key e.0 f)) ∙ sym (same f ∙ g)
    go more true f false g = absent q key es (subst (λ z. AllByRecursion (λ y. nat_cmp z y ≡ Less) (keys_of es)) (key_same key e.0 f) (sorted_head nat_cmp e.0 (keys_of es) s)) ∙ sym (same f ∙ g)
    go more false f true g = ap (λ z. z || has key (keys_of rest)) (differs f) ∙ more
    go more false f false g = more

keys_shown : (t : List Chan → Bool) (es : List (ℕ × Waiting)) → keys_of (filter (λ e. t e.1.chans) es) ≡ map (λ w. w.0) (filter (λ w. t w.1) (map shown es))
keys_shown t [] = refl
keys_shown t (e ∷ es) = go (keys_shown t es) (t e.1.chans)
  where
    go : keys_of (filter (λ e'. t e'.1.chans) es) ≡ map (λ w. w.0) (filter (λ w. t w.1) (map shown es)) → (b : Bool) → keys_of (cond b (e ∷ filter (λ e'. t e'.1.chans) es) (filter (λ e'. t e'.1.chans) es)) ≡ map (λ w. w.0) (cond b (shown e ∷ filter (λ w. t w.1) (map shown es)) (filter (λ w. t w.1) (map shown es)))
    go more true = ap (λ l. e.0 ∷ l) more
    go more false = more

-- those that were found, in order, are the waiters that are hit
pub found_is : (es : List (ℕ × Waiting)) (s : Nodes ℕ) (fired : List Chan) (found : List ℕ) → Held es s → AllHit es fired found → AllByRecursion (ChanNoted s es fired found) fired → IsStrictlySortedBy nat_cmp found → found ≡ map (λ w. w.0) (filter (λ w. is_on fired w.1) (map shown es))
found_is es s fired found w sound noted sorted =
    btree_set_from_contains nat_cmp_total (record { keys = found }) (record { keys = keys_of (filter (is_hit fired) es) }) sorted (keys_filter (is_hit fired) es w.order) same exact_unsigned ∙ keys_shown (is_on fired) es
  where
    told : (key : ℕ) (v : Option Waiting) → lookup (is_at (nat_cmp key)) es ≡ v → has key found ≡ passes (is_hit fired) key v
    told key (Some p) h = has_is es s fired found w sound noted key p h
    told key None h = sym (has_found key found) ∙ go (list_any (is_at (nat_cmp key)) found) refl
      where
        go : (b : Bool) → list_any (is_at (nat_cmp key)) found ≡ b → b ≡ false
        go true e = let q : None ≡ Some (sound.each key e).waiting = sym h ∙ (sound.each key e).here in cc
        go false e = refl

    same : (key : ℕ) → list_any (is_at (nat_cmp key)) found ≡ list_any (is_at (nat_cmp key)) (keys_of (filter (is_hit fired) es))
    same key = has_found key found ∙ told key (lookup (is_at (nat_cmp key)) es) refl ∙ sym (passing (is_hit fired) key es w.order) ∙ sym (has_found key (keys_of (filter (is_hit fired) es)))

-- What is left of the timers when those that are due are taken out.
use Rattle.std.proofs.Common.{◌≡◌, ◌≢◌, ℕ, ◌<◌, ◌≤◌, Bool, true, false, cond, not, ◌||◌, ◌&&◌, List, [], ◌∷◌, ◌++◌, refl, sym, ◌∙◌, ap, subst, map, filter, arith, Some, nat_eq, nat_le}
use Rattle.std.specs.Ordering.{nat_cmp, is_eq, ordering_then}
use Rattle.std.specs.Cmp.{IsTotalOrder}
use Rattle.std.specs.List.{AllByRecursion, list_any}
use Rattle.std.specs.List.Sorted.{IsStrictlySortedBy}
use Rattle.std.specs.Map.{lookup, remove_entry, keys_of}
use Rattle.std.specs.BTreeMap.{is_at}
use Rattle.std.specs.declared.cmp.Ordering.TheVariants.{Less, Equal}
use Rattle.std.proofs.lemmas.Bool.{eqb-true, eq-eqb, leb-true, leb-false, le-leb, lt-leb, true≢false}
use Rattle.std.proofs.lemmas.Cmp.{nat_cmp_total, then_total, on_total, eq_by_cmp_equiv}
use Rattle.std.proofs.lemmas.Map.Keys.{sorted_head, sorted_tail}
use Rattle.std.proofs.lemmas.Map.Views.{Contains-from_any, list_any-from_Contains, tells_apart}
use Rattle.index_list.specs.Nodes.{Nodes}
use Rattle.index_list.specs.Places.{has}
use Rattle.index_list.proofs.Keeping.{has_more}
use Rattle.timer_wheel.specs.declared.place.Place.{Place}
use Rattle.timer_wheel.specs.Dues.{due_cmp, IsDue, AreDue}
use Rattle.timer_wheel.specs.Finds.{IsFound, AllDue, is_off}
use Rattle.timer_wheel.specs.Kept.{Kept, timed}
use Rattle.timer_wheel.proofs.Keeps.{at_itself, is_equal, key_same}
use Rattle.timer_wheel.proofs.Finds.{due_exact, time_of, place_of}

nat_cmp_self : (a : ℕ) → nat_cmp a a ≡ Equal
nat_cmp_self a = is_equal (nat_cmp a a) (at_itself a)

not_less : (a : ℕ) → nat_cmp a a ≢ Less
not_less a h = let e : Equal ≡ Less = sym (nat_cmp_self a) ∙ h in cc

-- the test of a key in the map is the equality of numbers
at_is_eq : (a b : ℕ) → is_at (nat_cmp a) b ≡ nat_eq a b
at_is_eq a b = go (is_at (nat_cmp a) b) refl (nat_eq a b) refl
  where
    go : (x : Bool) → is_at (nat_cmp a) b ≡ x → (y : Bool) → nat_eq a b ≡ y → x ≡ y
    go true h true k = refl
    go false h false k = refl
    go true h false k = sym (sym k ∙ eq-eqb a b (sym (key_same a b h)))
    go false h true k = sym h ∙ ap (is_at (nat_cmp a)) (sym (eqb-true a b k)) ∙ at_itself a

-- the entries that pass, where no key is this one
pass_same : (k : ℕ) (p : ℕ × Place → Bool) (es : List (ℕ × Place)) → AllByRecursion (λ y. nat_eq k y ≡ false) (keys_of es) → filter p es ≡ filter (λ e. p e && not (nat_eq k e.0)) es
pass_same k p [] h = refl
pass_same k p (e ∷ es) h = go (pass_same k p es h.1) (p e) (nat_eq k e.0) h.0
  where
    go : filter p es ≡ filter (λ e'. p e' && not (nat_eq k e'.0)) es → (b d : Bool) → d ≡ false
        → cond b (e ∷ filter p es) (filter p es) ≡ cond (b && not d) (e ∷ filter (λ e'. p e' && not (nat_eq k e'.0)) es) (filter (λ e'. p e' && not (nat_eq k e'.0)) es)
    go more true true g = absurd (true≢false g)
    go more true false g = ap (λ l. e ∷ l) more
    go more false d g = more

others_apart : (k : ℕ) (ks : List ℕ) → AllByRecursion (λ y. nat_cmp k y ≡ Less) ks → AllByRecursion (λ y. nat_eq k y ≡ false) ks
others_apart k [] h = tt
others_apart k (y ∷ ks) h = (go (nat_eq k y) refl, others_apart k ks h.1)
  where
    go : (b : Bool) → nat_eq k y ≡ b → b ≡ false
    go true e = absurd (not_less k (ap (nat_cmp k) (eqb-true k y e) ∙ h.0))
    go false e = refl

-- an entry that is taken out of those that pass is one that passes no more
remove_is : (k : ℕ) (p : ℕ × Place → Bool) (es : List (ℕ × Place)) → IsStrictlySortedBy nat_cmp (keys_of es) → remove_entry (is_at (nat_cmp k)) (filter p es) ≡ filter (λ e. p e && not (nat_eq k e.0)) es
remove_is k p [] h = refl
remove_is k p (e ∷ es) h = go (remove_is k p es (sorted_tail nat_cmp e.0 (keys_of es) h)) (p e) (is_at (nat_cmp k) e.0) (nat_eq k e.0) refl (at_is_eq k e.0) refl
  where
    rest : List (ℕ × Place)
    rest = filter (λ e'. p e' && not (nat_eq k e'.0)) es

    same : nat_eq k e.0 ≡ true → filter p es ≡ rest
    same q = pass_same k p es (subst (λ z. AllByRecursion (λ y. nat_eq z y ≡ false) (keys_of es)) (sym (eqb-true k e.0 q)) (others_apart e.0 (keys_of es) (sorted_head nat_cmp e.0 (keys_of es) h)))

    go : remove_entry (is_at (nat_cmp k)) (filter p es) ≡ rest → (b t d : Bool) → is_at (nat_cmp k) e.0 ≡ t → t ≡ d → nat_eq k e.0 ≡ d
        → remove_entry (is_at (nat_cmp k)) (cond b (e ∷ filter p es) (filter p es)) ≡ cond (b && not d) (e ∷ rest) rest
    go more false t d g f q = more
    go more true true true g f q = ap (λ z. cond z (filter p es) (e ∷ remove_entry (is_at (nat_cmp k)) (filter p es))) g ∙ same q
    go more true true false g f q = absurd (true≢false f)
    go more true false true g f q = absurd (true≢false (sym f))
    go more true false false g f q = ap (λ z. cond z (filter p es) (e ∷ remove_entry (is_at (nat_cmp k)) (filter p es))) g ∙ ap (λ l. e ∷ l) more

filter_same_test : (p q : ℕ × Place → Bool) (es : List (ℕ × Place)) → ((e : ℕ × Place) → p e ≡ q e) → filter p es ≡ filter q es
filter_same_test p q [] h = refl
filter_same_test p q (e ∷ es) h = λ i. cond (h e i) (e ∷ filter_same_test p q es h i) (filter_same_test p q es h i)

-- one more key was taken out
pub off_more : (ks : List ℕ) (k : ℕ) (es : List (ℕ × Place)) → IsStrictlySortedBy nat_cmp (keys_of es) → remove_entry (is_at (nat_cmp k)) (filter (is_off ks) es) ≡ filter (is_off (ks ++ k ∷ [])) es
off_more ks k es h = remove_is k (is_off ks) es h ∙ filter_same_test (λ e. is_off ks e && not (nat_eq k e.0)) (is_off (ks ++ k ∷ [])) es (λ e. both (has e.0 ks) (nat_eq k e.0) ∙ sym (ap not (has_more e.0 ks k)))
  where
    both : (a b : Bool) → (not a && not b) ≡ not (a || b)
    both true b = refl
    both false b = refl

-- no key was taken out
pub off_none : (es : List (ℕ × Place)) → filter (is_off []) es ≡ es
off_none [] = refl
off_none (e ∷ es) = ap (λ l. e ∷ l) (off_none es)

-- a key that is found behind a first one differs from it
behind : (k j : ℕ) (p : Place) (es : List (ℕ × Place)) → AllByRecursion (λ y. nat_cmp k y ≡ Less) (keys_of es) → lookup (is_at (nat_cmp j)) es ≡ Some p → is_at (nat_cmp j) k ≡ false
behind k j p [] a h = cc
behind k j p (e ∷ es) a h = go (behind k j p es a.1) (is_at (nat_cmp j) e.0) refl h
  where
    differs : e.0 ≡ j → (b : Bool) → is_at (nat_cmp j) k ≡ b → b ≡ false
    differs f true g = absurd (not_less k (ap (nat_cmp k) (key_same j k g ∙ sym f) ∙ a.0))
    differs f false g = refl

    go : (lookup (is_at (nat_cmp j)) es ≡ Some p → is_at (nat_cmp j) k ≡ false) → (b : Bool) → is_at (nat_cmp j) e.0 ≡ b → cond b (Some e.1) (lookup (is_at (nat_cmp j)) es) ≡ Some p → is_at (nat_cmp j) k ≡ false
    go more true f g = differs (key_same j e.0 f) (is_at (nat_cmp j) k) refl
    go more false f g = more g

-- where exactly the keys of the timers up to now were taken out, the later timers are left
pub off_is : (keys : List ℕ) (now : ℕ) (es : List (ℕ × Place)) → IsStrictlySortedBy nat_cmp (keys_of es) → ((key : ℕ) (p : Place) → lookup (is_at (nat_cmp key)) es ≡ Some p → has key keys ≡ nat_le p.at now) → filter (is_off keys) es ≡ filter (λ e. not (nat_le e.1.at now)) es
off_is keys now [] s h = refl
off_is keys now (e ∷ es) s h =
    let here : has e.0 keys ≡ nat_le e.1.at now = h e.0 e.1 (ap (λ b. cond b (Some e.1) (lookup (is_at (nat_cmp e.0)) es)) (at_itself e.0)) in
    let rest : filter (is_off keys) es ≡ filter (λ e'. not (nat_le e'.1.at now)) es = off_is keys now es (sorted_tail nat_cmp e.0 (keys_of es) s)
    (λ key p l. h key p (ap (λ b. cond b (Some e.1) (lookup (is_at (nat_cmp key)) es)) (behind e.0 key p es (sorted_head nat_cmp e.0 (keys_of es) s) l) ∙ l)) in
    λ i. cond (not (here i)) (e ∷ rest i) (rest i)

pub timed_later : (now : ℕ) (es : List (ℕ × Place)) → map timed (filter (λ e. not (nat_le e.1.at now)) es) ≡ filter (λ t. not (nat_le t.1 now)) (map timed es)
timed_later now [] = refl
timed_later now (e ∷ es) = go (timed_later now es) (nat_le e.1.at now)
  where
    go : map timed (filter (λ e'. not (nat_le e'.1.at now)) es) ≡ filter (λ t. not (nat_le t.1 now)) (map timed es) → (b : Bool)
        → map timed (cond (not b) (e ∷ filter (λ e'. not (nat_le e'.1.at now)) es) (filter (λ e'. not (nat_le e'.1.at now)) es)) ≡ cond (not b) (timed e ∷ filter (λ t. not (nat_le t.1 now)) (map timed es)) (filter (λ t. not (nat_le t.1 now)) (map timed es))
    go more true = more
    go more false = ap (λ l. timed e ∷ l) more

-- what is left is later
pub left_later : (t : ℕ → Bool) (now : ℕ) (es : List (ℕ × Place)) (p : Place) → lookup t (filter (λ e. not (nat_le e.1.at now)) es) ≡ Some p → nat_le p.at now ≡ false
left_later t now [] p h = cc
left_later t now (e ∷ es) p h = go (left_later t now es p) (nat_le e.1.at now) refl h
  where
    rest : List (ℕ × Place)
    rest = filter (λ e'. not (nat_le e'.1.at now)) es

    at_head : (lookup t rest ≡ Some p → nat_le p.at now ≡ false) → nat_le e.1.at now ≡ false → (b : Bool) → cond b (Some e.1) (lookup t rest) ≡ Some p → nat_le p.at now ≡ false
    at_head more g true k = let i : e.1 ≡ p = cc in ap (λ (q : Place). nat_le q.at now) (sym i) ∙ g
    at_head more g false k = more k

    go : (lookup t rest ≡ Some p → nat_le p.at now ≡ false) → (b : Bool) → nat_le e.1.at now ≡ b → lookup t (cond (not b) (e ∷ rest) rest) ≡ Some p → nat_le p.at now ≡ false
    go more true g k = more k
    go more false g k = at_head more g (t e.0) k

due_itself : (d : ℕ × ℕ) → is_at (due_cmp d) d ≡ true
due_itself d = λ i. is_eq (ordering_then (nat_cmp_self d.0 i) (nat_cmp_self d.1 i))

pub due_same : (d x : ℕ × ℕ) → is_at (due_cmp d) x ≡ true → d ≡ x
due_same d x h = due_exact d x (is_equal (due_cmp d x) h)

-- the key of what is found is among the keys
found_has : (d : ℕ × ℕ) (found : List (ℕ × ℕ)) → IsFound found d → has d.1 (map (λ x. x.1) found) ≡ true
found_has d [] h = absurd (true≢false (sym h))
found_has d (x ∷ found) h = go (found_has d found) (is_at (due_cmp d) x) refl h
  where
    either : (a b : Bool) → b ≡ true → (a || b) ≡ true
    either true b e = refl
    either false b e = e

    go : (IsFound found d → has d.1 (map (λ x. x.1) found) ≡ true) → (b : Bool) → is_at (due_cmp d) x ≡ b → (b || list_any (is_at (due_cmp d)) found) ≡ true → (nat_eq x.1 d.1 || has d.1 (map (λ x. x.1) found)) ≡ true
    go more true e k = ap (λ b. b || has d.1 (map (λ x. x.1) found)) (eq-eqb x.1 d.1 (ap (λ (y : ℕ × ℕ). y.1) (sym (due_same d x e))))
    go more false e k = either (nat_eq x.1 d.1) (has d.1 (map (λ x. x.1) found)) (more k)

-- a key among the keys is found with a time
has_found : (key : ℕ) (found : List (ℕ × ℕ)) → has key (map (λ x. x.1) found) ≡ true → (a : ℕ) × IsFound found (a, key)
has_found key [] h = absurd (true≢false (sym h))
has_found key (x ∷ found) h = go (has_found key found) (nat_eq x.1 key) refl h
  where
    either : (a b : Bool) → b ≡ true → (a || b) ≡ true
    either true b e = refl
    either false b e = e

    go : (has key (map (λ x. x.1) found) ≡ true → (a : ℕ) × IsFound found (a, key)) → (b : Bool) → nat_eq x.1 key ≡ b → (b || has key (map (λ x. x.1) found)) ≡ true → (a : ℕ) × IsFound (x ∷ found) (a, key)
    go more true e k = (x.0, ap (λ b. b || list_any (is_at (due_cmp (x.0, key))) found) (ap (λ z. is_at (due_cmp (x.0, z)) x) (sym (eqb-true x.1 key e)) ∙ due_itself x))
    go more false e k = let m = more k in (m.0, either (is_at (due_cmp (m.0, key)) x) (list_any (is_at (due_cmp (m.0, key))) found) m.1)

-- a timer's key is among those found exactly where it is due
pub has_is : (es : List (ℕ × Place)) (now : ℕ) (found : List (ℕ × ℕ)) → AllDue (map timed es) now found → ((d : ℕ × ℕ) → IsDue (map timed es) now d → IsFound found d)
    → (key : ℕ) (p : Place) → lookup (is_at (nat_cmp key)) es ≡ Some p → has key (map (λ d. d.1) found) ≡ nat_le p.at now
has_is es now found sound whole key p h = go (nat_le p.at now) refl (has key (map (λ d. d.1) found)) refl
  where
    due : nat_le p.at now ≡ true → has key (map (λ d. d.1) found) ≡ true
    due e = found_has (p.at, key) found (whole (p.at, key) (time_of (is_at (nat_cmp key)) es p h, leb-true p.at now e))

    early : has key (map (λ d. d.1) found) ≡ true → p.at ≤ now
    early e =
        let f : (a : ℕ) × IsFound found (a, key) = has_found key found e in
        let d : IsDue (map timed es) now (f.0, key) = sound.each (f.0, key) f.1 in
        let s : Some p.at ≡ Some f.0 = sym (time_of (is_at (nat_cmp key)) es p h) ∙ d.0 in
        let t : p.at ≡ f.0 = cc in omega (arith, t, d.1)

    go : (a : Bool) → nat_le p.at now ≡ a → (b : Bool) → has key (map (λ d. d.1) found) ≡ b → b ≡ a
    go true e true f = refl
    go false e false f = refl
    go true e false f = sym f ∙ due e
    go false e true f = sym (le-leb p.at now (early f)) ∙ e

pub due_total : IsTotalOrder due_cmp
due_total = then_total (on_total (λ (d : ℕ × ℕ). d.0) nat_cmp_total) (on_total (λ (d : ℕ × ℕ). d.1) nat_cmp_total)

-- what was found are the timers that are due
pub are_due : (timers : List (ℕ × ℕ)) (now : ℕ) (found : List (ℕ × ℕ)) (keys : List ℕ) → AllDue timers now found → ((d : ℕ × ℕ) → IsDue timers now d → IsFound found d) → IsStrictlySortedBy due_cmp found → keys ≡ map (λ d. d.1) found → AreDue timers now keys
are_due timers now found keys sound whole sorted e = record {
  dues = found;
  keys_are = e;
  ascend = sorted;
  exact = λ d. (λ h. sound.each d (list_any-from_Contains (eq_by_cmp_equiv due_total) d found h), λ h. Contains-from_any (tells_apart due_exact) d found (whole d h));
}

-- before the lowest time nothing is due
early_not : (es : List (ℕ × Place)) (s : Nodes ℕ) (low now key : ℕ) (p : Place) → Kept es s low → now < low → lookup (is_at (nat_cmp key)) es ≡ Some p → now < p.at
early_not es s low now key p w e h = omega (arith, e, (w.all key p h).late)

pub none_due : (es : List (ℕ × Place)) (s : Nodes ℕ) (low now : ℕ) (timers : List (ℕ × ℕ)) (keys : List ℕ) → Kept es s low → now < low → map timed es ≡ timers → keys ≡ [] → AreDue timers now keys
unfolding IsStrictlySortedBy
none_due es s low now timers keys w e v k = subst (λ t. AreDue t now keys) v (are_due (map timed es) now [] keys (record { each = λ d h. absurd (true≢false (sym h)) }) (λ d h. absurd (late d h)) none k)
  where
    late : (d : ℕ × ℕ) → IsDue (map timed es) now d → ⊥
    late d h = let p = place_of (is_at (nat_cmp d.1)) es d.0 h.0 in omega (arith, early_not es s low now d.1 p.0 w e p.1.0, p.1.1, h.1)

    none : IsStrictlySortedBy due_cmp []
    none = tt

pub none_leave : (es : List (ℕ × Place)) (s : Nodes ℕ) (low now : ℕ) (timers : List (ℕ × ℕ)) → Kept es s low → now < low → map timed es ≡ timers → timers ≡ filter (λ t. not (nat_le t.1 now)) timers
none_leave es s low now timers w e v = subst (λ t. t ≡ filter (λ u. not (nat_le u.1 now)) t) v
    (sym (ap (map timed) (off_none es)) ∙ ap (map timed) (off_is [] now es w.order (λ key p h. sym (lt-leb p.at now (early_not es s low now key p w e h)))) ∙ timed_later now es)

-- what is left when the keys that were found are taken out
pub left_is : (es es' : List (ℕ × Place)) (now : ℕ) (found : List (ℕ × ℕ)) (keys : List ℕ) → IsStrictlySortedBy nat_cmp (keys_of es) → AllDue (map timed es) now found → ((d : ℕ × ℕ) → IsDue (map timed es) now d → IsFound found d) → keys ≡ map (λ d. d.1) found → es' ≡ filter (is_off keys) es → es' ≡ filter (λ e. not (nat_le e.1.at now)) es
left_is es es' now found keys order sound whole k e = e ∙ ap (λ l. filter (is_off l) es) k ∙ off_is (map (λ d. d.1) found) now es order (has_is es now found sound whole)

-- what is left is not before now
pub kept_raise : (es es' : List (ℕ × Place)) (s : Nodes ℕ) (low now : ℕ) → Kept es' s low → es' ≡ filter (λ e. not (nat_le e.1.at now)) es → Kept es' s now
kept_raise es es' s low now w e = record {
  slots = w.slots;
  one = w.one;
  count = w.count;
  order = w.order;
  all = λ k p h. record { item = (w.all k p h).item; there = (w.all k p h).there; late = later k p h };
}
  where
    later : (k : ℕ) (p : Place) → lookup (is_at (nat_cmp k)) es' ≡ Some p → now ≤ p.at
    later k p h = omega (arith, leb-false p.at now (left_later (is_at (nat_cmp k)) now es p (ap (lookup (is_at (nat_cmp k))) (sym e) ∙ h)))

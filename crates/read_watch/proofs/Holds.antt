-- The waiters after one was added or taken out.
use Rattle.std.proofs.Common.{◌≡◌, ◌≢◌, ℕ, ◌<◌, ◌≤◌, ◌+◌, suc, Bool, true, false, cond, List, [], ◌∷◌, refl, sym, ◌∙◌, ap, length, map, arith, length-set, subst, Option, Some, None, is_some, get_or}
use Rattle.std.specs.Ordering.{nat_cmp, is_eq, match_ordering}
use Rattle.std.specs.declared.cmp.Ordering.{Ordering}
use Rattle.std.specs.declared.cmp.Ordering.TheVariants.{Less, Equal, Greater}
use Rattle.std.proofs.lemmas.Cmp.{nat_cmp_total, eq_by_cmp_equiv}
use Rattle.std.proofs.lemmas.Map.{lookup-remove_entry}
use Rattle.std.proofs.lemmas.Map.Keys.{IsDistinct-from_sorted}
use Rattle.std.proofs.lemmas.Map.Lookups.{exact_unsigned}
use Rattle.std.proofs.lemmas.Bool.{true≢false, le-ltb, eq-eqb}
use Rattle.std.specs.Map.{lookup, remove_entry, keys_of}
use Rattle.std.specs.List.Sorted.{IsStrictlySortedBy}
use Rattle.std.specs.BTreeMap.{is_at, insert_entry}
use Rattle.cat_model.specs.declared.query.Chan.{Chan}
use Rattle.index_list.specs.Nodes.{Nodes, item_at, live, linked, unlinked}
use Rattle.index_list.specs.Places.{has, without}
use Rattle.index_list.proofs.Callers.{item_left, live_left, has_left, item_new, item_other, live_new, has_new, has_still}
use Rattle.read_watch.specs.declared.waiters.Waiting.{Waiting}
use Rattle.read_watch.specs.Buckets.{first_list, second_list}
use Rattle.read_watch.specs.Held.{Held, Stands, shown}

-- the entries that callers see, without a waiter
pub shown_without : (t : ℕ → Bool) (es : List (ℕ × Waiting)) → map shown (remove_entry t es) ≡ remove_entry t (map shown es)
shown_without t [] = refl
shown_without t (e ∷ es) = go (shown_without t es) (t e.0)
  where
    go : map shown (remove_entry t es) ≡ remove_entry t (map shown es) → (b : Bool) → map shown (cond b es (e ∷ remove_entry t es)) ≡ cond b (map shown es) (shown e ∷ remove_entry t (map shown es))
    go more true = refl
    go more false = ap (λ l. shown e ∷ l) more

-- with one more
pub shown_insert : (es : List (ℕ × Waiting)) (k : ℕ) (v : Waiting) → map shown (insert_entry nat_cmp es k v) ≡ insert_entry nat_cmp (map shown es) k v.chans
shown_insert [] k v = refl
shown_insert (e ∷ es) k v = go (shown_insert es k v) (nat_cmp k e.0)
  where
    go : map shown (insert_entry nat_cmp es k v) ≡ insert_entry nat_cmp (map shown es) k v.chans → (o : Ordering) → map shown (match_ordering o ((k, v) ∷ e ∷ es) ((e.0, v) ∷ es) (e ∷ insert_entry nat_cmp es k v)) ≡ match_ordering o ((k, v.chans) ∷ shown e ∷ map shown es) ((e.0, v.chans) ∷ map shown es) (shown e ∷ insert_entry nat_cmp (map shown es) k v.chans)
    go more Less = refl
    go more Equal = refl
    go more Greater = ap (λ l. shown e ∷ l) more

-- a waiter that callers do not see is not there
pub shown_none : (t : ℕ → Bool) (es : List (ℕ × Waiting)) → lookup t (map shown es) ≡ None → lookup t es ≡ None
shown_none t [] h = refl
shown_none t (e ∷ es) h = go (shown_none t es) (t e.0) h
  where
    go : (lookup t (map shown es) ≡ None → lookup t es ≡ None) → (b : Bool) → cond b (Some e.1.chans) (lookup t (map shown es)) ≡ None → cond b (Some e.1) (lookup t es) ≡ None
    go more true k = cc
    go more false k = more k

-- a waiter is there where callers see it
pub shown_lookup : (t : ℕ → Bool) (es : List (ℕ × Waiting)) → is_some (lookup t es) ≡ is_some (lookup t (map shown es))
shown_lookup t [] = refl
shown_lookup t (e ∷ es) = go (shown_lookup t es) (t e.0)
  where
    go : is_some (lookup t es) ≡ is_some (lookup t (map shown es)) → (b : Bool) → is_some (cond b (Some e.1) (lookup t es)) ≡ is_some (cond b (Some e.1.chans) (lookup t (map shown es)))
    go more true = refl
    go more false = more

-- a waiter that is not there is not seen by callers
pub shown_absent : (t : ℕ → Bool) (es : List (ℕ × Waiting)) → lookup t es ≡ None → lookup t (map shown es) ≡ None
shown_absent t [] h = refl
shown_absent t (e ∷ es) h = go (shown_absent t es) (t e.0) h
  where
    go : (lookup t es ≡ None → lookup t (map shown es) ≡ None) → (b : Bool) → cond b (Some e.1) (lookup t es) ≡ None → cond b (Some e.1.chans) (lookup t (map shown es)) ≡ None
    go more true k = cc
    go more false k = more k

pub shown_long : (es : List (ℕ × Waiting)) → length (map shown es) ≡ length es
shown_long [] = refl
shown_long (e ∷ es) = ap suc (shown_long es)

-- two waiters stand at different nodes
apart : (s : Nodes ℕ) (k q : ℕ) (p r : Waiting) → Stands s k p → Stands s q r → k ≢ q → p.node ≢ r.node
apart s k q p r a b d e = let h : Some k ≡ Some q = sym a.item ∙ ap (item_at s.items) e ∙ b.item in d (cc)

stands_left : (s : Nodes ℕ) (k n : ℕ) (p : Waiting) → Stands s k p → p.node ≢ n → Stands (unlinked n s) k p
stands_left s k n p a d = record {
  item = item_left n p.node s.items d ∙ a.item;
  first = has_left _ n p.node s.first d a.first;
  second = has_left _ n p.node s.second d a.second;
  two = a.two;
}

maps_long : (f : List ℕ → List ℕ) (ls : List (List ℕ)) → length (map f ls) ≡ length ls
maps_long f [] = refl
maps_long f (l ∷ ls) = ap suc (maps_long f ls)

pub at_itself : (a : ℕ) → is_at (nat_cmp a) a ≡ true
at_itself a = λ i. is_eq (cond (le-ltb a a (omega arith) i) Less (cond (eq-eqb a a refl i) Equal Greater))

pub key_apart : (a b : ℕ) → is_at (nat_cmp a) b ≡ false → b ≢ a
key_apart a b h e = true≢false (sym (at_itself a) ∙ ap (is_at (nat_cmp a)) (sym e) ∙ h)

pub is_equal : (o : Ordering) → is_eq o ≡ true → o ≡ Equal
is_equal Less e = absurd (true≢false (sym e))
is_equal Equal e = refl
is_equal Greater e = absurd (true≢false (sym e))

pub key_same : (a b : ℕ) → is_at (nat_cmp a) b ≡ true → b ≡ a
key_same a b h = sym (exact_unsigned a b (is_equal (nat_cmp a b) h))

-- a waiter that was taken out is there no more
pub shown_gone : (key : ℕ) (es : List (ℕ × Waiting)) → IsStrictlySortedBy nat_cmp (keys_of es) → lookup (is_at (nat_cmp key)) (map shown (remove_entry (is_at (nat_cmp key)) es)) ≡ None
shown_gone key es order =
    let u = lookup-remove_entry (eq_by_cmp_equiv nat_cmp_total) (is_at (nat_cmp key)) (λ x y h. ap (λ k. is_at (nat_cmp k) y) (sym (key_same key x h))) key es (IsDistinct-from_sorted nat_cmp (keys_of es) order) in
    shown_absent (is_at (nat_cmp key)) (remove_entry (is_at (nat_cmp key)) es) (u ∙ ap (λ b. cond b None (lookup (is_at (nat_cmp key)) es)) (at_itself key))

-- what is there without a key was there before, at another key
pub less_one : (es es' : List (ℕ × Waiting)) (key k : ℕ) (p : Waiting) → lookup (is_at (nat_cmp k)) es' ≡ cond (is_at (nat_cmp key) k) None (lookup (is_at (nat_cmp k)) es) → lookup (is_at (nat_cmp k)) es' ≡ Some p → (k ≢ key) × (lookup (is_at (nat_cmp k)) es ≡ Some p)
less_one es es' key k p u h = go (is_at (nat_cmp key) k) refl (sym u ∙ h)
  where
    go : (b : Bool) → is_at (nat_cmp key) k ≡ b → cond b None (lookup (is_at (nat_cmp k)) es) ≡ Some p → (k ≢ key) × (lookup (is_at (nat_cmp k)) es ≡ Some p)
    go true e f = cc
    go false e f = (key_apart key k e, f)

-- a waiter was taken out
pub held_left : (es es' : List (ℕ × Waiting)) (s : Nodes ℕ) (key : ℕ) (r : Waiting) → Held es s → lookup (is_at (nat_cmp key)) es ≡ Some r
    → ((k : ℕ) (p : Waiting) → lookup (is_at (nat_cmp k)) es' ≡ Some p → (k ≢ key) × (lookup (is_at (nat_cmp k)) es ≡ Some p))
    → length es' + 1 ≡ length es → IsStrictlySortedBy nat_cmp (keys_of es') → Held es' (unlinked r.node s)
held_left es es' s key r w here less count sorted =
    let stood : Stands s key r = w.all key r here in
    record {
      firsts = maps_long (without r.node) s.first ∙ w.firsts;
      seconds = maps_long (without r.node) s.second ∙ w.seconds;
      count = omega (arith, count, w.count, live_left r.node s.items (ap is_some stood.item));
      order = sorted;
      all = λ k p h. let l = less k p h in stands_left s k r.node p (w.all k p l.1) (apart s k key p r (w.all k p l.1) stood l.0);
    }

-- a waiter's node is linked, and no entry names it yet
pub record Mid (es : List (ℕ × Waiting)) (s : Nodes ℕ) (key n : ℕ) (chans : List Chan) : Type 0 where
  pub firsts : length s.first ≡ 65537
  pub seconds : length s.second ≡ 65537
  pub count : live s.items ≡ suc (length es)
  pub order : IsStrictlySortedBy nat_cmp (keys_of es)
  pub all : (k : ℕ) (p : Waiting) → lookup (is_at (nat_cmp k)) es ≡ Some p → Stands s k p × (p.node ≢ n)
  pub new : Stands s key (record { node = n; chans = chans })

pub mid_linked : (es : List (ℕ × Waiting)) (s : Nodes ℕ) (key n i j : ℕ) (chans : List Chan) → Held es s → n ≤ length s.items → item_at s.items n ≡ None → i ≡ first_list chans → j ≡ second_list chans → i < 65537 → j < 65537 → length chans ≤ 2 → Mid es (linked n i j key s) key n chans
mid_linked es s key n i j chans w hn free ei ej hi hj two =
    record {
      firsts = length-set s.first i _ ∙ w.firsts;
      seconds = length-set s.second j _ ∙ w.seconds;
      count = live_new n s.items key hn free ∙ ap suc w.count;
      order = w.order;
      all = λ k p h. (stands_linked k p (w.all k p h), differs k p (w.all k p h));
      new = record {
        item = item_new n s.items key hn;
        first = subst (λ m. has_at m (linked n i j key s).first) ei (has_new i n s.first (omega (arith, hi, w.firsts)));
        second = subst (λ m. has_at m (linked n i j key s).second) ej (has_new j n s.second (omega (arith, hj, w.seconds)));
        two = two;
      };
    }
  where
    has_at : ℕ → List (List ℕ) → Type 0
    has_at m ls = has n (get_or ls m []) ≡ true

    differs : (k : ℕ) (p : Waiting) → Stands s k p → p.node ≢ n
    differs k p a e = true≢false (ap is_some (sym a.item ∙ ap (item_at s.items) e ∙ free))

    stands_linked : (k : ℕ) (p : Waiting) → Stands s k p → Stands (linked n i j key s) k p
    stands_linked k p a = record {
      item = item_other n p.node s.items (Some key) (differs k p a) ∙ a.item;
      first = has_still i (first_list p.chans) n p.node s.first a.first;
      second = has_still j (second_list p.chans) n p.node s.second a.second;
      two = a.two;
    }

pub mid_live : (es : List (ℕ × Waiting)) (s : Nodes ℕ) (key n : ℕ) (chans : List Chan) → Mid es s key n chans → is_some (item_at s.items n) ≡ true
mid_live es s key n chans m = ap is_some m.new.item

-- the node is unlinked again
pub mid_back : (es : List (ℕ × Waiting)) (s : Nodes ℕ) (key n : ℕ) (chans : List Chan) → Mid es s key n chans → Held es (unlinked n s)
mid_back es s key n chans m = record {
  firsts = maps_long (without n) s.first ∙ m.firsts;
  seconds = maps_long (without n) s.second ∙ m.seconds;
  count = omega (arith, m.count, live_left n s.items (mid_live es s key n chans m));
  order = m.order;
  all = λ k p h. stands_left s k n p (m.all k p h).0 (m.all k p h).1;
}

-- the new entry names the node
pub mid_end : (es es' : List (ℕ × Waiting)) (s : Nodes ℕ) (key n : ℕ) (chans : List Chan) → Mid es s key n chans
    → ((k : ℕ) → lookup (is_at (nat_cmp k)) es' ≡ cond (is_at (nat_cmp key) k) (Some (record { node = n; chans = chans })) (lookup (is_at (nat_cmp k)) es))
    → length es' ≡ length es + 1 → IsStrictlySortedBy nat_cmp (keys_of es') → Held es' s
mid_end es es' s key n chans m u c sorted = record {
  firsts = m.firsts;
  seconds = m.seconds;
  count = omega (arith, m.count, c);
  order = sorted;
  all = λ k p h. each k p (is_at (nat_cmp key) k) refl (sym (u k) ∙ h);
}
  where
    each : (k : ℕ) (p : Waiting) (b : Bool) → is_at (nat_cmp key) k ≡ b → cond b (Some (record { node = n; chans = chans })) (lookup (is_at (nat_cmp k)) es) ≡ Some p → Stands s k p
    each k p true h g = let i : record { node = n; chans = chans } ≡ p = cc in subst (λ q. Stands s q p) (sym (key_same key k h)) (subst (Stands s key) i m.new)
    each k p false h g = (m.all k p g).0

-- one entry more, where there was none at the key
pub one_longer : (old : Option Waiting) (a b : ℕ) → old ≡ None → a ≡ b + cond (is_some old) 0 1 → a ≡ b + 1
one_longer None a b e h = h
one_longer (Some w) a b e h = cc

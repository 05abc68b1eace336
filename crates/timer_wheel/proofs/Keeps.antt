-- The timers after one was taken out.
use Rattle.std.proofs.Common.{◌≡◌, ◌≢◌, ℕ, ◌≤◌, ◌+◌, ◌%◌, suc, Bool, true, false, cond, List, [], ◌∷◌, refl, sym, ◌∙◌, ap, length, map, arith, length-set, subst, rules, Option, Some, None, is_some, IsSome, IfSome, MatchOption}
use Rattle.std.specs.Ordering.{nat_cmp, is_eq, match_ordering}
use Rattle.std.specs.declared.cmp.Ordering.{Ordering}
use Rattle.std.proofs.lemmas.Map.Lookups.{exact_unsigned}
use Rattle.std.specs.declared.cmp.Ordering.TheVariants.{Less, Equal, Greater}
use Rattle.std.proofs.lemmas.Bool.{true≢false, le-ltb, eq-eqb}
use Rattle.std.specs.Map.{lookup, remove_entry, keys_of}
use Rattle.std.specs.List.Sorted.{IsStrictlySortedBy}
use Rattle.std.specs.BTreeMap.{is_at, insert_entry}
use Rattle.index_list.specs.Nodes.{Nodes, item_at, live, linked, unlinked}
use Rattle.index_list.specs.Places.{without}
use Rattle.index_list.proofs.Callers.{item_left, live_left, has_left, item_new, item_other, live_new, has_new, has_still}
use Rattle.timer_wheel.specs.declared.place.Place.{Place}
use Rattle.timer_wheel.specs.Kept.{Kept, Stands, timed}

-- the times of the entries without a key
pub timed_without : (t : ℕ → Bool) (es : List (ℕ × Place)) → map timed (remove_entry t es) ≡ remove_entry t (map timed es)
timed_without t [] = refl
timed_without t (e ∷ es) = go (timed_without t es) (t e.0)
  where
    go : map timed (remove_entry t es) ≡ remove_entry t (map timed es) → (b : Bool) → map timed (cond b es (e ∷ remove_entry t es)) ≡ cond b (map timed es) (timed e ∷ remove_entry t (map timed es))
    go more true = refl
    go more false = ap (λ l. timed e ∷ l) more

pub timed_lookup : (t : ℕ → Bool) (es : List (ℕ × Place)) → is_some (lookup t es) ≡ is_some (lookup t (map timed es))
timed_lookup t [] = refl
timed_lookup t (e ∷ es) = go (timed_lookup t es) (t e.0)
  where
    go : is_some (lookup t es) ≡ is_some (lookup t (map timed es)) → (b : Bool) → is_some (cond b (Some e.1) (lookup t es)) ≡ is_some (cond b (Some e.1.at) (lookup t (map timed es)))
    go more true = refl
    go more false = more

-- two timers of different keys stand at different nodes
apart : (s : Nodes ℕ) (low k q : ℕ) (p r : Place) → Stands s low k p → Stands s low q r → k ≢ q → p.node ≢ r.node
apart s low k q p r a b d e = let h : Some k ≡ Some q = sym a.item ∙ ap (item_at s.items) e ∙ b.item in d (cc)

stands_left : (s : Nodes ℕ) (low k n : ℕ) (p : Place) → Stands s low k p → p.node ≢ n → Stands (unlinked n s) low k p
stands_left s low k n p a d = record {
  item = item_left n p.node s.items d ∙ a.item;
  there = has_left _ n p.node s.first d a.there;
  late = a.late;
}

maps_long : (f : List ℕ → List ℕ) (ls : List (List ℕ)) → length (map f ls) ≡ length ls
maps_long f [] = refl
maps_long f (l ∷ ls) = ap suc (maps_long f ls)

-- a timer was taken out
pub kept_left : (es es' : List (ℕ × Place)) (s : Nodes ℕ) (low key : ℕ) (r : Place) → Kept es s low → lookup (is_at (nat_cmp key)) es ≡ Some r
    → ((k : ℕ) (p : Place) → lookup (is_at (nat_cmp k)) es' ≡ Some p → (k ≢ key) × (lookup (is_at (nat_cmp k)) es ≡ Some p))
    → length es' + 1 ≡ length es → IsStrictlySortedBy nat_cmp (keys_of es') → Kept es' (unlinked r.node s) low
kept_left es es' s low key r w here less count sorted =
    let stood : Stands s low key r = w.all key r here in
    record {
      slots = maps_long (without r.node) s.first ∙ w.slots;
      one = maps_long (without r.node) s.second ∙ w.one;
      count = omega (arith, count, w.count, live_left r.node s.items (ap is_some stood.item));
      order = sorted;
      all = λ k p h. let l = less k p h in stands_left s low k r.node p (w.all k p l.1) (apart s low k key p r (w.all k p l.1) stood l.0);
    }

pub at_itself : (a : ℕ) → is_at (nat_cmp a) a ≡ true
at_itself a = λ i. is_eq (cond (le-ltb a a (omega arith) i) Less (cond (eq-eqb a a refl i) Equal Greater))

pub key_apart : (a b : ℕ) → is_at (nat_cmp a) b ≡ false → b ≢ a
key_apart a b h e = true≢false (sym (at_itself a) ∙ ap (is_at (nat_cmp a)) (sym e) ∙ h)

pub is_equal : (o : Ordering) → is_eq o ≡ true → o ≡ Equal
is_equal Less e = absurd (true≢false (sym e))
is_equal Equal e = refl
is_equal Greater e = absurd (true≢false (sym e))

pub key_same : (a b : ℕ) → is_at (nat_cmp a) b ≡ true → b ≡ a
key_same a b h = sym (exact_unsigned a b (is_equal (nat_cmp a b) h))

-- what is there without a key was there before, at another key
pub less_one : (es es' : List (ℕ × Place)) (key k : ℕ) (p : Place) → lookup (is_at (nat_cmp k)) es' ≡ cond (is_at (nat_cmp key) k) None (lookup (is_at (nat_cmp k)) es) → lookup (is_at (nat_cmp k)) es' ≡ Some p → (k ≢ key) × (lookup (is_at (nat_cmp k)) es ≡ Some p)
less_one es es' key k p u h = go (is_at (nat_cmp key) k) refl (sym u ∙ h)
  where
    go : (b : Bool) → is_at (nat_cmp key) k ≡ b → cond b None (lookup (is_at (nat_cmp k)) es) ≡ Some p → (k ≢ key) × (lookup (is_at (nat_cmp k)) es ≡ Some p)
    go true e f = cc
    go false e f = (key_apart key k e, f)

-- the times of the entries with one more
pub timed_insert : (es : List (ℕ × Place)) (k : ℕ) (v : Place) → map timed (insert_entry nat_cmp es k v) ≡ insert_entry nat_cmp (map timed es) k v.at
timed_insert [] k v = refl
timed_insert (e ∷ es) k v = go (timed_insert es k v) (nat_cmp k e.0)
  where
    go : map timed (insert_entry nat_cmp es k v) ≡ insert_entry nat_cmp (map timed es) k v.at → (o : Ordering) → map timed (match_ordering o ((k, v) ∷ e ∷ es) ((e.0, v) ∷ es) (e ∷ insert_entry nat_cmp es k v)) ≡ match_ordering o ((k, v.at) ∷ timed e ∷ map timed es) ((e.0, v.at) ∷ map timed es) (timed e ∷ insert_entry nat_cmp (map timed es) k v.at)
    go more Less = refl
    go more Equal = refl
    go more Greater = ap (λ l. timed e ∷ l) more

-- a later lowest time may be replaced by an earlier one
pub kept_lower : (es : List (ℕ × Place)) (s : Nodes ℕ) (low low' : ℕ) → Kept es s low → low' ≤ low → Kept es s low'
kept_lower es s low low' w h = record {
  slots = w.slots;
  one = w.one;
  count = w.count;
  order = w.order;
  all = λ k p l. record { item = (w.all k p l).item; there = (w.all k p l).there; late = omega (arith, (w.all k p l).late, h) };
}

-- a timer's node is linked, and no entry names it yet
pub record Mid (es : List (ℕ × Place)) (s : Nodes ℕ) (low key at n : ℕ) : Type 0 where
  pub slots : length s.first ≡ 65536
  pub one : length s.second ≡ 1
  pub count : live s.items ≡ suc (length es)
  pub order : IsStrictlySortedBy nat_cmp (keys_of es)
  pub all : (k : ℕ) (p : Place) → lookup (is_at (nat_cmp k)) es ≡ Some p → Stands s low k p × (p.node ≢ n)
  pub new : Stands s low key (record { node = n; at = at })

pub mid_linked : (es : List (ℕ × Place)) (s : Nodes ℕ) (low key at n : ℕ) → Kept es s low → n ≤ length s.items → item_at s.items n ≡ None → low ≤ at → Mid es (linked n (at % 65536) 0 key s) low key at n
mid_linked es s low key at n w hn free hl =
    record {
      slots = length-set s.first (at % 65536) _ ∙ w.slots;
      one = length-set s.second 0 _ ∙ w.one;
      count = live_new n s.items key hn free ∙ ap suc w.count;
      order = w.order;
      all = λ k p h. (stands_linked k p (w.all k p h), differs k p (w.all k p h));
      new = record {
        item = item_new n s.items key hn;
        there = has_new (at % 65536) n s.first (omega (arith, w.slots));
        late = hl;
      };
    }
  where
    differs : (k : ℕ) (p : Place) → Stands s low k p → p.node ≢ n
    differs k p a e = true≢false (ap is_some (sym a.item ∙ ap (item_at s.items) e ∙ free))

    stands_linked : (k : ℕ) (p : Place) → Stands s low k p → Stands (linked n (at % 65536) 0 key s) low k p
    stands_linked k p a = record {
      item = item_other n p.node s.items (Some key) (λ e. true≢false (ap is_some (sym a.item ∙ ap (item_at s.items) e ∙ free))) ∙ a.item;
      there = has_still (at % 65536) (p.at % 65536) n p.node s.first a.there;
      late = a.late;
    }

pub mid_live : (es : List (ℕ × Place)) (s : Nodes ℕ) (low key at n : ℕ) → Mid es s low key at n → is_some (item_at s.items n) ≡ true
mid_live es s low key at n m = ap is_some m.new.item

pub mid_back : (es : List (ℕ × Place)) (s : Nodes ℕ) (low key at n : ℕ) → Mid es s low key at n → Kept es (unlinked n s) low
mid_back es s low key at n m = record {
  slots = maps_long (without n) s.first ∙ m.slots;
  one = maps_long (without n) s.second ∙ m.one;
  count = omega (arith, m.count, live_left n s.items (mid_live es s low key at n m));
  order = m.order;
  all = λ k p h. stands_left s low k n p (m.all k p h).0 (m.all k p h).1;
}

pub mid_old_live : (es : List (ℕ × Place)) (s : Nodes ℕ) (low key at n : ℕ) (old : Option Place) → Mid es s low key at n → old ≡ lookup (is_at (nat_cmp key)) es → IfSome old (λ p. IsSome (item_at s.items p.node))
mid_old_live es s low key at n None m e = search rules
mid_old_live es s low key at n (Some r) m e = let a : Stands s low key r = (m.all key r (sym e)).0 in ap is_some a.item

-- the entry of the key now names the new node, and the node that it named is gone
pub mid_end : (es es' : List (ℕ × Place)) (s s' : Nodes ℕ) (low key at n : ℕ) (old : Option Place) → Mid es s low key at n → old ≡ lookup (is_at (nat_cmp key)) es
    → ((k : ℕ) → lookup (is_at (nat_cmp k)) es' ≡ cond (is_at (nat_cmp key) k) (Some (record { node = n; at = at })) (lookup (is_at (nat_cmp k)) es))
    → length es' ≡ length es + cond (is_some old) 0 1 → MatchOption old (s' ≡ s) (λ p. s' ≡ unlinked p.node s) → IsStrictlySortedBy nat_cmp (keys_of es') → Kept es' s' low
mid_end es es' s s' low key at n None m e u c f sorted =
    subst (λ z. Kept es' z low) (sym f) (record {
      slots = m.slots;
      one = m.one;
      count = omega (arith, m.count, c);
      order = sorted;
      all = λ k p h. each k p (is_at (nat_cmp key) k) refl (sym (u k) ∙ h);
    })
  where
    each : (k : ℕ) (p : Place) (b : Bool) → is_at (nat_cmp key) k ≡ b → cond b (Some (record { node = n; at = at })) (lookup (is_at (nat_cmp k)) es) ≡ Some p → Stands s low k p
    each k p true h g = let i : record { node = n; at = at } ≡ p = cc in subst (λ q. Stands s low q p) (sym (key_same key k h)) (subst (Stands s low key) i m.new)
    each k p false h g = (m.all k p g).0
mid_end es es' s s' low key at n (Some r) m e u c f sorted =
    subst (λ z. Kept es' z low) (sym f) (record {
      slots = maps_long (without r.node) s.first ∙ m.slots;
      one = maps_long (without r.node) s.second ∙ m.one;
      count = omega (arith, m.count, c, live_left r.node s.items (ap is_some stood.0.item));
      order = sorted;
      all = λ k p h. each k p (is_at (nat_cmp key) k) refl (sym (u k) ∙ h);
    })
  where
    stood : Stands s low key r × (r.node ≢ n)
    stood = m.all key r (sym e)

    each : (k : ℕ) (p : Place) (b : Bool) → is_at (nat_cmp key) k ≡ b → cond b (Some (record { node = n; at = at })) (lookup (is_at (nat_cmp k)) es) ≡ Some p → Stands (unlinked r.node s) low k p
    each k p true h g = let i : record { node = n; at = at } ≡ p = cc in subst (λ q. Stands (unlinked r.node s) low q p) (sym (key_same key k h)) (subst (Stands (unlinked r.node s) low key) i (stands_left s low key r.node (record { node = n; at = at }) m.new (λ z. stood.1 (sym z))))
    each k p false h g = let a : Stands s low k p × (p.node ≢ n) = m.all k p g in stands_left s low k r.node p a.0 (apart s low k key p r a.0 stood.0 (key_apart key k h))

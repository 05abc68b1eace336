-- What is found of the timers that are due.
use Rattle.std.proofs.Common.{◌≡◌, ◌≢◌, ◌⊎◌, inl, inr, ℕ, ◌+◌, ◌-◌, ◌<◌, ◌≤◌, ◌%◌, Bool, true, false, cond, ◌||◌, List, [], ◌∷◌, refl, sym, ◌∙◌, ap, subst, map, arith, Option, Some, nat_eq, get_or}
use Rattle.std.specs.Ordering.{nat_cmp}
use Rattle.std.specs.List.{AllByRecursion, list_any}
use Rattle.std.specs.Map.{lookup}
use Rattle.std.specs.BTreeMap.{is_at}
use Rattle.std.proofs.Math.Nat.{add-mod-mod}
use Rattle.std.proofs.lemmas.Bool.{eqb-true, true≢false}
use Rattle.std.proofs.lemmas.Map.Lookups.{CmpEqualImpliesEq, exact_unsigned, exact_pairs}
use Rattle.index_list.specs.Nodes.{Nodes, item_at}
use Rattle.index_list.specs.Places.{has}
use Rattle.index_list.specs.Walks.{shown}
use Rattle.index_list.proofs.Frames.{equal_or_not}
use Rattle.timer_wheel.specs.declared.place.Place.{Place}
use Rattle.timer_wheel.specs.Dues.{due_cmp, IsDue}
use Rattle.timer_wheel.specs.Kept.{Kept, Stands, timed}
use Rattle.timer_wheel.specs.Finds.{IsFound, AllDue, AllKept, IsNoted, AllNoted}
use Rattle.timer_wheel.proofs.Keeps.{is_equal}

-- the order tells all pairs apart
pub due_exact : CmpEqualImpliesEq due_cmp
due_exact = exact_pairs nat_cmp nat_cmp exact_unsigned exact_unsigned

-- the time of a place that is found
pub time_of : (t : ℕ → Bool) (es : List (ℕ × Place)) (p : Place) → lookup t es ≡ Some p → lookup t (map timed es) ≡ Some p.at
time_of t [] p h = cc
time_of t (e ∷ es) p h = go (time_of t es p) (t e.0) h
  where
    go : (lookup t es ≡ Some p → lookup t (map timed es) ≡ Some p.at) → (b : Bool) → cond b (Some e.1) (lookup t es) ≡ Some p → cond b (Some e.1.at) (lookup t (map timed es)) ≡ Some p.at
    go more true k = let i : e.1 ≡ p = cc in ap (λ (q : Place). Some q.at) i
    go more false k = more k

-- the place of a time that is found
pub place_of : (t : ℕ → Bool) (es : List (ℕ × Place)) (a : ℕ) → lookup t (map timed es) ≡ Some a → (p : Place) × ((lookup t es ≡ Some p) × (p.at ≡ a))
place_of t [] a h = cc
place_of t (e ∷ es) a h = go (place_of t es a) (t e.0) h
  where
    go : (lookup t (map timed es) ≡ Some a → (p : Place) × ((lookup t es ≡ Some p) × (p.at ≡ a))) → (b : Bool) → cond b (Some e.1.at) (lookup t (map timed es)) ≡ Some a → (p : Place) × ((cond b (Some e.1) (lookup t es) ≡ Some p) × (p.at ≡ a))
    go more true k = let i : e.1.at ≡ a = cc in (e.1, (refl, i))
    go more false k = more k

pub kept_same : (l : List (ℕ × ℕ)) → AllKept l l
kept_same l = record { still = λ d h. h }

pub kept_on : (l m n : List (ℕ × ℕ)) → AllKept l m → AllKept m n → AllKept l n
kept_on l m n a b = record { still = λ d h. b.still d (a.still d h) }

-- one more pair was found, at a time that is due
pub found_more : (es : List (ℕ × Place)) (now key : ℕ) (p : Place) (old new : List (ℕ × ℕ)) → lookup (is_at (nat_cmp key)) es ≡ Some p → p.at ≤ now → AllDue (map timed es) now old
    → ((d : ℕ × ℕ) → list_any (is_at (due_cmp d)) new ≡ cond (is_at (due_cmp (p.at, key)) d) true (list_any (is_at (due_cmp d)) old))
    → AllDue (map timed es) now new
found_more es now key p old new here low due u = record { each = λ d h. go d (is_at (due_cmp (p.at, key)) d) refl (sym (u d) ∙ h) }
  where
    equal : (o : ℕ × ℕ) → is_at (due_cmp (p.at, key)) o ≡ true → (p.at, key) ≡ o
    equal o h = due_exact (p.at, key) o (is_equal (due_cmp (p.at, key) o) h)

    go : (d : ℕ × ℕ) (b : Bool) → is_at (due_cmp (p.at, key)) d ≡ b → cond b true (list_any (is_at (due_cmp d)) old) ≡ true → IsDue (map timed es) now d
    go d true e k = subst (IsDue (map timed es) now) (equal d e) (time_of (is_at (nat_cmp key)) es p here, low)
    go d false e k = due.each d k

-- what is found stays found where one more is
pub found_still : (x : ℕ × ℕ) (old new : List (ℕ × ℕ)) → ((d : ℕ × ℕ) → list_any (is_at (due_cmp d)) new ≡ cond (is_at (due_cmp x) d) true (list_any (is_at (due_cmp d)) old)) → AllKept old new
found_still x old new u = record { still = λ d h. u d ∙ go (is_at (due_cmp x) d) (list_any (is_at (due_cmp d)) old) h }
  where
    go : (b c : Bool) → c ≡ true → cond b true c ≡ true
    go true c h = refl
    go false c h = h

-- a node of which the timer is found, if it is due
abbrev pub IsShown : List (ℕ × Place) → ℕ → List (ℕ × ℕ) → ℕ × Option ℕ → Type 0
IsShown es now found x = (key : ℕ) → x.1 ≡ Some key → IsNoted es now found key

-- what is still to be noted of a slot, after which all of it is
pub record Noting (es : List (ℕ × Place)) (now : ℕ) (first found : List (ℕ × ℕ)) (all left : List (ℕ × Option ℕ)) : Type 0 where
  pub sound : AllDue (map timed es) now found
  pub keeps : AllKept first found
  pub rest : (more : List (ℕ × ℕ)) → AllKept found more → AllByRecursion (IsShown es now more) left → AllByRecursion (IsShown es now more) all

pub noted_still : (es : List (ℕ × Place)) (now key : ℕ) (found more : List (ℕ × ℕ)) → AllKept found more → IsNoted es now found key → IsNoted es now more key
noted_still es now key found more k n = record { noted = λ p h l. k.still (p.at, key) (n.noted p h l) }

pub noting_step : (es : List (ℕ × Place)) (now node key : ℕ) (first found next : List (ℕ × ℕ)) (all left rest : List (ℕ × Option ℕ)) → Noting es now first found all left → left ≡ (node, Some key) ∷ rest → AllDue (map timed es) now next → AllKept found next → IsNoted es now next key → Noting es now first next all rest
noting_step es now node key first found next all left rest n e s k h = record {
  sound = s;
  keeps = kept_on first found next n.keeps k;
  rest = λ more m r. n.rest more (kept_on found next more k m) (subst (AllByRecursion (IsShown es now more)) (sym e) ((λ j q. here more m j (cc)), r));
}
  where
    here : (more : List (ℕ × ℕ)) → AllKept next more → (j : ℕ) → key ≡ j → IsNoted es now more j
    here more m j q = subst (IsNoted es now more) q (noted_still es now key next more m h)

-- all nodes of a list were noted
pub noted_all : (es : List (ℕ × Place)) (now : ℕ) (found : List (ℕ × ℕ)) (items : List (Option ℕ)) (l : List ℕ) → AllByRecursion (IsShown es now found) (shown items l) → (node key : ℕ) → has node l ≡ true → item_at items node ≡ Some key → IsNoted es now found key
noted_all es now found items [] a node key h e = absurd (true≢false (sym h))
noted_all es now found items (n ∷ l) a node key h e = go (noted_all es now found items l a.1 node key) (nat_eq n node) refl h
  where
    go : (has node l ≡ true → item_at items node ≡ Some key → IsNoted es now found key) → (b : Bool) → nat_eq n node ≡ b → (b || has node l) ≡ true → IsNoted es now found key
    go more true f k = a.0 key (ap (item_at items) (eqb-true n node f) ∙ e)
    go more false f k = more k e

-- the slot of a time is reached from the lowest one
pub slot_of : (low at : ℕ) → low ≤ at → (low + (at - low) % 65536) % 65536 ≡ at % 65536
slot_of low at h = add-mod-mod low (at - low) 65536 ∙ ap (λ n. n % 65536) (omega (arith, h))

-- one more slot was searched
pub noted_more : (es : List (ℕ × Place)) (s : Nodes ℕ) (now low turn : ℕ) (old new : List (ℕ × ℕ)) → Kept es s low → AllNoted es now low turn old → AllKept old new
    → ((node key : ℕ) → has node (get_or s.first ((low + turn) % 65536) []) ≡ true → item_at s.items node ≡ Some key → IsNoted es now new key) → AllNoted es now low (turn + 1) new
noted_more es s now low turn old new w n k f = record { noted = λ key t p h l b e. go key t p h l b e (equal_or_not t turn) }
  where
    go : (key t : ℕ) (p : Place) → lookup (is_at (nat_cmp key)) es ≡ Some p → p.at ≤ now → t < turn + 1 → (low + t) % 65536 ≡ p.at % 65536 → (t ≡ turn) ⊎ (t ≢ turn) → IsFound new (p.at, key)
    go key t p h l b e (inl q) =
        let stands : Stands s low key p = w.all key p h in
        let slot : p.at % 65536 ≡ (low + turn) % 65536 = sym e ∙ ap (λ m. (low + m) % 65536) q in
        (f p.node key (ap (λ m. has p.node (get_or s.first m [])) (sym slot) ∙ stands.there) stands.item).noted p h l
    go key t p h l b e (inr d) = k.still (p.at, key) (n.noted key t p h l (omega (arith, b, d)) e)

-- all that is due stands in a slot that was searched
pub noted_due : (es : List (ℕ × Place)) (s : Nodes ℕ) (now low turns : ℕ) (found : List (ℕ × ℕ)) → Kept es s low → AllNoted es now low turns found → ((at : ℕ) → low ≤ at → at ≤ now → (at - low) % 65536 < turns) → (d : ℕ × ℕ) → IsDue (map timed es) now d → IsFound found d
noted_due es s now low turns found w n reach d h =
    let p : (p : Place) × ((lookup (is_at (nat_cmp d.1)) es ≡ Some p) × (p.at ≡ d.0)) = place_of (is_at (nat_cmp d.1)) es d.0 h.0 in
    let late : low ≤ p.0.at = (w.all d.1 p.0 p.1.0).late in
    let due : p.0.at ≤ now = omega (arith, p.1.1, h.1) in
    subst (λ a. IsFound found (a, d.1)) p.1.1 (n.noted d.1 ((p.0.at - low) % 65536) p.0 p.1.0 due (reach p.0.at late due) (slot_of low p.0.at late))

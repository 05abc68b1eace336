-- Requests in line: who waits when one more does, and when the first has gone.
use Rattle.std.proofs.Common.{◌≡◌, ◌≢◌, ℕ, zero, suc, ◌+◌, ◌<◌, ◌≤◌, ◌⊎◌, inl, inr, Bool, true, false, List, [], ◌∷◌, refl, sym, ◌∙◌, ap, subst, length, get_or, slice_set, arith, add-one, Contains, nat_eq}
use Rattle.std.specs.Ordering.{nat_cmp, match_ordering, ordering_then, is_gt}
use Rattle.std.specs.declared.cmp.Ordering.{Ordering}
use Rattle.std.specs.declared.cmp.Ordering.TheVariants.{Less, Equal, Greater}
use Rattle.std.specs.List.{All, AllByRecursion as Each}
use Rattle.std.specs.Option.{unwrap_or}
use Rattle.std.specs.Result.{OnOk, OnErr, is_ok}
use Rattle.std.specs.declared.result.Result.{Result}
use Rattle.std.specs.declared.result.Result.TheVariants.{Ok, Err}
use Rattle.std.specs.BTreeSet.{insert_key}
use Rattle.std.proofs.lemmas.Bool.{eqb-true, eqb-false, true≢false}
use Rattle.std.proofs.lemmas.Cmp.{ranked}
use Rattle.std.proofs.lemmas.List.{get_or_default, get_or-set_same, get_or-set_other}
use Rattle.std.proofs.lemmas.List.Elements.{All-weaker, recursion_from_All}
use Rattle.std.proofs.lemmas.Option.{slice_get_past, unwrap_or-slice_get}
use Rattle.read_watch.specs.Lines.{Waiter, Line, IsFrom, WaitsIn, line_of}

abbrev pub entry_cmp : Waiter → Waiter → Ordering
entry_cmp x y = ordering_then (ordering_then (nat_cmp x.0 y.0) (nat_cmp x.1 y.1)) (nat_cmp x.2 y.2)

then_equal : (a b : Ordering) → ordering_then a b ≡ Equal → (a ≡ Equal) × (b ≡ Equal)
then_equal Less b h = absurd cc
then_equal Equal b h = (refl, h)
then_equal Greater b h = absurd cc

equal_is : (a b : ℕ) → nat_cmp a b ≡ Equal → a ≡ b
equal_is a b h = ranked a b Equal (sym h)

-- the order tells all entries apart
exact : (x y : Waiter) → entry_cmp x y ≡ Equal → x ≡ y
exact x y h =
    let p = then_equal (ordering_then (nat_cmp x.0 y.0) (nat_cmp x.1 y.1)) (nat_cmp x.2 y.2) h in
    let q = then_equal (nat_cmp x.0 y.0) (nat_cmp x.1 y.1) p.0 in
    λ i. (equal_is x.0 y.0 q.0 i, equal_is x.1 y.1 q.1 i, equal_is x.2 y.2 p.1 i)

-- what does not go before an entry waits for its place or a later one
not_before : (x y : Waiter) → is_gt (entry_cmp x y) ≡ false → IsFrom (x.0, x.1) y
not_before x y h = go (nat_cmp x.0 y.0) refl (nat_cmp x.1 y.1) refl h
  where
    go : (a : Ordering) → nat_cmp x.0 y.0 ≡ a → (b : Ordering) → nat_cmp x.1 y.1 ≡ b → is_gt (ordering_then (ordering_then a b) (nat_cmp x.2 y.2)) ≡ false → IsFrom (x.0, x.1) y
    go Less e b f h = inl (ranked x.0 y.0 Less (sym e))
    go Equal e Less f h = inr (equal_is x.0 y.0 e, omega (arith, ranked x.1 y.1 Less (sym f)))
    go Equal e Equal f h = inr (equal_is x.0 y.0 e, omega (arith, equal_is x.1 y.1 f))
    go Equal e Greater f h = absurd (true≢false h)
    go Greater e b f h = absurd (true≢false h)

pub firsts : (x : Waiter) (xs : Line) → All (λ y. is_gt (entry_cmp x y) ≡ false) xs → Each (IsFrom (x.0, x.1)) xs
firsts x xs h = recursion_from_All (IsFrom (x.0, x.1)) xs (All-weaker (λ y. is_gt (entry_cmp x y) ≡ false) (IsFrom (x.0, x.1)) (not_before x) xs h)

pub at_head : (x e : Waiter) (xs : Line) → x ≡ e → Contains (x ∷ xs) e
at_head x e xs q = (zero, omega arith, q)

pub behind : (x e : Waiter) (xs : Line) → Contains xs e → Contains (x ∷ xs) e
behind x e xs h = (suc h.0, omega (arith, h.1), h.2)

pub either : (x e : Waiter) (xs : Line) → Contains (x ∷ xs) e → (x ≡ e) ⊎ Contains xs e
either x e xs (zero, low, q) = inl q
either x e xs (suc k, low, q) = inr (k, omega (arith, low), q)

pub nobody_there : (e : Waiter) → Contains [] e → ⊥
nobody_there e h = omega (arith, h.1)

-- one more waits
pub there_new : (k : Waiter) (xs : Line) → Contains (insert_key entry_cmp xs k) k
there_new k [] = at_head k k [] refl
there_new k (x ∷ xs) = go (there_new k xs) (entry_cmp k x) refl
  where
    go : Contains (insert_key entry_cmp xs k) k → (o : Ordering) → entry_cmp k x ≡ o → Contains (match_ordering o (k ∷ x ∷ xs) (x ∷ xs) (x ∷ insert_key entry_cmp xs k)) k
    go more Less h = at_head k k (x ∷ xs) refl
    go more Equal h = at_head x k xs (sym (exact k x h))
    go more Greater h = behind x k (insert_key entry_cmp xs k) more

pub kept_new : (k e : Waiter) (xs : Line) → Contains xs e → Contains (insert_key entry_cmp xs k) e
kept_new k e [] h = absurd (nobody_there e h)
kept_new k e (x ∷ xs) h = go (kept_new k e xs) (entry_cmp k x)
  where
    past : (Contains xs e → Contains (insert_key entry_cmp xs k) e) → (x ≡ e) ⊎ Contains xs e → Contains (x ∷ insert_key entry_cmp xs k) e
    past more (inl q) = at_head x e (insert_key entry_cmp xs k) q
    past more (inr r) = behind x e (insert_key entry_cmp xs k) (more r)

    go : (Contains xs e → Contains (insert_key entry_cmp xs k) e) → (o : Ordering) → Contains (match_ordering o (k ∷ x ∷ xs) (x ∷ xs) (x ∷ insert_key entry_cmp xs k)) e
    go more Less = behind k e (x ∷ xs) h
    go more Equal = h
    go more Greater = past more (either x e xs h)

pub only_new : (k e : Waiter) (xs : Line) → Contains (insert_key entry_cmp xs k) e → Contains xs e ⊎ (e ≡ k)
only_new k e [] h = last (either k e [] h)
  where
    last : (k ≡ e) ⊎ Contains [] e → Contains [] e ⊎ (e ≡ k)
    last (inl q) = inr (sym q)
    last (inr r) = inl r
only_new k e (x ∷ xs) h = go (only_new k e xs) (entry_cmp k x) h
  where
    new : (k ≡ e) ⊎ Contains (x ∷ xs) e → Contains (x ∷ xs) e ⊎ (e ≡ k)
    new (inl q) = inr (sym q)
    new (inr r) = inl r

    rest : Contains xs e ⊎ (e ≡ k) → Contains (x ∷ xs) e ⊎ (e ≡ k)
    rest (inl r) = inl (behind x e xs r)
    rest (inr q) = inr q

    past : (Contains (insert_key entry_cmp xs k) e → Contains xs e ⊎ (e ≡ k)) → (x ≡ e) ⊎ Contains (insert_key entry_cmp xs k) e → Contains (x ∷ xs) e ⊎ (e ≡ k)
    past more (inl q) = inl (at_head x e xs q)
    past more (inr r) = rest (more r)

    go : (Contains (insert_key entry_cmp xs k) e → Contains xs e ⊎ (e ≡ k)) → (o : Ordering) → Contains (match_ordering o (k ∷ x ∷ xs) (x ∷ xs) (x ∷ insert_key entry_cmp xs k)) e → Contains (x ∷ xs) e ⊎ (e ≡ k)
    go more Less h = new (either k e (x ∷ xs) h)
    go more Equal h = inl h
    go more Greater h = past more (either x e (insert_key entry_cmp xs k) h)

-- what is tried is done, or nothing is
pub tried : {E : Type 0} (r : Result Bool E) (k : Waiter) (old new : Line) → OnOk r (new ≡ insert_key entry_cmp old k) → OnErr r (new ≡ old) → (new ≡ insert_key entry_cmp old k) ⊎ ((is_ok r ≡ false) × (new ≡ old))
tried (Ok b) k old new done same = inl done
tried (Err e) k old new done same = inr (refl, same)

pub tried_there : (b : Bool) (k : Waiter) (old new : Line) → (new ≡ insert_key entry_cmp old k) ⊎ ((b ≡ false) × (new ≡ old)) → b ≡ true → Contains new k
tried_there b k old new (inl e) h = subst (λ l. Contains l k) (sym e) (there_new k old)
tried_there b k old new (inr p) h = absurd (true≢false (sym h ∙ p.0))

pub tried_kept : (b : Bool) (k : Waiter) (old new : Line) → (new ≡ insert_key entry_cmp old k) ⊎ ((b ≡ false) × (new ≡ old)) → (e : Waiter) → Contains old e → Contains new e
tried_kept b k old new (inl q) e h = subst (λ l. Contains l e) (sym q) (kept_new k e old h)
tried_kept b k old new (inr p) e h = subst (λ l. Contains l e) (sym p.1) h

pub tried_only : (b : Bool) (k : Waiter) (old new : Line) → (new ≡ insert_key entry_cmp old k) ⊎ ((b ≡ false) × (new ≡ old)) → (e : Waiter) → Contains new e → Contains old e ⊎ (e ≡ k)
tried_only b k old new (inl q) e h = only_new k e old (subst (λ l. Contains l e) q h)
tried_only b k old new (inr p) e h = inl (subst (λ l. Contains l e) p.1 h)

-- a place behind the last one has no line
pub no_line : (ls : List Line) (at s : ℕ) → at + 1 ≡ s → length ls ≤ at → line_of ls s ≡ []
no_line ls at s h past = ap (line_of ls) (sym h ∙ add-one at) ∙ sym (unwrap_or-slice_get ls at []) ∙ ap (λ o. unwrap_or o []) (slice_get_past ls at past)

-- the line at a place, among those of all servers
module _ (ls xs : List Line) (at s : ℕ) (v w : Line) (e : xs ≡ ls) (h : at + 1 ≡ s) (within : at < length xs) (read : v ≡ get_or xs at v) where
  place : suc at ≡ s
  place = sym (add-one at) ∙ h

  pub was : line_of ls s ≡ v
  was = ap (λ l. line_of l s) (sym e) ∙ ap (line_of xs) (sym place) ∙ get_or_default xs at [] v within ∙ sym read

  pub is : line_of (slice_set xs at w) s ≡ w
  is = ap (line_of (slice_set xs at w)) (sym place) ∙ get_or-set_same xs at w [] within

  pub first_in : (x : Waiter) → v ≡ x ∷ w → line_of ls s ≡ x ∷ line_of (slice_set xs at w) s
  first_in x q = was ∙ q ∙ ap (λ l. x ∷ l) (sym is)

  pub others_are : (i : ℕ) → i ≢ s → line_of (slice_set xs at w) i ≡ line_of ls i
  others_are zero d = refl
  others_are (suc i) d = get_or-set_other xs at i w [] (λ q. d (ap suc q ∙ place)) ∙ ap (λ l. get_or l i []) e

  -- who waits, where each that waited at the place does so still
  pub kept_in : ((e : Waiter) → Contains v e → Contains w e) → (i n t k : ℕ) → WaitsIn i n t k ls → WaitsIn i n t k (slice_set xs at w)
  kept_in keeps i n t k waits = go (nat_eq i s) refl
    where
      go : (b : Bool) → nat_eq i s ≡ b → WaitsIn i n t k (slice_set xs at w)
      go true q =
          let there : i ≡ s = eqb-true i s q in
          subst (λ l. Contains l (t, k, n)) (sym (ap (line_of (slice_set xs at w)) there ∙ is)) (keeps (t, k, n) (subst (λ l. Contains l (t, k, n)) (ap (line_of ls) there ∙ was) waits))
      go false q = subst (λ l. Contains l (t, k, n)) (sym (others_are i (eqb-false i s q))) waits

  -- nobody else waits than one, at the place
  pub only_in : (x : Waiter) → ((e : Waiter) → Contains w e → Contains v e ⊎ (e ≡ x)) → (i n t k : ℕ) → WaitsIn i n t k (slice_set xs at w) → WaitsIn i n t k ls ⊎ ((i ≡ s) × (t ≡ x.0) × (k ≡ x.1) × (n ≡ x.2))
  only_in x only i n t k waits = go (nat_eq i s) refl
    where
      entry : Waiter
      entry = (t, k, n)

      here : i ≡ s → Contains v entry ⊎ (entry ≡ x) → WaitsIn i n t k ls ⊎ ((i ≡ s) × (t ≡ x.0) × (k ≡ x.1) × (n ≡ x.2))
      here there (inl r) = inl (subst (λ l. Contains l (t, k, n)) (sym (ap (line_of ls) there ∙ was)) r)
      here there (inr q) = inr (there, ap (λ (e : Waiter). e.0) q, ap (λ (e : Waiter). e.1) q, ap (λ (e : Waiter). e.2) q)

      go : (b : Bool) → nat_eq i s ≡ b → WaitsIn i n t k ls ⊎ ((i ≡ s) × (t ≡ x.0) × (k ≡ x.1) × (n ≡ x.2))
      go true q =
          let there : i ≡ s = eqb-true i s q in
          here there (only (t, k, n) (subst (λ l. Contains l (t, k, n)) (ap (line_of (slice_set xs at w)) there ∙ is) waits))
      go false q = inl (subst (λ l. Contains l (t, k, n)) (others_are i (eqb-false i s q)) waits)

-- the first of a server's line has gone
pub first_gone : (old new : List Line) (s request t k : ℕ) → line_of old s ≡ (t, k, request) ∷ line_of new s → ((i : ℕ) → i ≢ s → line_of new i ≡ line_of old i) → (i n t k : ℕ) → WaitsIn i n t k old → (n ≡ request) ⊎ WaitsIn i n t k new
first_gone old new s request t' k' first others i n t k waits = go (nat_eq i s) refl
  where
    gone : Waiter
    gone = (t', k', request)

    entry : Waiter
    entry = (t, k, n)

    here : i ≡ s → (gone ≡ entry) ⊎ Contains (line_of new s) entry → (n ≡ request) ⊎ WaitsIn i n t k new
    here there (inl q) = inl (sym (ap (λ (e : Waiter). e.2) q))
    here there (inr r) = inr (subst (λ j. WaitsIn j n t k new) (sym there) r)

    go : (b : Bool) → nat_eq i s ≡ b → (n ≡ request) ⊎ WaitsIn i n t k new
    go true q =
        let there : i ≡ s = eqb-true i s q in
        here there (either (t', k', request) (t, k, n) (line_of new s) (subst (λ l. Contains l (t, k, n)) (ap (line_of old) there ∙ first) waits))
    go false q = inr (subst (λ l. Contains l (t, k, n)) (sym (others i (eqb-false i s q))) waits)

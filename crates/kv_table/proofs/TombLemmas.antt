-- The last of the tombstones under a test, where each key has one.
use Rattle.std.proofs.Common.{◌≡◌, ℕ, Bool, true, false, cond, List, [], ◌∷◌, refl, sym, ◌∙◌, ap, ◌++◌, filter, Option, Some, None, max, arith}
use Rattle.std.specs.List.{AllByRecursion}
use Rattle.std.specs.declared.cmp.Ordering.{Ordering}
use Rattle.std.specs.declared.cmp.Ordering.TheVariants.{Less, Equal, Greater}
use Rattle.std.specs.Ordering.{is_eq, ordering_reverse}
use Rattle.std.proofs.lemmas.Bool.{false≢true}
use Rattle.std.proofs.lemmas.Cmp.{tied_itself, nat_list_cmp_total}
use Rattle.std.proofs.lemmas.Map.Lookups.{exact_bytes}
use Rattle.cat_model.specs.Keys.{text_cmp, same_text}
use Rattle.cat_model.specs.KvIndexes.{last_tomb}
use Rattle.cat_model.specs.Tables.{row_at, put, Ascends}
use Rattle.cat_model.proofs.SameLemmas.{text_decides}
use Rattle.row_table.proofs.Sides.{Stand, put_acts, put_one, put_none}

abbrev pub tomb_key : List ℕ × ℕ → List ℕ
tomb_key t = t.0

-- a higher floor counts as one more tombstone does
pub last_tomb-max : (test : List ℕ → Bool) (a b : ℕ) (tombs : List (List ℕ × ℕ)) → last_tomb test (max a b) tombs ≡ max b (last_tomb test a tombs)
last_tomb-max test a b [] = omega arith
last_tomb-max test a b (t ∷ tombs) = go (test t.0) (last_tomb-max test a b tombs)
  where
    go : (p : Bool) → last_tomb test (max a b) tombs ≡ max b (last_tomb test a tombs) → cond p (max t.1 (last_tomb test (max a b) tombs)) (last_tomb test (max a b) tombs) ≡ max b (cond p (max t.1 (last_tomb test a tombs)) (last_tomb test a tombs))
    go true e = omega (arith, e)
    go false e = e

pub tomb_step : (test : List ℕ → Bool) (last : ℕ) (t : List ℕ × ℕ) (tombs : List (List ℕ × ℕ)) → test t.0 ≡ true → last_tomb test last (t ∷ tombs) ≡ last_tomb test (max last t.1) tombs
tomb_step test last t tombs e = ap (λ b. cond b (max t.1 (last_tomb test last tombs)) (last_tomb test last tombs)) e ∙ sym (last_tomb-max test last t.1 tombs)

-- the tombstones that fail the test do not count
pub tomb_filter : (test : List ℕ → Bool) (floor : ℕ) (tombs : List (List ℕ × ℕ)) → last_tomb test floor (filter (λ t. test t.0) tombs) ≡ last_tomb test floor tombs
tomb_filter test floor [] = refl
tomb_filter test floor (t ∷ tombs) = go (test t.0) refl (tomb_filter test floor tombs)
  where
    passed : List (List ℕ × ℕ)
    passed = filter (λ u. test u.0) tombs

    go : (b : Bool) → test t.0 ≡ b → last_tomb test floor passed ≡ last_tomb test floor tombs → last_tomb test floor (cond (test t.0) (t ∷ passed) passed) ≡ cond (test t.0) (max t.1 (last_tomb test floor tombs)) (last_tomb test floor tombs)
    go true e rest =
        ap (λ c. last_tomb test floor (cond c (t ∷ passed) passed)) e ∙ ap (λ c. cond c (max t.1 (last_tomb test floor passed)) (last_tomb test floor passed)) e
        ∙ ap (max t.1) rest ∙ sym (ap (λ c. cond c (max t.1 (last_tomb test floor tombs)) (last_tomb test floor tombs)) e)
    go false e rest =
        ap (λ c. last_tomb test floor (cond c (t ∷ passed) passed)) e ∙ rest ∙ sym (ap (λ c. cond c (max t.1 (last_tomb test floor tombs)) (last_tomb test floor tombs)) e)

-- two tombstones count the same in either order
swapped : (test : List ℕ → Bool) (floor : ℕ) (t u : List ℕ × ℕ) (tombs : List (List ℕ × ℕ)) → last_tomb test floor (t ∷ u ∷ tombs) ≡ last_tomb test floor (u ∷ t ∷ tombs)
swapped test floor t u tombs = go (test t.0) (test u.0)
  where
    rest : ℕ
    rest = last_tomb test floor tombs

    go : (p q : Bool) → cond p (max t.1 (cond q (max u.1 rest) rest)) (cond q (max u.1 rest) rest) ≡ cond q (max u.1 (cond p (max t.1 rest) rest)) (cond p (max t.1 rest) rest)
    go true true = omega arith
    go true false = refl
    go false true = refl
    go false false = refl

-- the tombstone that was found counts, or else the floor alone
abbrev pub found_or : Option (List ℕ × ℕ) → ℕ → ℕ
found_or None floor = floor
found_or (Some t) floor = max t.1 floor

module _ (k : List ℕ) where
  -- the test of the key
  abbrev pub mine : List ℕ → Bool
  mine j = same_text j k

  other : (j : List ℕ) (o : Ordering) → text_cmp j k ≡ o → is_eq o ≡ false → mine j ≡ false
  other j o e h = go (mine j) refl
    where
      go : (b : Bool) → mine j ≡ b → mine j ≡ false
      go true m = absurd (false≢true (sym h ∙ ap is_eq (sym e ∙ ap (λ i. text_cmp i k) ((text_decides j k).0 m) ∙ tied_itself nat_list_cmp_total k)))
      go false m = m

  -- no tombstone is one of the key
  last_none : (o : Ordering) → is_eq o ≡ false → (floor : ℕ) (tombs : List (List ℕ × ℕ)) → Stand text_cmp tomb_key o k tombs → last_tomb mine floor tombs ≡ floor
  last_none o h floor [] all = refl
  last_none o h floor (t ∷ tombs) all = ap (λ b. cond b (max t.1 (last_tomb mine floor tombs)) (last_tomb mine floor tombs)) (other t.0 o all.0 h) ∙ last_none o h floor tombs all.1

  above : (t : List ℕ × ℕ) (o : Ordering) → text_cmp k t.0 ≡ o → is_eq o ≡ true → (tombs : List (List ℕ × ℕ)) → AllByRecursion (λ u. text_cmp t.0 u.0 ≡ Less) tombs → Stand text_cmp tomb_key Greater k tombs
  above t o e h [] all = tt
  above t Less e h (u ∷ tombs) all = absurd (false≢true h)
  above t Greater e h (u ∷ tombs) all = absurd (false≢true h)
  above t Equal e h (u ∷ tombs) all = (nat_list_cmp_total.antisymm u.0 k ∙ ap ordering_reverse (nat_list_cmp_total.congr k t.0 u.0 e ∙ all.0), above t Equal e h tombs all.1)

  pub last_found : (floor : ℕ) (tombs : List (List ℕ × ℕ)) → Ascends text_cmp tomb_key tombs → last_tomb mine floor tombs ≡ found_or (row_at text_cmp tomb_key k tombs) floor
  last_found floor [] asc = refl
  last_found floor (t ∷ tombs) asc = go (text_cmp k t.0) refl (last_found floor tombs asc.1)
    where
      passed : (o : Ordering) → text_cmp k t.0 ≡ o → is_eq o ≡ false → is_eq (ordering_reverse o) ≡ false → last_tomb mine floor tombs ≡ found_or (row_at text_cmp tomb_key k tombs) floor → last_tomb mine floor (t ∷ tombs) ≡ found_or (row_at text_cmp tomb_key k (t ∷ tombs)) floor
      passed o e h f rest =
          ap (λ b. cond b (max t.1 (last_tomb mine floor tombs)) (last_tomb mine floor tombs)) (other t.0 (ordering_reverse o) (nat_list_cmp_total.antisymm t.0 k ∙ ap ordering_reverse e) f)
          ∙ rest ∙ ap (λ b. found_or (cond b (Some t) (row_at text_cmp tomb_key k tombs)) floor) (sym (ap is_eq e ∙ h))

      go : (o : Ordering) → text_cmp k t.0 ≡ o → last_tomb mine floor tombs ≡ found_or (row_at text_cmp tomb_key k tombs) floor → last_tomb mine floor (t ∷ tombs) ≡ found_or (row_at text_cmp tomb_key k (t ∷ tombs)) floor
      go Less e rest = passed Less e refl refl rest
      go Greater e rest = passed Greater e refl refl rest
      go Equal e rest =
          ap (λ b. cond b (max t.1 (last_tomb mine floor tombs)) (last_tomb mine floor tombs)) ((text_decides t.0 k).1 (sym (exact_bytes k t.0 e)))
          ∙ ap (max t.1) (last_none Greater refl floor tombs (above t Equal e refl tombs asc.0)) ∙ ap (λ b. found_or (cond b (Some t) (row_at text_cmp tomb_key k tombs)) floor) (sym (ap is_eq e))

  -- a tombstone that takes the place of the one of its key counts as both do
  pub last_put : (test : List ℕ → Bool) (floor position : ℕ) (tombs : List (List ℕ × ℕ)) → Ascends text_cmp tomb_key tombs → last_tomb test floor (put text_cmp tomb_key (k, last_tomb mine position tombs) tombs) ≡ last_tomb test floor ((k, position) ∷ tombs)
  last_put test floor position [] asc = ap (last_tomb test floor) (put_none text_cmp tomb_key (k, position))
  last_put test floor position (t ∷ tombs) asc = go (text_cmp t.0 k) refl (last_put test floor position tombs asc.1)
    where
      new : ℕ → List ℕ × ℕ
      new last = (k, last)

      here : (b : Bool) → mine t.0 ≡ b → last_tomb mine position (t ∷ tombs) ≡ cond b (max t.1 (last_tomb mine position tombs)) (last_tomb mine position tombs)
      here b m = ap (λ c. cond c (max t.1 (last_tomb mine position tombs)) (last_tomb mine position tombs)) m

      both : (b : Bool) → cond b (max (max t.1 position) (last_tomb test floor tombs)) (last_tomb test floor tombs) ≡ cond b (max position (cond b (max t.1 (last_tomb test floor tombs)) (last_tomb test floor tombs))) (cond b (max t.1 (last_tomb test floor tombs)) (last_tomb test floor tombs))
      both true = omega arith
      both false = refl

      go : (o : Ordering) → text_cmp t.0 k ≡ o → last_tomb test floor (put text_cmp tomb_key (new (last_tomb mine position tombs)) tombs) ≡ last_tomb test floor (new position ∷ tombs) → last_tomb test floor (put text_cmp tomb_key (new (last_tomb mine position (t ∷ tombs))) (t ∷ tombs)) ≡ last_tomb test floor (new position ∷ t ∷ tombs)
      go Less e rest =
          ap (λ n. last_tomb test floor (put text_cmp tomb_key (new n) (t ∷ tombs))) (here false (other t.0 Less e refl))
          ∙ ap (last_tomb test floor) ((put_acts text_cmp tomb_key (new (last_tomb mine position tombs))).behind (t ∷ []) tombs (e, tt))
          ∙ ap (λ n. cond (test t.0) (max t.1 n) n) rest ∙ swapped test floor t (new position) tombs
      go Equal e rest =
          let high = above t Equal (nat_list_cmp_total.antisymm k t.0 ∙ ap ordering_reverse e) refl tombs asc.0 in
          let same : t.0 ≡ k = exact_bytes t.0 k e in
          let last : last_tomb mine position (t ∷ tombs) ≡ max t.1 position = here true ((text_decides t.0 k).1 same) ∙ ap (max t.1) (last_none Greater refl position tombs high) in
          ap (λ n. last_tomb test floor (put text_cmp tomb_key (new n) (t ∷ tombs))) last
          ∙ ap (last_tomb test floor) ((put_acts text_cmp tomb_key (new (max t.1 position))).before (t ∷ []) tombs high ∙ ap (λ l. l ++ tombs) (put_one text_cmp tomb_key (new (max t.1 position)) t e))
          ∙ both (test k) ∙ ap (λ j. cond (test k) (max position (cond (test j) (max t.1 (last_tomb test floor tombs)) (last_tomb test floor tombs))) (cond (test j) (max t.1 (last_tomb test floor tombs)) (last_tomb test floor tombs))) (sym same)
      go Greater e rest =
          let high : Stand text_cmp tomb_key Greater k (t ∷ tombs) = (e, beyond tombs asc.0) in
          ap (λ n. last_tomb test floor (put text_cmp tomb_key (new n) (t ∷ tombs))) (last_none Greater refl position (t ∷ tombs) high)
          ∙ ap (last_tomb test floor) ((put_acts text_cmp tomb_key (new position)).before [] (t ∷ tombs) high ∙ ap (λ l. l ++ t ∷ tombs) (put_none text_cmp tomb_key (new position)))
        where
          beyond : (rows : List (List ℕ × ℕ)) → AllByRecursion (λ u. text_cmp t.0 u.0 ≡ Less) rows → Stand text_cmp tomb_key Greater k rows
          beyond [] all = tt
          beyond (u ∷ rows) all = (nat_list_cmp_total.antisymm u.0 k ∙ ap ordering_reverse (nat_list_cmp_total.trans k t.0 u.0 (nat_list_cmp_total.antisymm k t.0 ∙ ap ordering_reverse e) all.0), beyond rows all.1)

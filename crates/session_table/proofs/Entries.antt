-- What the index of places holds after sessions were filed or taken out.
use Rattle.std.proofs.Common.{◌≡◌, ℕ, zero, suc, ◌+◌, Bool, true, false, not, ◌&&◌, ◌||◌, cond, List, [], ◌∷◌, ◌++◌, refl, sym, ◌∙◌, ap, subst, Option, Some, None, is_some, take}
use Rattle.std.specs.List.{list_any}
use Rattle.std.specs.Ordering.{is_eq, nat_cmp}
use Rattle.std.proofs.lemmas.Bool.{true≢false}
use Rattle.std.proofs.lemmas.Cmp.{nat_cmp_total}
use Rattle.std.proofs.lemmas.List.Folds.{list_any-append}
use Rattle.std.proofs.lemmas.Map.Lookups.{exact_pairs, exact_unsigned}
use Rattle.cat_model.specs.Catalog.{session_at, session_key}
use Rattle.cat_model.specs.Keys.{is_empty, pair_cmp, same_text, text_cmp}
use Rattle.cat_model.specs.Tables.{put, row_at, without}
use Rattle.cat_model.specs.declared.row.SessionRow.{SessionRow}
use Rattle.cat_model.proofs.Lookups.{row_at-put}
use Rattle.cat_model.proofs.Pairs.{both_total, exact_pair, pair_cmp_total}
use Rattle.row_table.specs.Filing.{filed_cmp, filed_key}
use Rattle.row_table.proofs.Filed.{equal_is, row_at-without, then_equal}
use Rattle.row_table.proofs.Places.{text_place}
use Rattle.session_table.specs.Nodes.{has_check, is_on}
use Rattle.session_table.specs.Places.{Place, Entries, has_entry, is_at, is_one_of, stands_at, FilesPlaces, Adds, Spares, Takes}

-- 1. One entry more, or one less.
pub same_place : (p q : Place) → is_eq (pair_cmp p q) ≡ is_at q p
same_place p q = then_equal (text_cmp p.0 q.0) (text_cmp p.1 q.1) ∙ (λ j. sym (text_place q.0 p.0) j && sym (text_place q.1 p.1) j)

same_entry : (p q : Place) (k id : ℕ) → is_eq (filed_cmp pair_cmp nat_cmp (p, k) (q, id)) ≡ (is_at q p && is_eq (nat_cmp k id))
same_entry p q k id = then_equal (pair_cmp p q) (nat_cmp k id) ∙ ap (λ b. b && is_eq (nat_cmp k id)) (same_place p q)

pub some_or : {A : Type 0} (b : Bool) (x : A) (o : Option A) → is_some (cond b (Some x) o) ≡ (b || is_some o)
some_or true x o = refl
some_or false x o = refl

some_unless : {A : Type 0} (b : Bool) (o : Option A) → is_some (cond b None o) ≡ (not b && is_some o)
some_unless true o = refl
some_unless false o = refl

module _ (q : Place) (id : ℕ) (old new : Entries) where
  pub one_added : new ≡ put (filed_cmp pair_cmp nat_cmp) filed_key (q, id) old → Adds (is_at q) id old new
  one_added made p k =
      ap (has_entry p k) made
      ∙ ap is_some (row_at-put (filed_cmp pair_cmp nat_cmp) filed_key (both_total pair_cmp nat_cmp pair_cmp_total nat_cmp_total) (exact_pairs pair_cmp nat_cmp exact_pair exact_unsigned) (p, k) (q, id) old)
      ∙ some_or (is_eq (filed_cmp pair_cmp nat_cmp (p, k) (q, id))) (q, id) (row_at (filed_cmp pair_cmp nat_cmp) filed_key (p, k) old) ∙ ap (λ b. b || has_entry p k old) (same_entry p q k id)

  pub one_taken : new ≡ without (λ h. is_eq (filed_cmp pair_cmp nat_cmp (q, id) (filed_key h))) old → Takes (is_at q) id old new
  one_taken made p k =
      ap (has_entry p k) made
      ∙ ap is_some (row_at-without (filed_cmp pair_cmp nat_cmp) filed_key (both_total pair_cmp nat_cmp pair_cmp_total nat_cmp_total) (exact_pairs pair_cmp nat_cmp exact_pair exact_unsigned) (p, k) (q, id) old)
      ∙ some_unless (is_eq (filed_cmp pair_cmp nat_cmp (p, k) (q, id))) (row_at (filed_cmp pair_cmp nat_cmp) filed_key (p, k) old) ∙ ap (λ b. not b && has_entry p k old) (same_entry p q k id)

module _ (here : Place → Bool) (id : ℕ) (old new : Entries) where
  pub adds_spares : Adds here id old new → Spares here id old new
  adds_spares adds p k other = adds p k ∙ ap (λ b. b || has_entry p k old) other

-- 2. One change after another.
both_add : (a b x h : Bool) → ((b && x) || ((a && x) || h)) ≡ (((a || b) && x) || h)
both_add true true true h = refl
both_add true true false h = refl
both_add true false true h = refl
both_add true false false h = refl
both_add false true true h = refl
both_add false true false h = refl
both_add false false x h = refl

both_take : (a b x h : Bool) → (not (b && x) && (not (a && x) && h)) ≡ (not ((a || b) && x) && h)
both_take true true true h = refl
both_take true true false h = refl
both_take true false true h = refl
both_take true false false h = refl
both_take false true true h = refl
both_take false true false h = refl
both_take false false x h = refl

neither : (a b x : Bool) → ((a || b) && x) ≡ false → ((a && x) ≡ false) × ((b && x) ≡ false)
neither true true x h = (h, h)
neither true false x h = (h, refl)
neither false b x h = (refl, h)

module _ (a b : Place → Bool) (id : ℕ) (old between new : Entries) where
  pub adds_both : Adds a id old between → Adds b id between new → Adds (λ p. a p || b p) id old new
  adds_both first second p k = second p k ∙ ap (λ h. (b p && is_eq (nat_cmp k id)) || h) (first p k) ∙ both_add (a p) (b p) (is_eq (nat_cmp k id)) (has_entry p k old)

  pub takes_both : Takes a id old between → Takes b id between new → Takes (λ p. a p || b p) id old new
  takes_both first second p k = second p k ∙ ap (λ h. not (b p && is_eq (nat_cmp k id)) && h) (first p k) ∙ both_take (a p) (b p) (is_eq (nat_cmp k id)) (has_entry p k old)

  pub spares_both : Spares a id old between → Spares b id between new → Spares (λ p. a p || b p) id old new
  spares_both first second p k other = let parts = neither (a p) (b p) (is_eq (nat_cmp k id)) other in second p k parts.1 ∙ first p k parts.0

-- 3. The places of a session: one check more, and all of them.
one_more : (node : List ℕ) (checks : List (List ℕ)) (check : List ℕ) (p : Place) → (is_one_of node checks p || is_at (node, check) p) ≡ is_one_of node (checks ++ check ∷ []) p
one_more node checks check p =
    go (same_text node p.0) (has_check p.1 checks) (same_text check p.1) ∙ ap (λ b. same_text node p.0 && b) (sym (list_any-append (λ c. same_text c p.1) checks (check ∷ [])))
  where
    go : (n h c : Bool) → ((n && h) || (n && c)) ≡ (n && (h || (c || false)))
    go true true c = refl
    go true false true = refl
    go true false false = refl
    go false h c = refl

-- the places at the first checks and at the next one
pub next_more : (node : List ℕ) (i : ℕ) (checks : List (List ℕ)) (check : List ℕ) → take (i + 1) checks ≡ take i checks ++ check ∷ [] → (p : Place) → (is_one_of node (take i checks) p || is_at (node, check) p) ≡ is_one_of node (take (i + 1) checks) p
next_more node i checks check front p = one_more node (take i checks) check p ∙ ap (λ l. is_one_of node l p) (sym front)

none_first : (t : List ℕ → Bool) (i : ℕ) (checks : List (List ℕ)) → list_any t checks ≡ false → list_any t (take i checks) ≡ false
none_first t zero checks none = refl
none_first t (suc i) [] none = refl
none_first t (suc i) (c ∷ checks) none = go (t c) none (none_first t i checks)
  where
    go : (b : Bool) → (b || list_any t checks) ≡ false → (list_any t checks ≡ false → list_any t (take i checks) ≡ false) → (b || list_any t (take i checks)) ≡ false
    go true h rest = absurd (true≢false h)
    go false h rest = rest h

-- what spares all but some of the checks spares all but them all
pub spares_more : (node : List ℕ) (i : ℕ) (checks : List (List ℕ)) (id : ℕ) (old new : Entries) → Spares (is_one_of node (take i checks)) id old new → Spares (is_one_of node checks) id old new
spares_more node i checks id old new spares p k other = spares p k (go (same_text node p.0) (has_check p.1 checks) refl (is_eq (nat_cmp k id)) other)
  where
    go : (n h : Bool) → has_check p.1 checks ≡ h → (x : Bool) → ((n && h) && x) ≡ false → ((n && has_check p.1 (take i checks)) && x) ≡ false
    go true true e true f = absurd (true≢false f)
    go true true e false f = last (has_check p.1 (take i checks))
      where
        last : (b : Bool) → (b && false) ≡ false
        last true = refl
        last false = refl
    go true false e x f = ap (λ b. b && x) (none_first (λ c. same_text c p.1) i checks e)
    go false h e x f = refl

pub all_places : (s : SessionRow) (p : Place) → (is_at (s.node, []) p || is_one_of s.node s.checks p) ≡ is_on p.0 p.1 s
all_places s p = ap (λ b. (same_text s.node p.0 && b) || is_one_of s.node s.checks p) (empty p.1) ∙ go (same_text s.node p.0) (is_empty p.1) (has_check p.1 s.checks)
  where
    empty : (t : List ℕ) → same_text [] t ≡ is_empty t
    empty [] = refl
    empty (x ∷ t) = refl

    go : (n e h : Bool) → ((n && e) || (n && h)) ≡ (n && (e || h))
    go true e h = refl
    go false e h = refl

module _ (a b : Place → Bool) (same : (p : Place) → a p ≡ b p) (id : ℕ) (old new : Entries) where
  pub adds_same : Adds a id old new → Adds b id old new
  adds_same h = subst (λ (t : Place → Bool). Adds t id old new) (λ i p. same p i) h

  pub takes_same : Takes a id old new → Takes b id old new
  takes_same h = subst (λ (t : Place → Bool). Takes t id old new) (λ i p. same p i) h

  pub spares_same : Spares a id old new → Spares b id old new
  spares_same h = subst (λ (t : Place → Bool). Spares t id old new) (λ i p. same p i) h

-- 4. The index of the rows after a session was added, could not be, or went.
module _ (rows new : List SessionRow) (files : Entries) (fits : FilesPlaces rows files) where
  module _ (row : SessionRow) (fresh : session_at row.id rows ≡ None) where
    no_row : (k : ℕ) → is_eq (nat_cmp k row.id) ≡ true → session_at k rows ≡ None
    no_row k e = ap (λ j. session_at j rows) (exact_unsigned k row.id (equal_is (nat_cmp k row.id) e)) ∙ fresh

    pub added : (after : Entries) → new ≡ put nat_cmp session_key row rows → Adds (λ p. is_on p.0 p.1 row) row.id files after → FilesPlaces new after
    added after made adds p k =
        adds p k ∙ ap (λ h. (is_on p.0 p.1 row && is_eq (nat_cmp k row.id)) || h) (fits p k) ∙ go (is_eq (nat_cmp k row.id)) refl
        ∙ sym (ap (stands_at p) (ap (session_at k) made ∙ row_at-put nat_cmp session_key nat_cmp_total exact_unsigned k row rows))
      where
        itself : (b : Bool) → ((b && true) || false) ≡ b
        itself true = refl
        itself false = refl

        nothing : (b s : Bool) → ((b && false) || s) ≡ s
        nothing true s = refl
        nothing false s = refl

        go : (b : Bool) → is_eq (nat_cmp k row.id) ≡ b → ((is_on p.0 p.1 row && b) || stands_at p (session_at k rows)) ≡ stands_at p (cond b (Some row) (session_at k rows))
        go true e = ap (λ o. (is_on p.0 p.1 row && true) || stands_at p o) (no_row k e) ∙ itself (is_on p.0 p.1 row)
        go false e = nothing (is_on p.0 p.1 row) (stands_at p (session_at k rows))

  pub gone : (id : ℕ) (after : Entries) → new ≡ without (λ r. is_eq (nat_cmp id (session_key r))) rows → Takes (λ p. stands_at p (session_at id rows)) id files after → FilesPlaces new after
  gone id after made takes p k =
      takes p k ∙ ap (λ h. not (stands_at p (session_at id rows) && is_eq (nat_cmp k id)) && h) (fits p k) ∙ go (is_eq (nat_cmp k id)) refl
      ∙ sym (ap (stands_at p) (ap (session_at k) made ∙ row_at-without nat_cmp session_key nat_cmp_total exact_unsigned k id rows))
    where
      never : (b : Bool) → (not (b && true) && b) ≡ false
      never true = refl
      never false = refl

      always : (b s : Bool) → (not (b && false) && s) ≡ s
      always true s = refl
      always false s = refl

      go : (b : Bool) → is_eq (nat_cmp k id) ≡ b → (not (stands_at p (session_at id rows) && b) && stands_at p (session_at k rows)) ≡ stands_at p (cond b None (session_at k rows))
      go true e = ap (λ j. not (stands_at p (session_at id rows) && true) && stands_at p (session_at j rows)) (exact_unsigned k id (equal_is (nat_cmp k id) e)) ∙ never (stands_at p (session_at id rows))
      go false e = always (stands_at p (session_at id rows)) (stands_at p (session_at k rows))

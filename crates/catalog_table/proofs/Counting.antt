-- The checks of a registration that count, from the last one on.
use Rattle.std.proofs.Common.{◌≡◌, ◌∙◌, ◌++◌, ◌||◌, ℕ, Bool, List, [], ◌∷◌, true, false, refl, sym, ap, cond, map, length, reverse, append_assoc, append-nil}
use Rattle.std.specs.List.{list_any}
use Rattle.std.proofs.lemmas.List.{nil_from_length, reverse-append}
use Rattle.cat_model.specs.Keys.{same_text, text_cmp}
use Rattle.cat_model.specs.Machine.{last_of_each}
use Rattle.cat_model.specs.Tables.{put}
use Rattle.cat_model.specs.declared.command.NewCheck.{NewCheck}
use Rattle.cat_model.proofs.SameLemmas.{text_decides}
use Rattle.catalog_table.specs.Names.{is_among, text_of}
use Rattle.catalog_table.specs.declared.once.Name.{Name}
use Rattle.catalog_table.proofs.Naming.{among_put}

-- those behind the ones that are left are done: their IDs are noted, and those that count are found, the last one first
pub record CountedFrom (checks left : List NewCheck) (ids : List Name) (found : List NewCheck) : Type 0 where
  pub done : List NewCheck
  pub whole : left ++ done ≡ checks
  pub counted : reverse found ≡ last_of_each done
  pub noted : (id : List ℕ) → is_among (map text_of ids) id ≡ list_any (λ d. same_text id d.id) done

pub none_counted : (checks : List NewCheck) (ids : List Name) (found : List NewCheck) → ids ≡ [] → found ≡ [] → CountedFrom checks checks ids found
none_counted checks ids found no_ids none = record { done = []; whole = append-nil checks; counted = ap reverse none; noted = λ id. ap (λ l. is_among (map text_of l) id) no_ids }

pub all_counted : (checks left : List NewCheck) (ids : List Name) (found : List NewCheck) → length left ≡ 0 → CountedFrom checks left ids found → reverse found ≡ last_of_each checks
all_counted checks left ids found none c = c.counted ∙ ap last_of_each (ap (λ l. l ++ c.done) (sym (nil_from_length left none)) ∙ c.whole)

or_turned : (a b : Bool) → (a || b) ≡ (b || a)
or_turned true true = refl
or_turned true false = refl
or_turned false true = refl
or_turned false false = refl

module _ (checks left before : List NewCheck) (check : NewCheck) (last : left ≡ before ++ check ∷ []) (ids : List Name) (found : List NewCheck) (c : CountedFrom checks left ids found) where
  one_more : before ++ check ∷ c.done ≡ checks
  one_more = sym (append_assoc before (check ∷ []) c.done) ∙ ap (λ l. l ++ c.done) (sym last) ∙ c.whole

  -- whether a later one replaces the check
  chosen : (b : Bool) → is_among (map text_of ids) check.id ≡ b → last_of_each (check ∷ c.done) ≡ cond b (last_of_each c.done) (check ∷ last_of_each c.done)
  chosen b e = ap (λ x. cond x (last_of_each c.done) (check ∷ last_of_each c.done)) (sym (c.noted check.id) ∙ e)

  pub replaced : is_among (map text_of ids) check.id ≡ true → CountedFrom checks before ids found
  replaced there = record { done = check ∷ c.done; whole = one_more; counted = c.counted ∙ sym (chosen true there); noted = λ id. go id (same_text id check.id) refl }
    where
      go : (id : List ℕ) (b : Bool) → same_text id check.id ≡ b → is_among (map text_of ids) id ≡ (b || list_any (λ d. same_text id d.id) c.done)
      go id true e = ap (is_among (map text_of ids)) ((text_decides id check.id).0 e) ∙ there
      go id false e = c.noted id

  pub counts : (new : List Name) (more : List NewCheck) → is_among (map text_of ids) check.id ≡ false → new ≡ put text_cmp text_of (record { text = check.id }) ids → more ≡ found ++ check ∷ [] → CountedFrom checks before new more
  counts new more fresh made pushed =
      record {
        done = check ∷ c.done;
        whole = one_more;
        counted = ap reverse pushed ∙ reverse-append found (check ∷ []) ∙ ap (λ l. check ∷ l) c.counted ∙ sym (chosen false fresh);
        noted = λ id. ap (λ l. is_among (map text_of l) id) made ∙ among_put (record { text = check.id }) ids id ∙ ap (λ b. b || same_text id check.id) (c.noted id) ∙ or_turned (list_any (λ d. same_text id d.id) c.done) (same_text id check.id);
      }

-- The last position among rows under a test, one row at a time.
use Rattle.std.proofs.Common.{◌≡◌, ℕ, Bool, true, false, cond, List, [], ◌∷◌, refl, sym, ◌∙◌, ap, filter, max, arith}
use Rattle.cat_model.specs.KvIndexes.{last_modify}
use Rattle.cat_model.specs.declared.row.KvRow.{KvRow}

module _ (test : List ℕ → Bool) where
  -- a greater least counts as one more row does
  last_modify-max : (a b : ℕ) (rows : List KvRow) → last_modify test (max a b) rows ≡ max b (last_modify test a rows)
  last_modify-max a b [] = omega arith
  last_modify-max a b (r ∷ rows) = go (test r.key) (last_modify-max a b rows)
    where
      go : (t : Bool) → last_modify test (max a b) rows ≡ max b (last_modify test a rows) → cond t (max r.modify (last_modify test (max a b) rows)) (last_modify test (max a b) rows) ≡ max b (cond t (max r.modify (last_modify test a rows)) (last_modify test a rows))
      go true e = omega (arith, e)
      go false e = e

  pub modify_step : (last : ℕ) (r : KvRow) (rows : List KvRow) → test r.key ≡ true → last_modify test last (r ∷ rows) ≡ last_modify test (max last r.modify) rows
  modify_step last r rows e = ap (λ b. cond b (max r.modify (last_modify test last rows)) (last_modify test last rows)) e ∙ sym (last_modify-max last r.modify rows)

  -- the rows that fail the test do not count
  pub modify_filter : (least : ℕ) (rows : List KvRow) → last_modify test least (filter (λ r. test r.key) rows) ≡ last_modify test least rows
  modify_filter least [] = refl
  modify_filter least (r ∷ rows) = go (test r.key) refl (modify_filter least rows)
    where
      passed : List KvRow
      passed = filter (λ q. test q.key) rows

      go : (b : Bool) → test r.key ≡ b → last_modify test least passed ≡ last_modify test least rows → last_modify test least (cond (test r.key) (r ∷ passed) passed) ≡ cond (test r.key) (max r.modify (last_modify test least rows)) (last_modify test least rows)
      go true e rest =
          ap (λ c. last_modify test least (cond c (r ∷ passed) passed)) e ∙ ap (λ c. cond c (max r.modify (last_modify test least passed)) (last_modify test least passed)) e
          ∙ ap (max r.modify) rest ∙ sym (ap (λ c. cond c (max r.modify (last_modify test least rows)) (last_modify test least rows)) e)
      go false e rest =
          ap (λ c. last_modify test least (cond c (r ∷ passed) passed)) e ∙ rest ∙ sym (ap (λ c. cond c (max r.modify (last_modify test least rows)) (last_modify test least rows)) e)

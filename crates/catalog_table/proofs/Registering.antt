-- When a Register is refused, and what it is else.
use Rattle.std.proofs.Common.{◌≡◌, ℕ, Bool, true, false, not, cond, List, [], ◌∷◌, refl, sym, ◌∙◌, ap, Option, Some, None, is_some, ◌||◌}
use Rattle.std.specs.List.{list_any}
use Rattle.std.specs.Bool.{Decides}
use Rattle.std.specs.Ordering.{is_eq}
use Rattle.std.proofs.lemmas.Bool.Decides.{same_from_decides}
use Rattle.std.proofs.lemmas.Cmp.{tied_itself}
use Rattle.cat_model.specs.Keys.{pair_cmp, same_text, is_empty}
use Rattle.cat_model.specs.Tables.{put}
use Rattle.cat_model.specs.Same.{alike_services}
use Rattle.cat_model.specs.Catalog.{service_at, service_key}
use Rattle.cat_model.specs.Machine.{register, unless, refusal_of, put_service, put_given, last_of_each, has_service}
use Rattle.cat_model.specs.declared.row.ServiceRow.{ServiceRow}
use Rattle.cat_model.specs.declared.command.NewService.{NewService}
use Rattle.cat_model.specs.declared.command.NewCheck.{NewCheck}
use Rattle.cat_model.specs.declared.applied.Refuse.TheVariants as refusals
use Rattle.cat_model.specs.declared.applied.Applied.TheVariants.{Yes, Refused}
use Rattle.cat_model.proofs.TableLemmas.{eq_is}
use Rattle.cat_model.proofs.Lookups.{row_at-put}
use Rattle.cat_model.proofs.SameLemmas.{text_decides}
use Rattle.cat_model.proofs.Pairs.{pair_cmp_total, exact_pair}
use Rattle.catalog_table.specs.Rows.{Rows, catalog_of}
use Rattle.catalog_table.specs.Steps.{put_rows, lacks_service, gives, is_served}
use Rattle.catalog_table.specs.Puts.{made_service}

module _ (i : ℕ) (node : List ℕ) where
  id_decides : (id other : List ℕ) → Decides (is_eq (pair_cmp (node, id) (node, other))) (other ≡ id)
  id_decides id other =
      (λ e. sym (ap (λ p. p.1) (exact_pair (node, id) (node, other) (eq_is pair_cmp service_key pair_cmp_total _ e))), λ e. ap is_eq (ap (λ x. pair_cmp (node, id) (node, x)) e ∙ tied_itself pair_cmp_total (node, id)))

  module _ (s : NewService) (rows : List ServiceRow) (id : List ℕ) where
    fresh : ℕ → ServiceRow
    fresh create = record (made_service i node s) { create = create }

    either : (b : Bool) (r : ServiceRow) (o : Option ServiceRow) → is_some (cond b (Some r) o) ≡ (b || is_some o)
    either true r o = refl
    either false r o = refl

    found_put : (create : ℕ) → is_some (service_at (node, id) (put pair_cmp service_key (fresh create) rows)) ≡ (same_text s.id id || is_some (service_at (node, id) rows))
    unfolding fresh
    found_put create =
        ap is_some (row_at-put pair_cmp service_key pair_cmp_total exact_pair (node, id) (fresh create) rows)
        ∙ either (is_eq (pair_cmp (node, id) (node, s.id))) (fresh create) (service_at (node, id) rows)
        ∙ ap (λ b. b || is_some (service_at (node, id) rows)) (same_from_decides _ _ (id_decides id s.id) (text_decides s.id id))

    -- a service that is there already
    found_same : (old : ServiceRow) → service_at (node, s.id) rows ≡ Some old → (b : Bool) → same_text s.id id ≡ b → is_some (service_at (node, id) rows) ≡ (b || is_some (service_at (node, id) rows))
    found_same old there true e = ap (λ x. is_some (service_at (node, x) rows)) (sym ((text_decides s.id id).0 e)) ∙ ap is_some there
    found_same old there false e = refl

    found : is_some (service_at (node, id) (put_service i node s rows)) ≡ (same_text s.id id || is_some (service_at (node, id) rows))
    unfolding fresh
    found = go (service_at (node, s.id) rows) refl
      where
        chosen : (old : ServiceRow) → service_at (node, s.id) rows ≡ Some old → (b : Bool) → is_some (service_at (node, id) (cond b rows (put pair_cmp service_key (fresh old.create) rows))) ≡ (same_text s.id id || is_some (service_at (node, id) rows))
        chosen old there true = found_same old there (same_text s.id id) refl
        chosen old there false = found_put old.create

        go : (o : Option ServiceRow) → service_at (node, s.id) rows ≡ o → is_some (service_at (node, id) (elim o as (λ _. List ServiceRow) [ None ↦ put pair_cmp service_key (fresh i) rows | Some old ↦ cond (alike_services old (fresh i)) rows (put pair_cmp service_key (fresh old.create) rows) ])) ≡ (same_text s.id id || is_some (service_at (node, id) rows))
        go None there = found_put i
        go (Some old) there = chosen old there (alike_services old (fresh i))

  found_given : (service : Option NewService) (rows : List ServiceRow) (id : List ℕ) → is_some (service_at (node, id) (put_given i node service rows)) ≡ (gives service id || is_some (service_at (node, id) rows))
  found_given None rows id = refl
  found_given (Some s) rows id = found s rows id

  served : (service : Option NewService) (rows : List ServiceRow) (c : NewCheck) → is_served node service rows c ≡ has_service node (put_given i node service rows) c
  served service rows c = assoc (is_empty c.service) (gives service c.service) (is_some (service_at (node, c.service) rows)) ∙ ap (λ b. is_empty c.service || b) (sym (found_given service rows c.service))
    where
      assoc : (a b c : Bool) → ((a || b) || c) ≡ (a || (b || c))
      assoc true b c = refl
      assoc false b c = refl

  lacking : (service : Option NewService) (checks : List NewCheck) (r : Rows) → list_any (λ c. not (is_served node service r.services c)) checks ≡ lacks_service i node service checks r
  lacking service checks r = λ j. list_any (λ c. not (served service r.services c j)) checks

  -- where no check lacks its service, the rows are put
  pub goes : (address : List ℕ) (service : Option NewService) (checks : List NewCheck) (r : Rows) → list_any (λ c. not (is_served node service r.services c)) (last_of_each checks) ≡ false
      → register i node address service checks (catalog_of r) ≡ (catalog_of (put_rows i node address service (last_of_each checks) r), Yes)
  unfolding register unless
  goes address service checks r e =
      ap (λ b. unless (refusal_of ((b, refusals.MissingService) ∷ [])) (catalog_of r) (catalog_of (put_rows i node address service (last_of_each checks) r), Yes)) (sym (lacking service (last_of_each checks) r) ∙ e)

  pub stops : (address : List ℕ) (service : Option NewService) (checks : List NewCheck) (r : Rows) → list_any (λ c. not (is_served node service r.services c)) (last_of_each checks) ≡ true
      → register i node address service checks (catalog_of r) ≡ (catalog_of r, Refused refusals.MissingService)
  unfolding register unless
  stops address service checks r e =
      ap (λ b. unless (refusal_of ((b, refusals.MissingService) ∷ [])) (catalog_of r) (catalog_of (put_rows i node address service (last_of_each checks) r), Yes)) (sym (lacking service (last_of_each checks) r) ∙ e)

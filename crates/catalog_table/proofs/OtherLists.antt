-- A Register or a Deregister reads and changes no other list of the catalog.
use Rattle.std.proofs.Common.{◌≡◌, ℕ, Bool, true, false, not, cond, List, [], ◌∷◌, refl, Option}
use Rattle.cat_model.specs.Keys.{is_empty}
use Rattle.cat_model.specs.Catalog.{Catalog}
use Rattle.cat_model.specs.Machine.{Step, act, register, deregister, deregister_service, deregister_check, deregister_node, unless, refusal_of, last_of_each}
use Rattle.cat_model.specs.declared.command.NewService.{NewService}
use Rattle.cat_model.specs.declared.command.NewCheck.{NewCheck}
use Rattle.cat_model.specs.declared.command.Command.{Command}
use Rattle.cat_model.specs.declared.command.Command.TheVariants.{Register, Deregister}
use Rattle.cat_model.specs.declared.applied.Refuse.TheVariants as refusals
use Rattle.cat_model.specs.declared.applied.Applied.TheVariants.{Yes}
use Rattle.catalog_table.specs.Rows.{Rows, rows_of, catalog_of}
use Rattle.catalog_table.specs.Steps.{IsRegistration, StepsOnRows, with_rows, put_rows, lacks_service}

-- the step on k, where the one on its rows is the other
abbrev Alike : Catalog → Step → Step → Type 0
Alike k step small = step ≡ (with_rows k (rows_of small.0), small.1)

registers : (i : ℕ) (node address : List ℕ) (service : Option NewService) (checks : List NewCheck) (k : Catalog) → Alike k (register i node address service checks k) (register i node address service checks (catalog_of (rows_of k)))
unfolding register unless
registers i node address service checks k = go (lacks_service i node service (last_of_each checks) (rows_of k))
  where
    after : Rows
    after = put_rows i node address service (last_of_each checks) (rows_of k)

    go : (b : Bool) → Alike k (unless (refusal_of ((b, refusals.MissingService) ∷ [])) k (with_rows k after, Yes)) (unless (refusal_of ((b, refusals.MissingService) ∷ [])) (catalog_of (rows_of k)) (catalog_of after, Yes))
    go true = refl
    go false = refl

deregisters : (node service check : List ℕ) (k : Catalog) → deregister node service check k ≡ with_rows k (rows_of (deregister node service check (catalog_of (rows_of k))))
unfolding deregister
deregisters node service check k = go (not (is_empty service)) (not (is_empty check))
  where
    chosen : (b d : Bool) → Catalog → Catalog
    chosen b d j = cond b (deregister_service node service j) (cond d (deregister_check node check j) (deregister_node node j))

    go : (b d : Bool) → chosen b d k ≡ with_rows k (rows_of (chosen b d (catalog_of (rows_of k))))
    go true d = refl
    go false true = refl
    go false false = refl

pub other_lists : (i : ℕ) (command : Command) (k : Catalog) → IsRegistration command → StepsOnRows i command k
unfolding act
other_lists i (Register node address service checks) k h = registers i node address service checks k
other_lists i (Deregister node service check) k h = λ j. (deregisters node service check k j, Yes)
other_lists i other k h = absurd h

use Rattle.std.proofs.Common.{◌≡◌, ◌∙◌, refl, sym, ap, subst, not, true, false}
use Rattle.std.specs.List.{list_any}
use Rattle.cat_model.specs.Machine.{last_of_each}
use Rattle.cat_model.specs.declared.applied.Applied.TheVariants.{Yes}
use Rattle.catalog_table.specs.Rows.{catalog_of}
use Rattle.catalog_table.specs.Steps.{is_served, put_rows}
use Rattle.catalog_table.specs.Puts.{HaveIdsOnce}
use Rattle.catalog_table.proofs.Registering.{goes, stops}
use Rattle.catalog_table.proofs.Touching.{once_each}
use Rattle.catalog_table.proofs.table.CatalogTable.try_register.Goals as goal

pub returns-then-lacks-clause-fault : goal.returns-then-lacks-clause-fault
returns-then-lacks-clause-fault c =
    let test = λ (x : _). not (is_served c.args.node.now c.args.service.now c.self.inside.services.now x) in
    let lacks : list_any test (last_of_each c.args.checks.now) ≡ true = ap (list_any test) (sym (c.as_slice.ensures ∙ c.in_ok-checks.ensures)) ∙ sym c.lacks.ensures ∙ c.if-lacks.true in
    rw (← c.self.view_is) (stops c.args.position c.args.node.now c.args.address.now c.args.service.now c.args.checks.now _ lacks, refl)

pub returns-clause-ok : goal.returns-clause-ok
returns-clause-ok c =
    let test = λ (x : _). not (is_served c.args.node.now c.args.service.now c.self.inside.services.now x) in
    let lacks : list_any test (last_of_each c.args.checks.now) ≡ false = ap (list_any test) (sym (c.as_slice.ensures ∙ c.in_ok-checks.ensures)) ∙ sym c.lacks.ensures ∙ c.if-lacks.false in
    let put = c.in_ok-changed.ensures.ok ∙ ap (λ l. put_rows c.args.position c.args.node.now c.args.address.now c.args.service.now l c.args.self.now.now) (c.as_slice-2.ensures ∙ c.in_ok-checks.ensures) in
    (rw (← c.self.view_is) (goes c.args.position c.args.node.now c.args.address.now c.args.service.now c.args.checks.now _ lacks)) ∙ ap (λ r. (catalog_of r, Yes)) (sym put)

pub put_and_tell-requires : goal.put_and_tell-requires
put_and_tell-requires c = subst HaveIdsOnce (sym (c.as_slice-2.ensures ∙ c.in_ok-checks.ensures)) (once_each c.args.checks.now)

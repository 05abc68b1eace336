use Rattle.std.proofs.Common.{◌≡◌, not, ◌&&◌, ◌++◌, ◌∙◌, ap, filter}
use Rattle.std.specs.List.{list_any}
use Rattle.std.proofs.lemmas.Result.{IfOk-weaker}
use Rattle.cat_model.specs.Keys.{same_text}
use Rattle.catalog_table.specs.Touching.{names_on, service_names}
use Rattle.catalog_table.proofs.Leaving.{gone_alone}
use Rattle.catalog_table.proofs.table.CatalogTable.names_alone.Goals as goal

pub returns : goal.returns
returns c =
    let node = c.args.node.now in let r = c.args.self.now.now in
    let services : c.self.inside.services.now ≡ r.services = ap (λ v. v.now.services) c.self.view_is in
    let all : c.add_names_on.new.names ≡ names_on node r = c.in_ok-add_names_on.ensures ∙ (λ i. c.new-names.ensures i ++ service_names (filter (λ s. same_text s.node node) (services i))) in
    IfOk-weaker c.names_apart.result _ _
    (λ l e.
    gone_alone node r c.add_names_on.new.names c.in_ok-names.names l all c.in_ok-names.ensures.among c.in_ok-names.ensures.once
    (e ∙ ap (filter (λ n. not (list_any (λ s. same_text s.name n && not (same_text s.node node)) r.services))) c.as_slice.ensures))
    c.names_apart.ensures

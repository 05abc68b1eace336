use Rattle.std.proofs.Common.{◌≡◌, ◌∙◌, sym, ap}
use Rattle.cat_model.specs.declared.fired.Local.{Local}
use Rattle.cat_model.specs.declared.fired.Remote.{Remote}
use Rattle.cat_model.specs.Syncs.{checks_in_order, services_in_order}
use Rattle.node_rows.specs.Tags.{all_tagged}
use Rattle.anti_entropy.specs.Parts.{all_plan}
use Rattle.anti_entropy.proofs.RowPlans.{all_plan_is, planned_tags}
use Rattle.anti_entropy.proofs.plan.plan_rows.Goals as goal

pub returns-clause-tags : goal.returns-clause-tags
returns-clause-tags c =
    let own = c.as_slice-5.ensures.value ∙ ap (λ (l : Local). l.services) c.own.view_is in
    let there = c.as_slice-6.ensures.value ∙ c.in_ok-others.ensures.services ∙ ap services_in_order (c.as_slice-3.ensures.value ∙ ap (λ (r : Remote). r.services) c.there.view_is) in
    ap (all_tagged c.in_ok-tags.tags.items) (sym own)
    ∙ planned_tags c.args.own.now c.args.there.now (all_tagged c.in_ok-tags.tags.items c.as_slice-5.result.now) c.as_slice-5.result.now c.as_slice-6.result.now own there c.in_ok-tags.ensures

pub returns-clause-commands : goal.returns-clause-commands
returns-clause-commands c =
    let services = c.in_ok-mine.ensures.services ∙ ap services_in_order (c.as_slice.ensures.value ∙ ap (λ (l : Local). l.services) c.own.view_is) in
    let checks = c.in_ok-mine.ensures.checks ∙ ap checks_in_order (c.as_slice-2.ensures.value ∙ ap (λ (l : Local). l.checks) c.own.view_is) in
    let services_there = c.in_ok-others.ensures.services ∙ ap services_in_order (c.as_slice-3.ensures.value ∙ ap (λ (r : Remote). r.services) c.there.view_is) in
    let checks_there = c.in_ok-others.ensures.checks ∙ ap checks_in_order (c.as_slice-4.ensures.value ∙ ap (λ (r : Remote). r.checks) c.there.view_is) in
    c.in_ok-commands.ensures ∙ (λ i. all_plan (c.own.view_is i).node (c.there.view_is i).node (services i) (checks i) (services_there i) (checks_there i))
    ∙ all_plan_is c.args.own.now c.args.there.now

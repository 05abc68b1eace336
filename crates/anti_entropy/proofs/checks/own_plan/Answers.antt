use Rattle.std.proofs.Common.{◌≡◌, ◌∙◌, ◌||◌, [], ◌∷◌, true, false, cond, sym, ap}
use Rattle.std.specs.List.{list_any}
use Rattle.std.specs.Option.{option_copied}
use Rattle.cat_model.specs.Catalog.{check_at}
use Rattle.cat_model.specs.Syncs.{lacks_check, lacks_node, listed, registers_checks, serf_id}
use Rattle.anti_entropy.proofs.RowPlans.{own_plan_is}
use Rattle.anti_entropy.proofs.checks.own_plan.Goals as goal
use Rattle.anti_entropy.proofs.checks.own_plan.Goals.{then-lacks_node-via-then-lacks_node, then-lacks_node-via-else-lacks_node+then-lacks_own}

pub returns-then-lacks_node : goal.returns-then-lacks_node
returns-then-lacks_node c =
    let n = c.args.node.now in
    let there = option_copied c.args.node_there in
    let serf = option_copied c.found-check.result in
    let rest = list_any (lacks_check c.args.there.now.checks.items) (listed serf) in
    let some : (lacks_node there n || rest) ≡ true = elim c.then-lacks_node.branch [
      | then-lacks_node-via-then-lacks_node w ↦ ap (λ b. b || rest) (sym c.lacks_node.ensures ∙ w.if-lacks_node.true)
      | then-lacks_node-via-else-lacks_node+then-lacks_own w ↦
          ap (λ b. b || rest) (sym c.lacks_node.ensures ∙ w.if-lacks_node.false)
          ∙ ap (λ l. list_any (lacks_check l) (listed serf)) (sym w.as_slice-else-lacks_node.ensures.value) ∙ sym w.lacks_own.ensures ∙ w.if-lacks_own.true
    ] in
    c.in_ok-commands.ensures ∙ ap (λ x. x ∷ []) c.in_ok-command.ensures ∙ ap (λ b. cond b (registers_checks n (listed serf) ∷ []) []) (sym some)
    ∙ own_plan_is n there c.args.own.now.checks.items c.args.there.now.checks.items serf (c.found-check.ensures ∙ ap (λ k. check_at (k, serf_id) c.as_slice.result.now) c.as_str.ensures ∙ ap (check_at (n.node, serf_id)) c.as_slice.ensures.value)

pub returns : goal.returns
returns c =
    let n = c.args.node.now in
    let there = option_copied c.args.node_there in
    let serf = option_copied c.found-check.result in
    let rest = list_any (lacks_check c.args.there.now.checks.items) (listed serf) in
    let none : (lacks_node there n || rest) ≡ false =
    ap (λ b. b || rest) (sym c.lacks_node.ensures ∙ c.if-lacks_node.false)
    ∙ ap (λ l. list_any (lacks_check l) (listed serf)) (sym c.as_slice-else-lacks_node.ensures.value) ∙ sym c.lacks_own.ensures ∙ c.if-lacks_own.false in
    c.new.ensures ∙ ap (λ b. cond b (registers_checks n (listed serf) ∷ []) []) (sym none)
    ∙ own_plan_is n there c.args.own.now.checks.items c.args.there.now.checks.items serf (c.found-check.ensures ∙ ap (λ k. check_at (k, serf_id) c.as_slice.result.now) c.as_str.ensures ∙ ap (check_at (n.node, serf_id)) c.as_slice.ensures.value)

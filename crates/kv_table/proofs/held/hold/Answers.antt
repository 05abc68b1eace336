use Rattle.std.proofs.Common.{◌∙◌, sym, ap, Some}
use Rattle.std.specs.Ordering.{nat_cmp}
use Rattle.cat_model.specs.Keys.{text_cmp}
use Rattle.cat_model.proofs.Clones.{text_same}
use Rattle.row_table.specs.Filing.{filed}
use Rattle.kv_table.proofs.held.hold.Goals as goal

pub returns-in_default-set-clause-ok : goal.returns-in_default-set-clause-ok
returns-in_default-set-clause-ok c =
    let key = c.args.key.now in let held = c.args.held.now.now in
    c.in_default-set.ensures.ok ∙ ap (λ k. filed nat_cmp text_cmp (Some c.in-Some.session) k held) (text_same key c.in_ok-key.key c.in_ok-key.ensures.cases) ∙ ap (λ o. filed nat_cmp text_cmp o key held) (sym c.in-Some.is)

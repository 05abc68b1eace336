use Rattle.std.proofs.Common.{◌∙◌, ap}
use Rattle.std.specs.Ordering.{nat_cmp}
use Rattle.cat_model.specs.Keys.{text_cmp}
use Rattle.row_table.specs.Filing.{filed, unfiled}
use Rattle.kv_table.proofs.Holding.{back, moved}
use Rattle.kv_table.proofs.holders.hand_over.Goals as goal

pub returns-in-Err-set-clause-files : goal.returns-in-Err-set-clause-files
returns-in-Err-set-clause-files c =
    let key = c.args.row.key in let session = c.args.row.session in let held = c.args.held.now.now in
    back c.args.rows.now.now c.set.new.self.now held c.let_go.new.held.now key c.args.old session c.requires.files c.requires.old c.requires.new c.in-Err-set.ensures.same
    (c.let_go.ensures.now ∙ ap (λ k. unfiled nat_cmp text_cmp session k c.hold.new.held.now) (c.as_str.ensures ∙ c.in-Ok.ensures)
    ∙ ap (unfiled nat_cmp text_cmp session key) (c.in_default.ensures.ok ∙ ap (λ k. filed nat_cmp text_cmp session k held) c.in-Ok.ensures))

pub returns-clause-files : goal.returns-clause-files
returns-clause-files c =
    let key = c.args.row.key in let session = c.args.row.session in let old = c.args.old in let held = c.args.held.now.now in
    moved c.args.rows.now.now c.set.new.self.now held c.let_go-2.new.held.now c.args.row old c.requires.files c.requires.old c.requires.new c.in_default-set.ensures.ok
    (c.let_go-2.ensures.now ∙ ap (λ k. unfiled nat_cmp text_cmp old k c.hold.new.held.now) (c.as_str-2.ensures ∙ c.in-Ok.ensures)
    ∙ ap (unfiled nat_cmp text_cmp old key) (c.in_default.ensures.ok ∙ ap (λ k. filed nat_cmp text_cmp session k held) c.in-Ok.ensures))

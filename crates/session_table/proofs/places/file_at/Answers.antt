use Rattle.std.proofs.Common.{◌≡◌, ◌∙◌, ap}
use Rattle.std.specs.Ordering.{nat_cmp}
use Rattle.cat_model.specs.Keys.{pair_cmp}
use Rattle.cat_model.specs.Tables.{put}
use Rattle.cat_model.proofs.Clones.{text_same}
use Rattle.row_table.specs.Filing.{filed_cmp, filed_key}
use Rattle.session_table.specs.Places.{is_at}
use Rattle.session_table.proofs.Entries.{adds_spares, one_added}
use Rattle.session_table.proofs.places.file_at.Goals as goal

pub returns-clause-ok : goal.returns-clause-ok
returns-clause-ok c =
    let same : c.in_ok-node.node ≡ c.args.node.now = text_same c.args.node.now c.in_ok-node.node c.in_ok-node.ensures.cases in
    one_added (c.args.node.now, c.args.check) c.args.id c.args.places.now.now c.set.new.self.now
    (c.in_default.ensures.ok ∙ ap (λ n. put (filed_cmp pair_cmp nat_cmp) filed_key ((n, c.args.check), c.args.id) c.args.places.now.now) same)

pub returns-clause-others : goal.returns-clause-others
returns-clause-others c = adds_spares (is_at (c.args.node.now, c.args.check)) c.args.id c.args.places.now.now c.set.new.self.now (returns-clause-ok c)

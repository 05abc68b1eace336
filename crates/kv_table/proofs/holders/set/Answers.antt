use Rattle.std.proofs.Common.{◌∙◌, sym, ap, subst}
use Rattle.cat_model.specs.Catalog.{kv_at}
use Rattle.row_table.specs.Filing.{place_of}
use Rattle.kv_table.specs.Holders.{holder_of, FilesHolders}
use Rattle.kv_table.proofs.Holding.{either, holders_same, kept}
use Rattle.kv_table.proofs.holders.set.Goals as goal

pub returns-then-eq-clause-files : goal.returns-then-eq-clause-files
returns-then-eq-clause-files c =
    let rows = c.args.rows.now.now in let held = c.args.held.now.now in let row = c.args.row in
    let same = ap (λ k. place_of holder_of (kv_at k rows)) (sym c.as_str.ensures) ∙ sym c.holder_at-old.ensures ∙ holders_same c.holder_at-old.result row.session (sym c.eq.ensures ∙ c.if-eq.true) in
    either c.set.result _ _ _ c.set.ensures.ok c.set.ensures.same (λ made. kept rows c.set.new.self.now held row c.requires.files same made) (λ stays. subst (λ l. FilesHolders l held) (sym stays) c.requires.files)

use Rattle.std.proofs.Common.{◌≡◌, ◌∷◌, ◌∙◌, sym, ap, subst}
use Rattle.std.specs.Prelude.{OnOk}
use Rattle.cat_model.specs.Keys.{text_cmp, same_text}
use Rattle.cat_model.specs.KvIndexes.{last_tomb}
use Rattle.cat_model.specs.Tables.{put}
use Rattle.kv_table.specs.States.{SameTombs}
use Rattle.kv_table.proofs.TombLemmas.{tomb_key, last_put}
use Rattle.kv_table.proofs.tombs.bury.Goals.{in-Ok, in-Err}
use Rattle.kv_table.proofs.tombs.bury.Goals as goal

pub returns-clause-ok : goal.returns-clause-ok
returns-clause-ok c =
    let old = c.args.tombs.now.now in
    let last : c.last_at-last.result ≡ last_tomb (λ k. same_text k c.args.key) c.args.position old = c.last_at-last.ensures ∙ ap (λ j. last_tomb (λ k. same_text k j) c.args.position old) c.as_str.ensures in
    elim c.match-set.branch [
      | in-Ok w ↦
          subst (λ r. OnOk r (SameTombs ((c.args.key, c.args.position) ∷ old) c.set.new.self.now)) (sym w.result-is)
          (λ test floor. sym (ap (last_tomb test floor) (w.in-Ok.ensures.ok ∙ ap (λ n. put text_cmp tomb_key (c.args.key, n) old) last) ∙ last_put c.args.key test floor c.args.position old c.in_order.ensures))
      | in-Err w ↦ subst (λ r. OnOk r (SameTombs ((c.args.key, c.args.position) ∷ old) c.set.new.self.now)) (sym w.result-is) tt
    ]

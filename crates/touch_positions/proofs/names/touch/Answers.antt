use Rattle.std.proofs.Common.{◌≡◌, ◌∙◌, sym, ap, subst, Some}
use Rattle.std.specs.Prelude.{OnOk}
use Rattle.touch_positions.specs.NameVersions.{own_position, OthersStay}
use Rattle.touch_positions.proofs.Own.{touched, touched_others}
use Rattle.touch_positions.proofs.names.touch.Goals.{in-Ok, in-Err}
use Rattle.touch_positions.proofs.names.touch.Goals as goal

pub returns-clause-own : goal.returns-clause-own
returns-clause-own c =
    let name = c.args.name in let new = c.set.new.self.now in
    elim c.match-set.branch [
      | in-Ok w ↦ subst (λ r. OnOk r (own_position name new ≡ Some c.args.position)) (sym w.result-is) (ap (own_position name) w.in-Ok.ensures.ok ∙ touched name c.args.position c.args.table.now.now)
      | in-Err w ↦ subst (λ r. OnOk r (own_position name new ≡ Some c.args.position)) (sym w.result-is) tt
    ]

pub returns-clause-others : goal.returns-clause-others
returns-clause-others c =
    let name = c.args.name in let old = c.args.table.now.now in let new = c.set.new.self.now in
    elim c.match-set.branch [
      | in-Ok w ↦ subst (λ r. OnOk r (OthersStay name old new)) (sym w.result-is) (λ other differ. ap (own_position other) w.in-Ok.ensures.ok ∙ touched_others name c.args.position old other differ)
      | in-Err w ↦ subst (λ r. OnOk r (OthersStay name old new)) (sym w.result-is) tt
    ]

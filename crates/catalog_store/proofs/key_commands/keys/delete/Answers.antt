use Rattle.std.proofs.Common.{◌≡◌, Bool, true, false, not, sym, ◌∙◌, refl, subst}
use Rattle.catalog_store.specs.Steps.{Moves}
use Rattle.catalog_store.proofs.Removals.{unmoved, removal_moves, absent_same}
use Rattle.catalog_store.proofs.key_commands.keys.delete.Goals as goal

absent_of : (b : Bool) → not b ≡ true → b ≡ false
absent_of false e = refl
absent_of true e = sym e

there_of : (b : Bool) → not b ≡ false → b ≡ true
there_of true e = refl
there_of false e = sym e

pub returns-then-is_absent-clause-rows : goal.returns-then-is_absent-clause-rows
returns-then-is_absent-clause-rows c = sym (absent_same c.args.key.now c.args.table.now.now.rows (absent_of _ (sym c.is_absent.ensures.absent ∙ c.if-is_absent.true)))

pub returns-then-is_absent-clause-moves : goal.returns-then-is_absent-clause-moves
returns-then-is_absent-clause-moves c = subst (Moves c.args.position c.args.table.now c.args.table.now) (sym c.new.ensures) (unmoved c.args.position c.args.table.now)

pub returns-clause-moves : goal.returns-clause-moves
returns-clause-moves c =
    subst (Moves c.args.position c.args.table.now c.bury.new.table) (sym c.in_ok-chans.ensures)
    (removal_moves c.args.position c.args.key.now c.args.table.now c.bury.new.table c.is_absent.ensures.order (there_of _ (sym c.is_absent.ensures.absent ∙ c.if-is_absent.false)) c.in_ok-bury.ensures.ok)

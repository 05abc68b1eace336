use Rattle.std.proofs.Common.{ℕ, subst, sym, ◌∙◌, arith}
use Rattle.timer_wheel.specs.declared.place.Place.{Place}
use Rattle.timer_wheel.specs.Kept.{Kept}
use Rattle.index_list.specs.Nodes.{Nodes}
use Rattle.timer_wheel.proofs.Keeps.{kept_left, less_one}
use Rattle.timer_wheel.proofs.slots.unset_timer.Goals as goal

pub returns-in-Some-clause-kept : goal.returns-in-Some-clause-kept
returns-in-Some-clause-kept c =
    subst (λ (s : Nodes ℕ). Kept c.remove.new.self.entries s c.args.low) (sym c.unlink.ensures.left)
    (kept_left c.args.places.now.entries c.remove.new.self.entries c.args.list.now c.args.low c.args.key c.in-Some.place c.requires.kept (sym c.remove.ensures.value ∙ c.in-Some.is)
    (λ (k : ℕ) (p : Place) h. less_one c.args.places.now.entries c.remove.new.self.entries c.args.key k p (c.remove.ensures.updates.0 k) h)
    (omega (arith, c.in-Some.ensures.len)) c.remove.ensures.ordered)

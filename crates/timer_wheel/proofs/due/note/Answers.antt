use Rattle.std.proofs.Common.{◌≡◌, Some, sym, ◌∙◌, ap}
use Rattle.std.specs.Option.{option_copied}
use Rattle.std.specs.Ordering.{nat_cmp}
use Rattle.std.specs.Map.{lookup}
use Rattle.std.specs.BTreeMap.{is_at}
use Rattle.timer_wheel.proofs.Finds.{found_more, found_still}
use Rattle.timer_wheel.proofs.due.note.Goals as goal

pub returns-in_ok-insert-clause-sound : goal.returns-in_ok-insert-clause-sound
returns-in_ok-insert-clause-sound c =
    let here : lookup (is_at (nat_cmp c.args.key)) c.args.places.now.entries ≡ Some c.in-Some.place.now = sym c.get.ensures.value ∙ ap option_copied c.in-Some.is in
    found_more c.args.places.now.entries c.args.now c.args.key c.in-Some.place.now c.args.found.now.keys c.insert.new.self.keys here c.if-place-now.true c.requires.sound (λ d. c.in_ok-insert.ensures.updates.0 d)

pub returns-in_ok-insert-clause-keeps : goal.returns-in_ok-insert-clause-keeps
returns-in_ok-insert-clause-keeps c = found_still (c.in-Some.place.now.at, c.args.key) c.args.found.now.keys c.insert.new.self.keys (λ d. c.in_ok-insert.ensures.updates.0 d)

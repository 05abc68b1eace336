use Rattle.std.proofs.Common.{ℕ, List, subst, sym, ◌∙◌, ap, map}
use Rattle.timer_wheel.specs.declared.place.Place.{Place}
use Rattle.timer_wheel.specs.Kept.{Kept, timed}
use Rattle.index_list.specs.Nodes.{Nodes, unlinked}
use Rattle.timer_wheel.proofs.Keeps.{Mid, mid_linked, mid_old_live, mid_back, mid_end, timed_insert}
use Rattle.timer_wheel.proofs.slots.set_timer.Goals as goal

pub unlink_old-requires : goal.unlink_old-requires
unlink_old-requires c =
    let m : Mid c.args.places.now.entries c.link.new.self c.args.low c.args.key c.args.at c.in-Ok.node =
    subst (λ (s : Nodes ℕ). Mid c.args.places.now.entries s c.args.low c.args.key c.args.at c.in-Ok.node) (sym c.in-Ok.ensures.ok)
    (mid_linked c.args.places.now.entries c.args.list.now c.args.low c.args.key c.args.at c.in-Ok.node c.requires.kept c.in-Ok.ensures.number c.in-Ok.ensures.fresh c.requires.late) in
    record { live = mid_old_live c.args.places.now.entries c.link.new.self c.args.low c.args.key c.args.at c.in-Ok.node c.in-Ok-insert.old m c.in-Ok-insert.ensures.old }

pub returns-in-Ok-insert-clause-kept : goal.returns-in-Ok-insert-clause-kept
returns-in-Ok-insert-clause-kept c =
    let m : Mid c.args.places.now.entries c.link.new.self c.args.low c.args.key c.args.at c.in-Ok.node =
    subst (λ (s : Nodes ℕ). Mid c.args.places.now.entries s c.args.low c.args.key c.args.at c.in-Ok.node) (sym c.in-Ok.ensures.ok)
    (mid_linked c.args.places.now.entries c.args.list.now c.args.low c.args.key c.args.at c.in-Ok.node c.requires.kept c.in-Ok.ensures.number c.in-Ok.ensures.fresh c.requires.late) in
    mid_end c.args.places.now.entries c.insert.new.self.entries c.link.new.self c.unlink_old.new.list c.args.low c.args.key c.args.at c.in-Ok.node c.in-Ok-insert.old m c.in-Ok-insert.ensures.old
    (λ k. c.in-Ok-insert.ensures.updates.0 k) c.in-Ok-insert.ensures.len c.unlink_old.ensures c.insert.ensures.ordered

pub returns-in-Ok-insert-clause-ok : goal.returns-in-Ok-insert-clause-ok
returns-in-Ok-insert-clause-ok c =
    ap (map timed) c.in-Ok-insert.ensures.entries ∙ timed_insert c.args.places.now.entries c.args.key (record { node = c.in-Ok.node; at = c.args.at })

pub returns-in-Err-clause-kept : goal.returns-in-Err-clause-kept
returns-in-Err-clause-kept c =
    let m : Mid c.args.places.now.entries c.link.new.self c.args.low c.args.key c.args.at c.in-Ok.node =
    subst (λ (s : Nodes ℕ). Mid c.args.places.now.entries s c.args.low c.args.key c.args.at c.in-Ok.node) (sym c.in-Ok.ensures.ok)
    (mid_linked c.args.places.now.entries c.args.list.now c.args.low c.args.key c.args.at c.in-Ok.node c.requires.kept c.in-Ok.ensures.number c.in-Ok.ensures.fresh c.requires.late) in
    subst (λ (s : Nodes ℕ). Kept c.insert.new.self.entries s c.args.low) (sym c.unlink.ensures.left)
    (subst (λ (es : List (ℕ × Place)). Kept es (unlinked c.in-Ok.node c.link.new.self) c.args.low) (sym c.in-Err.ensures.err) (mid_back c.args.places.now.entries c.link.new.self c.args.low c.args.key c.args.at c.in-Ok.node m))

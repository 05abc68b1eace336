use Rattle.std.proofs.Common.{ℕ, List, subst, sym, ◌∙◌, ap, map}
use Rattle.index_list.specs.Nodes.{Nodes, unlinked}
use Rattle.read_watch.specs.declared.waiters.Waiting.{Waiting}
use Rattle.read_watch.specs.Buckets.{first_list, second_list}
use Rattle.read_watch.specs.Held.{Held, shown}
use Rattle.read_watch.proofs.Holds.{Mid, mid_linked, mid_back, mid_end, one_longer, shown_insert}
use Rattle.read_watch.proofs.waiters.hold.Goals as goal

pub returns-in-Ok-insert-clause-held : goal.returns-in-Ok-insert-clause-held
returns-in-Ok-insert-clause-held c =
    let m : Mid c.args.waiters.now.entries c.link.new.self c.args.waiter c.in-Ok.node c.args.chans =
    subst (λ (s : Nodes ℕ). Mid c.args.waiters.now.entries s c.args.waiter c.in-Ok.node c.args.chans) (sym c.in-Ok.ensures.ok)
    (mid_linked c.args.waiters.now.entries c.args.list.now c.args.waiter c.in-Ok.node c.first_list-first.result c.second_list-second.result c.args.chans c.requires.held c.in-Ok.ensures.number c.in-Ok.ensures.fresh
    (c.first_list-first.ensures.is ∙ ap first_list c.as_slice.ensures) (c.second_list-second.ensures.is ∙ ap second_list c.as_slice-2.ensures) c.first_list-first.ensures.within c.second_list-second.ensures.within c.requires.two) in
    mid_end c.args.waiters.now.entries c.insert.new.self.entries c.link.new.self c.args.waiter c.in-Ok.node c.args.chans m (λ k. c.in-Ok-insert.ensures.updates.0 k)
    (one_longer c.in-Ok-insert.field-0 _ _ (c.in-Ok-insert.ensures.old ∙ c.requires.fresh) c.in-Ok-insert.ensures.len) c.insert.ensures.ordered

pub returns-in-Ok-insert-clause-ok : goal.returns-in-Ok-insert-clause-ok
returns-in-Ok-insert-clause-ok c = ap (map shown) c.in-Ok-insert.ensures.entries ∙ shown_insert c.args.waiters.now.entries c.args.waiter (record { node = c.in-Ok.node; chans = c.args.chans })

pub returns-clause-held : goal.returns-clause-held
returns-clause-held c =
    let m : Mid c.args.waiters.now.entries c.link.new.self c.args.waiter c.in-Ok.node c.args.chans =
    subst (λ (s : Nodes ℕ). Mid c.args.waiters.now.entries s c.args.waiter c.in-Ok.node c.args.chans) (sym c.in-Ok.ensures.ok)
    (mid_linked c.args.waiters.now.entries c.args.list.now c.args.waiter c.in-Ok.node c.first_list-first.result c.second_list-second.result c.args.chans c.requires.held c.in-Ok.ensures.number c.in-Ok.ensures.fresh
    (c.first_list-first.ensures.is ∙ ap first_list c.as_slice.ensures) (c.second_list-second.ensures.is ∙ ap second_list c.as_slice-2.ensures) c.first_list-first.ensures.within c.second_list-second.ensures.within c.requires.two) in
    subst (λ (s : Nodes ℕ). Held c.insert.new.self.entries s) (sym c.unlink.ensures.left)
    (subst (λ (es : List (ℕ × Waiting)). Held es (unlinked c.in-Ok.node c.link.new.self)) (sym c.in-Err.ensures.err) (mid_back c.args.waiters.now.entries c.link.new.self c.args.waiter c.in-Ok.node c.args.chans m))

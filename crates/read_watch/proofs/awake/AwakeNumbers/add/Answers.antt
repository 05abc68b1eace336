use Rattle.std.proofs.Common.{sym, subst, Contains}
use Rattle.std.specs.Result.{is_ok}
use Rattle.read_watch.proofs.Ascending.{Absent, Place, kept_tried, rises_tried}
use Rattle.read_watch.proofs.awake.AwakeNumbers.add.Goals as goal

pub invariant_of-self : goal.invariant_of-self
invariant_of-self c =
    let ns = c.self.inside.numbers.items in
    let p : Place c.args.number c.as_slice.result.now c.place-at.result = record { within = c.place-at.ensures.within; below = c.place-at.ensures.below; above = c.place-at.ensures.above } in
    let place : Place c.args.number ns c.place-at.result = subst (λ l. Place c.args.number l c.place-at.result) c.as_slice.ensures.value p in
    let none : Absent c.args.number ns c.place-at.result = subst (λ l. Absent c.args.number l c.place-at.result) c.as_slice-2.ensures.value (c.stands_at.ensures.none c.if-stands_at.false) in
    rises_tried (is_ok c.insert.result) c.args.number ns c.insert.new.self.items c.place-at.result c.insert.ensures.items c.self.invariant place none

pub returns-clause-kept : goal.returns-clause-kept
returns-clause-kept c = λ n h. kept_tried (is_ok c.insert.result) c.args.number c.self.inside.numbers.items c.insert.new.self.items c.place-at.result c.insert.ensures.items n (subst (λ l. Contains l n) (sym c.self.view_is) h)

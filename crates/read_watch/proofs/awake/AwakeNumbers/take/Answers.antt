use Rattle.std.proofs.Common.{◌≡◌, ℕ, ◌<◌, ◌++◌, List, length, get_or, take, drop, add-one, ◌∙◌, ap, sym, subst, Contains}
use Rattle.read_watch.specs.Watch.{Rises, without}
use Rattle.read_watch.proofs.Ascending.{Absent, Place, not_there, rises_without, taken_out}
use Rattle.read_watch.proofs.Members.{none_kept}
use Rattle.read_watch.proofs.awake.AwakeNumbers.take.Goals as goal

pub invariant_of-self : goal.invariant_of-self
invariant_of-self c =
    let ns = c.self.inside.numbers.items in
    let p : Place c.args.number c.as_slice.result.now c.place-at.result = record { within = c.place-at.ensures.within; below = c.place-at.ensures.below; above = c.place-at.ensures.above } in
    let place : Place c.args.number ns c.place-at.result = subst (λ l. Place c.args.number l c.place-at.result) c.as_slice.ensures.value p in
    let there = subst (λ (l : List ℕ). (c.place-at.result < length l) × ((d : ℕ) → get_or l c.place-at.result d ≡ c.args.number)) c.as_slice-2.ensures.value (c.stands_at.ensures.there c.if-stands_at.true) in
    let left : c.remove.new.self.items ≡ without c.args.number ns = c.remove.ensures.by_index.2 ∙ ap (λ k. take c.place-at.result ns ++ drop k ns) (add-one c.place-at.result) ∙ taken_out c.args.number ns c.place-at.result c.self.invariant place there.0 there.1 in
    subst Rises (sym left) (rises_without c.args.number ns c.self.invariant)

pub returns-then-stands_at-clause-left : goal.returns-then-stands_at-clause-left
returns-then-stands_at-clause-left c =
    let ns = c.self.inside.numbers.items in
    let p : Place c.args.number c.as_slice.result.now c.place-at.result = record { within = c.place-at.ensures.within; below = c.place-at.ensures.below; above = c.place-at.ensures.above } in
    let place : Place c.args.number ns c.place-at.result = subst (λ l. Place c.args.number l c.place-at.result) c.as_slice.ensures.value p in
    let there = subst (λ (l : List ℕ). (c.place-at.result < length l) × ((d : ℕ) → get_or l c.place-at.result d ≡ c.args.number)) c.as_slice-2.ensures.value (c.stands_at.ensures.there c.if-stands_at.true) in
    c.remove.ensures.by_index.2 ∙ ap (λ k. take c.place-at.result ns ++ drop k ns) (add-one c.place-at.result) ∙ taken_out c.args.number ns c.place-at.result c.self.invariant place there.0 there.1 ∙ ap (without c.args.number) c.self.view_is

pub returns-then-stands_at-clause-gone : goal.returns-then-stands_at-clause-gone
returns-then-stands_at-clause-gone c =
    let ns = c.self.inside.numbers.items in
    let p : Place c.args.number c.as_slice.result.now c.place-at.result = record { within = c.place-at.ensures.within; below = c.place-at.ensures.below; above = c.place-at.ensures.above } in
    let place : Place c.args.number ns c.place-at.result = subst (λ l. Place c.args.number l c.place-at.result) c.as_slice.ensures.value p in
    let there = subst (λ (l : List ℕ). (c.place-at.result < length l) × ((d : ℕ) → get_or l c.place-at.result d ≡ c.args.number)) c.as_slice-2.ensures.value (c.stands_at.ensures.there c.if-stands_at.true) in
    none_kept c.args.number ns c.remove.new.self.items (c.remove.ensures.by_index.2 ∙ ap (λ k. take c.place-at.result ns ++ drop k ns) (add-one c.place-at.result) ∙ taken_out c.args.number ns c.place-at.result c.self.invariant place there.0 there.1)

pub returns-else-stands_at-clause-left : goal.returns-else-stands_at-clause-left
returns-else-stands_at-clause-left c =
    let ns = c.self.inside.numbers.items in
    let p : Place c.args.number c.as_slice.result.now c.place-at.result = record { within = c.place-at.ensures.within; below = c.place-at.ensures.below; above = c.place-at.ensures.above } in
    let place : Place c.args.number ns c.place-at.result = subst (λ l. Place c.args.number l c.place-at.result) c.as_slice.ensures.value p in
    let none : Absent c.args.number ns c.place-at.result = subst (λ l. Absent c.args.number l c.place-at.result) c.as_slice-2.ensures.value (c.stands_at.ensures.none c.if-stands_at.false) in
    sym c.self.view_is ∙ not_there c.args.number ns c.place-at.result c.self.invariant place none ∙ ap (without c.args.number) c.self.view_is

pub returns-else-stands_at-clause-gone : goal.returns-else-stands_at-clause-gone
returns-else-stands_at-clause-gone c =
    let ns = c.self.inside.numbers.items in
    let p : Place c.args.number c.as_slice.result.now c.place-at.result = record { within = c.place-at.ensures.within; below = c.place-at.ensures.below; above = c.place-at.ensures.above } in
    let place : Place c.args.number ns c.place-at.result = subst (λ l. Place c.args.number l c.place-at.result) c.as_slice.ensures.value p in
    let none : Absent c.args.number ns c.place-at.result = subst (λ l. Absent c.args.number l c.place-at.result) c.as_slice-2.ensures.value (c.stands_at.ensures.none c.if-stands_at.false) in
    λ h. none_kept c.args.number ns ns (not_there c.args.number ns c.place-at.result c.self.invariant place none) (subst (λ l. Contains l c.args.number) (sym c.self.view_is) h)

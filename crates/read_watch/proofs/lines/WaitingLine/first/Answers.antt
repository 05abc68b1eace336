use Rattle.std.proofs.Common.{subst, Contains}
use Rattle.std.specs.List.{AllByRecursion as Each}
use Rattle.std.proofs.lemmas.Option.{slice_get_within, get_or_from_slice_get}
use Rattle.read_watch.specs.Lines.{Waiter, Line, IsFrom}
use Rattle.read_watch.proofs.Waiting.{firsts}
use Rattle.read_watch.proofs.lines.WaitingLine.first.Goals as goal

pub returns-in-Some-clause-some : goal.returns-in-Some-clause-some
returns-in-Some-clause-some c =
    let x : Waiter = c.in-Some.field-0.now in
    subst (λ (l : Line). Each (IsFrom (x.0, x.1)) l) c.self.view_is (firsts x c.self.inside.entries.keys c.in-Some.ensures.all_from)

pub returns-in-Some-clause-there : goal.returns-in-Some-clause-there
returns-in-Some-clause-there c =
    let x : Waiter = c.in-Some.field-0.now in
    let there : Contains c.self.inside.entries.keys x = (0, slice_get_within c.self.inside.entries.keys 0 x c.in-Some.ensures.first, get_or_from_slice_get c.self.inside.entries.keys 0 x x c.in-Some.ensures.first) in
    (x.2, subst (λ (l : Line). Contains l x) c.self.view_is there)

use Rattle.std.proofs.Common.{ℕ, List, ◌∙◌, ap, map, filter, not}
use Rattle.cat_model.specs.declared.query.Chan.{Chan}
use Rattle.cat_model.specs.Reach.{is_on}
use Rattle.read_watch.specs.Held.{shown}
use Rattle.read_watch.proofs.Leaves.{left_is, found_is}
use Rattle.read_watch.proofs.registry.WatchRegistry.fire.Goals as goal

pub returns-clause-hit : goal.returns-clause-hit
returns-clause-hit c =
    c.from.ensures ∙ c.in_ok-hit.ensures.keys
    ∙ found_is c.self.inside.waiters.entries c.self.inside.list c.as_slice.result.now c.in_ok-found.found.keys c.self.invariant c.in_ok-found.ensures.sound c.in_ok-found.ensures.noted c.waiters_of.ensures.ordered
    ∙ ap (λ (fired : List Chan). map (λ (w : ℕ × List Chan). w.0) (filter (λ (w : ℕ × List Chan). is_on fired w.1) (map shown c.self.inside.waiters.entries))) c.as_slice.ensures
    ∙ ap (λ (l : List (ℕ × List Chan)). map (λ (w : ℕ × List Chan). w.0) (filter (λ (w : ℕ × List Chan). is_on c.args.fired.now w.1) l)) c.self.view_is

pub returns-clause-left : goal.returns-clause-left
returns-clause-left c =
    left_is c.self.inside.waiters.entries c.release_all.new.waiters.entries c.self.inside.list c.as_slice.result.now c.in_ok-found.found.keys c.as_slice-2.result.now c.self.invariant c.in_ok-found.ensures.sound c.in_ok-found.ensures.noted (c.as_slice-2.ensures.value ∙ c.in_ok-hit.ensures.keys) c.release_all.ensures.left
    ∙ ap (λ (fired : List Chan). filter (λ (w : ℕ × List Chan). not (is_on fired w.1)) (map shown c.self.inside.waiters.entries)) c.as_slice.ensures
    ∙ ap (filter (λ (w : ℕ × List Chan). not (is_on c.args.fired.now w.1))) c.self.view_is

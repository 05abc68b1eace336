use Rattle.std.proofs.Common.{ℕ, List, sym, ◌∙◌, ap, is_some, map}
use Rattle.std.specs.Ordering.{nat_cmp}
use Rattle.std.specs.Map.{lookup}
use Rattle.std.specs.BTreeMap.{is_at}
use Rattle.std.specs.Option.{option_map}
use Rattle.std.specs.List.{slice_get}
use Rattle.std.proofs.lemmas.Bool.{true≢false}
use Rattle.std.proofs.lemmas.Option.{slice_get-map}
use Rattle.cat_model.specs.declared.query.Chan.{Chan}
use Rattle.read_watch.specs.Held.{shown}
use Rattle.read_watch.proofs.Holds.{shown_lookup}
use Rattle.read_watch.proofs.registry.WatchRegistry.first.Goals as goal

pub returns-in-Some-clause-some : goal.returns-in-Some-clause-some
returns-in-Some-clause-some c = λ none.
    true≢false (sym (ap is_some c.in-Some.ensures.value) ∙ shown_lookup (is_at (nat_cmp c.in-Some.waiter.now)) c.self.inside.waiters.entries ∙ ap (λ (l : List (ℕ × List Chan)). is_some (lookup (is_at (nat_cmp c.in-Some.waiter.now)) l)) c.self.view_is ∙ ap is_some none)

pub returns-in-Some-clause-least : goal.returns-in-Some-clause-least
returns-in-Some-clause-least c =
    ap (λ (l : List (ℕ × List Chan)). slice_get (map (λ w. w.0) l) 0) (sym c.self.view_is)
    ∙ slice_get-map (λ (w : ℕ × List Chan). w.0) (map shown c.self.inside.waiters.entries) 0
    ∙ ap (option_map (λ (w : ℕ × List Chan). w.0)) (slice_get-map shown c.self.inside.waiters.entries 0 ∙ ap (option_map shown) c.in-Some.ensures.first)

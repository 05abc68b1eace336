use Rattle.std.proofs.Common.{List, ℕ, Some, Vec, Global, ◌≡◌, map, subst, sym, ◌∙◌}
use Rattle.cat_model.specs.Catalog.{session_key}
use Rattle.session_ttl.specs.Timed.{AreTimedBut}
use Rattle.session_ttl.proofs.Timing.{ok_is, timed_none}
use Rattle.session_ttl.proofs.timers.timed_all.Goals as goal

pub timed_each-requires : goal.timed_each-requires
timed_each-requires c =
    let rows = c.args.sessions.now.now in
    let all : c.in_ok-ids.ids.items ≡ map session_key rows = ok_is (λ (v : Vec ℕ Global). v.items ≡ map session_key rows) c.all_ids.result c.in_ok-ids.ids c.in_ok-ids.ensures.value c.all_ids.ensures in
    subst (λ (l : List ℕ). AreTimedBut l (Some c.in_ok-wheel.wheel) c.args.clocks.now c.args.office.now rows) (sym (c.deref.ensures.value ∙ all)) (timed_none c.args.clocks.now c.args.office.now rows c.in_ok-wheel.wheel)

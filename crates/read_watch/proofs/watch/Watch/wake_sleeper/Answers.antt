use Rattle.std.proofs.Common.{◌≡◌, ◌<◌, ◌∙◌, ap, sym, subst, length, arith}
use Rattle.std.specs.Ordering.{nat_cmp}
use Rattle.std.specs.Map.{lookup, remove_entry}
use Rattle.std.specs.BTreeMap.{is_at}
use Rattle.read_watch.specs.Watch.{IsAwake, Sleepers, sleepers_of}
use Rattle.read_watch.proofs.Lookups.{shorter}
use Rattle.read_watch.proofs.Places.{was, is}
use Rattle.read_watch.proofs.watch.Watch.wake_sleeper.Goals as goal

pub returns-in-Some-clause-less : goal.returns-in-Some-clause-less
returns-in-Some-clause-less c = λ _.
    let us = ap (λ w. w.servers) c.self.view_is in
    let seen : sleepers_of c.args.self.now.servers c.args.server ≡ c.index.result.now = was c.args.self.now.servers c.self.inside.servers.items c.place.result c.args.server c.index.result.now c.index.result.now us c.place.ensures c.requires.1 c.index.ensures in
    let before : sleepers_of c.args.self.now.servers c.args.server ≡ c.index_mut.result.now = was c.args.self.now.servers c.self.inside.servers.items c.place-in-Some.result c.args.server c.index_mut.result.now c.forget.new.self us c.place-in-Some.ensures c.requires.1 c.index_mut.ensures.value in
    let after : sleepers_of c.wake.new.self.servers c.args.server ≡ c.forget.new.self =
    ap (λ l. sleepers_of l c.args.server) c.wake.ensures.servers ∙ is c.args.self.now.servers c.self.inside.servers.items c.place-in-Some.result c.args.server c.index_mut.result.now c.forget.new.self us c.place-in-Some.ensures c.requires.1 c.index_mut.ensures.value in
    let less : length (remove_entry (is_at (nat_cmp c.in-Some.number)) c.index_mut.result.now.asleep) < length c.index_mut.result.now.asleep =
    shorter (is_at (nat_cmp c.in-Some.number)) c.index_mut.result.now.asleep (λ none. c.in-Some.ensures.some (ap (λ (s : Sleepers). lookup (is_at (nat_cmp c.in-Some.number)) s.asleep) (sym seen ∙ before) ∙ none)) in
    omega (arith, less, ap length c.forget.ensures.left, ap (λ (s : Sleepers). length s.asleep) before, ap (λ (s : Sleepers). length s.asleep) after)

pub returns-in-Some-clause-kept : goal.returns-in-Some-clause-kept
returns-in-Some-clause-kept c = λ n h. c.wake.ensures.kept n (subst (IsAwake n) (sym c.self.view_is) h)

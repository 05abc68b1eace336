use Rattle.std.proofs.Common.{◌≡◌, ◌+◌, length, refl, rules}
use Rattle.cluster_rules.specs.Cluster.{applied_of, clock_of}
use Rattle.cluster_rules.specs.Requests.{wait_of}
use Rattle.cluster.proofs.Results.{either_way, ok_then, stands_alike}
use Rattle.cluster.proofs.Handled.{below_next, made_last, read_handles}
use Rattle.cluster.proofs.cluster.Cluster.hold_read.Goals as goal

pub hold_newest-requires-clause-made : goal.hold_newest-requires-clause-made
hold_newest-requires-clause-made g c =
    made_last c.self.inside.agents c.self.inside.watch c.self.inside.servers.world c.self.inside.servers.servers c.self.inside.requests c.args.self.now c.args.agent c.args.asked.now c.args.draw (record { stands = c.self.invariant; view = c.self.view_is; come = c.requires.come }) (record c.self.inside.requests { room = 4 }) refl

pub hold_newest-requires-clause-last : goal.hold_newest-requires-clause-last
hold_newest-requires-clause-last g c =
    below_next c.self.inside.agents c.self.inside.watch c.self.inside.servers.world c.self.inside.servers.servers c.self.inside.requests (c.self.inside.requests.asked + 1) c.self.invariant refl

pub invariant_of-self : goal.invariant_of-self
invariant_of-self g c =
    let deadline : c.in_ok-deadline.deadline ≡ clock_of c.args.self.now.world c.args.server + wait_of c.args.wait_ms = search rules in
    let applied : c.applied-applied.result ≡ length (applied_of c.args.self.now c.args.server) = search rules in
    let held = read_handles c.self.inside.agents c.self.inside.watch c.self.inside.servers.world c.self.inside.servers.servers c.self.inside.requests c.hold_newest.new.requests c.args.self.now c.args.server c.args.agent c.args.asked.now c.args.draw c.requires.look.0 c.args.wait_ms (c.self.inside.requests.asked + 1) c.in_ok-deadline.deadline c.applied-applied.result
    (record { stands = c.self.invariant; view = c.self.view_is; come = c.requires.come }) c.requires.taken c.requires.look.1 c.requires.look.2 c.requires.go refl deadline applied in
    either_way c.hold_newest.result (λ e. (held e).1) (λ e. stands_alike c.self.invariant e refl refl) c.hold_newest.ensures.ok c.hold_newest.ensures.err

pub returns-clause-ok : goal.returns-clause-ok
returns-clause-ok g c =
    let deadline : c.in_ok-deadline.deadline ≡ clock_of c.args.self.now.world c.args.server + wait_of c.args.wait_ms = search rules in
    let applied : c.applied-applied.result ≡ length (applied_of c.args.self.now c.args.server) = search rules in
    let held = read_handles c.self.inside.agents c.self.inside.watch c.self.inside.servers.world c.self.inside.servers.servers c.self.inside.requests c.hold_newest.new.requests c.args.self.now c.args.server c.args.agent c.args.asked.now c.args.draw c.requires.look.0 c.args.wait_ms (c.self.inside.requests.asked + 1) c.in_ok-deadline.deadline c.applied-applied.result
    (record { stands = c.self.invariant; view = c.self.view_is; come = c.requires.come }) c.requires.taken c.requires.look.1 c.requires.look.2 c.requires.go refl deadline applied in
    ok_then c.hold_newest.result (λ e. (held e).0) c.hold_newest.ensures.ok

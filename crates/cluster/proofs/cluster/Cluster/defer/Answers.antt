use Rattle.std.proofs.Common.{◌≡◌, ◌+◌, false, refl, ap, ◌∙◌, rules}
use Rattle.cat_model.specs.declared.reply.Kind.TheVariants.{Delayed}
use Rattle.cluster_rules.specs.Cluster.{clock_of, until_at}
use Rattle.cluster_rules.specs.Replies.{Defers, Reply}
use Rattle.cluster_requests.specs.Requests.{reply_with}
use Rattle.cluster_works.specs.Newest.{answered_newest}
use Rattle.cluster.proofs.Results.{either_way, ok_then, stands_alike}
use Rattle.cluster.proofs.Handled.{delay_handles, made_last}
use Rattle.cluster.proofs.cluster.Cluster.defer.Goals as goal

pub answer_newest-requires : goal.answer_newest-requires
answer_newest-requires g c =
    made_last c.self.inside.agents c.self.inside.watch c.self.inside.servers.world c.self.inside.servers.servers c.self.inside.requests c.args.self.now c.args.agent c.args.asked.now c.args.draw (record { stands = c.self.invariant; view = c.self.view_is; come = c.requires.come }) (record c.self.inside.requests { room = 4 }) refl

pub invariant_of-self : goal.invariant_of-self
invariant_of-self g c =
    let until : c.in_ok-until.until ≡ until_at c.args.self.now c.args.server c.args.key.now = search rules in
    let now : c.clock-now.result ≡ clock_of c.args.self.now.world c.args.server = search rules in
    let number : c.in_ok-number.number ≡ c.self.inside.requests.asked + 1 = search rules in
    let reply : c.in_ok-reply.reply ≡ reply_with c.in_ok-number.number (Delayed c.args.key.now c.in_ok-until.until c.clock-now.result) false 0 (Defers c.args.command.now c.args.key.now) = search rules in
    either_way c.answer_newest.result (λ e. (delay_handles c.self.inside.agents c.self.inside.watch c.self.inside.servers.world c.self.inside.servers.servers c.self.inside.requests c.answer_newest.new.requests c.args.self.now c.args.server c.args.agent c.args.asked.now c.args.draw c.args.command.now c.args.key.now c.in_ok-number.number c.in_ok-until.until c.clock-now.result
    (record { stands = c.self.invariant; view = c.self.view_is; come = c.requires.come }) c.requires.asked c.requires.ready c.requires.delayed number until now (e ∙ ap (λ (x : Reply). answered_newest c.args.agent c.args.asked.now c.args.draw x c.self.inside.requests) reply)).1) (λ e. stands_alike c.self.invariant e refl refl) c.answer_newest.ensures.ok c.answer_newest.ensures.err

pub returns-clause-ok : goal.returns-clause-ok
returns-clause-ok g c =
    let until : c.in_ok-until.until ≡ until_at c.args.self.now c.args.server c.args.key.now = search rules in
    let now : c.clock-now.result ≡ clock_of c.args.self.now.world c.args.server = search rules in
    let number : c.in_ok-number.number ≡ c.self.inside.requests.asked + 1 = search rules in
    let reply : c.in_ok-reply.reply ≡ reply_with c.in_ok-number.number (Delayed c.args.key.now c.in_ok-until.until c.clock-now.result) false 0 (Defers c.args.command.now c.args.key.now) = search rules in
    ok_then c.answer_newest.result (λ e. (delay_handles c.self.inside.agents c.self.inside.watch c.self.inside.servers.world c.self.inside.servers.servers c.self.inside.requests c.answer_newest.new.requests c.args.self.now c.args.server c.args.agent c.args.asked.now c.args.draw c.args.command.now c.args.key.now c.in_ok-number.number c.in_ok-until.until c.clock-now.result
    (record { stands = c.self.invariant; view = c.self.view_is; come = c.requires.come }) c.requires.asked c.requires.ready c.requires.delayed number until now (e ∙ ap (λ (x : Reply). answered_newest c.args.agent c.args.asked.now c.args.draw x c.self.inside.requests) reply)).0) c.answer_newest.ensures.ok

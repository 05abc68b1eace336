use Rattle.std.proofs.Common.{◌≡◌, ◌∙◌, ◌+◌, ◌≤◌, ◌++◌, ℕ, List, [], append-nil, ap}
use Rattle.serve_outside.specs.Tasks.{note_of}
use Rattle.turn_lock.specs.Rule.{all_shares, pooled}
use Rattle.http_exchanges.specs.Boards.{known}
use Rattle.http_connections.proofs.Runs.{if_some, pooled_all, some_matches, told_before}
use Rattle.http_connections.proofs.timekeeper.finish_timekeeper.Goals as goal

pub returns-in-Some-clause-told : goal.returns-in-Some-clause-told
returns-in-Some-clause-told g c =
    let own = known c.finish_keeping-own.result in
    told_before (known c.args.pass.now).told own.told (known c.give_back.new.pass).told own.seen c.give_back.ensures.told

pub returns-in-Some-clause-same : goal.returns-in-Some-clause-same
returns-in-Some-clause-same g c =
    let mine = (known c.args.pass.now).mine in
    let none = if_some c.args.keeping c.in-Some.keeping (λ k. (known (note_of k.task).0.value.pass).mine ≡ []) c.in-Some.is c.requires.unasked in
    c.give_back.ensures.mine ∙ (ap (λ (l : List ℕ). mine ++ l) (c.finish_keeping-own.ensures.same.0 ∙ none) ∙ append-nil mine)

pub returns-in-Some-clause-shares : goal.returns-in-Some-clause-shares
returns-in-Some-clause-shares g c =
    let p = c.args.pass.now.shares in let q = c.give_back.new.pass.shares in
    let few = if_some c.args.keeping c.in-Some.keeping (λ k. p + (note_of k.task).0.value.pass.shares ≤ all_shares) c.in-Some.is c.requires.few in
    some_matches c.args.keeping c.in-Some.keeping (q ≡ p) (λ k. q ≡ p + (note_of k.task).0.value.pass.shares) c.in-Some.is
    (c.give_back.ensures.shares ∙ (ap (pooled p) c.finish_keeping-own.ensures.same.1 ∙ pooled_all p (note_of c.in-Some.keeping.task).0.value.pass.shares few))

use Rattle.std.proofs.Common.{◌≡◌, ◌∙◌, ◌+◌, Option, refl, ap, subst, arith}
use Rattle.cluster_replicas.specs.Servers.{Servers}
use Rattle.cluster_requests.specs.Requests.{Requests}
use Rattle.cluster_works.specs.declared.work.Work.{Work}
use Rattle.cluster_works.specs.Evaluating.{evaluations_of}
use Rattle.cluster_works.specs.Working.{Finds, whole}
use Rattle.cluster_works.proofs.Evaluated.{found_lacking, lacking_evaluates, none_evaluates, work_evaluates}
use Rattle.cluster_works.proofs.Turning.{did_turned, due_some, less_left, turned_beside}
use Rattle.cluster_works.proofs.turns.turn.Goals as goal

pub returns-in-Ok-clause-turned : goal.returns-in-Ok-clause-turned
returns-in-Ok-clause-turned g c = λ gs.
    let before = whole c.args.servers.now c.args.requests.now in
    let after = whole c.perform.new.servers c.perform.new.requests in
    turned_beside gs c.args.servers.now c.perform.new.servers c.args.requests.now c.perform.new.requests c.args.server (did_turned c.args.server c.in-Ok-Some.work before after c.in-Ok.ensures.done)

pub returns-in-Ok-clause-left : goal.returns-in-Ok-clause-left
returns-in-Ok-clause-left g c = λ _.
    let number = c.requires.server in
    let before = whole c.args.servers.now c.args.requests.now in
    let after = whole c.perform.new.servers c.perform.new.requests in
    less_left c.args.watch.now c.args.servers.now.world c.args.servers.now.servers c.args.requests.now before after c.args.server c.requires.stands
    c.stays_behind.ensures.committed refl
    (number.0, omega (arith, number.1, c.requires.stands.count)) (did_turned c.args.server c.in-Ok-Some.work before after c.in-Ok.ensures.done)

pub perform-requires-clause-due : goal.perform-requires-clause-due
perform-requires-clause-due g c = subst (λ (k : Option Work). Finds (whole c.args.servers.now c.args.requests.now) c.args.server k) c.in-Ok-Some.field-0-is c.in-Ok-Some.ensures.found

pub returns-in-Err-perform-clause-behind : goal.returns-in-Err-perform-clause-behind
returns-in-Err-perform-clause-behind g c =
    let found = subst (λ (k : Option Work). Finds (whole c.args.servers.now c.args.requests.now) c.args.server k) c.in-Ok-Some.field-0-is c.in-Ok-Some.ensures.found in
    due_some c.args.watch.now (whole c.args.servers.now c.args.requests.now) c.args.server found.0 found.1

pub returns-in-Ok-clause-counted : goal.returns-in-Ok-clause-counted
returns-in-Ok-clause-counted g c =
    let counted = subst (λ (k : Option Work). c.find.new.steps ≡ c.args.steps.now + evaluations_of k) c.in-Ok-Some.field-0-is c.in-Ok-Some.ensures.counted in
    work_evaluates (whole c.args.servers.now c.args.requests.now) c.requires.stands.ascends c.args.server (whole c.perform.new.servers c.perform.new.requests) c.args.steps.now c.find.new.steps c.in-Ok-Some.work c.in-Ok.ensures.done counted

pub returns-in-Err-perform-clause-counted : goal.returns-in-Err-perform-clause-counted
returns-in-Err-perform-clause-counted g c =
    let counted = subst (λ (k : Option Work). c.find.new.steps ≡ c.args.steps.now + evaluations_of k) c.in-Ok-Some.field-0-is c.in-Ok-Some.ensures.counted in
    let same : whole c.perform.new.servers c.perform.new.requests ≡ whole c.args.servers.now c.args.requests.now =
    ap (λ (s : Servers). whole s c.perform.new.requests) c.in-Err-perform.ensures.servers ∙ ap (λ (r : Requests). whole c.args.servers.now r) c.in-Err-perform.ensures.requests in
    found_lacking c.args.steps.now c.find.new.steps (whole c.args.servers.now c.args.requests.now) (whole c.perform.new.servers c.perform.new.requests) c.in-Ok-Some.work same counted

pub returns-in-Ok-None-clause-counted : goal.returns-in-Ok-None-clause-counted
returns-in-Ok-None-clause-counted g c =
    let counted = subst (λ (k : Option Work). c.find.new.steps ≡ c.args.steps.now + evaluations_of k) c.in-Ok-None.field-0-is c.in-Ok-None.ensures.counted in
    none_evaluates c.args.steps.now c.find.new.steps (whole c.args.servers.now c.args.requests.now) counted

pub returns-in-Err-clause-counted : goal.returns-in-Err-clause-counted
returns-in-Err-clause-counted g c =
    lacking_evaluates c.args.steps.now c.find.new.steps (whole c.args.servers.now c.args.requests.now) (whole c.args.servers.now c.args.requests.now) refl c.in-Err.ensures.counted.0 c.in-Err.ensures.counted.1

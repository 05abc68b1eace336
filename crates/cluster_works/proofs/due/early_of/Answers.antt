use Rattle.std.proofs.Common.{◌==◌, ap, sym, ◌∙◌}
use Rattle.std.specs.Option.{option_copied}
use Rattle.cluster_rules.specs.Cluster.{Pending}
use Rattle.cluster_works.specs.Looking.{is_early}
use Rattle.cluster_works.specs.Standing.{IsHeld}
use Rattle.cluster_works.specs.Working.{whole}
use Rattle.cluster_works.proofs.Finding.{early_behind_call, early_finds_call, early_is, passes}
use Rattle.cluster_works.proofs.Looked.{awaited_here}
use Rattle.cluster_works.proofs.Numbered.{each_one, one_found}
use Rattle.cluster_works.proofs.due.early_of.Goals as goal

pub early_due-requires-clause-taken : goal.early_due-requires-clause-taken
early_due-requires-clause-taken g c =
    let found = (sym c.pending.ensures ∙ ap option_copied c.in-Some.is) in
    (each_one (IsHeld c.requires.stands.0 c.args.servers.now.servers c.args.requests.now.asked) (λ (h : Pending). h.question.number == c.args.number) c.args.requests.now.held c.in-Some.held.now
    (one_found (λ (h : Pending). h.question.number == c.args.number) c.args.requests.now.held c.in-Some.held.now found) c.requires.stands.1.held).taken

pub early_due-requires-clause-awaited : goal.early_due-requires-clause-awaited
early_due-requires-clause-awaited g c =
    let found = (sym c.pending.ensures ∙ ap option_copied c.in-Some.is) in
    awaited_here c.requires.stands.0 (whole c.args.servers.now c.args.requests.now) c.args.server c.args.requests.now.asked c.in-Some.held.now
    (passes (is_early c.args.servers.now c.args.server) c.args.number c.args.requests.now.held c.in-Some.held.now found c.requires.early)
    (each_one (IsHeld c.requires.stands.0 c.args.servers.now.servers c.args.requests.now.asked) (λ (h : Pending). h.question.number == c.args.number) c.args.requests.now.held c.in-Some.held.now
    (one_found (λ (h : Pending). h.question.number == c.args.number) c.args.requests.now.held c.in-Some.held.now found) c.requires.stands.1.held)

pub early_due-requires-clause-early : goal.early_due-requires-clause-early
early_due-requires-clause-early g c =
    let found = (sym c.pending.ensures ∙ ap option_copied c.in-Some.is) in
    sym (early_is (whole c.args.servers.now c.args.requests.now) c.args.server c.in-Some.held.now)
    ∙ passes (is_early c.args.servers.now c.args.server) c.args.number c.args.requests.now.held c.in-Some.held.now found c.requires.early

pub returns-clause-found : goal.returns-clause-found
returns-clause-found g c = early_finds_call (whole c.args.servers.now c.args.requests.now) c.args.server c.args.number c.in-Some.held.now c.early_due.result (sym c.pending.ensures ∙ ap option_copied c.in-Some.is) c.requires.early c.early_due.ensures.found

pub returns-clause-behind : goal.returns-clause-behind
returns-clause-behind g c = early_behind_call (whole c.args.servers.now c.args.requests.now) c.args.server c.args.number c.in-Some.held.now c.early_due.result (sym c.pending.ensures ∙ ap option_copied c.in-Some.is) c.requires.early

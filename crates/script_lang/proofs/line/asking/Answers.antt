use Rattle.std.proofs.Common.{sym}
use Rattle.std.specs.Option.{option_copied}
use Rattle.script_lang.proofs.Asking.{asking_is}
use Rattle.script_lang.proofs.line.asking.Goals as goal

pub returns-clause-line : goal.returns-clause-line
returns-clause-line c =
    let is = asking_is c.args.number c.args.seed c.in_ok-agent-2.agent _ _ _ _ _ _ (option_copied c.in_ok-target.rest)
    c.in_ok-agent.ensures.found c.in_ok-method.ensures.found c.in_ok-target.ensures.found (sym c.in_ok-agent-2.ensures.value) in
    rw is c.asks.ensures.line

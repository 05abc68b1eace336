use Rattle.std.proofs.Common.{ap, ◌∙◌, min, ◌-◌, ◌^◌, List, ℕ, [], ◌∷◌, ◌++◌}
use Rattle.cat_model.specs.declared.command.Command.{Command}
use Rattle.host_keeper.specs.Tallies.{cost}
use Rattle.host_keeper.proofs.Tallying.{pushed}
use Rattle.host_keeper.proofs.tally.Tally.push.Goals as goal

pub returns : goal.returns
returns c = λ log is.
    pushed log c.args.entry.now c.last.result c.bytes_in_log.result c.saturating_add-total.result c.args.self.now c.push.new.self.items is c.last.ensures
    (c.bytes_in_log.ensures ∙ ap (λ (m : Command). min (cost (record c.args.entry.now { command = m })) (2 ^ 64 - 1)) c.deref.ensures) c.saturating_add-total.ensures
    (c.in_ok-push.ensures.items ∙ ap (λ (ts : List ℕ). ts ++ c.saturating_add-total.result ∷ []) c.self.view_is)

use Rattle.std.proofs.Common.{◌∙◌, ap, sym, arith}
use Rattle.raft_model.specs.Log.{Log}
use Rattle.raft_model.specs.Limits.{keeps_limits}
use Rattle.raft_node.proofs.Fitting.{not_refused_self, whole}
use Rattle.raft_node.proofs.appends.fitting.Goals as goal

pub returns-then-keeps_limits-clause-fit : goal.returns-then-keeps_limits-clause-fit
returns-then-keeps_limits-clause-fit c =
    let log = c.args.log.now in (
      c.standing-passed.ensures.all c.if-passed-entries.true,
      not_refused_self c.args.commit log (ap (λ (z : Log). keeps_limits z) (sym (whole log)) ∙ sym c.keeps_limits.ensures.keeps ∙ c.if-keeps_limits.true),
      omega (arith, c.standing-passed.ensures.fits, c.if-passed-entries.true),
    )

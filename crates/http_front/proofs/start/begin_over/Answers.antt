use Rattle.std.proofs.Common.{subst}
use Rattle.http_front.specs.Begun.{HasCause}
use Rattle.http_front.proofs.Failing.{one_failed}
use Rattle.http_front.proofs.start.begin_over.Goals as goal

pub give_back-requires-clause-failed : goal.give_back-requires-clause-failed
give_back-requires-clause-failed g c κs within =
    one_failed (λ k. g.S.K.Keeper.armed k) (λ k. g.S.K.Keeper.faults k) c.args.stores c.in-Err-Failed.stores c.requires.unused
    (subst (HasCause (λ k. g.S.K.Keeper.faults k) c.args.stores) c.in-Err-Failed.field-0-is c.in-Err-Failed.ensures.cause)
